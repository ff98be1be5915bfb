use Rattle.std.proofs.Common.{◌≡◌, ◌+◌, ap, sym, subst, arith}
use Rattle.vx_command_demo.specs.declared.counted.Counted.{Counted}
use Rattle.vx_command_demo.specs.Adding.{IsCounted}
use Rattle.vx_command_demo.specs.Trials.{generator_of}
use Rattle.vx_command_demo.proofs.Tried.{sheet-more}
use Rattle.vx_command_demo.proofs.Within.{nothing-counted}
use Rattle.vx_command_demo.proofs.sheets.try_sheets.Goals as goal

pub loop-before-init : goal.loop-before-init
loop-before-init g c = record {
  counted = c.nothing-counted.ensures;
  rng = c.seed_from_u64-rng.ensures;
  within = subst IsCounted (sym c.nothing-counted.ensures) nothing-counted;
  few = omega (arith, ap (λ (n : Counted). n.pages.pages) c.nothing-counted.ensures);
}

pub loop-before-preserved : goal.loop-before-preserved
loop-before-preserved g c =
    let step = sheet-more c.args.election.now c.args.plans.now (generator_of c.args.seed) c.loop-before.rng c.try_card.new.rng c.loop-before.before
    c.loop-before.counted c.in_ok-more.more c.both-counted.result c.loop-before.invariant.counted c.loop-before.invariant.rng
    c.in_ok-more.ensures.counted c.in_ok-more.ensures.next c.both-counted.ensures.sums in
    let pages : c.both-counted.result.pages.pages ≡ c.loop-before.counted.pages.pages + c.in_ok-more.more.pages.pages = ap (λ (n : Counted). n.pages.pages) c.both-counted.ensures.sums in
    record {
      counted = step.0;
      rng = step.1;
      within = c.both-counted.ensures.counted;
      few = omega (arith, pages, c.in_ok-more.ensures.few, c.loop-before.invariant.few);
    }
