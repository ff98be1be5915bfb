use Rattle.std.proofs.Common.{◌||◌, ◌==◌, Bool, ap, sym, ◌∙◌, arith, take}
use Rattle.std.specs.List.{list_any}
use Rattle.std.proofs.lemmas.List.Folds.{list_any_more}
use Rattle.vx_audit.specs.declared.hand.HandLine.{HandLine}
use Rattle.vx_sampling.specs.Findings.{is_of}
use Rattle.vx_sampling.proofs.finding.found_in.Goals as goal

pub loop-line-preserved : goal.loop-line-preserved
loop-line-preserved c =
    let before = c.loop-line.invariant in
    let lines = c.args.lines.now in
    let i = c.loop-line.line-index in
    record {
      sized = c.put_found.ensures.sized ∙ before.sized;
      found = λ place within.
          c.put_found.ensures.found place (omega (arith, within, before.sized))
          ∙ ap (λ (b : Bool). b || place == c.line-item.result.ballot) (before.found place within)
          ∙ ap (λ (line : HandLine). list_any (is_of place) (take i lines) || is_of place line) c.line-item.is
          ∙ sym (list_any_more (is_of place) lines i c.line-item.result c.loop-line-test.true);
    }
