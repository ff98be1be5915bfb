use Rattle.std.proofs.Common.{◌≡◌, ◌+◌, ◌-◌, ℕ, suc, ap, sym, ◌∙◌, subst, arith}
use Rattle.vx_rounds.specs.declared.outcome.Round.{Round}
use Rattle.vx_rounds.specs.Rounds.{rounds_of}
use Rattle.vx_rounds.specs.Piles.{stands_in, ArePiled}
use Rattle.vx_rounds.proofs.Rounded.{rounds-first, ended, went-on, all-done, out-stands}
use Rattle.vx_rounds.proofs.counting.count_rounds.Goals as goal

pub of-requires : goal.of-requires
of-requires g c = c.requires.short

pub loop-round-init : goal.loop-round-init
loop-round-init g c = record {
  piled = c.in_ok-piles.ensures.piled;
  rest = rounds-first c.args.candidates (c.args.candidates - 0) c.in_ok-piles.piles c.args.ballots.now c.new-rounds.result
      (omega arith) c.in_ok-piles.ensures.standing c.new-rounds.ensures;
  spent = c.in_ok-piles.ensures.steps;
}

pub returns-in-None-clause-rounds : goal.returns-in-None-clause-rounds
returns-in-None-clause-rounds g c =
    let left : c.args.candidates - c.loop-round._round ≡ suc (c.args.candidates - (c.loop-round._round + 1)) = omega (arith, c.loop-round-test.true) in
    ended c.args.candidates (c.args.candidates - c.loop-round._round) (c.args.candidates - (c.loop-round._round + 1))
    (stands_in c.loop-round.piles) c.args.ballots.now
    c.loop-round.rounds c.push.new.self (rounds_of c.args.candidates c.args.ballots.now) c.in_ok-counted.counted.round c.in_ok-counted.counted.winner
    c.loop-round.invariant.rest left c.in_ok-push.ensures c.in_ok-counted.ensures.round c.in_ok-counted.ensures.winner c.in-None.is

pub take_out-requires-clause-stands : goal.take_out-requires-clause-stands
take_out-requires-clause-stands g c =
    out-stands c.args.candidates (stands_in c.loop-round.piles) c.args.ballots.now c.in-Some.out
    (sym (ap (λ (r : Round). r.out) c.in_ok-counted.ensures.round) ∙ c.in-Some.is)

pub take_out-requires-clause-short : goal.take_out-requires-clause-short
take_out-requires-clause-short g c = c.requires.short

pub take_out-requires-clause-piled : goal.take_out-requires-clause-piled
take_out-requires-clause-piled g c =
    subst (λ (n : ℕ). ArePiled n c.args.ballots.now c.loop-round.piles) (sym c.loop-round.invariant.piled.all) c.loop-round.invariant.piled

pub loop-round-preserved : goal.loop-round-preserved
loop-round-preserved g c =
    let left : c.args.candidates - c.loop-round._round ≡ suc (c.args.candidates - (c.loop-round._round + 1)) = omega (arith, c.loop-round-test.true) in
    record {
      piled = subst (λ (n : ℕ). ArePiled n c.args.ballots.now c.take_out.new.self) c.loop-round.invariant.piled.all c.in_ok-take_out-in-Some.ensures.piled;
      rest = went-on c.args.candidates (c.args.candidates - c.loop-round._round) (c.args.candidates - (c.loop-round._round + 1))
          (stands_in c.loop-round.piles) (stands_in c.take_out.new.self) c.args.ballots.now
          c.loop-round.rounds c.push.new.self (rounds_of c.args.candidates c.args.ballots.now) c.in_ok-counted.counted.round c.in-Some.out
          c.loop-round.invariant.rest left c.in_ok-push.ensures c.in_ok-counted.ensures.round c.in-Some.is c.in_ok-take_out-in-Some.ensures.standing;
      spent = omega (arith, c.take_out.ensures.steps, c.loop-round.invariant.spent);
    }

pub returns-clause-rounds : goal.returns-clause-rounds
returns-clause-rounds g c =
    let none : c.args.candidates - c.loop-round._round ≡ 0 = omega (arith, c.loop-round-test.false) in
    all-done c.args.candidates (c.args.candidates - c.loop-round._round) (stands_in c.loop-round.piles) c.args.ballots.now c.loop-round.rounds
    (rounds_of c.args.candidates c.args.ballots.now) c.loop-round.invariant.rest none
