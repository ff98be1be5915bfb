use Rattle.std.proofs.Common.{◌≡◌, ◌<◌, ℕ, List, false, length, slice_index_or, sym, ◌∙◌, arith}
use Rattle.std.specs.Prelude.{Some, slice_get}
use Rattle.std.proofs.lemmas.Option.{slice_get_within}
use Rattle.vx_rounds.specs.Rankings.{ranking_at}
use Rattle.vx_rounds.proofs.Choices.{passed-more, found-at, past-end, found-none}
use Rattle.vx_rounds.proofs.choosing.choose.Goals as goal

pub loop-candidate-init : goal.loop-candidate-init
loop-candidate-init g c = record { within = c.requires.within; passed = c.requires.passed; spent = omega arith }

pub returns-then-stands-clause-choice : goal.returns-then-stands-clause-choice
returns-then-stands-clause-choice g c =
    sym (found-at (λ n. slice_index_or c.args.standing.now n false) (ranking_at c.args.ballots.now c.args.ballot)
    c.loop-candidate.place c.in-Some.candidate c.loop-candidate.invariant.passed.none
    (sym c.in-Some.ensures.candidate) (sym c.stands.ensures ∙ c.if-stands.true))

pub returns-then-stands-clause-chosen : goal.returns-then-stands-clause-chosen
returns-then-stands-clause-chosen g c =
    record { passed = c.loop-candidate.invariant.passed; named = sym c.in-Some.ensures.candidate }

-- the place that was asked for lies in the ranking
at_place : (r : List ℕ) (place c : ℕ) → Some c ≡ slice_get r place → place < length r
at_place r place c e = slice_get_within r place c (sym e)

pub overflow_add-place : goal.overflow_add-place
overflow_add-place g c =
    let h = at_place (ranking_at c.args.ballots.now c.args.ballot) c.loop-candidate.place c.in-Some.candidate c.in-Some.ensures.candidate in
    let short = c.requires.short in
    omega (arith, h, short)

pub loop-candidate-smaller : goal.loop-candidate-smaller
loop-candidate-smaller g c =
    let h = at_place (ranking_at c.args.ballots.now c.args.ballot) c.loop-candidate.place c.in-Some.candidate c.in-Some.ensures.candidate in
    omega (arith, h)

pub loop-candidate-preserved : goal.loop-candidate-preserved
loop-candidate-preserved g c =
    let h = at_place (ranking_at c.args.ballots.now c.args.ballot) c.loop-candidate.place c.in-Some.candidate c.in-Some.ensures.candidate in
    record {
      within = omega (arith, h);
      passed = record {
        there = c.loop-candidate.invariant.passed.there;
        none = passed-more (λ n. slice_index_or c.args.standing.now n false) (ranking_at c.args.ballots.now c.args.ballot)
            c.loop-candidate.place c.in-Some.candidate c.loop-candidate.invariant.passed.none
            (sym c.in-Some.ensures.candidate) (sym c.stands.ensures ∙ c.if-stands.false);
      };
      spent = omega (arith, c.loop-candidate.invariant.spent, c.rank.ensures.step);
    }

pub returns-clause-choice : goal.returns-clause-choice
returns-clause-choice g c =
    sym (found-none (λ n. slice_index_or c.args.standing.now n false) (ranking_at c.args.ballots.now c.args.ballot)
    c.loop-candidate.place c.loop-candidate.invariant.passed.none (sym c.in_default.ensures.candidate))

pub returns-clause-steps : goal.returns-clause-steps
returns-clause-steps g c =
    let h = past-end (ranking_at c.args.ballots.now c.args.ballot) c.loop-candidate.place (sym c.in_default.ensures.candidate) in
    omega (arith, h, c.loop-candidate.invariant.within, c.loop-candidate.invariant.spent, c.rank.ensures.step)
