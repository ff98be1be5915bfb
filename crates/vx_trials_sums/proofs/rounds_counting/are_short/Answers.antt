use Rattle.std.proofs.Common.{◌^◌, ◌<◌, ◌+◌, ℕ, List, length, get_or, take, ap, arith, subst}
use Rattle.std.specs.Prelude.{All}
use Rattle.std.proofs.lemmas.List.{take_all}
use Rattle.std.proofs.lemmas.List.Elements.{All-more}
use Rattle.vx_trials_sums.proofs.rounds_counting.are_short.Goals as goal

-- one ranking more is short
one_more : (rankings : List (List ℕ)) (i : ℕ) (d : List ℕ) → i < length rankings → All (λ (ranking : List ℕ). length ranking < 2 ^ 32) (take i rankings) →
    length (get_or rankings i d) < 2 ^ 32 →
    All (λ (ranking : List ℕ). length ranking < 2 ^ 32) (take (i + 1) rankings)
one_more rankings i d within each short = All-more (λ (ranking : List ℕ). length ranking < 2 ^ 32) rankings i d within each short

pub loop-ranking-preserved : goal.loop-ranking-preserved
loop-ranking-preserved c =
    let within : c.loop-ranking.ranking-index < length c.args.rankings.now = omega arith in
    let same = ap (λ (ranking : List ℕ). length ranking) c.ranking-item.is in
    one_more c.args.rankings.now c.loop-ranking.ranking-index c.ranking-item.result within c.loop-ranking.invariant
    (omega (arith, same, c.len.ensures, c.if-len-ge4294967296.false))

pub returns : goal.returns
returns c =
    subst (λ (rankings : List (List ℕ)). All (λ (ranking : List ℕ). length ranking < 2 ^ 32) rankings)
    (take_all c.loop-ranking.ranking-index c.args.rankings.now c.loop-ranking-test.false) c.loop-ranking.invariant
