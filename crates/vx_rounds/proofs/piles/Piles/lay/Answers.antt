use Rattle.std.proofs.Common.{◌≡◌, ◌<◌, ℕ, Bool, List, [], ◌∷◌, ◌++◌, set, false, length, slice_index_or, ap, sym, subst, ◌∙◌, arith, refl}
use Rattle.std.specs.Prelude.{Some}
use Rattle.vx_rounds.specs.declared.piles.PiledBallot.{PiledBallot}
use Rattle.vx_rounds.specs.Rankings.{ranking_at}
use Rattle.vx_rounds.specs.Rounds.{choice_of}
use Rattle.vx_rounds.specs.Piles.{IsChosen}
use Rattle.vx_rounds.proofs.Choices.{found-stands}
use Rattle.vx_rounds.proofs.Piled.{standing-within, other-default, laid-pushed}
use Rattle.vx_rounds.proofs.piles.Piles.lay.Goals as goal

-- a choice of those that stand has a pile
has_pile : (bits bits' : List Bool) (r : List ℕ) (c piles : ℕ) → bits ≡ bits' → piles ≡ length bits' →
    Some c ≡ choice_of (λ n. slice_index_or bits n false) r → c < piles
has_pile bits bits' r c piles e many h =
    let within = standing-within bits c (found-stands (λ n. slice_index_or bits n false) r c (sym h)) in
    omega (arith, within, ap length e, many)

pub index_mut-requires : goal.index_mut-requires
index_mut-requires g c =
    let h = has_pile c.as_slice.result.now c.args.self.now.standing.items (ranking_at c.args.ballots.now c.args.ballot) c.in-Some.choice.candidate _
    c.as_slice.ensures.value c.requires.piles.as_many c.in-Some.ensures.choice in
    omega (arith, h, c.args.self.now.piles.ok)

pub returns-in_ok-push-in-Some-clause-laid : goal.returns-in_ok-push-in-Some-clause-laid
returns-in_ok-push-in-Some-clause-laid g c =
    let within = has_pile c.as_slice.result.now c.args.self.now.standing.items (ranking_at c.args.ballots.now c.args.ballot) c.in-Some.choice.candidate _
    c.as_slice.ensures.value c.requires.piles.as_many c.in-Some.ensures.choice in
    laid-pushed c.args.ballots.now c.args.self.now _ c.args.ballot c.in-Some.choice
    (ap (set c.args.self.now.piles.items c.in-Some.choice.candidate)
    (c.in_ok-push-in-Some.ensures
    ∙ ap (λ (pile : List PiledBallot). pile ++ record { ballot = c.args.ballot; place = c.in-Some.choice.place } ∷ [])
    (c.index_mut.ensures.value ∙ other-default c.args.self.now.piles.items c.in-Some.choice.candidate c.index_mut.result.now [] within)))
    within
    (subst (λ (bits : List Bool). choice_of (λ n. slice_index_or bits n false) (ranking_at c.args.ballots.now c.args.ballot) ≡
    Some c.in-Some.choice.candidate) c.as_slice.ensures.value (sym c.in-Some.ensures.choice))
    (subst (λ (bits : List Bool). IsChosen c.args.ballots.now
    (λ n. slice_index_or bits n false) c.args.ballot c.in-Some.choice) c.as_slice.ensures.value c.in-Some.ensures.chosen)
    refl refl
