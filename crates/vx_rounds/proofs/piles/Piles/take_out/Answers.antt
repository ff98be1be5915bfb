use Rattle.std.proofs.Common.{◌≡◌, ◌<◌, ℕ, Bool, true, false, List, [], get_or, set, length, map, ap, subst, ◌∙◌, arith, refl}
use Rattle.std.proofs.lemmas.List.Sums.{count_by-le-length}
use Rattle.vx_rounds.specs.declared.piles.PiledBallot.{PiledBallot}
use Rattle.vx_rounds.specs.declared.piles.Piles.{Piles}
use Rattle.vx_rounds.specs.Rankings.{ranking_at}
use Rattle.vx_rounds.specs.Rounds.{is_for, is_exhausted}
use Rattle.vx_rounds.specs.Piles.{stands_in, pile_at, Laid}
use Rattle.vx_rounds.proofs.Piled.{standing-within, other-default}
use Rattle.vx_rounds.proofs.Moved.{moved, new-stands, gone-again, pile-le}
use Rattle.vx_rounds.proofs.piles.Piles.take_out.Goals as goal

-- the pile that is taken away is the candidate's
taken : (items : List (List PiledBallot)) (bits : List Bool) (out : ℕ) (lent pile now : List PiledBallot) → length items ≡ length bits →
    get_or bits out false ≡ true →
    lent ≡ pile → pile ≡ now → now ≡ get_or items out now → lent ≡ get_or items out []
taken items bits out lent pile now many stands a b d =
    let within = standing-within bits out stands in
    let has_pile : out < length items = omega (arith, within, many) in
    a ∙ b ∙ d ∙ other-default items out now [] has_pile

pub lay_again-requires-clause-gone : goal.lay_again-requires-clause-gone
lay_again-requires-clause-gone g c =
    gone-again c.args.ballots.now c.args.self.now.standing.items c.args.out (pile_at c.args.self.now c.args.out) c.as_slice.result.now
    (standing-within c.args.self.now.standing.items c.args.out c.requires.stands)
    (taken c.args.self.now.piles.items c.args.self.now.standing.items c.args.out c.as_slice.result.now c.replace-pile.result c.index_mut-2.result.now
    c.requires.piled.has_piles.as_many c.requires.stands c.as_slice.ensures c.replace-pile.ensures.value c.index_mut-2.ensures.value)
    (c.requires.piled.placed c.args.out c.requires.stands)

pub lay_again-requires-clause-room : goal.lay_again-requires-clause-room
lay_again-requires-clause-room g c =
    let same = ap length (taken c.args.self.now.piles.items c.args.self.now.standing.items c.args.out c.as_slice.result.now c.replace-pile.result c.index_mut-2.result.now
    c.requires.piled.has_piles.as_many c.requires.stands c.as_slice.ensures c.replace-pile.ensures.value c.index_mut-2.ensures.value) in
    let high = pile-le (length c.args.self.now.standing.items) c.args.ballots.now c.args.self.now c.args.out c.requires.piled c.requires.stands in
    let le = count_by-le-length (is_for (stands_in c.args.self.now) c.args.out) c.args.ballots.now in
    let le' = count_by-le-length (is_exhausted (stands_in c.args.self.now)) c.args.ballots.now in
    omega (arith, same, high, le, le', c.requires.piled.exhausted, c.requires.piled.few)

-- what was laid again is the candidate's pile
again : (rankings : List (List ℕ)) (mid new : Piles) (pile pile' : List PiledBallot) → pile' ≡ pile →
    Laid rankings (stands_in mid) mid new (map (λ (piled : PiledBallot). ranking_at rankings piled.ballot) pile') →
    Laid rankings (stands_in mid) mid new (map (λ (piled : PiledBallot). ranking_at rankings piled.ballot) pile)
again rankings mid new pile pile' e h =
    subst (λ (ps : List PiledBallot). Laid rankings (stands_in mid) mid new (map (λ (piled : PiledBallot). ranking_at rankings piled.ballot) ps)) e h

pub returns-clause-piled : goal.returns-clause-piled
returns-clause-piled g c =
    moved (length c.args.self.now.standing.items) c.args.ballots.now c.args.self.now _ c.lay_again.new.self c.args.out c.requires.piled c.requires.stands
    refl (ap (set c.args.self.now.piles.items c.args.out) (c.replace-pile.ensures.after ∙ c.new.ensures)) refl
    (again c.args.ballots.now _ c.lay_again.new.self (pile_at c.args.self.now c.args.out) c.as_slice.result.now
    (taken c.args.self.now.piles.items c.args.self.now.standing.items c.args.out c.as_slice.result.now c.replace-pile.result c.index_mut-2.result.now
    c.requires.piled.has_piles.as_many c.requires.stands c.as_slice.ensures c.replace-pile.ensures.value c.index_mut-2.ensures.value)
    c.in_ok-lay_again.ensures.laid)
    c.lay_again.ensures.piles

pub returns-clause-standing : goal.returns-clause-standing
returns-clause-standing g c =
    new-stands (length c.args.self.now.standing.items) c.args.ballots.now c.args.self.now _ c.lay_again.new.self c.args.out c.requires.piled c.requires.stands
    refl (ap (set c.args.self.now.piles.items c.args.out) (c.replace-pile.ensures.after ∙ c.new.ensures)) refl
    (again c.args.ballots.now _ c.lay_again.new.self (pile_at c.args.self.now c.args.out) c.as_slice.result.now
    (taken c.args.self.now.piles.items c.args.self.now.standing.items c.args.out c.as_slice.result.now c.replace-pile.result c.index_mut-2.result.now
    c.requires.piled.has_piles.as_many c.requires.stands c.as_slice.ensures c.replace-pile.ensures.value c.index_mut-2.ensures.value)
    c.in_ok-lay_again.ensures.laid)
