-- The rounds, one after another.
use Rattle.std.proofs.Common.{◌≡◌, ℕ, suc, ◌==◌, cond, Bool, true, false, List, [], ◌∷◌, ◌++◌, ap, ap₂, sym, ◌∙◌, append_assoc, append-nil, replicate}
use mathlib.Core.List.{reverse}
use Rattle.std.specs.Prelude.{◌||◌, Option, Some, None, All, find, filter, count_by, is_some, option_map}
use Rattle.std.specs.List.{range_with_len}
use Rattle.std.proofs.lemmas.Option.{same_Some}
use Rattle.std.proofs.lemmas.List.Elements.{All-head, All-tail, All-map, filter_passes}
use Rattle.vx_rounds.proofs.Least.{All-reversed}
use Rattle.vx_rounds.specs.declared.outcome.Round.{Round}
use Rattle.vx_rounds.specs.declared.outcome.Rounds.{Rounds}
use Rattle.vx_rounds.specs.declared.piles.Piles.{Piles}
use Rattle.vx_rounds.specs.Piles.{stands_in}
use Rattle.vx_rounds.proofs.Started.{all-stand}
use Rattle.vx_rounds.specs.Rounds.{is_for, is_least, last_of, total_of, counts_of, winner_of, out_of, round_of, without, followed, rounds_from, rounds_of}

-- rounds that are done, and those that follow
abbrev pub ahead : List Round → Rounds → Rounds
ahead done further = record { rounds = done ++ further.rounds; winner = further.winner }

-- all rounds, while none is done
pub rounds-first : (n left : ℕ) (piles : Piles) (rankings : List (List ℕ)) (done : List Round) → left ≡ n → piles.standing.items ≡ replicate n true →
    done ≡ [] → rounds_of n rankings ≡ ahead done (rounds_from left n (stands_in piles) rankings)
rounds-first n left piles rankings done same all none =
    ap {B = Rounds} (λ (stands : ℕ → Bool). rounds_from n n stands rankings) (sym (all-stand n piles all))
    ∙ ap {B = Rounds} (λ (k : ℕ). rounds_from k n (stands_in piles) rankings) (sym same)
    ∙ ap {B = Rounds} (λ (rounds : List Round). ahead rounds (rounds_from left n (stands_in piles) rankings)) (sym none)

-- no further round
pub rounds-end : (n : ℕ) (stands : ℕ → Bool) (rankings : List (List ℕ)) (done : List Round) →
    ahead done (rounds_from 0 n stands rankings) ≡ record { rounds = done; winner = None }
unfolding rounds_from
rounds-end n stands rankings done = ap (λ (rounds : List Round). record { rounds = rounds; winner = None }) (append-nil done)

-- a last round
pub rounds-last : (more n : ℕ) (stands : ℕ → Bool) (rankings : List (List ℕ)) (done : List Round) → out_of (counts_of n stands rankings) ≡ None →
    ahead done (rounds_from (suc more) n stands rankings) ≡ record {
      rounds = done ++ round_of n stands rankings ∷ [];
      winner = winner_of
          (counts_of n stands rankings);
    }
unfolding rounds_from
rounds-last more n stands rankings done h =
    ap (λ (o : Option ℕ). ahead done (followed (round_of n stands rankings) (λ out. rounds_from more n (without stands out) rankings) o)) h

-- a round that another follows
pub rounds-more : (more n : ℕ) (stands : ℕ → Bool) (rankings : List (List ℕ)) (done : List Round) (out : ℕ) → out_of (counts_of n stands rankings) ≡ Some out →
    ahead done (rounds_from (suc more) n stands rankings) ≡ ahead (done ++ round_of n stands rankings ∷ []) (rounds_from more n (without stands out) rankings)
unfolding rounds_from
rounds-more more n stands rankings done out h =
    ap (λ (o : Option ℕ). ahead done (followed (round_of n stands rankings) (λ out. rounds_from more n (without stands out) rankings) o)) h
    ∙ ap (λ (rounds : List Round). record { rounds = rounds; winner = (rounds_from more n (without stands out) rankings).winner })
    (sym (append_assoc done (round_of n stands rankings ∷ []) (rounds_from more n (without stands out) rankings).rounds))

-- a candidate that goes out stood
out_stood : (stands : ℕ → Bool) (x : ℕ × ℕ) (rest : Option (ℕ × ℕ)) (out : ℕ) (b : Bool) → stands x.0 ≡ true →
    (option_map (λ (count : ℕ × ℕ). count.0) rest ≡ Some out → stands out ≡ true) →
    option_map (λ (count : ℕ × ℕ). count.0) (cond b (Some x) rest) ≡ Some out → stands out ≡ true
out_stood stands x rest out true here later h = ap stands (sym (same_Some x.0 out h)) ∙ here
out_stood stands x rest out false here later h = later h

found_stood : (stands : ℕ → Bool) (p : ℕ × ℕ → Bool) (counts : List (ℕ × ℕ)) (out : ℕ) → All (λ (count : ℕ × ℕ). stands count.0 ≡ true) counts →
    option_map (λ (count : ℕ × ℕ). count.0) (find p counts) ≡ Some out → stands out ≡ true
found_stood stands p [] out each h = absurd cc
found_stood stands p (x ∷ xs) out each h =
    out_stood stands x (find p xs) out (p x) (All-head (λ (count : ℕ × ℕ). stands count.0 ≡ true) x xs each)
    (found_stood stands p xs out (All-tail (λ (count : ℕ × ℕ). stands count.0 ≡ true) x xs each)) h

some_out : (b : Bool) (o : Option ℕ) (out : ℕ) → cond b None o ≡ Some out → o ≡ Some out
some_out true o out h = absurd cc
some_out false o out h = h

pub out-stands : (n : ℕ) (stands : ℕ → Bool) (rankings : List (List ℕ)) (out : ℕ) → out_of (counts_of n stands rankings) ≡ Some out → stands out ≡ true
out-stands n stands rankings out h =
    let counts : List (ℕ × ℕ) = counts_of n stands rankings in
    found_stood stands (is_least counts) (reverse counts) out
    (All-reversed (λ (count : ℕ × ℕ). stands count.0 ≡ true) counts
    (All-map (λ (count : ℕ × ℕ). stands count.0 ≡ true) (λ (c : ℕ). (c, count_by (is_for stands c) rankings)) (filter stands (range_with_len 0 n))
    (filter_passes stands (range_with_len 0 n))))
    (some_out ((total_of counts == 0) || is_some (winner_of counts)) (last_of counts) out h)

-- the count ends with a round in which no one goes out
pub ended : (n left more : ℕ) (stands : ℕ → Bool) (rankings : List (List ℕ)) (done done' : List Round) (whole : Rounds) (round : Round) (winner : Option ℕ) →
    whole ≡ ahead done (rounds_from left n stands rankings) → left ≡ suc more → done' ≡ done ++ round ∷ [] → round ≡ round_of n stands rankings →
    winner ≡ winner_of round.counts → round.out ≡ None →
    record { rounds = done'; winner = winner } ≡ whole
ended n left more stands rankings done done' whole round winner rest left_is done_is round_is winner_is out_is =
    ap₂ {C = Rounds} (λ (rounds : List Round) (w : Option ℕ). record { rounds = rounds; winner = w })
    (done_is ∙ ap (λ (r : Round). done ++ r ∷ []) round_is) (winner_is ∙ ap (λ (r : Round). winner_of r.counts) round_is)
    ∙ sym (rounds-last more n stands rankings done (sym (ap (λ (r : Round). r.out) round_is) ∙ out_is))
    ∙ ap {B = Rounds} (λ (k : ℕ). ahead done (rounds_from k n stands rankings)) (sym left_is)
    ∙ sym rest

-- the count goes on after a round in which a candidate goes out
pub went-on : (n left more : ℕ) (stands stands' : ℕ → Bool) (rankings : List (List ℕ)) (done done' : List Round) (whole : Rounds) (round : Round) (out : ℕ) →
    whole ≡ ahead done (rounds_from left n stands rankings) → left ≡ suc more → done' ≡ done ++ round ∷ [] → round ≡ round_of n stands rankings →
    round.out ≡ Some out → stands' ≡ without stands out →
    whole ≡ ahead done' (rounds_from more n stands' rankings)
went-on n left more stands stands' rankings done done' whole round out rest left_is done_is round_is out_is stands_is =
    rest
    ∙ ap {B = Rounds} (λ (k : ℕ). ahead done (rounds_from k n stands rankings)) left_is
    ∙ rounds-more more n stands rankings done out (sym (ap (λ (r : Round). r.out) round_is) ∙ out_is)
    ∙ ap {B = Rounds} (λ (rounds : List Round). ahead rounds (rounds_from more n (without stands out) rankings))
    (sym (done_is ∙ ap (λ (r : Round). done ++ r ∷ []) round_is))
    ∙ ap {B = Rounds} (λ (s : ℕ → Bool). ahead done' (rounds_from more n s rankings)) (sym stands_is)

-- as many rounds as candidates are done
pub all-done : (n left : ℕ) (stands : ℕ → Bool) (rankings : List (List ℕ)) (done : List Round) (whole : Rounds) →
    whole ≡ ahead done (rounds_from left n stands rankings) → left ≡ 0 →
    record { rounds = done; winner = None } ≡ whole
all-done n left stands rankings done whole rest none =
    sym (rest ∙ ap {B = Rounds} (λ (k : ℕ). ahead done (rounds_from k n stands rankings)) none ∙ rounds-end n stands rankings done)
