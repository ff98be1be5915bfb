-- Questions for the pieces of an input, one behind the other.
use Rattle.std.proofs.Common.{◌<◌, ℕ, List, [], ◌∷◌, ◌++◌, map, None, Some, refl, sym, ap, ◌∙◌, subst}
use Rattle.std.proofs.lemmas.List.{append-nil, append_assoc, map-append}
use Rattle.vx_io.specs.Asking.{Question, SizeOf, BytesFrom, Questions, Asked, PiecesFrom, AsksPieces, AsksFor}

-- one list of questions asked after another
pub Asked-append : (a b c : Questions) (s t : List Question) → Asked a b s → Asked b c t → Asked a c (s ++ t)
Asked-append None b c s t p q = let q' = subst (λ (o : Questions). Asked o c t) p q in q'
Asked-append (Some before) b c s t p q =
    let q' = subst (λ (o : Questions). Asked o c t) p q in q' ∙ ap Some (append_assoc before s t)

-- as before, nothing was asked
pub Asked-nil : (told : Questions) → Asked told told []
Asked-nil None = refl
Asked-nil (Some before) = ap Some (sym (append-nil before))

-- a piece behind the others
pub PiecesFrom-behind : (from : ℕ) (places : List ℕ) (at next : ℕ) → PiecesFrom from places at → at < next → PiecesFrom from (places ++ at ∷ []) next
PiecesFrom-behind from [] at next p more = (sym p, (next, subst (λ (n : ℕ). n < next) (sym p) more, refl))
PiecesFrom-behind from (place ∷ places) at next p more = (p.0, (p.1.0, p.1.1, PiecesFrom-behind p.1.0 places at next p.1.2 more))

-- one more piece was asked for
pub one-more : (name : List ℕ) (at next : ℕ) (a b c : Questions) → AsksPieces name at a b → Asked b c (BytesFrom name at ∷ []) → at < next → AsksPieces name next a c
one-more name at next a b c before asked more =
    record {
      places = before.places ++ at ∷ [];
      behind = PiecesFrom-behind 0 before.places at next before.behind more;
      asked =
          subst (λ (questions : List Question). Asked a c questions) (sym (map-append (BytesFrom name) before.places (at ∷ [])))
          (Asked-append a b c (map (BytesFrom name) before.places) (BytesFrom name at ∷ []) before.asked asked);
    }

-- the size was asked for, and then pieces
pub size-then : (name : List ℕ) (to : ℕ) (a b c : Questions) → Asked a b (SizeOf name ∷ []) → AsksPieces name to b c → AsksFor name a c
size-then name to a b c size pieces =
    record {
      questions = SizeOf name ∷ map (BytesFrom name) pieces.places;
      taking = record { places = pieces.places; to = to; behind = pieces.behind; are = refl };
      asked = Asked-append a b c (SizeOf name ∷ []) (map (BytesFrom name) pieces.places) size pieces.asked;
    }
