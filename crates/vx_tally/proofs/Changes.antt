-- Sums that are raised or lowered by shares, one after another.
use Rattle.std.proofs.Common.{◌≡◌, ℕ, ◌+◌, ◌<◌, List, [], ◌∷◌, ◌++◌, length, filter, take, drop, get_or, sym, ap, subst, ◌∙◌, arith, length-append, append-nil}
use Rattle.std.specs.Prelude.{sum_by}
use Rattle.std.specs.List.{flat_map}
use Rattle.std.proofs.lemmas.List.{take_more, drop_more, take-append-drop}
use Rattle.std.proofs.lemmas.List.Elements.{filter-append}
use Rattle.std.proofs.lemmas.List.Sums.{sum_by-append}
use Rattle.std.proofs.lemmas.Grind.{flat_map-append}
use Rattle.indexmap.specs.IndexMap.{IndexMap}
use Rattle.vx_tally.specs.declared.sums.Counted.{Counted}
use Rattle.vx_tally.specs.declared.sums.Change.{Change}
use Rattle.vx_tally.specs.declared.sums.Change.TheVariants.{Raise, Lower}
use Rattle.vx_tally.specs.Sums.{Share, same_counted, sum_of, Allows, IsChanged}

-- shares behind others
pub sum_of-append : (key : Counted) (xs ys : List Share) → sum_of key (xs ++ ys) ≡ sum_of key xs + sum_of key ys
sum_of-append key xs ys =
    ap (sum_by (λ (share : Share). share.1)) (filter-append (λ (share : Share). same_counted key share.0) xs ys)
    ∙ sum_by-append (λ (share : Share). share.1) (filter (λ (share : Share). same_counted key share.0) xs)
    (filter (λ (share : Share). same_counted key share.0) ys)

module _ {S : Type 0} where
  pub allows-front : (change : Change) (xs ys : List Share) (sums : IndexMap Counted ℕ S) → Allows change (xs ++ ys) sums → Allows change xs sums
  allows-front Raise xs ys sums h = (omega (arith, h.0, length-append xs ys), λ key. omega (arith, h.1 key, sum_of-append key xs ys))
  allows-front Lower xs ys sums h = λ key. omega (arith, h key, sum_of-append key xs ys)

  pub allows-behind : (change : Change) (xs ys : List Share) (old new : IndexMap Counted ℕ S) → Allows change (xs ++ ys) old → IsChanged change xs old new
      → Allows change ys new
  allows-behind Raise xs ys old new h is = (omega (arith, h.0, is.0, length-append xs ys), λ key. omega (arith, h.1 key, is.1 key, sum_of-append key xs ys))
  allows-behind Lower xs ys old new h is = λ key. omega (arith, h key, is key, sum_of-append key xs ys)

  pub changed-both : (change : Change) (xs ys : List Share) (old between new : IndexMap Counted ℕ S) → IsChanged change xs old between
      → IsChanged change ys between new → IsChanged change (xs ++ ys) old new
  changed-both Raise xs ys old between new is more =
      (omega (arith, is.0, more.0, length-append xs ys), λ key. omega (arith, is.1 key, more.1 key, sum_of-append key xs ys))
  changed-both Lower xs ys old between new is more = λ key. omega (arith, is key, more key, sum_of-append key xs ys)

-- a turn of a loop over elements, each of which has its shares
module _ {S X : Type 0} (shares : X → List Share) (xs : List X) (i : ℕ) (item d : X) (lt : i < length xs) (is : item ≡ get_or xs i d) (change : Change) where
  pub turn-allows : (old now : IndexMap Counted ℕ S) → Allows change (flat_map shares xs) old → IsChanged change (flat_map shares (take i xs)) old now
      → Allows change (shares item) now
  turn-allows old now allows so_far =
      let front = flat_map shares (take i xs) in
      let rest = flat_map shares (drop (i + 1) xs) in
      let all : flat_map shares xs ≡ front ++ (shares item ++ rest) =
      ap (flat_map shares) (sym (take-append-drop i xs) ∙ ap (λ (rest : List X). take i xs ++ rest)
      (drop_more xs i d lt ∙ ap (λ (one : X). one ∷ drop (i + 1) xs) (sym is)))
      ∙ flat_map-append shares (take i xs) (item ∷ drop (i + 1) xs) in
      allows-front change (shares item) rest now
      (allows-behind change front (shares item ++ rest) old now (subst (λ (all : List Share). Allows change all old) all allows) so_far)

  pub turn-changed : (old now new : IndexMap Counted ℕ S) → IsChanged change (flat_map shares (take i xs)) old now → IsChanged change (shares item) now new
      → IsChanged change (flat_map shares (take (i + 1) xs)) old new
  turn-changed old now new so_far here =
      let front = flat_map shares (take i xs) in
      let all : front ++ shares item ≡ flat_map shares (take (i + 1) xs) =
      ap (λ (mine : List Share). front ++ mine) (sym (append-nil (shares item)))
      ∙ sym (ap (flat_map shares) (take_more xs i d lt ∙ ap (λ (one : X). take i xs ++ one ∷ []) (sym is)) ∙ flat_map-append shares (take i xs) (item ∷ [])) in
      subst (λ (all : List Share). IsChanged change all old new) all (changed-both change front (shares item) old now new so_far here)
