-- Values whose lines are read back: their numbers are whole, the names of their objects in order, and they don't nest too deep.
use Rattle.std.proofs.Common.{◌≡◌, ℕ, zero, suc, ◌<◌, ◌≤◌, ◌^◌, Bool, true, false, ◌&&◌, List, [], ◌∷◌, ◌++◌, map, refl, arith}
use Rattle.std.specs.Prelude.{⊤}
use Rattle.std.specs.List.{AllByRecursion, flat_map}
use Rattle.std.specs.Cmp.Lexicographic.{slice_cmp}
use Rattle.std.specs.declared.cmp.Ordering.{Ordering}
use Rattle.std.specs.declared.cmp.Ordering.TheVariants.{Less, Equal, Greater}
use Rattle.std.specs.Ordering.{nat_cmp}
use Rattle.std.specs.List.Sorted.{IsStrictlySortedBy}
use Rattle.json.proofs.Printed.Utf8.{are_ascii}
use Rattle.serde_json.specs.Data.{Num, unsigned, negative, float, Data, null, boolean, number, string, array, object, Items, no_items, item, Members, no_members, member, depth, items_depth, members_depth}
use Rattle.serde_json.specs.View.{items_of}
use Rattle.serde_json.specs.Read.{max_depth}
use Rattle.vx_base.proofs.Booleans.{and-left, and-right}
use Rattle.vx_json_trip.specs.Trips.{IsWhole, HasWholeNumbers, ItemsHaveWholeNumbers, MembersHaveWholeNumbers, names, HasOrderedNames, ItemsHaveOrderedNames, MembersHaveOrderedNames, IsReadable}

abbrev is_less : Ordering → Bool
is_less Less = true
is_less Equal = false
is_less Greater = false

-- a name stands before others
abbrev is_before : List ℕ → List (List ℕ) → Bool
is_before name [] = true
is_before name (other ∷ others) = is_less (slice_cmp nat_cmp name other) && is_before name others

-- names ascend, and are ASCII
abbrev pub are_ordered : List (List ℕ) → Bool
are_ordered [] = true
are_ordered (name ∷ others) = is_before name others && are_ordered others

abbrev pub are_plain : List (List ℕ) → Bool
are_plain [] = true
are_plain (name ∷ others) = are_ascii name && are_plain others

-- a number without a sign
abbrev pub IsUnsigned : Num → Type 0
IsUnsigned (unsigned n) = n < 2 ^ 64
IsUnsigned (negative z) = ⊥
IsUnsigned (float x) = ⊥

less-from : (o : Ordering) → is_less o ≡ true → o ≡ Less
less-from Less h = refl
less-from Equal h = absurd cc
less-from Greater h = absurd cc

before-all : (name : List ℕ) (others : List (List ℕ)) → is_before name others ≡ true
    → AllByRecursion (λ (other : List ℕ). slice_cmp nat_cmp name other ≡ Less) others
before-all name [] h = tt
before-all name (other ∷ others) h =
    (less-from (slice_cmp nat_cmp name other) (and-left _ _ h), before-all name others (and-right (is_less (slice_cmp nat_cmp name other)) _ h))

sorted-from : (all : List (List ℕ)) → are_ordered all ≡ true → IsStrictlySortedBy (slice_cmp nat_cmp) all
unfolding IsStrictlySortedBy
sorted-from [] h = tt
sorted-from (name ∷ others) h = (before-all name others (and-left _ _ h), sorted-from others (and-right (is_before name others) _ h))

unsigned-whole : (k : Num) → IsUnsigned k → IsWhole k
unsigned-whole (unsigned n) h = h
unsigned-whole (negative z) h = absurd h
unsigned-whole (float x) h = absurd h

-- values whose texts have something
module _ (P : List ℕ → Type 0) where
  -- a value that nests no deeper than that
  abbrev mutual
    pub IsSound : Data → ℕ → Type 0
    IsSound null n = ⊤
    IsSound (boolean b) n = ⊤
    IsSound (number k) n = IsUnsigned k
    IsSound (string s) n = P s
    IsSound (array ds) zero = ⊥
    IsSound (array ds) (suc n) = AreSound ds n
    IsSound (object ms) zero = ⊥
    IsSound (object ms) (suc n) = (are_ordered (names ms) && are_plain (names ms) ≡ true) × MembersAreSound ms n

    pub AreSound : Items → ℕ → Type 0
    AreSound no_items n = ⊤
    AreSound (item d ds) n = IsSound d n × AreSound ds n

    pub MembersAreSound : Members → ℕ → Type 0
    MembersAreSound no_members n = ⊤
    MembersAreSound (member k d ms) n = IsSound d n × MembersAreSound ms n

  pub AreSound-map_all : {X : Type 0} (Q : X → Type 0) (make : X → Data) (n : ℕ) (xs : List X) → AllByRecursion Q xs → ((x : X) → Q x → IsSound (make x) n)
      → AreSound (items_of (map make xs)) n
  AreSound-map_all Q make n [] all each = tt
  AreSound-map_all Q make n (x ∷ xs) all each = (each x all.0, AreSound-map_all Q make n xs all.1 each)

  AreSound-append : (n : ℕ) (xs ys : List Data) → AreSound (items_of xs) n → AreSound (items_of ys) n → AreSound (items_of (xs ++ ys)) n
  AreSound-append n [] ys first second = second
  AreSound-append n (x ∷ xs) ys first second = (first.0, AreSound-append n xs ys first.1 second)

  pub AreSound-flat_map_all : {X : Type 0} (Q : X → Type 0) (make : X → List Data) (n : ℕ) (xs : List X) → AllByRecursion Q xs
      → ((x : X) → Q x → AreSound (items_of (make x)) n) → AreSound (items_of (flat_map make xs)) n
  AreSound-flat_map_all Q make n [] all each = tt
  AreSound-flat_map_all Q make n (x ∷ xs) all each = AreSound-append n (make x) (flat_map make xs) (each x all.0)
      (AreSound-flat_map_all Q make n xs all.1 each)

  mutual
    sound-whole : (d : Data) (n : ℕ) → IsSound d n → HasWholeNumbers d
    sound-whole null n h = tt
    sound-whole (boolean b) n h = tt
    sound-whole (number k) n h = unsigned-whole k h
    sound-whole (string s) n h = tt
    sound-whole (array ds) zero h = absurd h
    sound-whole (array ds) (suc n) h = items-whole ds n h
    sound-whole (object ms) zero h = absurd h
    sound-whole (object ms) (suc n) h = members-whole ms n h.1

    items-whole : (ds : Items) (n : ℕ) → AreSound ds n → ItemsHaveWholeNumbers ds
    items-whole no_items n h = tt
    items-whole (item d ds) n h = (sound-whole d n h.0, items-whole ds n h.1)

    members-whole : (ms : Members) (n : ℕ) → MembersAreSound ms n → MembersHaveWholeNumbers ms
    members-whole no_members n h = tt
    members-whole (member k d ms) n h = (sound-whole d n h.0, members-whole ms n h.1)

  mutual
    pub sound-ordered : (d : Data) (n : ℕ) → IsSound d n → HasOrderedNames d
    sound-ordered null n h = tt
    sound-ordered (boolean b) n h = tt
    sound-ordered (number k) n h = tt
    sound-ordered (string s) n h = tt
    sound-ordered (array ds) zero h = absurd h
    sound-ordered (array ds) (suc n) h = items-ordered ds n h
    sound-ordered (object ms) zero h = absurd h
    sound-ordered (object ms) (suc n) h = (sorted-from (names ms) (and-left (are_ordered (names ms)) (are_plain (names ms)) h.0), members-ordered ms n h.1)

    items-ordered : (ds : Items) (n : ℕ) → AreSound ds n → ItemsHaveOrderedNames ds
    items-ordered no_items n h = tt
    items-ordered (item d ds) n h = (sound-ordered d n h.0, items-ordered ds n h.1)

    members-ordered : (ms : Members) (n : ℕ) → MembersAreSound ms n → MembersHaveOrderedNames ms
    members-ordered no_members n h = tt
    members-ordered (member k d ms) n h = (sound-ordered d n h.0, members-ordered ms n h.1)

  mutual
    sound-shallow : (d : Data) (n : ℕ) → IsSound d n → depth d ≤ n
    sound-shallow null n h = omega arith
    sound-shallow (boolean b) n h = omega arith
    sound-shallow (number k) n h = omega arith
    sound-shallow (string s) n h = omega arith
    sound-shallow (array ds) zero h = absurd h
    sound-shallow (array ds) (suc n) h = omega (arith, items-shallow ds n h)
    sound-shallow (object ms) zero h = absurd h
    sound-shallow (object ms) (suc n) h = omega (arith, members-shallow ms n h.1)

    items-shallow : (ds : Items) (n : ℕ) → AreSound ds n → items_depth ds ≤ n
    items-shallow no_items n h = omega arith
    items-shallow (item d ds) n h = omega (arith, sound-shallow d n h.0, items-shallow ds n h.1)

    members-shallow : (ms : Members) (n : ℕ) → MembersAreSound ms n → members_depth ms ≤ n
    members-shallow no_members n h = omega arith
    members-shallow (member k d ms) n h = omega (arith, sound-shallow d n h.0, members-shallow ms n h.1)

  pub sound-readable : (d : Data) (n : ℕ) → n ≤ max_depth → IsSound d n → IsReadable d
  sound-readable d n few h = record {
    whole = sound-whole d n h;
    shallow = omega (arith, few, sound-shallow d n h);
  }
