-- A value whose names are in order is settled.
use Rattle.std.proofs.Common.{◌≡◌, ℕ, List, refl, sym, ap, ap₂, subst, ◌∙◌}
use Rattle.std.specs.List.{AllByRecursion}
use Rattle.std.specs.Cmp.Lexicographic.{slice_cmp}
use Rattle.std.specs.Ordering.{nat_cmp, match_ordering, ordering_reverse}
use Rattle.std.specs.declared.cmp.Ordering.{Ordering}
use Rattle.std.specs.declared.cmp.Ordering.TheVariants.{Less, Greater}
use Rattle.std.specs.List.Sorted.{IsStrictlySortedBy}
use Rattle.std.proofs.lemmas.Cmp.{nat_list_cmp_total}
use Rattle.serde_json.specs.Data.{Data, null, boolean, number, string, array, object, Items, no_items, item, Members, no_members, member, put}
use Rattle.vx_json_trip.specs.Trips.{names, HasOrderedNames, ItemsHaveOrderedNames, MembersHaveOrderedNames, settled, settled_items, settled_members}

-- members behind others
abbrev join : Members → Members → Members
join no_members behind = behind
join (member k d ms) behind = member k d (join ms behind)

join-one : (before : Members) (k : List ℕ) (d : Data) (ms : Members) → join (join before (member k d no_members)) ms ≡ join before (member k d ms)
join-one no_members k d ms = refl
join-one (member l e before) k d ms = ap (member l e) (join-one before k d ms)

join-none : (before : Members) → join before no_members ≡ before
join-none no_members = refl
join-none (member l e before) = ap (member l e) (join-none before)

named-behind : (P : List ℕ → Type 0) (before : Members) (k : List ℕ) (d : Data) (ms : Members) → AllByRecursion P (names (join before (member k d ms))) → P k
named-behind P no_members k d ms h = h.0
named-behind P (member l e before) k d ms h = named-behind P before k d ms h.1

-- a name that is behind all others goes last
put_last : (before : Members) (k : List ℕ) (d : Data) (ms : Members) → IsStrictlySortedBy (slice_cmp nat_cmp) (names (join before (member k d ms)))
    → put k d before ≡ join before (member k d no_members)
unfolding IsStrictlySortedBy
put_last no_members k d ms h = refl
put_last (member l e before) k d ms h =
    let less : slice_cmp nat_cmp l k ≡ Less = named-behind (λ (name : List ℕ). slice_cmp nat_cmp l name ≡ Less) before k d ms h.0 in
    let greater : slice_cmp nat_cmp k l ≡ Greater = nat_list_cmp_total.antisymm k l ∙ ap ordering_reverse less in
    ap (λ (o : Ordering). match_ordering o (member k d (member l e before)) (member l d before) (member l e (put k d before))) greater
    ∙ ap (member l e) (put_last before k d ms h.1)

mutual
  pub settled-same : (d : Data) → HasOrderedNames d → settled d ≡ d
  settled-same null h = refl
  settled-same (boolean b) h = refl
  settled-same (number n) h = refl
  settled-same (string s) h = refl
  settled-same (array ds) h = ap array (settled_items-same ds h)
  settled-same (object ms) h = ap object (settled_members-same ms no_members h.0 h.1)

  settled_items-same : (ds : Items) → ItemsHaveOrderedNames ds → settled_items ds ≡ ds
  settled_items-same no_items h = refl
  settled_items-same (item d ds) h = ap₂ item (settled-same d h.0) (settled_items-same ds h.1)

  settled_members-same : (ms before : Members) → IsStrictlySortedBy (slice_cmp nat_cmp) (names (join before ms)) → MembersHaveOrderedNames ms
      → settled_members ms before ≡ join before ms
  settled_members-same no_members before sorted h = sym (join-none before)
  settled_members-same (member k d ms) before sorted h =
      ap (λ (e : Data). settled_members ms (put k e before)) (settled-same d h.0)
      ∙ ap (settled_members ms) (put_last before k d ms sorted)
      ∙ settled_members-same ms (join before (member k d no_members))
      (subst (λ (all : Members). IsStrictlySortedBy (slice_cmp nat_cmp) (names all)) (sym (join-one before k d ms)) sorted) h.1
      ∙ join-one before k d ms
