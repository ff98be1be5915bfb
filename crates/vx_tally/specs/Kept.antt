-- Records as a tally keeps them: each under the mark of its id and the number by which it was added.
use Rattle.std.specs.Prelude.{◌≡◌, ℕ, ◌&&◌, ◌==◌, Bool, true, List, [], ◌∷◌, map, find, nat_lt, if◌then◌else◌, Option}
use Rattle.std.specs.List.{list_all}
use Rattle.std.specs.Ordering.{nat_cmp, ordering_then}
use Rattle.std.specs.Hash.FoldHasher as folding
use Rattle.std.specs.declared.cmp.Ordering.{Ordering}
use Rattle.std.specs.declared.ops.Bound.TheVariants.{Included, Excluded}
use Rattle.std.specs.BTreeMap.Range.{entries_between}
use Rattle.indexmap.specs.IndexMap.{IndexMap}
use Rattle.vx_tally.specs.declared.report.CvrRecord.{CvrRecord}
use Rattle.vx_tally.specs.declared.sums.Counted.{Counted}
use Rattle.vx_tally.specs.Totals.{same_record}
use Rattle.vx_tally.specs.Sums.{IsSummed}

-- a mark and a number, with the record that is kept under them
abbrev pub Entry : Type 0
Entry = (ℕ × ℕ) × CvrRecord

-- by the marks, and by the numbers where those are equal
abbrev pub key_cmp : ℕ × ℕ → ℕ × ℕ → Ordering
key_cmp x y = ordering_then (nat_cmp x.0 y.0) (nat_cmp x.1 y.1)

-- the mark of an id, the same for equal ids
unfoldable pub mark_of : List ℕ → ℕ
mark_of id = folding.finish (folding.write folding.initial id)

-- an entry put before the first that has a greater number
abbrev pub put : Entry → List Entry → List Entry
put one [] = one ∷ []
put one (other ∷ rest) = if nat_lt one.0.1 other.0.1 then one ∷ other ∷ rest else other ∷ put one rest

-- entries in the order of their numbers
abbrev pub in_order : List Entry → List Entry
in_order [] = []
in_order (one ∷ rest) = put one (in_order rest)

-- the records of entries, in the order in which they were added
abbrev pub records_of : List Entry → List CvrRecord
records_of entries = map (λ (one : Entry). one.1) (in_order entries)

-- an entry's mark is that of its id, and its number is below the next
abbrev pub is_kept : ℕ → Entry → Bool
is_kept next one = one.0.0 == mark_of one.1.unique && nat_lt one.0.1 next

-- among the entries with a record's mark the first whose record is equal
abbrev pub first_equal : CvrRecord → ℕ → List Entry → Option Entry
first_equal one next entries =
    find (λ (other : Entry). same_record one other.1)
    (entries_between key_cmp (Included (mark_of one.unique, 0)) (Excluded (mark_of one.unique, next)) entries)

-- what is kept are entries, and the sums over their records
pub record IsKept {S : Type 0} (entries : List Entry) (next : ℕ) (sums : IndexMap Counted ℕ S) : Type 0 where
  pub summed : IsSummed (records_of entries) sums
  pub kept : list_all (is_kept next) entries ≡ true
