-- Places in ascending order, and what stands at them.
use Rattle.std.specs.Prelude.{◌↔◌, ℕ, List, [], ◌∷◌, ◌++◌, slice_get, map, Contains}
use Rattle.std.specs.List.{flat_map}
use Rattle.std.specs.List.Sorted.{IsStrictlySortedBy}
use Rattle.std.specs.Ordering.{nat_cmp}
use Rattle.std.specs.Option.{option_to_list}
use Rattle.vx_tally.specs.declared.report.CvrRecord.{CvrRecord}
use Rattle.vx_tally.specs.declared.report.RecordContest.{RecordContest}

-- the places that stand in a list, each once and ascending
pub record IsAscending (places sorted : List ℕ) : Type 0 where
  pub ordered : IsStrictlySortedBy nat_cmp sorted
  pub same : (place : ℕ) → Contains sorted place ↔ Contains places place

-- the ids at those places
abbrev pub ids_at : List (List ℕ) → List ℕ → List (List ℕ)
ids_at ids places = flat_map (λ place. option_to_list (slice_get ids place)) places

-- ids with commas between
abbrev pub joined : List (List ℕ) → List ℕ
joined [] = []
joined (id ∷ ids) = id ++ flat_map (λ (other : List ℕ). 44 ∷ other) ids

-- the contests of a record
abbrev pub counted_places : CvrRecord → List ℕ
counted_places one = map (λ (counted : RecordContest). counted.contest) one.contests
