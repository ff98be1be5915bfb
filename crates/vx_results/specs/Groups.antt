-- Groups of sheets: those of a kind in a unit.
use Rattle.std.specs.Prelude.{ℕ, List, map}
use Rattle.std.specs.List.{flat_map}
use Rattle.vx_results.specs.declared.groups.Group.{Group}

-- a unit with each kind
abbrev pub unit_groups : List ℕ → ℕ → List Group
unit_groups kinds unit = map (λ kind. record { unit = unit; kind = kind }) kinds

-- units, each with the kinds
abbrev pub groups_of : List ℕ → List ℕ → List Group
groups_of kinds units = flat_map (unit_groups kinds) units
