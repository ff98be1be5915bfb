-- Kinds of ballots in words.
use Rattle.std.specs.Prelude.{ℕ, Bool, true, false, List, ◌++◌, codes}
use Rattle.vx_grid.specs.declared.kind.Kind.{Kind}
use Rattle.vx_grid.specs.declared.kind.Kind.TheVariants.{Precinct, Absentee, Provisional, Other}

-- a kind's word
abbrev pub kind_name : Kind → List ℕ
kind_name Precinct = codes "precinct"
kind_name Absentee = codes "absentee"
kind_name Provisional = codes "provisional"
kind_name Other = codes "other"

-- a kind's word, with `test-` before it for a test ballot
abbrev pub kind_word : Kind → Bool → List ℕ
kind_word kind false = kind_name kind
kind_word kind true = codes "test-" ++ kind_name kind
