-- The kinds of ballots by their numbers, those of test ballots behind the others, and which of them a summary has.
use Rattle.std.specs.Prelude.{ℕ, ◌+◌, ◌-◌, ◌==◌, ◌||◌, Bool, true, false, if◌then◌else◌, nat_lt, List, filter}
use Rattle.std.specs.List.{list_any, range_with_len}
use Rattle.vx_grid.specs.declared.kind.Kind.{Kind}
use Rattle.vx_grid.specs.declared.kind.Kind.TheVariants.{Precinct, Absentee, Provisional, Other}
use Rattle.vx_grid.specs.Kinds.{kind_word}
use Rattle.vx_rules.specs.declared.marks.SheetMarks.{SheetMarks}
use Rattle.vx_center.specs.Sheets.{Added}

abbrev pub number_of : Kind → ℕ
number_of Precinct = 0
number_of Absentee = 1
number_of Provisional = 2
number_of Other = 3

-- the number of a sheet's kind
abbrev pub kind_of : SheetMarks → ℕ
kind_of sheet = number_of sheet.kind + (if sheet.test then 4 else 0)

-- the kind with a number below 4
abbrev pub kind_at : ℕ → Kind
kind_at number =
    if number == 0 then Precinct
    else (if number == 1 then Absentee
    else (if number == 2 then Provisional else Other))

-- the word of a kind's number
abbrev pub word_at : ℕ → List ℕ
word_at number = if nat_lt number 4 then kind_word (kind_at number) false else kind_word (kind_at (number - 4)) true

-- the first three kinds always have lines, each other one where a sheet of it was added
abbrev pub has_lines : List Added → ℕ → Bool
has_lines sheets kind = nat_lt kind 3 || list_any (λ (added : Added). kind == kind_of added.sheet) sheets

-- the kinds that have lines
abbrev pub kinds_in : List Added → List ℕ
kinds_in sheets = filter (has_lines sheets) (range_with_len 0 8)
