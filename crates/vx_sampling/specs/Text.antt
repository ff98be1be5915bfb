-- What `risk` writes: a line of each contest, then one of each that has a figure with how many draws are enough, and last how
-- many draws, records and contests of each kind there are.
use Rattle.std.specs.Prelude.{ℕ, ◌/◌, ◌%◌, Bool, true, false, not, if◌then◌else◌, List, [], ◌∷◌, ◌++◌, count_by, codes, Option, Some, None}
use Rattle.std.specs.List.{flat_map}
use Rattle.std.specs.Fmt.{decimal}
use Rattle.vx_sampling.specs.declared.rows.Figures.{Figures}
use Rattle.vx_sampling.specs.declared.rows.Told.{Told}
use Rattle.vx_sampling.specs.declared.rows.Told.TheVariants.{Tie, WriteIn, Risk}
use Rattle.vx_sampling.specs.declared.rows.Row.{Row}

-- millionths as a decimal fraction with six decimals
abbrev pub fraction_text : ℕ → List ℕ
fraction_text millionths =
    decimal (millionths / 1000000) ++ 46 ∷ decimal (millionths / 100000 % 10) ++ decimal (millionths / 10000 % 10)
    ++ decimal (millionths / 1000 % 10) ++ decimal (millionths / 100 % 10) ++ decimal (millionths / 10 % 10)
    ++ decimal (millionths % 10)

-- the end of the line of a contest whose risk is at most the limit, and of another
abbrev pub met_text : Bool → List ℕ
met_text is_met = if is_met then codes " met" else codes " open"

-- ` margin M one A two B missing C risk `
unfoldable pub counts_text : Figures → List ℕ
counts_text figures =
    codes " margin " ++ decimal figures.margin ++ codes " one " ++ decimal figures.one ++ codes " two " ++ decimal figures.two
    ++ codes " missing " ++ decimal figures.missing ++ codes " risk "

-- ` tie`, ` write-in` or the figures
abbrev pub told_text : Told → List ℕ
told_text Tie = codes " tie"
told_text WriteIn = codes " write-in"
told_text (Risk figures) = counts_text figures ++ fraction_text figures.millionths ++ met_text figures.is_met

-- `contest CONTEST` and what is told of it
abbrev pub row_line : Row → List ℕ
row_line row = codes "contest " ++ row.name ++ told_text row.told ++ 10 ∷ []

-- `enough CONTEST N`, or `enough CONTEST none`
abbrev pub number_line : List ℕ → Option ℕ → List ℕ
number_line name None = codes "enough " ++ name ++ codes " none" ++ 10 ∷ []
number_line name (Some number) = codes "enough " ++ name ++ 32 ∷ decimal number ++ 10 ∷ []

abbrev pub enough_text : List ℕ → Told → List ℕ
enough_text name Tie = []
enough_text name WriteIn = []
enough_text name (Risk figures) = number_line name figures.enough

abbrev pub enough_line : Row → List ℕ
enough_line row = enough_text row.name row.told

-- the ways in which a contest may be told
abbrev pub is_met : Told → Bool
is_met Tie = false
is_met WriteIn = false
is_met (Risk figures) = figures.is_met

abbrev pub is_unmet : Told → Bool
is_unmet Tie = false
is_unmet WriteIn = false
is_unmet (Risk figures) = not figures.is_met

abbrev pub is_tie : Told → Bool
is_tie Tie = true
is_tie WriteIn = false
is_tie (Risk figures) = false

abbrev pub is_write_in : Told → Bool
is_write_in Tie = false
is_write_in WriteIn = true
is_write_in (Risk figures) = false

-- how many contests are told so
abbrev pub how_many : (Told → Bool) → List Row → ℕ
how_many test rows = count_by (λ (row : Row). test row.told) rows

-- `draws N records R`
unfoldable pub draws_text : ℕ → ℕ → List ℕ
draws_text size records = codes "draws " ++ decimal size ++ codes " records " ++ decimal records

-- ` met A open B`
unfoldable pub decided_text : List Row → List ℕ
decided_text rows = codes " met " ++ decimal (how_many is_met rows) ++ codes " open " ++ decimal (how_many is_unmet rows)

-- ` tie C write-in D`
unfoldable pub undecided_text : List Row → List ℕ
undecided_text rows =
    codes " tie " ++ decimal (how_many is_tie rows) ++ codes " write-in " ++ decimal (how_many is_write_in rows) ++ 10 ∷ []

-- `draws N records R met A open B tie C write-in D`
abbrev pub last_line : ℕ → ℕ → List Row → List ℕ
last_line size records rows = draws_text size records ++ decided_text rows ++ undecided_text rows

-- the whole text
unfoldable pub text_of_rows : ℕ → ℕ → List Row → List ℕ
text_of_rows size records rows = flat_map row_line rows ++ flat_map enough_line rows ++ last_line size records rows
