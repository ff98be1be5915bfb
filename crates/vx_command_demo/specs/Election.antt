-- The demo election: 24 contests in three districts, and three ballot styles of one precinct each. This project's own
-- choice.
use Rattle.std.specs.Prelude.{ℕ, ◌+◌, ◌%◌, ◌==◌, ◌++◌, Bool, nat_le, if◌then◌else◌, List, [], ◌∷◌, map, codes}
use Rattle.std.specs.List.{range_with_len}
use Rattle.std.specs.Fmt.{decimal}
use Rattle.serde_json.specs.Data.{Data, boolean}
use Rattle.serde_json.specs.Written.{compact_text}
use Rattle.vx_command_demo.specs.Json.{text, whole, list, described}

-- a word with a number behind it, as `d1`
abbrev pub numbered : List ℕ → ℕ → List ℕ
numbered word number = word ++ decimal number

-- the same as a value
abbrev pub numbered_text : List ℕ → ℕ → Data
numbered_text word number = text (numbered word number)

-- a thing with a number: its id and its name
abbrev pub named : List ℕ → List ℕ → ℕ → Data
named id_word name_word number = described ((codes "id", numbered_text id_word number) ∷ (codes "name", numbered_text name_word number) ∷ [])

-- so many of them, from a number on
abbrev pub all_named : List ℕ → List ℕ → ℕ → ℕ → Data
all_named id_word name_word first many = list (map (named id_word name_word) (range_with_len first many))

-- the ids of so many things, from a number on
abbrev pub ids : List ℕ → ℕ → ℕ → Data
ids word first many = list (map (numbered_text word) (range_with_len first many))

-- style n is of precinct n, and votes in the first n districts
abbrev pub style : ℕ → Data
style number = described
    ((codes "districts", ids (codes "d") 1 number)
    ∷ (codes "id", numbered_text (codes "s") number)
    ∷ (codes "precincts", ids (codes "p") number 1) ∷ [])

abbrev pub styles : Data
styles = list (map style (range_with_len 1 3))

-- the district of a contest: 18 are of the first, three of the second and three of the third
abbrev pub district_of : ℕ → ℕ
district_of number = if nat_le number 18 then 1 else if nat_le number 21 then 2 else 3

-- each fourth contest is answered by yes or no
abbrev pub yes_no_contest : ℕ → Data
yes_no_contest number = described
    ((codes "districtId", numbered_text (codes "d") (district_of number))
    ∷ (codes "id", numbered_text (codes "k") number)
    ∷ (codes "title", numbered_text (codes "Contest ") number)
    ∷ (codes "type", text (codes "yesno")) ∷ [])

-- each third of the others has two seats
abbrev pub seats_of : ℕ → ℕ
seats_of number = if number % 3 == 0 then 2 else 1

-- a contest of candidates: whether it has write-ins, its candidates, and the texts of its district, its id and its title
abbrev pub with_candidates : Bool → Data → List ℕ → List ℕ → ℕ → List ℕ → Data
with_candidates write_ins candidates district id seats title = described
    ((codes "allowWriteIns", boolean write_ins)
    ∷ (codes "candidates", candidates)
    ∷ (codes "districtId", text district)
    ∷ (codes "id", text id)
    ∷ (codes "seats", whole seats)
    ∷ (codes "title", text title)
    ∷ (codes "type", text (codes "candidate")) ∷ [])

-- the others have three to five candidates, and each fifth write-ins
abbrev pub candidate_contest : ℕ → Data
candidate_contest number =
    with_candidates (number % 5 == 0) (all_named (codes "c") (codes "Person ") 0 (2 + number % 4))
    (numbered (codes "d") (district_of number)) (numbered (codes "k") number) (seats_of number)
    (numbered (codes "Contest ") number)

-- a contest by its number, 1 to 24
abbrev pub contest : ℕ → Data
contest number = if number % 4 == 0 then yes_no_contest number else candidate_contest number

abbrev pub contests : Data
contests = list (map contest (range_with_len 1 24))

-- the whole election
abbrev pub demo_election : Data
demo_election = described
    ((codes "ballotStyles", styles)
    ∷ (codes "contests", contests)
    ∷ (codes "date", text (codes "2024-11-05"))
    ∷ (codes "districts", all_named (codes "d") (codes "D") 1 3)
    ∷ (codes "precincts", all_named (codes "p") (codes "P") 1 3)
    ∷ (codes "title", text (codes "Demo")) ∷ [])

-- its definition as a text
unfoldable pub demo_text : List ℕ
demo_text = compact_text demo_election
