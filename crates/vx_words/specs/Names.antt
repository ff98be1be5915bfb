-- The table of the commands: their names, and how many words they have.
use Rattle.std.specs.Prelude.{ℕ, List, [], ◌∷◌, Option, codes, find}
use Rattle.std.specs.Str.{bytes_eq}
use Rattle.vx_words.specs.declared.name.Name.{Name}
use Rattle.vx_words.specs.declared.name.Name.TheVariants.{Print, Read, Check, Count, Decide, Queue, Export, Demo, Center, Try, Cards, Results, Sample, Desk, Summary, Board, Risk}

-- a command's name, and how many words it has at least and at most, its name among them
pub record Row : Type 0 where
  pub name : List ℕ
  pub least : ℕ
  pub most : ℕ

abbrev pub row : List ℕ → ℕ → ℕ → Row
row name least most = record { name = name; least = least; most = most }

-- the table
abbrev pub row_of : Name → Row
row_of Print = row (codes "print") 4 4
row_of Read = row (codes "read") 3 66
row_of Check = row (codes "check") 4 4
row_of Count = row (codes "count") 5 68
row_of Decide = row (codes "decide") 3 3
row_of Queue = row (codes "queue") 2 2
row_of Export = row (codes "export") 4 4
row_of Demo = row (codes "demo") 3 3
row_of Center = row (codes "center") 5 20
row_of Try = row (codes "try") 3 66
row_of Cards = row (codes "cards") 2 2
row_of Results = row (codes "results") 2 2
row_of Sample = row (codes "sample") 5 5
row_of Desk = row (codes "desk") 4 67
row_of Summary = row (codes "summary") 2 2
row_of Board = row (codes "board") 4 4
row_of Risk = row (codes "risk") 6 6

-- all commands, in the table's order
abbrev pub all_names : List Name
all_names =
    Print ∷ Read ∷ Check ∷ Count ∷ Decide ∷ Queue ∷ Export ∷ Demo ∷ Center ∷ Try ∷ Cards ∷ Results ∷ Sample ∷ Desk ∷ Summary
    ∷ Board ∷ Risk ∷ []

-- the word that names a command
abbrev pub name_word : Name → List ℕ
name_word name = (row_of name).name

-- the command that a word names, if it names one
abbrev pub name_in : List ℕ → Option Name
name_in word = find (λ name. bytes_eq (name_word name) word) all_names
