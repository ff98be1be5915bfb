-- What a command does to the outside, as a whole: its acts in order, and how it ends where nothing fails.
use Rattle.std.specs.Prelude.{ℕ, nat_lt, if◌then◌else◌, List, [], ◌∷◌, ◌++◌, length, Option, None, Some, Result, Ok, Err}
use Rattle.vx_command.specs.declared.halt.Halt.{Halt}
use Rattle.vx_command.specs.declared.halt.Halt.TheVariants as halt

-- the input of a word is taken, the journal is read, a text is written, or a record is appended to the journal
pub data Act : Type 0 where
  Take : ℕ → Act
  ReadJournal : Act
  Write : List ℕ → Act
  Append : List ℕ → Act

-- what a command answers: that it did its work, or why it halts
abbrev pub Answer : Type 0
Answer = Result (Unit {0}) Halt

-- the acts of a command, and how it ends behind the last of them
pub record Outcome : Type 0 where
  pub acts : List Act
  pub ends : Answer

-- the text that an act writes
abbrev pub text_of : Act → List ℕ
text_of (Write text) = text
text_of act = []

-- the records that an act appends
abbrev pub records_of : Act → List (List ℕ)
records_of (Append body) = body ∷ []
records_of act = []

-- a command whose work is these acts
abbrev pub work : List Act → Outcome
work acts = record { acts = acts; ends = Ok tt }

-- a command that ends here, its work done
abbrev pub finished : Outcome
finished = work []

-- a command whose work is to write one text
abbrev pub writing : List ℕ → Outcome
writing text = work (Write text ∷ [])

-- a command that halts here
abbrev pub halted : Halt → Outcome
halted cause = record { acts = []; ends = Err cause }

-- acts before those of an outcome
abbrev pub after : List Act → Outcome → Outcome
after acts outcome = record { acts = acts ++ outcome.acts; ends = outcome.ends }

-- a command that goes on with what it was given, or halts where it wasn't given it
abbrev pub goes_on : {A : Type 0} → Result A Halt → (A → Outcome) → Outcome
goes_on (Err cause) rest = halted cause
goes_on (Ok given) rest = rest given

-- the bytes of the input of a word, of at most so many bytes, or why a command that needs them halts
abbrev pub input_of : ℕ → ℕ → Option (List ℕ) → Result (List ℕ) Halt
input_of word limit None = Err (halt.NoInput word)
input_of word limit (Some bytes) =
    if nat_lt limit (length bytes) then Err (halt.TooLong word (length bytes)) else Ok bytes

-- a command that takes the input of a word and goes on with what that gives it
abbrev pub taking : {A : Type 0} → ℕ → Result A Halt → (A → Outcome) → Outcome
taking word given rest = after (Take word ∷ []) (goes_on given rest)

-- a command that takes the input of a word and goes on with its bytes
abbrev pub once_taken : ℕ → ℕ → Option (List ℕ) → (List ℕ → Outcome) → Outcome
once_taken word limit file rest = taking word (input_of word limit file) rest

-- the most bytes that an input may have
abbrev pub input_limit : ℕ
input_limit = 67108864
