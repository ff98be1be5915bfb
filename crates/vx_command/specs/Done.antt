-- How far a command has come when it answers: which acts are done, and what stands of the next one.
use Rattle.std.specs.Prelude.{◌≡◌, ◌⊎◌, ℕ, List, [], ◌∷◌, ◌++◌, Option, None, Some, Ok, Err, MatchOption}
use Rattle.std.specs.List.{flat_map}
use Rattle.vx_io.specs.Outside.{IsPrefix, Took}
use Rattle.vx_command.specs.declared.halt.Halt.{Halt}
use Rattle.vx_command.specs.declared.halt.Halt.TheVariants.{ReadFault, WriteFault, KeeperFault, NoMemory}
use Rattle.vx_command.specs.Acts.{Act, Take, ReadJournal, Write, Append, Answer, Outcome, text_of, records_of}

-- what a sink has taken and what a keeper holds, where they tell
abbrev pub Taken : Type 0
Taken = Option (List ℕ)

abbrev pub Held : Type 0
Held = Option (List (List ℕ))

-- a keeper has more records at its end, where it tells; whether it tells doesn't change
abbrev pub Keeps : Held → Held → List (List ℕ) → Type 0
Keeps held held_now more = MatchOption held (held_now ≡ None) (λ records. held_now ≡ Some (records ++ more))

-- nothing of an act stands
abbrev pub IsNothing : List ℕ → List (List ℕ) → Type 0
IsNothing text records = (text ≡ []) × (records ≡ [])

-- A command that halts so broke off before the first of these acts, of which this text and these records stand:
-- a device fails at an act of its own, of which a front of the text may be taken, or the record kept; memory may
-- run out anywhere.
abbrev pub BreaksAt : Halt → List Act → List ℕ → List (List ℕ) → Type 0
BreaksAt ReadFault (Take word ∷ acts) text records = IsNothing text records
BreaksAt WriteFault (Write whole ∷ acts) text records = IsPrefix text whole × (records ≡ [])
BreaksAt KeeperFault (ReadJournal ∷ acts) text records = IsNothing text records
BreaksAt KeeperFault (Append body ∷ acts) text records = (text ≡ []) × ((records ≡ []) ⊎ (records ≡ body ∷ []))
BreaksAt NoMemory acts text records = IsNothing text records
BreaksAt cause acts text records = ⊥

-- a command that broke off before the first of these acts, of which this text and these records stand
abbrev pub BreaksOff : Answer → List Act → List ℕ → List (List ℕ) → Type 0
BreaksOff (Ok done) acts text records = ⊥
BreaksOff (Err cause) acts text records = BreaksAt cause acts text records

-- a command that has done all its acts and answers as its outcome says
pub record IsWhole (ends answer : Answer) (left : List Act) (text : List ℕ) (records : List (List ℕ)) : Type 0 where
  pub all : left ≡ []
  pub no_more : IsNothing text records
  pub same_answer : answer ≡ ends

-- The acts are done up to some place: all of them, and the command answers as its outcome says; or it broke off there.
pub record IsDone (outcome : Outcome) (taken taken_now : Taken) (held held_now : Held) (answer : Answer) : Type 0 where
  pub done : List Act
  pub left : List Act
  pub are_acts : outcome.acts ≡ done ++ left
  pub text : List ℕ
  pub records : List (List ℕ)
  pub took : Took taken taken_now (flat_map text_of done ++ text)
  pub kept : Keeps held held_now (flat_map records_of done ++ records)
  pub ends : IsWhole outcome.ends answer left text records ⊎ BreaksOff answer left text records

-- the same of a command that has no act of the keeper: whatever a keeper holds, it holds still
abbrev pub IsWritten : Outcome → Taken → Taken → Answer → Type 0
IsWritten outcome taken taken_now answer = (held : Held) → IsDone outcome taken taken_now held held answer

-- a command has come to the rest of its acts: however far that rest is done from here, so far the whole is done
abbrev pub ComesTo : Outcome → Outcome → Taken → Taken → Held → Held → Type 0
ComesTo whole rest taken taken_now held held_now =
    (taken_then : Taken) (held_then : Held) (answer : Answer) →
    IsDone rest taken_now taken_then held_now held_then answer → IsDone whole taken taken_then held held_then answer

-- the same of a command that has no act of the keeper
abbrev pub WritesTo : Outcome → Outcome → Taken → Taken → Type 0
WritesTo whole rest taken taken_now = (held : Held) → ComesTo whole rest taken taken_now held held
