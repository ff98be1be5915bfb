-- The records of a journal: the one spelling of each event, and the header of an election.
use Rattle.std.specs.Prelude.{ℕ, List, [], ◌∷◌, ◌++◌, map, codes}
use Rattle.std.specs.List.{flat_map}
use Rattle.std.specs.Fmt.{decimal}
use Rattle.hex.specs.Hex.{encode_lower}
use Rattle.vx_grid.specs.Kinds.{kind_word}
use Rattle.vx_grid.specs.declared.state.State.{State}
use Rattle.vx_grid.specs.declared.state.State.TheVariants.{Marked, Marginal, Clear}
use Rattle.vx_election_model.specs.declared.election.Election.{Election}
use Rattle.vx_rules.specs.declared.marks.ContestMarks.{ContestMarks}
use Rattle.vx_events.specs.declared.decision.Decision.{Decision}
use Rattle.vx_events.specs.declared.decision.Decision.TheVariants.{Selections, RuledOvervote, AcceptRead, NameWriteIn}
use Rattle.vx_events.specs.declared.decision.WriteInName.{WriteInName}
use Rattle.vx_events.specs.declared.decision.WriteInName.TheVariants.{Words, Candidate}
use Rattle.vx_events.specs.declared.event.Event.{Event}
use Rattle.vx_events.specs.declared.event.Event.TheVariants.{Add, Claim, Release, Decide}

-- words, each with a blank before it
abbrev pub spaced : List (List ℕ) → List ℕ
spaced words = flat_map (λ word. 32 ∷ word) words

-- what an option was read as, in a letter
abbrev pub state_letter : State → ℕ
state_letter Marked = 109
state_letter Marginal = 103
state_letter Clear = 99

-- a contest that was read: `C:STATES`, with a letter for each option
abbrev pub marks_word : ContestMarks → List ℕ
marks_word marks = decimal marks.contest ++ 58 ∷ map state_letter marks.states

-- options: their numbers with commas between, or `-` for none
abbrev pub options_word : List ℕ → List ℕ
options_word [] = 45 ∷ []
options_word (option ∷ options) = decimal option ++ flat_map (λ other. 44 ∷ decimal other) options

-- what a write-in slot's name is: `text WORDS` or `candidate O`
abbrev pub name_words : WriteInName → List (List ℕ)
name_words (Words words) = codes "text" ∷ words ∷ []
name_words (Candidate number) = codes "candidate" ∷ decimal number ∷ []

-- a decision's word
abbrev pub decision_name : Decision → List ℕ
decision_name (Selections options) = codes "select"
decision_name RuledOvervote = codes "overvote"
decision_name AcceptRead = codes "accept"
decision_name (NameWriteIn slot name) = codes "name"

-- what stands behind the contest of a decision
abbrev pub decision_words : Decision → List (List ℕ)
decision_words (Selections options) = options_word options ∷ []
decision_words RuledOvervote = []
decision_words AcceptRead = []
decision_words (NameWriteIn slot name) = decimal slot ∷ name_words name

-- the words of an event: what is done, and to what
abbrev pub words_of : Event → List (List ℕ)
words_of (Add key sheet) =
    codes "add" ∷ key.batch ∷ decimal key.number ∷ decimal sheet.card ∷ decimal sheet.front
    ∷ kind_word sheet.kind sheet.test ∷ map marks_word sheet.contests
words_of (Claim station key) = codes "claim" ∷ decimal station ∷ key.batch ∷ decimal key.number ∷ []
words_of (Release station key) = codes "release" ∷ decimal station ∷ key.batch ∷ decimal key.number ∷ []
words_of (Decide station key contest decision) =
    decision_name decision ∷ decimal station ∷ key.batch ∷ decimal key.number ∷ decimal contest
    ∷ decision_words decision

-- words as a record: first the format's version, which is 1
abbrev pub record_with : List (List ℕ) → List ℕ
record_with words = 49 ∷ spaced words

-- the one spelling of an event
abbrev pub record_of : Event → List ℕ
record_of event = record_with (words_of event)

-- the first record of an election's journal: the SHA-256 of its definition's bytes
abbrev pub header_of : Election → List ℕ
header_of election = record_with (codes "election" ∷ encode_lower election.digest ∷ [])
