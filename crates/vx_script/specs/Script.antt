-- The lines of a script, and what each says: words with one blank between. This program's own format.
use Rattle.std.specs.Prelude.{ℕ, ◌==◌, if◌then◌else◌, bytes_eq, List, [], ◌∷◌, codes, Option, Some, None}
use Rattle.std.specs.List.{join_with_byte, position_from, slice_split}
use Rattle.std.specs.Str.{is_utf8}
use Rattle.vx_election_model.specs.declared.contest.Contest.{Contest}
use Rattle.vx_election_model.specs.declared.election.Election.{Election}
use Rattle.vx_events.specs.declared.decision.Decision.{Decision}
use Rattle.vx_events.specs.declared.decision.Decision.TheVariants.{Selections, RuledOvervote, AcceptRead, NameWriteIn}
use Rattle.vx_events.specs.declared.decision.WriteInName.{WriteInName}
use Rattle.vx_events.specs.declared.decision.WriteInName.TheVariants.{Words, Candidate}
use Rattle.vx_events.specs.declared.event.Event.{Event}
use Rattle.vx_events.specs.declared.event.Event.TheVariants as event
use Rattle.vx_events.specs.declared.key.Key.{Key}
use Rattle.vx_events.specs.Fits.{fits}
use Rattle.vx_script.specs.declared.verbs.Verb.{Verb}
use Rattle.vx_script.specs.declared.verbs.Verb.TheVariants.{Claim, Release, Select, Overvote, Accept, Name}
use Rattle.vx_script.specs.Options.{and_then, number_in, options_in}

-- the most bytes that a script may have
abbrev pub script_limit : ℕ
script_limit = 1048576

-- the lines of a script, which end with a line feed; behind the last one an empty line follows
abbrev pub lines_of : List ℕ → List (List ℕ)
lines_of script = slice_split (λ b. b == 10) script

-- the words of a line, with a blank between two of them
abbrev pub words_of : List ℕ → List (List ℕ)
words_of line = slice_split (λ b. b == 32) line

-- a word in front, and the words behind it
abbrev pub first_word : List (List ℕ) → Option (List ℕ × List (List ℕ))
first_word [] = None
first_word (word ∷ words) = Some (word, words)

-- the same where the word has to say something
abbrev pub first_read : {A : Type 0} → (List ℕ → Option A) → List (List ℕ) → Option (A × List (List ℕ))
first_read read words = and_then (first_word words) (λ first. and_then (read first.0) (λ said. Some (said, first.1)))

-- something with no words behind it
abbrev pub ended : {A : Type 0} → List (List ℕ) → A → Option A
ended [] said = Some said
ended (word ∷ words) said = None

-- what a line's first word asks for
abbrev pub verb_in : List ℕ → Option Verb
verb_in word =
    if bytes_eq word (codes "claim") then Some Claim
    else if bytes_eq word (codes "release") then Some Release
    else if bytes_eq word (codes "select") then Some Select
    else if bytes_eq word (codes "overvote") then Some Overvote
    else if bytes_eq word (codes "accept") then Some Accept
    else if bytes_eq word (codes "name") then Some Name
    else None

-- the contest with an id, by its place in the election
abbrev pub contest_in : Election → List ℕ → Option ℕ
contest_in election id = position_from (λ (contest : Contest). bytes_eq contest.id id) 0 election.contests

-- `text WORDS`, where WORDS is the rest of the line, or `candidate O`
abbrev pub name_of : List ℕ → List (List ℕ) → Option WriteInName
name_of form words =
    if bytes_eq form (codes "text") then Some (Words (join_with_byte 32 words))
    else if bytes_eq form (codes "candidate")
    then and_then (first_read (number_in 999) words) (λ number. ended number.1 (Candidate number.0))
    else None

-- `SLOT` and a name
abbrev pub naming_in : List (List ℕ) → Option Decision
naming_in words =
    and_then (first_read (number_in 999) words) (λ slot. and_then (first_word slot.1) (λ form.
    and_then (name_of form.0 form.1) (λ name. Some (NameWriteIn slot.0 name))))

-- what is decided of a contest: `O O O`, no or more options; nothing more; or a slot's name
abbrev pub decision_in : Verb → List (List ℕ) → Option Decision
decision_in Claim words = None
decision_in Release words = None
decision_in Select words = and_then (options_in words) (λ options. Some (Selections options))
decision_in Overvote words = ended words RuledOvervote
decision_in Accept words = ended words AcceptRead
decision_in Name words = naming_in words

-- a decision of the contest whose id stands in front
abbrev pub deciding_in : Election → Verb → ℕ → Key → List (List ℕ) → Option Event
deciding_in election verb station key words =
    and_then (first_read (contest_in election) words) (λ contest.
    and_then (decision_in verb contest.1) (λ decision. Some (event.Decide station key contest.0 decision)))

-- what is asked for a sheet
abbrev pub asked_in : Election → Verb → ℕ → Key → List (List ℕ) → Option Event
asked_in election Claim station key words = ended words (event.Claim station key)
asked_in election Release station key words = ended words (event.Release station key)
asked_in election verb station key words = deciding_in election verb station key words

-- a verb, `S`, `B` and `N`, and what is asked for that sheet
abbrev pub said_in : Election → List (List ℕ) → Option Event
said_in election words =
    and_then (first_read verb_in words) (λ verb. and_then (first_read (number_in 9999) verb.1) (λ station.
    and_then (first_word station.1) (λ batch. and_then (first_read (number_in 999999) batch.1) (λ number.
    asked_in election verb.0 station.0 (record { batch = batch.0; number = number.0 }) number.1))))

-- an event whose values are in their ranges
abbrev pub in_range : Election → Event → Option Event
in_range election said = if fits election said then Some said else None

-- the event of a line, which is UTF-8
unfoldable pub event_in : Election → List ℕ → Option Event
event_in election line = if is_utf8 line then and_then (said_in election (words_of line)) (in_range election) else None
