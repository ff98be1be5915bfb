-- What hands read: a line for each contest of a paper ballot, `hand UNIQUE CONTEST SEL SEL`, with the selections that are
-- marked, or `-` where none is.
use Rattle.std.specs.Prelude.{ℕ, ◌+◌, ◌&&◌, ◌==◌, Bool, true, false, if◌then◌else◌, List, [], ◌∷◌, ◌++◌, length, codes, bytes_eq, slice_get, Option, Some, None, Result, Ok, Err}
use Rattle.std.specs.List.{list_any, position_from, slice_split}
use Rattle.std.specs.Str.{is_utf8}
use Rattle.vx_base.specs.Results.{◌>>=◌}
use Rattle.vx_tally.specs.declared.report.Report.{Report}
use Rattle.vx_tally.specs.declared.report.ReportContest.{ReportContest}
use Rattle.vx_tally.specs.declared.report.CvrRecord.{CvrRecord}
use Rattle.vx_audit.specs.declared.hand.HandLine.{HandLine}
use Rattle.vx_audit.specs.declared.hand.HandFault.{HandFault}
use Rattle.vx_audit.specs.declared.hand.HandFault.TheVariants.{BadLine, OutOfMemory}

-- lines without the last where it is empty
abbrev pub without_empty_end : List (List ℕ) → List (List ℕ)
without_empty_end [] = []
without_empty_end (line ∷ []) = if length line == 0 then [] else line ∷ []
without_empty_end (line ∷ next ∷ lines) = line ∷ without_empty_end (next ∷ lines)

-- the lines of bytes, each of which ends with a line feed that the last may lack
abbrev pub lines_of : List ℕ → List (List ℕ)
lines_of bytes = without_empty_end (slice_split (λ b. b == 10) bytes)

-- the words of a line, with one blank between
abbrev pub words_of : List ℕ → List (List ℕ)
words_of line = slice_split (λ b. b == 32) line

-- what is done with something that is there
abbrev pub and_then : {A B : Type 0} → Option A → (A → Option B) → Option B
and_then None next = None
and_then (Some x) next = next x

-- the place of the record, and of the contest, with an id
abbrev pub record_with : List CvrRecord → List ℕ → Option ℕ
record_with records id = position_from (λ (one : CvrRecord). bytes_eq id one.unique) 0 records

abbrev pub contest_with : List ReportContest → List ℕ → Option ℕ
contest_with contests id = position_from (λ (contest : ReportContest). bytes_eq id contest.id) 0 contests

-- the selections of the contest at a place
abbrev pub own_of : Option ReportContest → List (List ℕ)
own_of None = []
own_of (Some contest) = contest.selections

-- the place of the selection with an id, which none of those before it is
abbrev pub unless_among : List ℕ → ℕ → Option ℕ
unless_among found place = if list_any (λ other. place == other) found then None else Some place

abbrev pub next_mark : List (List ℕ) → List ℕ → List ℕ → Option ℕ
next_mark own found id = and_then (position_from (bytes_eq id) 0 own) (unless_among found)

-- distinct selections, behind those before them
abbrev pub marks_behind : List (List ℕ) → List ℕ → List (List ℕ) → Option (List ℕ)
marks_behind own found [] = Some found
marks_behind own found (id ∷ ids) = and_then (next_mark own found id) (λ place. marks_behind own (found ++ place ∷ []) ids)

-- one `-`
abbrev pub is_dash : List (List ℕ) → Bool
is_dash [] = false
is_dash (word ∷ []) = bytes_eq word (codes "-")
is_dash (word ∷ next ∷ words) = false

-- one or more distinct selections, or one `-` in their place
abbrev pub marks_in : List (List ℕ) → List (List ℕ) → Option (List ℕ)
marks_in own [] = None
marks_in own (id ∷ ids) = if is_dash (id ∷ ids) then Some [] else marks_behind own [] (id ∷ ids)

-- a word in front, and the words behind it
abbrev pub first_word : List (List ℕ) → Option (List ℕ × List (List ℕ))
first_word [] = None
first_word (word ∷ words) = Some (word, words)

-- the same where the word has to say something
abbrev pub first_read : {A : Type 0} → (List ℕ → Option A) → List (List ℕ) → Option (A × List (List ℕ))
first_read read words = and_then (first_word words) (λ first. and_then (read first.0) (λ said. Some (said, first.1)))

-- a line of the ballot of that record, and of that contest
abbrev pub is_for : ℕ → ℕ → HandLine → Bool
is_for ballot contest line = ballot == line.ballot && contest == line.contest

-- its ballot and its contest
abbrev pub key_of : HandLine → ℕ × ℕ
key_of line = (line.ballot, line.contest)

-- a line, where none before it is of its ballot and contest
abbrev pub unless_repeated : List HandLine → HandLine → Option HandLine
unless_repeated found line = if list_any (is_for line.ballot line.contest) found then None else Some line

-- the lines go on, or one is refused by its number, counted from 1
abbrev pub goes_on : {A : Type 0} → Option HandLine → ℕ → (HandLine → Result A HandFault) → Result A HandFault
goes_on None number next = Err (BadLine number)
goes_on (Some line) number next = next line

-- of contests, and of ballots whose places are found by their ids
module _ (contests : List ReportContest) (ballot_with : List ℕ → Option ℕ) where
  -- what the words behind `hand` say
  abbrev pub said_in_words : List (List ℕ) → Option HandLine
  said_in_words words =
      and_then (first_read ballot_with words) (λ ballot.
      and_then (first_read (contest_with contests) ballot.1) (λ contest.
      and_then (marks_in (own_of (slice_get contests contest.0)) contest.1) (λ marks.
      Some (record { ballot = ballot.0; contest = contest.0; marks = marks }))))

  -- what the words of a line say
  abbrev pub hand_in_words : List (List ℕ) → Option HandLine
  hand_in_words words =
      and_then (first_word words) (λ first.
      if bytes_eq first.0 (codes "hand") then said_in_words first.1 else None)

  -- what a line says, which is text
  unfoldable pub hand_in_line : List ℕ → Option HandLine
  hand_in_line line = if is_utf8 line then hand_in_words (words_of line) else None

  abbrev pub next_hand : List HandLine → List ℕ → Option HandLine
  next_hand found line = and_then (hand_in_line line) (unless_repeated found)

  -- those lines with the next
  abbrev pub with_line : List HandLine → List ℕ → Result (List HandLine) HandFault
  with_line found line = goes_on (next_hand found line) (length found + 1) (λ said. Ok (found ++ said ∷ []))

  -- lines, behind those before them
  abbrev pub hand_behind : List HandLine → List (List ℕ) → Result (List HandLine) HandFault
  hand_behind found [] = Ok found
  hand_behind found (line ∷ lines) = with_line found line >>= λ more. hand_behind more lines

  -- what the hand's bytes say, or their first bad line
  unfoldable pub hand_by : List ℕ → Result (List HandLine) HandFault
  hand_by bytes = hand_behind [] (lines_of bytes)

-- the same of a report
abbrev pub hand_of : Report → List ℕ → Result (List HandLine) HandFault
hand_of report bytes = hand_by report.contests (record_with report.records) bytes

-- want of memory
abbrev pub is_no_memory : HandFault → Bool
is_no_memory (BadLine number) = false
is_no_memory OutOfMemory = true
