-- The lines that say what a sheet of a count came to.
use Rattle.std.specs.Prelude.{ℕ, ◌+◌, Bool, List, [], ◌∷◌, ◌++◌, codes, slice_get, if◌then◌else◌, Option, Some, None}
use Rattle.std.specs.List.{flat_map}
use Rattle.std.specs.Fmt.{decimal}
use Rattle.vx_election_model.specs.declared.contest.Contest.{Contest}
use Rattle.vx_election_model.specs.declared.election.Election.{Election}
use Rattle.vx_election_model.specs.declared.reason.Reason.{Reason}
use Rattle.vx_election_model.specs.declared.reason.Reason.TheVariants.{Overvote, Undervote, MarginalMark, BlankBallot, WriteIn}
use Rattle.vx_election_model.specs.declared.reason.ReasonSet.{ReasonSet}
use Rattle.vx_election_model.specs.Reasons.{has_reason}
use Rattle.vx_records.specs.Records.{spaced}
use Rattle.vx_rules.specs.declared.marks.ContestMarks.{ContestMarks}
use Rattle.vx_rules.specs.declared.marks.SheetMarks.{SheetMarks}
use Rattle.vx_rules.specs.Reasons.{is_blank_sheet, reason_word, reasons_of}
use Rattle.vx_scan_model.specs.FaultTexts as page
use Rattle.vx_sheet.specs.Events.{number_limit}
use Rattle.vx_sheet.specs.FaultTexts as sheet
use Rattle.vx_sheet.specs.declared.came.Came.{Came}
use Rattle.vx_sheet.specs.declared.came.Came.TheVariants.{Added, Repeated, Unread, Unpaired, Single, Full, Beyond}

-- a line: its first word, the others each behind a blank, and a line end
abbrev pub line_of : List ℕ → List (List ℕ) → List ℕ
line_of word others = word ++ spaced others ++ 10 ∷ []

-- `reason B N CONTESTID REASON`
abbrev pub reason_line : List ℕ → ℕ → List ℕ → Reason → List ℕ
reason_line batch number contest reason =
    line_of (codes "reason") (batch ∷ decimal number ∷ contest ∷ reason_word reason ∷ [])

-- the line of a reason, if a set has it
abbrev pub line_if_held : List ℕ → ℕ → List ℕ → ReasonSet → Reason → List ℕ
line_if_held batch number contest set reason =
    if has_reason set reason then reason_line batch number contest reason else []

-- a line for each reason of a set, in their order
abbrev pub reason_lines : List ℕ → ℕ → List ℕ → ReasonSet → List ℕ
reason_lines batch number contest set =
    flat_map (line_if_held batch number contest set)
    (Overvote ∷ Undervote ∷ MarginalMark ∷ BlankBallot ∷ WriteIn ∷ [])

-- a line for each enabled reason of a contest that was read so, if the election has it
abbrev pub lines_of_contest : Election → List ℕ → ℕ → Bool → ContestMarks → Option Contest → List ℕ
lines_of_contest election batch number blank marks None = []
lines_of_contest election batch number blank marks (Some contest) =
    reason_lines batch number contest.id (reasons_of contest marks.states blank election.reasons)

-- the same of a contest of a sheet
abbrev pub contest_lines : Election → List ℕ → ℕ → Bool → ContestMarks → List ℕ
contest_lines election batch number blank marks =
    lines_of_contest election batch number blank marks (slice_get election.contests marks.contest)

-- a line for each enabled reason of each contest of a sheet, in order
abbrev pub sheet_reasons : Election → List ℕ → ℕ → SheetMarks → List ℕ
sheet_reasons election batch number sheet =
    flat_map (contest_lines election batch number (is_blank_sheet sheet)) sheet.contests

-- what a sheet came to, in words
abbrev pub came_words : Came → List (List ℕ)
came_words (Added sheet) =
    codes "added" ∷ codes "card" ∷ decimal sheet.card ∷ codes "pages" ∷ decimal sheet.front
    ∷ decimal (sheet.front + 1) ∷ []
came_words Repeated = codes "repeated" ∷ []
came_words (Unread image fault) = codes "unread" ∷ decimal image ∷ page.fault_text fault ∷ []
came_words (Unpaired fault) = codes "unpaired" ∷ sheet.fault_text fault ∷ []
came_words Single = codes "single" ∷ []
came_words (Full count) = codes "full" ∷ decimal count ∷ []
came_words Beyond = codes "beyond" ∷ decimal number_limit ∷ []

-- `sheet B N` and what it came to
abbrev pub sheet_line : List ℕ → ℕ → Came → List ℕ
sheet_line batch number came = line_of (codes "sheet") (batch ∷ decimal number ∷ came_words came)

-- the end of that line
abbrev pub came_text : Came → List ℕ
came_text came = spaced (came_words came) ++ 10 ∷ []

-- the lines of reasons of a sheet that was added
abbrev pub reasons_told : Election → List ℕ → ℕ → Came → List ℕ
reasons_told election batch number (Added sheet) = sheet_reasons election batch number sheet
reasons_told election batch number came = []

-- the lines of a sheet: what it came to, and where it was added the reasons of its contests
unfoldable pub lines_of : Election → List ℕ → ℕ → Came → List ℕ
lines_of election batch number came = sheet_line batch number came ++ reasons_told election batch number came

-- the last line: `counted A added R repeated U unread`
unfoldable pub counted_line : ℕ → ℕ → ℕ → List ℕ
counted_line added repeated unread =
    line_of (codes "counted") (decimal added ∷ codes "added" ∷ decimal repeated ∷ codes "repeated" ∷ decimal unread
    ∷ codes "unread" ∷ [])
