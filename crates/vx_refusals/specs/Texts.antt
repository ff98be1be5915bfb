-- Why readings, scripts and journals are refused, as text: a fault's number, and its values with blanks between.
use Rattle.std.specs.Prelude.{ℕ, List, [], ◌++◌, ◌∷◌, Option, None, Some, codes}
use Rattle.std.specs.Fmt.{decimal, signed_decimal}
use Rattle.vx_grid.specs.declared.paper.Paper.{Paper}
use Rattle.vx_grid.specs.declared.paper.Paper.TheVariants.{Letter, Legal}
use Rattle.vx_grid.specs.declared.places.Point.{Point}
use Rattle.vx_refusals.specs.declared.checking.CheckFault.{CheckFault}
use Rattle.vx_refusals.specs.declared.checking.CheckFault.TheVariants.{MarkAt, StepAt, CornerAt, CodeAt, ScoreAt, StateAt, FrameSize, PaperAt}
use Rattle.vx_refusals.specs.declared.decision.DecisionFault.{DecisionFault}
use Rattle.vx_refusals.specs.declared.decision.DecisionFault.TheVariants as script
use Rattle.vx_refusals.specs.declared.journal.JournalStop.{JournalStop}
use Rattle.vx_refusals.specs.declared.journal.JournalStop.TheVariants as journal
use Rattle.vx_refusals.specs.declared.readings.CertFault.{CertFault}
use Rattle.vx_refusals.specs.declared.readings.CertFault.TheVariants.{Page, Line, Pages}
use Rattle.vx_refusals.specs.ReplyTexts.{reply_text}

-- a value that may be missing
abbrev pub value_text : Option ℕ → List ℕ
value_text None = 45 ∷ []
value_text (Some value) = decimal value

-- a place: its column and its row
abbrev pub place_text : Point → List ℕ
place_text p = signed_decimal p.u ++ 32 ∷ signed_decimal p.v

abbrev pub paper_word : Paper → List ℕ
paper_word Letter = codes "letter"
paper_word Legal = codes "legal"

-- the first test of a reading that fails
abbrev pub check_text : CheckFault → List ℕ
check_text (MarkAt k place deficit) = codes "1 " ++ decimal k ++ 32 ∷ place_text place ++ 32 ∷ decimal deficit
check_text (StepAt k du dv) = codes "2 " ++ decimal k ++ 32 ∷ signed_decimal du ++ 32 ∷ signed_decimal dv
check_text (CornerAt place) = codes "3 " ++ place_text place
check_text (CodeAt bit) = codes "4 " ++ decimal bit
check_text (ScoreAt j said counted) = codes "5 " ++ decimal j ++ 32 ∷ value_text said ++ 32 ∷ value_text counted
check_text (StateAt j) = codes "6 " ++ decimal j
check_text (FrameSize width height) = codes "7 " ++ decimal width ++ 32 ∷ decimal height
check_text (PaperAt said) = codes "8 " ++ paper_word said

-- why readings aren't certified
abbrev pub readings_text : CertFault → List ℕ
readings_text (Page page fault) = codes "page " ++ decimal page ++ 32 ∷ check_text fault
readings_text (Line line) = codes "line " ++ decimal line
readings_text (Pages said held) = codes "pages " ++ decimal said ++ 32 ∷ decimal held

-- why a line of a script is refused
abbrev pub decision_text : DecisionFault → List ℕ
decision_text script.Bad = codes "bad"
decision_text (script.Refused reply) = reply_text reply

-- why a journal's record is refused
abbrev pub journal_text : JournalStop → List ℕ
journal_text (journal.Bad at) = codes "bad " ++ decimal at
journal_text (journal.Refused reply) = reply_text reply
journal_text journal.OtherElection = codes "other election"
journal_text journal.Unfit = codes "unfit"
