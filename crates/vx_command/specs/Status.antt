-- The status of a command's answer, its number, and what the program says of it.
use Rattle.std.specs.Prelude.{ℕ, List, [], ◌++◌, ◌∷◌, codes}
use Rattle.std.specs.Prelude as std
use Rattle.std.specs.Fmt.{decimal}
use Rattle.vx_election.specs.FaultTexts.{text_of}
use Rattle.vx_layout.specs.FaultTexts.{layout_fault_text}
use Rattle.vx_pbm.specs.FaultTexts.{pbm_fault_text}
use Rattle.vx_refusals.specs.Texts.{readings_text, decision_text, journal_text}
use Rattle.vx_command.specs.Causes.{sheet_text}
use Rattle.vx_command.specs.declared.halt.Halt.{Halt}
use Rattle.vx_command.specs.declared.halt.Halt.TheVariants as halt
use Rattle.vx_command.specs.declared.status.Status.{Status}
use Rattle.vx_command.specs.declared.status.Status.TheVariants.{Ok, Usage, NoInput, TooLong, Election, Layout, Pbm, NotCertified, Decision, Journal, ReadFault, WriteFault, KeeperFault, NoMemory, Hand, TooManyEvents, NoSheet}
use Rattle.vx_command.specs.Acts.{Answer}

-- the status of a command that halts
abbrev pub halted_status : Halt → Status
halted_status (halt.NoInput word) = NoInput word
halted_status (halt.TooLong word size) = TooLong word size
halted_status (halt.Election fault) = Election fault
halted_status (halt.Layout card fault) = Layout card fault
halted_status (halt.Pbm word fault) = Pbm word fault
halted_status (halt.NotCertified fault) = NotCertified fault
halted_status (halt.Decision line fault) = Decision line fault
halted_status (halt.Journal index stop) = Journal index stop
halted_status (halt.TooManyEvents word count) = TooManyEvents word count
halted_status (halt.NoSheet number cause) = NoSheet number cause
halted_status (halt.Hand line) = Hand line
halted_status halt.ReadFault = ReadFault
halted_status halt.WriteFault = WriteFault
halted_status halt.KeeperFault = KeeperFault
halted_status halt.NoMemory = NoMemory

-- the status that an answer ends the program with
abbrev pub status_of : Answer → Status
status_of (std.Ok done) = Ok
status_of (std.Err cause) = halted_status cause

-- the answer behind a status; words that are no command did nothing and met no fault
abbrev pub answer_of : Status → Answer
answer_of Ok = std.Ok tt
answer_of Usage = std.Ok tt
answer_of (NoInput word) = std.Err (halt.NoInput word)
answer_of (TooLong word size) = std.Err (halt.TooLong word size)
answer_of (Election fault) = std.Err (halt.Election fault)
answer_of (Layout card fault) = std.Err (halt.Layout card fault)
answer_of (Pbm word fault) = std.Err (halt.Pbm word fault)
answer_of (NotCertified fault) = std.Err (halt.NotCertified fault)
answer_of (Decision line fault) = std.Err (halt.Decision line fault)
answer_of (Journal index stop) = std.Err (halt.Journal index stop)
answer_of (TooManyEvents word count) = std.Err (halt.TooManyEvents word count)
answer_of (NoSheet number cause) = std.Err (halt.NoSheet number cause)
answer_of (Hand line) = std.Err (halt.Hand line)
answer_of ReadFault = std.Err halt.ReadFault
answer_of WriteFault = std.Err halt.WriteFault
answer_of KeeperFault = std.Err halt.KeeperFault
answer_of NoMemory = std.Err halt.NoMemory

-- the number that the program ends with
abbrev pub number_of : Status → ℕ
number_of Ok = 0
number_of Usage = 1
number_of (NoInput word) = 2
number_of (TooLong word size) = 3
number_of (Election fault) = 4
number_of (Layout card fault) = 5
number_of (Pbm word fault) = 6
number_of (NotCertified fault) = 7
number_of (Decision line fault) = 8
number_of (Journal index stop) = 9
number_of ReadFault = 10
number_of WriteFault = 11
number_of KeeperFault = 12
number_of NoMemory = 13
number_of (Hand line) = 15
number_of (TooManyEvents word count) = 18
number_of (NoSheet number cause) = 19

-- a status in words
abbrev pub line_of : Status → List ℕ
line_of Ok = codes "ok"
line_of Usage = codes "usage"
line_of (NoInput word) = codes "no input " ++ decimal word
line_of (TooLong word size) = codes "too long " ++ decimal word ++ 32 ∷ decimal size
line_of (Election fault) = codes "election " ++ text_of fault
line_of (Layout card fault) = codes "layout " ++ decimal card ++ 32 ∷ layout_fault_text fault
line_of (Pbm word fault) = codes "pbm " ++ decimal word ++ 32 ∷ pbm_fault_text fault
line_of (NotCertified fault) = codes "not certified " ++ readings_text fault
line_of (Decision line fault) = codes "decision line " ++ decimal line ++ 32 ∷ decision_text fault
line_of (Journal index stop) = codes "journal " ++ decimal index ++ 32 ∷ journal_text stop
line_of (TooManyEvents word count) = codes "too many events " ++ decimal word ++ 32 ∷ decimal count
line_of (NoSheet number cause) = codes "sheet " ++ decimal number ++ 32 ∷ sheet_text cause
line_of (Hand line) = codes "hand " ++ decimal line
line_of ReadFault = codes "read fault"
line_of WriteFault = codes "write fault"
line_of KeeperFault = codes "keeper fault"
line_of NoMemory = codes "no memory"

-- what the program writes to standard error: a line, but nothing where the command did its work
abbrev pub message_of : Status → List ℕ
message_of Ok = []
message_of status = codes "vx: " ++ line_of status ++ 10 ∷ []
