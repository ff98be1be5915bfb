-- The status of `totals` and `audit`: its number, what the program says of it, and what of it the inputs and the devices
-- did.
use Rattle.std.specs.Prelude.{ℕ, Bool, true, false, List, [], ◌++◌, ◌∷◌, codes}
use Rattle.std.specs.Prelude as std
use Rattle.std.specs.Fmt.{decimal}
use Rattle.vx_tally.specs.FaultTexts.{text_of}
use Rattle.vx_tally.specs.declared.fault.ReportFault.{ReportFault}
use Rattle.vx_tally.specs.declared.fault.ReportFault.TheVariants as report
use Rattle.vx_audit.specs.declared.hand.HandFault.{HandFault}
use Rattle.vx_audit.specs.declared.hand.HandFault.TheVariants as hand
use Rattle.vx_command.specs.declared.halt.Halt.{Halt}
use Rattle.vx_command.specs.declared.halt.Halt.TheVariants as halt
use Rattle.vx_command.specs.Acts.{Answer}
use Rattle.vx_audit.specs.declared.status.AuditStatus.{AuditStatus}
use Rattle.vx_audit.specs.declared.status.AuditStatus.TheVariants.{Ok, Usage, NoInput, TooLong, ReadFault, WriteFault, NoMemory, Report, Hand}

-- the answer of a command behind a status; words that are no command did nothing and met no fault, and a report or a
-- hand's line that is refused is no fault of a device: the acts behind it are left out
abbrev pub answer_of : AuditStatus → Answer
answer_of (NoInput word) = std.Err (halt.NoInput word)
answer_of (TooLong word size) = std.Err (halt.TooLong word size)
answer_of ReadFault = std.Err halt.ReadFault
answer_of WriteFault = std.Err halt.WriteFault
answer_of NoMemory = std.Err halt.NoMemory
answer_of status = std.Ok tt

-- a command that ends so has taken all its inputs, and its text was written
abbrev pub is_done : AuditStatus → Bool
is_done Ok = true
is_done status = false

-- a command that ends so has accepted all its inputs and may have written
abbrev pub may_have_written : AuditStatus → Bool
may_have_written Ok = true
may_have_written WriteFault = true
may_have_written NoMemory = true
may_have_written status = false

-- a cause that may halt it
abbrev pub IsStop : Halt → Type 0
IsStop (halt.NoInput word) = Unit {0}
IsStop (halt.TooLong word size) = Unit {0}
IsStop halt.ReadFault = Unit {0}
IsStop halt.WriteFault = Unit {0}
IsStop halt.NoMemory = Unit {0}
IsStop cause = ⊥

-- the status where a report is refused
abbrev pub report_status : ReportFault → AuditStatus
report_status report.OutOfMemory = NoMemory
report_status fault = Report fault

-- the status where what hands read is refused
abbrev pub hand_status : HandFault → AuditStatus
hand_status (hand.BadLine line) = Hand line
hand_status hand.OutOfMemory = NoMemory

-- the number that the program ends with
abbrev pub number_of : AuditStatus → ℕ
number_of Ok = 0
number_of Usage = 1
number_of (NoInput word) = 2
number_of (TooLong word size) = 3
number_of ReadFault = 10
number_of WriteFault = 11
number_of NoMemory = 13
number_of (Report fault) = 14
number_of (Hand line) = 15

-- a status in words
abbrev pub line_of : AuditStatus → List ℕ
line_of Ok = codes "ok"
line_of Usage = codes "usage"
line_of (NoInput word) = codes "no input " ++ decimal word
line_of (TooLong word size) = codes "too long " ++ decimal word ++ 32 ∷ decimal size
line_of ReadFault = codes "read fault"
line_of WriteFault = codes "write fault"
line_of NoMemory = codes "no memory"
line_of (Report fault) = codes "report " ++ text_of fault
line_of (Hand line) = codes "hand " ++ decimal line

-- what the program writes to standard error: a line, but nothing where all was written
abbrev pub message_of : AuditStatus → List ℕ
message_of Ok = []
message_of status = codes "vx: " ++ line_of status ++ 10 ∷ []
