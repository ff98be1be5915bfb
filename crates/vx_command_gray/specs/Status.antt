-- The status of a `gray`: its number, what the program says of it, and what of it the inputs and the devices did.
use Rattle.std.specs.Prelude.{ℕ, Bool, true, false, List, [], ◌++◌, ◌∷◌, codes}
use Rattle.std.specs.Prelude as std
use Rattle.std.specs.Fmt.{decimal}
use Rattle.vx_gray.specs.FaultTexts.{pgm_fault_text}
use Rattle.vx_command.specs.declared.halt.Halt.{Halt}
use Rattle.vx_command.specs.declared.halt.Halt.TheVariants as halt
use Rattle.vx_command.specs.Acts.{Answer}
use Rattle.vx_command_gray.specs.declared.status.GrayStatus.{GrayStatus}
use Rattle.vx_command_gray.specs.declared.status.GrayStatus.TheVariants.{Ok, Usage, NoInput, TooLong, ReadFault, WriteFault, NoMemory, Pgm}

-- the answer of a command behind a status; words that are no command did nothing and met no fault, and a scan that
-- leaves its grammar is no fault of a device: the acts behind it are left out
abbrev pub answer_of : GrayStatus → Answer
answer_of (NoInput word) = std.Err (halt.NoInput word)
answer_of (TooLong word size) = std.Err (halt.TooLong word size)
answer_of ReadFault = std.Err halt.ReadFault
answer_of WriteFault = std.Err halt.WriteFault
answer_of NoMemory = std.Err halt.NoMemory
answer_of status = std.Ok tt

-- whether a `gray` did all its work; one that ends otherwise may have stopped before its last scan
abbrev pub ends_well : GrayStatus → Bool
ends_well Ok = true
ends_well status = false

-- a cause that may halt a `gray`
abbrev pub IsStop : Halt → Type 0
IsStop (halt.NoInput word) = Unit {0}
IsStop (halt.TooLong word size) = Unit {0}
IsStop halt.ReadFault = Unit {0}
IsStop halt.WriteFault = Unit {0}
IsStop halt.NoMemory = Unit {0}
IsStop cause = ⊥

-- the number that the program ends with
abbrev pub number_of : GrayStatus → ℕ
number_of Ok = 0
number_of Usage = 1
number_of (NoInput word) = 2
number_of (TooLong word size) = 3
number_of ReadFault = 10
number_of WriteFault = 11
number_of NoMemory = 13
number_of (Pgm word fault) = 17

-- a status in words
abbrev pub line_of : GrayStatus → List ℕ
line_of Ok = codes "ok"
line_of Usage = codes "usage"
line_of (NoInput word) = codes "no input " ++ decimal word
line_of (TooLong word size) = codes "too long " ++ decimal word ++ 32 ∷ decimal size
line_of ReadFault = codes "read fault"
line_of WriteFault = codes "write fault"
line_of NoMemory = codes "no memory"
line_of (Pgm word fault) = codes "pgm " ++ decimal word ++ 32 ∷ pgm_fault_text fault

-- what the program writes to standard error: a line, but nothing where all was written
abbrev pub message_of : GrayStatus → List ℕ
message_of Ok = []
message_of status = codes "vx: " ++ line_of status ++ 10 ∷ []
