-- What a `ranked` comes to; its status, the number of it, and what the program says of it.
use Rattle.std.specs.Prelude.{ℕ, Bool, true, false, List, [], ◌++◌, ◌∷◌, codes, Option, None, Some, Result}
use Rattle.std.specs.Prelude as std
use Rattle.std.specs.Fmt.{decimal}
use Rattle.vx_election.specs.FaultTexts.{text_of as election_fault_text}
use Rattle.vx_layout.specs.FaultTexts.{layout_fault_text}
use Rattle.vx_refusals.specs.Texts.{journal_text}
use Rattle.vx_command.specs.declared.halt.Halt.{Halt}
use Rattle.vx_command.specs.declared.halt.Halt.TheVariants as halt
use Rattle.vx_command.specs.Acts.{Answer}
use Rattle.vx_ranked.specs.declared.fault.RankedFault.{RankedFault}
use Rattle.vx_ranked.specs.FaultTexts.{text_of}
use Rattle.vx_ranked.specs.declared.status.RankedStatus.{RankedStatus}
use Rattle.vx_ranked.specs.declared.status.RankedStatus.TheVariants.{Ok, Usage, NoInput, TooLong, Election, Layout, Journal, ReadFault, WriteFault, KeeperFault, NoMemory, Ranked}

-- a `ranked` came to its end, where its file may have been refused, or halted before it
abbrev pub Ended : Type 0
Ended = Result (Option RankedFault) Halt

-- the answer of a command that ended so; a file of ranked contests that is refused is no fault of a device: the acts
-- behind it are left out
abbrev pub answer_of : Ended → Answer
answer_of (std.Ok refused) = std.Ok tt
answer_of (std.Err cause) = std.Err cause

-- a `ranked` that ended so has read all its inputs and may have written
abbrev pub may_have_written : Ended → Bool
may_have_written (std.Ok None) = true
may_have_written (std.Err halt.WriteFault) = true
may_have_written (std.Err halt.NoMemory) = true
may_have_written ended = false

-- a cause that may halt a `ranked`
abbrev pub IsStop : Halt → Type 0
IsStop (halt.NoInput word) = Unit {0}
IsStop (halt.TooLong word size) = Unit {0}
IsStop (halt.Election fault) = Unit {0}
IsStop (halt.Layout card fault) = Unit {0}
IsStop (halt.Journal index stop) = Unit {0}
IsStop halt.ReadFault = Unit {0}
IsStop halt.WriteFault = Unit {0}
IsStop halt.KeeperFault = Unit {0}
IsStop halt.NoMemory = Unit {0}
IsStop cause = ⊥

-- what a `ranked` with that status came to; words that are no `ranked` did nothing and met no fault
abbrev pub ended_of : RankedStatus → Ended
ended_of Ok = std.Ok None
ended_of Usage = std.Ok None
ended_of (NoInput word) = std.Err (halt.NoInput word)
ended_of (TooLong word size) = std.Err (halt.TooLong word size)
ended_of (Election fault) = std.Err (halt.Election fault)
ended_of (Layout card fault) = std.Err (halt.Layout card fault)
ended_of (Journal index stop) = std.Err (halt.Journal index stop)
ended_of ReadFault = std.Err halt.ReadFault
ended_of WriteFault = std.Err halt.WriteFault
ended_of KeeperFault = std.Err halt.KeeperFault
ended_of NoMemory = std.Err halt.NoMemory
ended_of (Ranked fault) = std.Ok (Some fault)

-- the number that the program ends with
abbrev pub number_of : RankedStatus → ℕ
number_of Ok = 0
number_of Usage = 1
number_of (NoInput word) = 2
number_of (TooLong word size) = 3
number_of (Election fault) = 4
number_of (Layout card fault) = 5
number_of (Journal index stop) = 9
number_of ReadFault = 10
number_of WriteFault = 11
number_of KeeperFault = 12
number_of NoMemory = 13
number_of (Ranked fault) = 16

-- a status in words
abbrev pub line_of : RankedStatus → List ℕ
line_of Ok = codes "ok"
line_of Usage = codes "usage"
line_of (NoInput word) = codes "no input " ++ decimal word
line_of (TooLong word size) = codes "too long " ++ decimal word ++ 32 ∷ decimal size
line_of (Election fault) = codes "election " ++ election_fault_text fault
line_of (Layout card fault) = codes "layout " ++ decimal card ++ 32 ∷ layout_fault_text fault
line_of (Journal index stop) = codes "journal " ++ decimal index ++ 32 ∷ journal_text stop
line_of ReadFault = codes "read fault"
line_of WriteFault = codes "write fault"
line_of KeeperFault = codes "keeper fault"
line_of NoMemory = codes "no memory"
line_of (Ranked fault) = codes "ranked " ++ text_of fault

-- what the program writes to standard error: a line, but nothing where all was written
abbrev pub message_of : RankedStatus → List ℕ
message_of Ok = []
message_of status = codes "vx: " ++ line_of status ++ 10 ∷ []
