-- Why a command halts whose step is refused. Want of memory is the same for all.
use Rattle.std.specs.Prelude.{ℕ}
use Rattle.vx_election.specs.declared.fault.ElectionFault.{ElectionFault}
use Rattle.vx_election.specs.declared.fault.ElectionFault.TheVariants as election
use Rattle.vx_io.specs.declared.taking.TakeFault.{TakeFault}
use Rattle.vx_io.specs.declared.taking.TakeFault.TheVariants as taking
use Rattle.vx_layout.specs.declared.fault.CardFault.{CardFault}
use Rattle.vx_layout.specs.declared.fault.LayoutFault.{LayoutFault}
use Rattle.vx_layout.specs.declared.fault.LayoutFault.TheVariants as layout
use Rattle.vx_pbm.specs.declared.fault.PbmFault.{PbmFault}
use Rattle.vx_pbm.specs.declared.fault.PbmFault.TheVariants as bitmap
use Rattle.vx_command.specs.declared.halt.Halt.{Halt}
use Rattle.vx_command.specs.declared.halt.Halt.TheVariants.{NoInput, TooLong, Election, Layout, Pbm, ReadFault, NoMemory}

-- the input of a word wasn't taken
abbrev pub taking_halt : ℕ → TakeFault → Halt
taking_halt word taking.Failed = ReadFault
taking_halt word taking.NoInput = NoInput word
taking_halt word (taking.TooLong size) = TooLong word size
taking_halt word taking.OutOfMemory = NoMemory

-- an election definition is refused
abbrev pub election_halt : ElectionFault → Halt
election_halt election.OutOfMemory = NoMemory
election_halt fault = Election fault

-- a card can't be laid out
abbrev pub layout_halt : ℕ → LayoutFault → Halt
layout_halt card layout.OutOfMemory = NoMemory
layout_halt card fault = Layout card fault

abbrev pub card_halt : CardFault → Halt
card_halt refused = layout_halt refused.card refused.fault

-- the scan input of a word leaves the grammar of bitmaps
abbrev pub bitmap_halt : ℕ → PbmFault → Halt
bitmap_halt word bitmap.OutOfMemory = NoMemory
bitmap_halt word fault = Pbm word fault
