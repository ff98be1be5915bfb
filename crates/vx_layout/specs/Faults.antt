-- Which refusals of a layout are want of memory.
use Rattle.std.specs.Prelude.{Bool, true, false}
use Rattle.vx_layout.specs.declared.fault.CardFault.{CardFault}
use Rattle.vx_layout.specs.declared.fault.LayoutFault.{LayoutFault}
use Rattle.vx_layout.specs.declared.fault.LayoutFault.TheVariants.{ContestTooTall, TextTooLong, TooManyPages, NoCard, OutOfMemory}

-- want of memory
abbrev pub is_no_memory : LayoutFault → Bool
is_no_memory OutOfMemory = true
is_no_memory (ContestTooTall id rows) = false
is_no_memory (TextTooLong id size) = false
is_no_memory (TooManyPages pages) = false
is_no_memory (NoCard cards) = false

-- want of memory at a card
abbrev pub is_card_no_memory : CardFault → Bool
is_card_no_memory refusal = is_no_memory refusal.fault
