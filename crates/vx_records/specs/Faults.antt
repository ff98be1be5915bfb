-- What is answered of a record, with its place in the journal.
use Rattle.std.specs.Prelude.{ℕ, Bool, true, false, List, Result, Ok, Err}
use Rattle.vx_events.specs.declared.event.Event.{Event}
use Rattle.vx_records.specs.declared.decoding.JournalFault.{JournalFault}
use Rattle.vx_records.specs.declared.decoding.JournalFault.TheVariants.{BadRecord, OutOfMemory}
use Rattle.vx_records.specs.Reading.{event_in, digest_in}

abbrev pub is_no_memory : JournalFault → Bool
is_no_memory (BadRecord index at) = false
is_no_memory OutOfMemory = true

-- a refusal with the record's place
abbrev pub placed : {A : Type 0} → ℕ → Result A ℕ → Result A JournalFault
placed index (Ok value) = Ok value
placed index (Err at) = Err (BadRecord index at)

-- what `decode` answers, but for memory
abbrev pub decoded : ℕ → List ℕ → Result Event JournalFault
decoded index body = placed index (event_in body)

-- what `header_digest` answers, but for memory
abbrev pub digested : List ℕ → Result (List ℕ) JournalFault
digested body = placed 0 (digest_in body)
