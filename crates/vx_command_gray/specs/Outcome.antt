-- What `gray` does: it takes scan after scan, of each of which it writes the images as bitmaps.
use Rattle.std.specs.Prelude.{ℕ, ◌+◌, ◌++◌, ◌∷◌, [], List, length, nat_lt, if◌then◌else◌, Option, Some, None}
use Rattle.vx_pbm.specs.Raw.{p4_of}
use Rattle.vx_gray.specs.declared.fault.PgmFault.{PgmFault}
use Rattle.vx_gray.specs.Gray.{Gray, bits_of}
use Rattle.vx_gray.specs.Images.{Images, images_of}
use Rattle.vx_io.specs.Outside.{Files}
use Rattle.vx_command.specs.Acts.{Act, Take, Write, Outcome, input_limit}
use Rattle.vx_command_gray.specs.declared.status.GrayStatus.{GrayStatus}
use Rattle.vx_command_gray.specs.declared.status.GrayStatus.TheVariants.{Ok, NoInput, TooLong, Pgm}
use Rattle.vx_command_gray.specs.Status.{answer_of}

-- the acts of a `gray`, and the status behind the last of them where nothing fails
pub record GrayOutcome : Type 0 where
  pub acts : List Act
  pub ends : GrayStatus

-- the same as that of a command
abbrev pub as_command : GrayOutcome → Outcome
as_command outcome = record { acts = outcome.acts; ends = answer_of outcome.ends }

-- a `gray` that ends here
abbrev pub ended : GrayStatus → GrayOutcome
ended status = record { acts = []; ends = status }

-- acts before those of an outcome
abbrev pub after : List Act → GrayOutcome → GrayOutcome
after acts outcome = record { acts = acts ++ outcome.acts; ends = outcome.ends }

-- the bitmaps of pages are written in order
abbrev pub page_acts : List Gray → List Act
page_acts [] = []
page_acts (page ∷ pages) = Write (p4_of (bits_of page)) ∷ page_acts pages

-- what comes after the images of the scan of a word, unless a fault ended them
abbrev pub unless_faulty : ℕ → Option PgmFault → GrayOutcome → GrayOutcome
unless_faulty word None next = next
unless_faulty word (Some fault) next = ended (Pgm word fault)

-- the images of the scan of a word, and then what comes next
abbrev pub scan_outcome : ℕ → Images → GrayOutcome → GrayOutcome
scan_outcome word images next = after (page_acts images.pages) (unless_faulty word images.fault next)

-- the input of a word is taken, and what comes next with its bytes
abbrev pub once_taken : ℕ → Option (List ℕ) → (List ℕ → GrayOutcome) → GrayOutcome
once_taken word None rest = after (Take word ∷ []) (ended (NoInput word))
once_taken word (Some bytes) rest =
    after (Take word ∷ []) (if nat_lt input_limit (length bytes) then ended (TooLong word (length bytes)) else rest bytes)

-- the scans that the words from one on name
abbrev pub scans_outcome : Files → ℕ → List (List ℕ) → GrayOutcome
scans_outcome files word [] = ended Ok
scans_outcome files word (name ∷ names) =
    once_taken word (files name) (λ bytes. scan_outcome word (images_of bytes) (scans_outcome files (word + 1) names))

-- a `gray` of scans, the first of which is word 1
abbrev pub gray_outcome : List (List ℕ) → Files → GrayOutcome
gray_outcome scans files = scans_outcome files 1 scans
