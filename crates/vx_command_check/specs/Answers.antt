-- What `check` answers of one page: a line, or why it halts there.
use Rattle.std.specs.Prelude.{ℕ, ◌+◌, ◌==◌, ◌&&◌, Bool, false, if◌then◌else◌, List, [], ◌∷◌, drop, codes, Option, Some, None, Result, Ok, Err}
use Rattle.std.specs.Fmt.{decimal}
use Rattle.vx_base.specs.Results.{◌>>=◌}
use Rattle.vx_plane.specs.Plane.{Page as Bitmap}
use Rattle.vx_election_model.specs.declared.election.Election.{Election}
use Rattle.vx_layout.specs.declared.bubbles.Bubble.{Bubble}
use Rattle.vx_scan_model.specs.Named.{named_plan}
use Rattle.vx_refusals.specs.declared.readings.CertFault.TheVariants as cert
use Rattle.vx_check.specs.Tests.{Tested, tested}
use Rattle.vx_readings.specs.declared.fault.ReadingsFault.{ReadingsFault}
use Rattle.vx_readings.specs.declared.fault.ReadingsFault.TheVariants as readings
use Rattle.vx_readings.specs.declared.said.BubbleName.{BubbleName}
use Rattle.vx_readings.specs.declared.said.SaidReading.{SaidReading}
use Rattle.vx_readings.specs.declared.said.SaidPage.{SaidPage}
use Rattle.vx_readings.specs.declared.said.SaidPage.TheVariants.{NoReading, Reading}
use Rattle.vx_readings.specs.ReadingText.{line_of, bubbles_on}
use Rattle.vx_command.specs.declared.halt.Halt.{Halt}
use Rattle.vx_command.specs.declared.halt.Halt.TheVariants.{NotCertified, NoMemory}

-- the line of a page that is certified, and of one that the readings say couldn't be read
abbrev pub certified_line : ℕ → List ℕ
certified_line number = line_of (codes "page" ∷ decimal number ∷ codes "certified" ∷ [])

abbrev pub no_reading_line : ℕ → List ℕ
no_reading_line number = line_of (codes "page" ∷ decimal number ∷ codes "no" ∷ codes "reading" ∷ [])

-- a line of the readings leaves the grammar
abbrev pub readings_halt : ReadingsFault → Halt
readings_halt (readings.Line line) = NotCertified (cert.Line line)
readings_halt readings.OutOfMemory = NoMemory

-- a line names the first of some bubbles
abbrev pub is_named : BubbleName → List Bubble → Bool
is_named name [] = false
is_named name (bubble ∷ bubbles) = (name.contest == bubble.contest) && (name.option == bubble.option)

-- the first line, from one on, that names another bubble than the plan
abbrev pub other_name : ℕ → List BubbleName → List Bubble → Option ℕ
other_name line [] bubbles = None
other_name line (name ∷ names) bubbles =
    if is_named name bubbles then other_name (line + 1) names (drop 1 bubbles) else Some line

-- a page's reading that is accepted, or why not
abbrev pub reading_halt : ℕ → Tested → Result (Unit {0}) Halt
reading_halt number (Ok done) = Ok tt
reading_halt number (Err fault) = Err (NotCertified (cert.Page number fault))

-- no line names another bubble, or one does
abbrev pub name_halt : Option ℕ → Result (Unit {0}) Halt
name_halt None = Ok tt
name_halt (Some line) = Err (NotCertified (cert.Line line))

-- the bubbles that a block's lines name are those of the page that it says
abbrev pub names_checked : Election → SaidReading → Result (Unit {0}) Halt
names_checked election said =
    name_halt (other_name said.first_bubble said.names (bubbles_on (named_plan election said.reading.code)))

-- a said reading is a certificate of the page, and then its lines name the bubbles of the page that it says
unfoldable pub reading_checked : Election → ℕ → Bitmap → SaidReading → Result (Unit {0}) Halt
reading_checked election number image said =
    reading_halt number (tested election image said.reading) >>= (λ _. names_checked election said)

-- the line of a page with what the readings say of it, or why `check` halts there
abbrev pub page_answer : Election → ℕ → Bitmap → SaidPage → Result (List ℕ) Halt
page_answer election number image NoReading = Ok (no_reading_line number)
page_answer election number image (Reading said) =
    reading_checked election number image said >>= (λ _. Ok (certified_line number))
