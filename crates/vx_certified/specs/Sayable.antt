-- What `read` writes of an image stays within the grammar of readings.
use Rattle.std.specs.Prelude.{◌≡◌, Ok}
use Rattle.vx_plane.specs.Plane.{Page}
use Rattle.vx_code.specs.Code.{tag_of}
use Rattle.vx_election_model.specs.declared.election.Election.{Election}
use Rattle.vx_election_model.specs.Valid.{IsValid}
use Rattle.vx_scan_model.specs.declared.reading.PageReading.{PageReading}
use Rattle.vx_scan_model.specs.declared.fault.PageFault.{PageFault}
use Rattle.vx_scan_model.specs.FaultTexts.{fault_text}
use Rattle.vx_scan_model.specs.Reading.{named_plan, reading_of}
use Rattle.vx_readings.specs.Laws.{IsSayable, IsOneLine}
use Rattle.vx_readings.specs.ReadingText.{bubbles_on}

-- what a scan is read as has the numbers that a block can say
abbrev pub ReadingsAreSayable : Type 0
ReadingsAreSayable =
    (election : Election) (scan : Page) (reading : PageReading) → IsValid election → reading_of election scan ≡ Ok reading
    → IsSayable election.paper (tag_of election.digest) (bubbles_on (named_plan election reading.code)) reading

-- the text of every fault stands on one line
abbrev pub FaultsAreOneLine : Type 0
FaultsAreOneLine = (fault : PageFault) → IsOneLine (fault_text fault)
