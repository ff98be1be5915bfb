-- What images are read as.
use Rattle.std.specs.Prelude.{◌≡◌, IfOk, Result}
use Rattle.vx_plane.specs.Plane.{Page}
use Rattle.vx_election_model.specs.declared.election.Election.{Election}
use Rattle.vx_scan_model.specs.declared.fault.PageFault.{PageFault}
use Rattle.vx_scan_model.specs.declared.reading.PageReading.{PageReading}
use Rattle.vx_scan_model.specs.Reading.{reading_of}
use Rattle.vx_sheet.specs.Shows.{IsOfPage}

-- this is what an image is read as; a reading is of a planned page
pub record IsReadOf (election : Election) (image : Page) (read : Result PageReading PageFault) : Type 0 where
  pub is : read ≡ reading_of election image
  pub of_page : IfOk read (IsOfPage election)
