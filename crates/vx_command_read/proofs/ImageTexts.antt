-- What is written of an image is its text.
use Rattle.std.proofs.Common.{◌≡◌, ℕ, false, sym, ap, ◌∙◌}
use Rattle.std.specs.Prelude.{Result, Ok, Err}
use Rattle.vx_base.specs.Refusals.{Unless}
use Rattle.vx_base.proofs.Results.{Unless-no}
use Rattle.vx_plane.specs.Plane.{Page}
use Rattle.vx_election_model.specs.declared.election.Election.{Election}
use Rattle.vx_layout.specs.declared.pages.PagePlan.{PagePlan}
use Rattle.vx_scan_model.specs.declared.reading.PageReading.{PageReading}
use Rattle.vx_scan_model.specs.declared.fault.PageFault.{PageFault}
use Rattle.vx_scan_model.specs.Faults.{is_no_memory}
use Rattle.vx_scan_model.specs.Reading.{reading_of, named_plan}
use Rattle.vx_readings.specs.ReadingText.{block_text, fault_line, bubbles_on, reading_text, image_text}

-- what a reading's block says is what `read` writes
pub image_text-read : (election : Election) (number : ℕ) (page : Page) (reading : PageReading) (plan : PagePlan) → reading_of election page ≡ Ok reading → named_plan election reading.code ≡ Ok plan → block_text number plan.bubbles reading ≡ image_text election number page
unfolding image_text
image_text-read election number page reading plan is named =
    ap (λ (on : Result PagePlan PageFault). block_text number (bubbles_on on) reading) (sym named) ∙ ap (reading_text election number) (sym is)

-- what a fault's line says is what `read` writes
pub image_text-fault : (election : Election) (number : ℕ) (page : Page) (fault : PageFault) → Unless (is_no_memory fault) (reading_of election page ≡ Err fault) → is_no_memory fault ≡ false → fault_line number fault ≡ image_text election number page
unfolding image_text
image_text-fault election number page fault is known = ap (reading_text election number) (sym (Unless-no (is_no_memory fault) known is))
