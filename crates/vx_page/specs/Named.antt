-- What a reading of a planned page has, and what a call that reads one may answer.
use Rattle.std.specs.Prelude.{◌≡◌, length, Result, Ok, Err}
use Rattle.std.specs.Borrow.{Bor}
use Rattle.vx_base.specs.Refusals.{Unless}
use Rattle.vx_plane.specs.Plane.{Page}
use Rattle.vx_election_model.specs.declared.election.Election.{Election}
use Rattle.vx_layout.specs.declared.pages.PagePlan.{PagePlan}
use Rattle.vx_scan_model.specs.declared.reading.PageReading.{PageReading}
use Rattle.vx_scan_model.specs.declared.fault.PageFault.{PageFault}
use Rattle.vx_scan_model.specs.Faults.{is_no_memory}
use Rattle.vx_scan_model.specs.Reading.{reading_of, named_plan}

-- a reading is of the planned page that its code names, with a score and a state for each bubble
pub record IsOfPlan (election : Election) (reading : PageReading) (plan : PagePlan) : Type 0 where
  pub named : named_plan election reading.code ≡ Ok plan
  pub scores : length reading.scores ≡ length plan.bubbles
  pub states : length reading.states ≡ length plan.bubbles

-- it is of some planned page
pub record IsOfAPlan (election : Election) (reading : PageReading) : Type 0 where
  pub plan : PagePlan
  pub of_plan : IsOfPlan election reading plan

-- a call gives what the definition says, with the plan of its page, unless memory ran out
abbrev pub GivesOnPlan : Election → Result PageReading PageFault → Result (PageReading × Bor PagePlan) PageFault → Type 0
GivesOnPlan election defined (Ok given) = (defined ≡ Ok given.0) × IsOfPlan election given.0 given.1.now
GivesOnPlan election defined (Err fault) = Unless (is_no_memory fault) (defined ≡ Err fault)

-- the reading of a scan with the plan of its page, or its first fault
abbrev pub GivesWithPlan : Election → Page → Result (PageReading × Bor PagePlan) PageFault → Type 0
GivesWithPlan election page given = GivesOnPlan election (reading_of election page) given
