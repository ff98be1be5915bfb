use Rattle.std.proofs.Common.{◌≡◌, ap₂, ◌∙◌, sym, ℕ, false}
use Rattle.vx_plane.specs.Plane.{Page}
use Rattle.vx_election_model.specs.declared.election.Election.{Election}
use Rattle.vx_scan_model.specs.Reading.{is_allowed, reading_of}
use Rattle.vx_page.proofs.Margin.{reads-what_fits}
use Rattle.std.specs.Prelude.{Result, Ok, Err}
use Rattle.std.proofs.lemmas.Bool.{false≢true}
use Rattle.vx_scan_model.specs.declared.reading.PageReading.{PageReading}
use Rattle.vx_scan_model.specs.declared.fault.PageFault.{PageFault}
use Rattle.vx_scan_model.specs.declared.fault.PageFault.TheVariants.{FrameSize}
use Rattle.vx_page.proofs.Answered.{reading-not_allowed, gives-no_frame}
use Rattle.vx_page.proofs.page.read_page.Goals as goal

-- the fault of a frame that isn't allowed
frame : (election : Election) (page : Page) (width height : ℕ) → is_allowed election.paper page ≡ false → width ≡ page.width → height ≡ page.height → reading_of election page ≡ Err (FrameSize width height)
frame election page width height not_allowed wide high =
    let size : ℕ → ℕ → Result PageReading PageFault = λ w h. Err (FrameSize w h) in
    reading-not_allowed election page not_allowed ∙ ap₂ size (sym wide) (sym high)

pub returns-then-not-is_allowed-clause-exact : goal.returns-then-not-is_allowed-clause-exact
returns-then-not-is_allowed-clause-exact c =
    frame c.args.election.now c.args.page.now c.width-width.result c.height-height.result (sym c.if-not-is_allowed.ensures) c.width-width.ensures.value c.height-height.ensures.value

pub returns-then-not-is_allowed-clause-margin : goal.returns-then-not-is_allowed-clause-margin
returns-then-not-is_allowed-clause-margin c =
    reads-what_fits c.fitting_scans_are_read.ensures.read c.args.election.now c.args.page.now (Err (FrameSize c.width-width.result c.height-height.result)) c.requires.election c.width-width.ensures.whole
    (frame c.args.election.now c.args.page.now c.width-width.result c.height-height.result (sym c.if-not-is_allowed.ensures) c.width-width.ensures.value c.height-height.ensures.value)

pub returns-in-Ok : goal.returns-in-Ok
returns-in-Ok c =
    let allowed = sym c.if-not-is_allowed.ensures in
    record {
      exact = c.in-Ok.ensures.0;
      frame = λ width height. (
        λ h. absurd (gives-no_frame c.args.election.now c.args.page.now (Ok c.in-Ok.reading) width height allowed c.in-Ok.ensures.0 h),
        λ h. absurd (false≢true (sym h.0 ∙ allowed)),
      );
      planned = record { plan = _; of_plan = c.in-Ok.ensures.1 };
      margin = reads-what_fits c.fitting_scans_are_read.ensures.read c.args.election.now c.args.page.now (Ok c.in-Ok.reading) c.requires.election c.width-width.ensures.whole c.in-Ok.ensures.0;
    }

pub returns : goal.returns
returns c =
    let allowed = sym c.if-not-is_allowed.ensures in
    record {
      exact = c.in-Err.ensures;
      frame = λ width height. (
        λ h. absurd (gives-no_frame c.args.election.now c.args.page.now (Err c.in-Err.fault) width height allowed c.in-Err.ensures h),
        λ h. absurd (false≢true (sym h.0 ∙ allowed)),
      );
      planned = tt;
      margin = reads-what_fits c.fitting_scans_are_read.ensures.read c.args.election.now c.args.page.now (Err c.in-Err.fault) c.requires.election c.width-width.ensures.whole c.in-Err.ensures;
    }
