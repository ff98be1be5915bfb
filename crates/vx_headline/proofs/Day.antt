-- The prints of a sheet are counted, and stand in the export.
use Rattle.std.proofs.Common.{◌≡◌, ◌<◌, inl, inr, Bool, List, [], ◌∷◌, refl, sym, ap, subst, arith}
use Rattle.vx_plane.proofs.Pages.{page_of-dark_at}
use Rattle.vx_grid.specs.declared.paper.Paper.{Paper}
use Rattle.vx_grid.specs.declared.paper.Paper.TheVariants.{Letter, Legal}
use Rattle.vx_grid.specs.Paper.{page_height, page_width}
use Rattle.vx_election_model.specs.declared.election.Election.{Election}
use Rattle.vx_layout.specs.declared.pages.PagePlan.{PagePlan}
use Rattle.vx_layout.specs.Printed.{PrintedPage, IsPlanned, bitmap_of, print_of_page}
use Rattle.vx_election_model.specs.Valid.{IsValid}
use Rattle.vx_pbm.specs.Images.{IsWholePage}
use Rattle.vx_pbm.specs.Raster.{IsSized}
use Rattle.vx_scan_model.specs.Fits.{CleanPrintsFit, Fits, no_marks}
use Rattle.vx_sheet.specs.Events.{number_limit}
use Rattle.vx_sheet.specs.Margin.{MarkedSheet, back_of, front_of}
use Rattle.vx_center.specs.Replies.{event_limit}
use Rattle.vx_command.specs.Texts.{broke_off}
use Rattle.vx_command_count.specs.Margin.{key_at}
use Rattle.vx_headline.specs.Day.{IsPrinted, PrintsAreCounted, PrintsAreExported}
use Rattle.vx_headline.specs.Exported.{MarkedPagesAreExported}
use Rattle.vx_headline.specs.Stacks.{ArePictures, Pictured, StacksAreCounted}

sized : (paper : Paper) → IsSized page_width (page_height paper)
sized Letter = record { width_above = omega arith; width_below = omega arith; height_above = omega arith; height_below = omega arith }
sized Legal = record { width_above = omega arith; width_below = omega arith; height_above = omega arith; height_below = omega arith }

-- a printed page is whole
whole-print : (election : Election) (plan : PagePlan) (printed : PrintedPage) → IsWholePage (bitmap_of election plan printed)
whole-print election plan printed = record {
  whole = sym (page_of-dark_at page_width (page_height plan.paper) (print_of_page election plan printed));
  sized = sized plan.paper;
}

has-room : 0 < event_limit
unfolding event_limit
has-room = omega arith

pub has-number : 0 < number_limit
has-number = omega arith

-- a print that no one marked fits its page
fits-print : CleanPrintsFit → (election : Election) (printed : PrintedPage) (plan : PagePlan) (marks : List Bool) → IsValid election → IsPlanned election printed plan
    → marks ≡ no_marks plan → Fits election (bitmap_of election plan printed) printed plan marks
fits-print clean election printed plan marks valid planned none =
    let As : List Bool → Type 0 = λ some. Fits election (bitmap_of election plan printed) printed plan some in
    subst As (sym none) (inl (clean election printed plan valid planned))

-- the two prints of a sheet are its pictures
abbrev pub printed-twice : Election → MarkedSheet → Pictured
printed-twice election sheet = record {
  first = bitmap_of election sheet.front_plan (front_of sheet);
  second = bitmap_of election sheet.back_plan (back_of sheet);
  sheet = sheet;
}

pub are-pictures : CleanPrintsFit → (election : Election) (sheet : MarkedSheet) → IsPrinted election sheet → ArePictures election (printed-twice election sheet)
are-pictures clean election sheet printed = record {
  first_whole = whole-print election sheet.front_plan (front_of sheet);
  second_whole = whole-print election sheet.back_plan (back_of sheet);
  fits = record {
    odd = printed.odd;
    either = inl (
      fits-print clean election (front_of sheet) sheet.front_plan sheet.front_marks printed.valid printed.front_planned printed.no_front_marks,
      fits-print clean election (back_of sheet) sheet.back_plan sheet.back_marks printed.valid printed.back_planned printed.no_back_marks,
    );
  };
}

pub prints-are-counted : CleanPrintsFit → StacksAreCounted → PrintsAreCounted
prints-are-counted clean stacks election sheet batch one printed counts =
    let it : Pictured = printed-twice election sheet in
    stacks election [] [] one [] [] batch (it ∷ []) 0 it refl
    (record {
      name = counts.name;
      workers = counts.workers;
      scans = counts.scan ∷ [];
      is_count = counts.is_count;
      are_scans = (record { pictures = are-pictures clean election sheet printed; is_file = counts.is_file; short = counts.short }, tt);
    })
    refl has-number (record { planned = printed.planned; replays = refl; free = refl }) has-room (inr (ap broke_off counts.well))

pub prints-are-exported : MarkedPagesAreExported → PrintsAreCounted → PrintsAreExported
prints-are-exported exported are_counted election sheet batch one last name moment device printed counts run behind is_export well =
    let it = exported election (one ∷ []) one.left last moment device
    (record { are_runs = (run, refl); is_run = behind; name = name; is_export = is_export; well = well }) in
    let stands = it.marked (key_at batch 0) sheet (are_counted election sheet batch one printed counts) in
    record {
      kept = it.kept;
      are_kept = it.are_kept;
      report = it.report;
      added = stands.0;
      stands = stands.1;
    }
