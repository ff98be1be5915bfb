-- Sums of pages and sheets, and then of more of them; and how large they may become.
use Rattle.std.specs.Prelude.{ℕ, ◌≤◌, ◌+◌, ◌*◌, ◌^◌, List, pos, ◌+ℤ◌, Bool, Result, Ok, Err}
use Rattle.vx_plane.specs.Plane.{Page}
pub use Rattle.vx_plane.specs.Count.{one_if}
use Rattle.vx_grid.specs.Places.{IsWithin}
use Rattle.vx_election_model.specs.declared.election.Election.{Election}
use Rattle.vx_election_model.specs.declared.reason.Reason.TheVariants.{Overvote, Undervote, MarginalMark, BlankBallot, WriteIn}
use Rattle.vx_layout.specs.Printed.{PrintedPage}
use Rattle.vx_rules.specs.declared.marks.SheetMarks.{SheetMarks}
use Rattle.vx_sheet.specs.declared.came.Came.{Came}
use Rattle.vx_scan_model.specs.declared.reading.PageReading.{PageReading}
use Rattle.vx_scan_model.specs.declared.fault.PageFault.{PageFault}
use Rattle.vx_command_demo.specs.declared.sums.PageSums.{PageSums}
use Rattle.vx_command_demo.specs.declared.sums.ReasonSums.{ReasonSums}
use Rattle.vx_command_demo.specs.declared.counted.Counted.{Counted}
use Rattle.vx_command_demo.specs.Trials.{Trial}
use Rattle.vx_command_demo.specs.Sums.{says, contests_with, is_accepted, marks_read, columns_read, rows_read, scores_read, of_reading, page_sums, reason_sums}
use Rattle.vx_command_demo.specs.Summary.{pages_in}

-- sums of no page, and of no sheet
abbrev pub no_pages : PageSums
no_pages = record { pages = 0; as_truth = 0; certified = 0; marks = 0; columns = pos 0; rows = pos 0; scores = 0 }

abbrev pub no_reasons : ReasonSums
no_reasons = record { overvote = 0; undervote = 0; marginal = 0; blank = 0; write_in = 0 }

abbrev pub nothing : Counted
nothing = record { pages = no_pages; reasons = no_reasons }

-- sums of pages, and of more
abbrev pub both_pages : PageSums → PageSums → PageSums
both_pages some more = record {
  pages = some.pages + more.pages;
  as_truth = some.as_truth + more.as_truth;
  certified = some.certified + more.certified;
  marks = some.marks + more.marks;
  columns = some.columns +ℤ more.columns;
  rows = some.rows +ℤ more.rows;
  scores = some.scores + more.scores;
}

-- sums of sheets, and of more
abbrev pub both_reasons : ReasonSums → ReasonSums → ReasonSums
both_reasons some more = record {
  overvote = some.overvote + more.overvote;
  undervote = some.undervote + more.undervote;
  marginal = some.marginal + more.marginal;
  blank = some.blank + more.blank;
  write_in = some.write_in + more.write_in;
}

-- all that is counted of sheets
abbrev pub counted_of : Election → List (List Trial) → Counted
counted_of election sheets =
    record { pages = page_sums election (pages_in sheets); reasons = reason_sums election sheets }

abbrev pub both : Counted → Counted → Counted
both some more =
    record { pages = both_pages some.pages more.pages; reasons = both_reasons some.reasons more.reasons }

-- what is counted of one page and its scan, of what it is read as
abbrev pub sums_read : Election → PrintedPage → List Bool → Page → PageReading → PageSums
sums_read election printed marks scan reading = record {
  pages = 1;
  as_truth = one_if (says printed marks reading);
  certified = one_if (is_accepted election scan reading);
  marks = marks_read reading;
  columns = columns_read reading;
  rows = rows_read reading;
  scores = scores_read reading;
}

-- of a page that isn't read
abbrev pub unread : PageSums
unread = record { pages = 1; as_truth = 0; certified = 0; marks = 0; columns = pos 0; rows = pos 0; scores = 0 }

-- of a page that is read so, or isn't read
abbrev pub sums_of_read : Election → PrintedPage → List Bool → Page → Result PageReading PageFault → PageSums
sums_of_read election printed marks scan read = of_reading unread (sums_read election printed marks scan) read

-- for how many contests of a sheet each reason holds
abbrev pub reasons_of_sheet : Election → SheetMarks → ReasonSums
reasons_of_sheet election sheet = record {
  overvote = contests_with election Overvote sheet;
  undervote = contests_with election Undervote sheet;
  marginal = contests_with election MarginalMark sheet;
  blank = contests_with election BlankBallot sheet;
  write_in = contests_with election WriteIn sheet;
}

-- of a sheet, or of what is none
abbrev pub reasons_read : Election → Result SheetMarks Came → ReasonSums
reasons_read election (Ok sheet) = reasons_of_sheet election sheet
reasons_read election (Err came) = no_reasons

-- no sum is larger than so many pages can make it: a page has at most 168 places and fewer than 1,000 bubbles
pub record ArePageSums (sums : PageSums) : Type 0 where
  pub as_truth : sums.as_truth ≤ sums.pages
  pub certified : sums.certified ≤ sums.pages
  pub marks : sums.marks ≤ sums.pages * 2 ^ 10
  pub columns : IsWithin (sums.pages * 2 ^ 39) sums.columns
  pub rows : IsWithin (sums.pages * 2 ^ 39) sums.rows
  pub scores : sums.scores ≤ sums.pages * 2 ^ 42

-- no reason holds more often
pub record AreReasonSums (most : ℕ) (sums : ReasonSums) : Type 0 where
  pub overvote : sums.overvote ≤ most
  pub undervote : sums.undervote ≤ most
  pub marginal : sums.marginal ≤ most
  pub blank : sums.blank ≤ most
  pub write_in : sums.write_in ≤ most

-- of sheets with so many pages: an election has at most 500 contests
pub record IsCounted (counted : Counted) : Type 0 where
  pub pages : ArePageSums counted.pages
  pub reasons : AreReasonSums (counted.pages.pages * 500) counted.reasons
