use Rattle.std.proofs.Common.{◌/◌, sym, inl}
use Rattle.vx_grid.specs.Paper.{page_height}
use Rattle.vx_plane.proofs.Pages.{page_of-dark_at}
use Rattle.vx_layout.specs.Printed.{bitmap_of, print_of_page}
use Rattle.vx_scan_model.specs.Fits.{no_marks}
use Rattle.vx_gray.specs.Fits.{falling, marked_page}
use Rattle.vx_gray.proofs.Falls.{evenly-slowly}
use Rattle.vx_gray.proofs.Light.{levels_fall}
use Rattle.vx_gray.proofs.Prints.{marked-light, prints-light}
use Rattle.vx_gray.proofs.laws.shown_prints_fit.Goals as goal

pub returns-clause-light : goal.returns-clause-light
returns-clause-light c = prints-light

pub returns-clause-marked_light : goal.returns-clause-marked_light
returns-clause-marked_light c = marked-light

pub returns-clause-marked : goal.returns-clause-marked
returns-clause-marked c election printed plan marks marked paper ink planned inked fits falls =
    c.shown_scans_fit.ensures.scans election (marked_page plan marked) printed plan marks paper ink
    (sym (page_of-dark_at _ _ marked)) fits (marked-light election printed plan marked planned inked) falls

pub returns-clause-prints : goal.returns-clause-prints
returns-clause-prints c election printed plan paper ink valid planned falls =
    c.shown_scans_fit.ensures.scans election (bitmap_of election plan printed) printed plan (no_marks plan) paper ink
    (sym (page_of-dark_at _ _ (print_of_page election plan printed)))
    (inl (c.clean_prints_fit.ensures.clean election printed plan valid planned))
    (prints-light election printed plan planned) falls

pub returns-clause-levels : goal.returns-clause-levels
returns-clause-levels c election printed plan paper ink valid planned least most dark =
    returns-clause-prints c election printed plan (λ u v. paper) (λ u v. ink) valid planned
    (levels_fall _ (page_height plan.paper) paper ink least most dark)

pub returns-clause-falling : goal.returns-clause-falling
returns-clause-falling c election printed plan bright fall valid planned least most few =
    returns-clause-prints c election printed plan (falling bright fall) (λ u v. falling bright fall u v / 4) valid planned
    (evenly-slowly bright fall (page_height plan.paper) least most few)
