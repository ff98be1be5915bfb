use Rattle.std.proofs.Common.{◌≡◌, Bool, List, ℤ, ap, sym, subst, ◌∙◌, rules}
use Rattle.vx_plane.specs.Plane.{Page, dark_at}
use Rattle.vx_grid.specs.Paper.{page_width, page_height}
use Rattle.vx_code.specs.Code.{boxes_of}
use Rattle.vx_layout.specs.Printed.{PrintedPage, KeepsClear, code_of, print_of_page}
use Rattle.vx_scan_model.specs.Fits.{FitsUpright}
use Rattle.vx_simulate.specs.declared.simulation.Simulation.{Simulation}
use Rattle.vx_simulate.specs.Simulated.{draw_page, scan_of, IsPrintOf}
use Rattle.vx_simulate.proofs.Papers.{whole-of}
use Rattle.vx_simulate.proofs.Printing.{dark-print}
use Rattle.vx_simulate.proofs.Scanning.{scan-same}
use Rattle.vx_simulate.proofs.simulated.simulate.Goals as goal

pub scan_page-requires : goal.scan_page-requires
scan_page-requires g c =
    let printed = c.requires.printed.0 in
    let is = c.requires.printed.1 in
    let keeps : KeepsClear c.args.plan.now = c.printed_pages_keep_clear.ensures c.args.election.now printed c.args.plan.now c.requires.valid is.planned in
    let drawn = c.in_ok-drawn.ensures in
    (search rules, (keeps.on_grid, (whole-of page_width (page_height c.args.plan.now.paper) (print_of_page c.args.election.now c.args.plan.now printed) c.args.page.now is.painted, (drawn.short, (drawn.inks, drawn.in_zones)))))

pub returns : goal.returns
returns g c =
    let election = c.args.election.now in
    let plan = c.args.plan.now in
    let page : Page = c.args.page.now in
    let state = c.args.rng.now in
    let drawn : Simulation = (draw_page election plan state).0 in
    let is_drawn = c.in_ok-drawn.ensures.drawn in
    let scan : (printed : PrintedPage) → IsPrintOf election plan page printed → c.in_ok-scan.scan ≡ scan_of plan (print_of_page election plan printed) drawn =
    λ printed is.
    let keeps : KeepsClear plan = c.printed_pages_keep_clear.ensures election printed plan c.requires.valid is.planned in
    let same : (x y : ℤ) → dark_at page x y ≡ print_of_page election plan printed x y =
    λ x y. ap (λ (p : Page). dark_at p x y) is.painted ∙ dark-print c.timing_marks_are_marks.ensures plan keeps (boxes_of (code_of election printed)) x y in
    c.in_ok-scan.ensures
    ∙ scan-same plan (dark_at page) (print_of_page election plan printed) c.in_ok-drawn.drawn same
    ∙ ap (λ (it : Simulation). scan_of plan (print_of_page election plan printed) it) is_drawn in
    let marked = ap (λ (it : Simulation). it.marks) is_drawn in
    record {
      scan = scan;
      marked = marked;
      next = c.in_ok-drawn.ensures.next;
      fits = λ printed is.
          subst (λ (marks : List Bool). FitsUpright election c.in_ok-scan.scan printed plan marks) (sym marked)
          (subst (λ (p : Page). FitsUpright election p printed plan drawn.marks) (sym (scan printed is))
          (c.simulated_scans_fit.ensures election printed plan state c.requires.valid is.planned));
    }
