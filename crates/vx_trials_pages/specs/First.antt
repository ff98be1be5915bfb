-- The page that the trials print.
use Rattle.std.specs.Prelude.{false}
use Rattle.vx_grid.specs.declared.kind.Kind.TheVariants.{Precinct}
use Rattle.vx_layout.specs.declared.pages.PagePlan.{PagePlan}
use Rattle.vx_layout.specs.Printed.{PrintedPage}

-- a page of card 0, of a precinct's ballot
abbrev pub first_card : PagePlan → PrintedPage
first_card plan = record { card = 0; page = plan.page; kind = Precinct; test = false }
