-- What a printed page keeps clear.
use Rattle.std.proofs.Common.{◌-◌}
use Rattle.std.specs.Prelude.{All}
use Rattle.vx_layout.specs.declared.pages.PagePlan.{PagePlan}
use Rattle.vx_layout.specs.Pages.{IsOnGrid}
use Rattle.vx_layout.specs.Zones.{IsClear, ZonesMeetNoText, AreApart}
use Rattle.vx_layout.specs.Printed.{PrintedKeepClear, PrintedZonesMeetNoText}
use Rattle.vx_layout.proofs.Clear.{clear-plan, free-plan, planned-on_grid}
use Rattle.vx_layout.proofs.Order.{apart-plan}
use Rattle.vx_layout.proofs.Printed.{of-page}

-- on a printed page all keeps clear of what it has to
pub printed-clear : PrintedKeepClear
printed-clear election printed plan valid is = record {
  clear = of-page is.card.pages (printed.page - 1) plan is.page_is (λ (page : PagePlan). IsClear page) (clear-plan election printed.card is.card valid is.card_is);
  apart = of-page is.card.pages (printed.page - 1) plan is.page_is (λ (page : PagePlan). AreApart page) (apart-plan election printed.card is.card valid is.card_is);
  on_grid = of-page is.card.pages (printed.page - 1) plan is.page_is (λ (page : PagePlan). All (IsOnGrid page.paper) page.bubbles)
      (planned-on_grid election printed.card is.card valid is.card_is).on_grid;
}

-- on a printed page no zone meets a text
pub printed-free : PrintedZonesMeetNoText
printed-free election printed plan valid is =
    of-page is.card.pages (printed.page - 1) plan is.page_is (λ (page : PagePlan). ZonesMeetNoText page) (free-plan election printed.card is.card valid is.card_is)
