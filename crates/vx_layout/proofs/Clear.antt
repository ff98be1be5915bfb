-- Why nothing on a page comes too near to anything else.
use Rattle.std.proofs.Common.{◌≡◌, ℕ, ◌+◌, ◌-◌, ◌*◌, ◌≤◌, ◌⊎◌, inl, inr, Ok, refl, arith}
use Rattle.std.specs.Prelude.{All}
use Rattle.std.proofs.lemmas.List.Elements.{All-weaker}
use Rattle.vx_plane.specs.Plane.{Pixels}
use Rattle.vx_grid.specs.declared.paper.Paper.{Paper}
use Rattle.vx_grid.specs.Grid.{y_of}
use Rattle.vx_grid.specs.Regions.{frame_zone}
use Rattle.vx_grid.proofs.Papers.{last-row_low}
use Rattle.vx_election_model.specs.declared.election.Election.{Election}
use Rattle.vx_election_model.specs.Valid.{IsValid}
use Rattle.vx_styles.specs.Cards.{card_at}
use Rattle.vx_layout.specs.declared.bubbles.Bubble.{Bubble}
use Rattle.vx_layout.specs.declared.lines.TextLine.{TextLine}
use Rattle.vx_layout.specs.declared.pages.PagePlan.{PagePlan}
use Rattle.vx_layout.specs.declared.plan.CardPlan.{CardPlan}
use Rattle.vx_layout.specs.Pages.{IsOnGrid, NamesOption, HasPaper, StandsOnGrid}
use Rattle.vx_layout.specs.Plan.{foot_y, plan_of}
use Rattle.vx_layout.specs.Print.{line_pixels}
use Rattle.vx_layout.specs.Zones.{bubble_zone_of, code_zones, reserved_zones, line_cells, Apart, ZonesKeepClearOf, ZonesMeetNoText, ZonesMeetNoTextInPlan, IsClear, IsClearPlan}
use Rattle.vx_layout.proofs.Extents.{apart-lies, apart-frame, lies-within, dots-in_cells, lies-zone, lies-code, lies-reserved}
use Rattle.vx_layout.proofs.Parts.{blocks_of, count_of, page_at, parts-of_plan, All-pages}
use Rattle.vx_layout.proofs.Sizes.{sizes-from_valid}
use Rattle.vx_layout.proofs.Standing.{IsLaid, grid-page, names-page, laid-page}

-- a line stands beside the zone of a bubble or below it
beside-zone : (left right above below column foot y : ℕ) → y + 25 ≤ foot → (286 + 432 * column ≤ left) ⊎ ((right ≤ 214 + 432 * column) ⊎ (foot ≤ above)) → (286 + 432 * column ≤ left) ⊎ ((right ≤ 214 + 432 * column) ⊎ ((y + 25 ≤ above) ⊎ (below ≤ y - 25)))
beside-zone left right above below column foot y high (inl h) = inl h
beside-zone left right above below column foot y high (inr (inl h)) = inr (inl h)
beside-zone left right above below column foot y high (inr (inr h)) = inr (inr (inl (omega (arith, h, high))))

module _ (paper : Paper) where
  zone-cells : (bubble : Bubble) (line : TextLine) → IsOnGrid paper bubble → IsLaid paper line → Apart (bubble_zone_of paper bubble) (line_cells line)
  zone-cells bubble line on laid =
      apart-lies (lies-zone paper bubble on) laid.lies
      (beside-zone laid.left laid.right laid.above laid.below on.column (foot_y paper) (y_of paper bubble.row) (omega (arith, on.high, last-row_low paper)) (laid.beside on.column))

  zone-code : (bubble : Bubble) → IsOnGrid paper bubble → Apart (bubble_zone_of paper bubble) (code_zones paper)
  zone-code bubble on = apart-lies (lies-zone paper bubble on) (lies-code paper) (inr (inr (inl (omega (arith, on.high, last-row_low paper)))))

  zone-reserved : (bubble : Bubble) → IsOnGrid paper bubble → Apart (bubble_zone_of paper bubble) (reserved_zones paper)
  zone-reserved bubble on = apart-lies (lies-zone paper bubble on) (lies-reserved paper) (inr (inr (inr (omega (arith, on.low)))))

  zone-frame : (bubble : Bubble) → IsOnGrid paper bubble → Apart (bubble_zone_of paper bubble) (frame_zone paper)
  zone-frame bubble on =
      apart-frame paper (lies-zone paper bubble on) (omega arith) (omega (arith, on.few)) (omega (arith, on.low)) (omega (arith, on.high, last-row_low paper))

  line-code : (line : TextLine) → IsLaid paper line → Apart (line_pixels line) (code_zones paper)
  line-code line laid = apart-lies (lies-within (dots-in_cells line) laid.lies) (lies-code paper) (inr (inr (inl laid.from_code)))

  line-reserved : (line : TextLine) → IsLaid paper line → Apart (line_pixels line) (reserved_zones paper)
  line-reserved line laid = apart-lies (lies-within (dots-in_cells line) laid.lies) (lies-reserved paper) (inr (inr (inr laid.from_reserved)))

  line-frame : (line : TextLine) → IsLaid paper line → Apart (line_pixels line) (frame_zone paper)
  line-frame line laid =
      apart-frame paper (lies-within (dots-in_cells line) laid.lies) laid.from_left laid.from_right (omega (arith, laid.from_reserved)) (omega (arith, laid.from_code, last-row_low paper))

-- on a page of such bubbles and lines no zone meets a text
free-page : (page : PagePlan) → All (IsOnGrid page.paper) page.bubbles → All (IsLaid page.paper) page.texts → ZonesMeetNoText page
free-page page on laid = record {
  each =
      All-weaker (IsLaid page.paper) (λ (line : TextLine). ZonesKeepClearOf page (line_cells line))
      (λ line at. All-weaker (IsOnGrid page.paper) (λ (bubble : Bubble). Apart (bubble_zone_of page.paper bubble) (line_cells line))
      (λ bubble is. zone-cells page.paper bubble line is at) page.bubbles on) page.texts laid;
}

-- what keeps clear of a line's cells keeps clear of its dots
zones-dots : (page : PagePlan) (line : TextLine) → ZonesKeepClearOf page (line_cells line) → ZonesKeepClearOf page (line_pixels line)
zones-dots page line =
    All-weaker (λ (bubble : Bubble). Apart (bubble_zone_of page.paper bubble) (line_cells line))
    (λ (bubble : Bubble). Apart (bubble_zone_of page.paper bubble) (line_pixels line))
    (λ bubble clear. record { apart = λ u v p q. clear.apart u v p (dots-in_cells line u v q) }) page.bubbles

-- a page of such bubbles and lines is clear
clear-page : (page : PagePlan) → All (IsOnGrid page.paper) page.bubbles → All (IsLaid page.paper) page.texts → IsClear page
clear-page page on laid =
    let zone = bubble_zone_of page.paper in
    let each-zone = λ (set : Pixels) (clear : (bubble : Bubble) → IsOnGrid page.paper bubble → Apart (zone bubble) set).
    All-weaker (IsOnGrid page.paper) (λ (bubble : Bubble). Apart (zone bubble) set) clear page.bubbles on in
    let each-line = λ (set : Pixels) (clear : (line : TextLine) → IsLaid page.paper line → Apart (line_pixels line) set).
    All-weaker (IsLaid page.paper) (λ (line : TextLine). Apart (line_pixels line) set) clear page.texts laid in
    record {
      zones_from_text =
          All-weaker (λ (line : TextLine). ZonesKeepClearOf page (line_cells line)) (λ (line : TextLine). ZonesKeepClearOf page (line_pixels line))
          (zones-dots page) page.texts (free-page page on laid).each;
      zones_from_code = each-zone (code_zones page.paper) (zone-code page.paper);
      zones_from_reserved = each-zone (reserved_zones page.paper) (zone-reserved page.paper);
      zones_from_frame = each-zone (frame_zone page.paper) (zone-frame page.paper);
      text_from_code = each-line (code_zones page.paper) (line-code page.paper);
      text_from_reserved = each-line (reserved_zones page.paper) (line-reserved page.paper);
      text_from_frame = each-line (frame_zone page.paper) (line-frame page.paper);
    }

-- every page of a plan is clear
pub clear-plan : (election : Election) (number : ℕ) (plan : CardPlan) → IsValid election → plan_of election number ≡ Ok plan → IsClearPlan plan
clear-plan election number plan valid h =
    let is = parts-of_plan election number plan valid h in
    let blocks = blocks_of election number in
    All-pages IsClear election number plan is (λ page. clear-page (page_at election number page) (grid-page election page blocks is.placed)
    (laid-page election page blocks is.placed (card_at election number) (count_of election number) (sizes-from_valid election valid)))

-- on every page of a plan no zone meets a text
pub free-plan : (election : Election) (number : ℕ) (plan : CardPlan) → IsValid election → plan_of election number ≡ Ok plan → ZonesMeetNoTextInPlan plan
free-plan election number plan valid h =
    let is = parts-of_plan election number plan valid h in
    let blocks = blocks_of election number in
    All-pages ZonesMeetNoText election number plan is (λ page. free-page (page_at election number page) (grid-page election page blocks is.placed)
    (laid-page election page blocks is.placed (card_at election number) (count_of election number) (sizes-from_valid election valid)))

-- the bubbles of a plan stand on the grid, for options of the election
pub planned-on_grid : (election : Election) (number : ℕ) (plan : CardPlan) → IsValid election → plan_of election number ≡ Ok plan → StandsOnGrid election plan
planned-on_grid election number plan valid h =
    let is = parts-of_plan election number plan valid h in
    let blocks = blocks_of election number in
    record {
      on_grid = All-pages (λ (page : PagePlan). All (IsOnGrid page.paper) page.bubbles) election number plan is (λ page. grid-page election page blocks is.placed);
      options = All-pages (λ (page : PagePlan). All (NamesOption election.contests) page.bubbles) election number plan is (λ page. names-page election page blocks is.placed);
    }

-- the pages of a plan are of the election's paper
pub planned-paper : (election : Election) (number : ℕ) (plan : CardPlan) → IsValid election → plan_of election number ≡ Ok plan → HasPaper election.paper plan
planned-paper election number plan valid h = record {
  each = All-pages (λ (page : PagePlan). page.paper ≡ election.paper) election number plan (parts-of_plan election number plan valid h) (λ page. refl);
}
