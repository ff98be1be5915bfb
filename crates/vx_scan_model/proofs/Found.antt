-- The border of a scan that shows a page's marks.
use Rattle.std.proofs.Common.{◌≡◌, List, Result, Ok, Err, ap, sym, subst, arith}
use Rattle.vx_plane.specs.Plane.{Page}
use Rattle.vx_grid.specs.declared.paper.Paper.{Paper}
use Rattle.vx_grid.specs.declared.places.Point.{Point}
use Rattle.vx_grid.specs.Paper.{last_row}
use Rattle.vx_grid.specs.Marks.{marks as marks_of}
use Rattle.vx_grid.specs.Borders.{MarkPlaces}
use Rattle.vx_mark_model.specs.Best.{IsNear, IsBest}
use Rattle.vx_mark_model.specs.declared.fault.BorderFault.{BorderFault}
use Rattle.vx_mark_model.specs.declared.fault.BorderFault.TheVariants.{NoCorner, NoMark, OpenBorder}
use Rattle.vx_mark_model.specs.Following.{prediction_of, end_of, right_end_of}
use Rattle.vx_mark_model.specs.Border.{IsBorderOf}
use Rattle.vx_geom.specs.Slants.{Slant}
use Rattle.vx_margin.specs.Marks.{mark_image}
use Rattle.vx_margin.specs.Chains.{LieAtMarks}
use Rattle.vx_margin.specs.Laws.{FindsBorder}
use Rattle.vx_scan_model.proofs.Corners.{corner-exists}
use Rattle.vx_scan_model.proofs.Bests.{best-exists}

-- an answer is a border whose places lie at the marks
pub record IsFoundNear (s : Slant) (paper : Paper) (answer : Result MarkPlaces BorderFault) : Type 0 where
  pub places : List Point
  pub is : answer ≡ Ok (record { paper = paper; places = places })
  pub near : LieAtMarks s paper (marks_of paper) places

-- so it is where the border is found
pub found-near : (s : Slant) (scan : Page) (paper : Paper) → FindsBorder s scan paper → (answer : Result MarkPlaces BorderFault) → IsBorderOf paper scan answer → IsFoundNear s paper answer
found-near s scan paper finds (Ok border) is = record {
  places = border.places;
  is = ap (λ p. Ok (let b : MarkPlaces = record { paper = p; places = border.places } in b)) is.of_paper;
  near = finds.at_marks (marks_of paper) border.places (omega arith) is.followed;
}
found-near s scan paper finds (Err NoCorner) none =
    let corner = corner-exists scan (mark_image s paper 0) finds.first_accepted finds.first_in_region in
    absurd (none corner.0 corner.1)
found-near s scan paper finds (Err (NoMark side index predicted)) lacks =
    let near : LieAtMarks s paper lacks.mark lacks.places = finds.at_marks lacks.mark lacks.places (omega (arith, lacks.number)) lacks.followed in
    let best = best-exists scan (prediction_of (last_row paper) lacks.places lacks.mark) (mark_image s paper lacks.mark)
    (finds.next_accepted lacks.mark lacks.places lacks.later lacks.number near) (finds.next_near lacks.mark lacks.places lacks.later lacks.number near) in
    absurd (lacks.none best.0 (subst (λ (q : Point). IsBest scan q best.0) (sym lacks.predicted_is) best.1))
found-near s scan paper finds (Err (OpenBorder predicted found)) open_ =
    let near : LieAtMarks s paper (marks_of paper) open_.places = finds.at_marks (marks_of paper) open_.places (omega arith) open_.followed in
    let closes : IsNear (end_of (last_row paper) open_.places) (right_end_of (last_row paper) open_.places) = finds.closes open_.places near in
    absurd (open_.apart (subst (λ (q : Point). IsNear q found) (sym open_.predicted_is) (subst (λ (q : Point). IsNear (end_of (last_row paper) open_.places) q) (sym open_.found_is) closes)))
