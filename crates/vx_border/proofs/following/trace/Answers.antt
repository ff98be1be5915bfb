use Rattle.std.proofs.Common.{◌≡◌, ◌<◌, ◌≤◌, ◌-◌, ◌∙◌, ℕ, List, length, take, Some, arith, ap, refl, sym, subst, pos}
use Rattle.std.specs.Prelude.{slice_get}
use Rattle.std.proofs.lemmas.List.{get_or-take, length-take-le}
use Rattle.std.proofs.lemmas.Option.{get_or_from_slice_get, slice_get_within}
use Rattle.vx_plane.specs.Plane.{Page}
use Rattle.vx_grid.specs.declared.paper.Paper.{Paper}
use Rattle.vx_grid.specs.declared.paper.Paper.TheVariants.{Letter, Legal}
use Rattle.vx_grid.specs.declared.places.Point.{Point}
use Rattle.vx_grid.specs.Paper.{last_row}
use Rattle.vx_grid.specs.Marks.{first_left, marks}
use Rattle.vx_grid.specs.Borders.{MarkPlaces}
use Rattle.vx_grid.specs.Places.{IsPointWithin, AreWithin, point_at}
use Rattle.vx_mark_model.specs.Best.{IsNear}
use Rattle.vx_mark_model.specs.Following.{AreAllFollowed, right_of, end_of, right_end_of}
use Rattle.vx_mark_model.specs.Border.{IsBorder}
use Rattle.vx_mark_model.specs.Laws.{AcceptedAreFramed, FollowedIsSame}
use Rattle.vx_border.proofs.Follow.{followed_within}
use Rattle.vx_border.proofs.following.trace.Goals as goal

module _ (framed : AcceptedAreFramed) (same_followed : FollowedIsSame) (paper : Paper) (page : Page) (places : List Point) (w : page.width ≤ 4096)
    (h : page.height ≤ 4096) (followed : AreAllFollowed paper page places) where
  -- each place of a followed list of all marks lies in the frame
  place_within : (n k : ℕ) → 4096 ≤ n → k < marks paper → IsPointWithin n (point_at places k)
  place_within n k most inside = followed_within framed page n (last_row paper) (marks paper) k places (omega arith) (omega arith) followed inside

  -- the places of all marks
  pub places_within : (border : MarkPlaces) → 168 ≤ length places → marks paper ≤ 168 → border ≡ record { paper = paper; places = take (marks paper) places } → AreWithin 9000 border.places
  places_within border long most is k p at =
      let Got : MarkPlaces → Type 0 = λ b. slice_get b.places k ≡ Some p in
      let in_taken : slice_get (take (marks paper) places) k ≡ Some p = subst Got is at in
      let all : length (take (marks paper) places) ≡ marks paper = length-take-le (marks paper) places (omega arith) in
      let inside : k < marks paper = omega (arith, all, slice_get_within (take (marks paper) places) k p in_taken) in
      let origin : Point = record { u = pos 0; v = pos 0 } in
      let Within : Point → Type 0 = λ q. IsPointWithin 9000 q in
      subst Within (sym (get_or-take (marks paper) places k origin inside) ∙ get_or_from_slice_get (take (marks paper) places) k p origin in_taken) (place_within 9000 k (omega arith) inside)

  -- where the bottom row and the right column end
  pub bottom_within : (p : Point) → p ≡ point_at places (marks paper - 1) → IsPointWithin 8900 p
  bottom_within p is = let Within : Point → Type 0 = λ q. IsPointWithin 8900 q in subst Within (sym is) (place_within 8900 (marks paper - 1) (omega arith) (omega arith))

  pub right_within : (p : Point) → p ≡ right_end_of (last_row paper) places → IsPointWithin 9000 p
  right_within p is = let Within : Point → Type 0 = λ q. IsPointWithin 9000 q in subst Within (sym is) (place_within 9000 (first_left (last_row paper) - 1) (omega arith) (omega arith))

  -- the border of the places, where it closes
  pub border_of_places : (border : MarkPlaces) (p end found : Point) → 168 ≤ length places → marks paper ≤ 168 → border ≡ record { paper = paper; places = take (marks paper) places } → p ≡ point_at places (marks paper - 1) → end ≡ right_of p → found ≡ right_end_of (last_row paper) places → IsNear end found → IsBorder paper page border
  border_of_places border p end found long most is at leads ends near =
      let Is : MarkPlaces → Type 0 = λ b. IsBorder paper page b in
      let origin : Point = record { u = pos 0; v = pos 0 } in
      let taken : List Point = take (marks paper) places in
      let same : (k : ℕ) → k < marks paper → point_at taken k ≡ point_at places k = λ k inside. get_or-take (marks paper) places k origin inside in
      let leads_there : end ≡ end_of (last_row paper) taken = leads ∙ ap right_of (at ∙ sym (same (marks paper - 1) (omega arith))) in
      let ends_there : found ≡ right_end_of (last_row paper) taken = ends ∙ sym (same (first_left (last_row paper) - 1) (omega arith)) in
      let End : Point → Type 0 = λ q. IsNear q found in
      let Found : Point → Type 0 = λ q. IsNear (end_of (last_row paper) taken) q in
      subst Is (sym is) (record {
        of_paper = refl;
        all = length-take-le (marks paper) places (omega arith);
        followed = same_followed page (last_row paper) (marks paper) places taken (omega arith) same followed;
        closes = subst Found ends_there (subst End leads_there near);
      })

pub right_of-end-requires : goal.right_of-end-requires
right_of-end-requires c =
    bottom_within c.accepted_places_are_framed.ensures c.a_list_is_followed.ensures.same c.args.paper c.args.counter.now c.follow.new.places
    (omega arith) (omega arith) c.in_ok-follow.ensures.found c.bottom_end.result c.bottom_end.ensures

pub is_near-requires-clause-place : goal.is_near-requires-clause-place
is_near-requires-clause-place c =
    right_within c.accepted_places_are_framed.ensures c.a_list_is_followed.ensures.same c.args.paper c.args.counter.now c.follow.new.places
    (omega arith) (omega arith) c.in_ok-follow.ensures.found c.right_end-found.result c.right_end-found.ensures

most_marks : (paper : Paper) → marks paper ≤ 168
most_marks Letter = omega arith
most_marks Legal = omega arith

pub returns-then-is_near-clause-border : goal.returns-then-is_near-clause-border
returns-then-is_near-clause-border c =
    border_of_places c.accepted_places_are_framed.ensures c.a_list_is_followed.ensures.same c.args.paper c.args.counter.now c.follow.new.places
    (omega arith) (omega arith) c.in_ok-follow.ensures.found
    c.new.result c.bottom_end.result c.right_of-end.result c.right_end-found.result (omega (arith, c.in_ok-follow.ensures.all)) (most_marks c.args.paper)
    c.new.ensures c.bottom_end.ensures c.right_of-end.ensures.exact c.right_end-found.ensures (c.is_near.ensures.0 c.if-is_near.true)

pub returns-then-is_near-clause-within : goal.returns-then-is_near-clause-within
returns-then-is_near-clause-within c =
    places_within c.accepted_places_are_framed.ensures c.a_list_is_followed.ensures.same c.args.paper c.args.counter.now c.follow.new.places
    (omega arith) (omega arith) c.in_ok-follow.ensures.found
    c.new.result (omega (arith, c.in_ok-follow.ensures.all)) (most_marks c.args.paper) c.new.ensures
