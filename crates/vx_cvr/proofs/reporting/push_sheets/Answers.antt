use Rattle.std.proofs.Common.{rules, ◌≡◌, ◌++◌, ℕ, List, refl, ap, ◌∙◌}
use Rattle.vx_cvr.proofs.Joined.{pieces_more}
use Rattle.vx_cvr.proofs.reporting.push_sheets.Goals as goal

pub loop-place-preserved : goal.loop-place-preserved
loop-place-preserved c =
    let put : c.extend_from_slice.new.self ≡ c.loop-place.text ++ c.in_ok-piece.piece = search rules in
    pieces_more c.args.election.now c.args.center.now.events c.args.places.now c.loop-place.place-index c.loop-place.is_later _
    c.loop-place.text c.extend_from_slice.new.self _ c.loop-place-test.true refl
    (put ∙ ap (λ (piece : List ℕ). c.loop-place.text ++ piece) c.in_ok-piece.ensures) c.loop-place.invariant
