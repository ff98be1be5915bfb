use Rattle.std.proofs.Common.{rules, ◌≡◌, ◌++◌, ℕ, List, false, ap, ap₂, ◌∙◌}
use Rattle.vx_election_model.specs.declared.election.Election.{Election}
use Rattle.vx_events.specs.declared.event.Event.{Event}
use Rattle.vx_cvr.specs.Pieces.{front_piece, joined, sheet_pieces}
use Rattle.vx_cvr.specs.Rows.{rows_of}
use Rattle.vx_cvr.proofs.Joined.{in_pieces}
use Rattle.vx_cvr.proofs.reporting.report.Goals as goal

pub returns : goal.returns
returns c =
    let election : Election = c.args.election.now in
    let kept : List Event = c.args.center.now.events in
    let begun : c.in_ok-text.text ≡ front_piece = c.in_ok-text.ensures ∙ c.front_piece.ensures in
    let put : c.extend_from_slice.new.self ≡ c.push_kept.new.text ++ c.in_ok-last.last = search rules in
    put
    ∙ ap₂ (λ (front last : List ℕ). front ++ last)
    (c.in_ok-push_kept.ensures ∙ ap (λ (text : List ℕ). text ++ joined (sheet_pieces election false (rows_of election kept))) begun)
    c.in_ok-last.ensures
    ∙ in_pieces election kept c.args.moment.now c.args.device.now
    ∙ c.pieces_are_the_report.ensures election kept c.args.moment.now c.args.device.now
