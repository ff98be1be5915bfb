use Rattle.std.proofs.Common.{◌≡◌, ◌++◌, drop, false, map}
use Rattle.vx_center.specs.Exports.{row_at}
use Rattle.vx_cvr.specs.Pieces.{joined, sheet_pieces}
use Rattle.vx_cvr.proofs.reporting.push_sheets.Given as goal

abbrev pub invariant-loop-place : goal.invariant-loop-place
invariant-loop-place l =
    l.text ++ joined (sheet_pieces l.election l.is_later (map (row_at l.election l.center.events) (drop l.place-index l.places)))
    ≡ l.fn.text ++ joined (sheet_pieces l.election false (map (row_at l.election l.center.events) l.places))
