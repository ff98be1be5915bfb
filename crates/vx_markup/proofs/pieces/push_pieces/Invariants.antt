use Rattle.std.proofs.Common.{◌≡◌, ◌++◌, drop}
use Rattle.std.specs.List.{flat_map}
use Rattle.vx_markup.proofs.pieces.push_pieces.Given as goal

-- what was added, and what is left to add, are all
abbrev pub invariant-loop-piece : goal.invariant-loop-piece
invariant-loop-piece l =
    l.text ++ flat_map (λ piece. piece.now) (drop l.piece-index l.pieces) ≡ l.fn.text ++ flat_map (λ piece. piece.now) l.pieces
