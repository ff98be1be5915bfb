use Rattle.std.proofs.Common.{◌≡◌, ◌++◌, drop, map}
use Rattle.serde_json.specs.View.{view}
use Rattle.vx_markup.specs.Json.{whole}
use Rattle.vx_board.proofs.cards.numbers.Given as goal

-- what was made, and what is left to make, are all
abbrev pub invariant-loop-number : goal.invariant-loop-number
invariant-loop-number l = map view l.made.items ++ map whole (drop l.number-index l.given) ≡ map whole l.given
