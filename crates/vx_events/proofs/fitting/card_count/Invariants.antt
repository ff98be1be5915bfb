use Rattle.std.proofs.Common.{◌≡◌, ◌+◌, drop}
use Rattle.vx_election_model.specs.Lists.{card_count}
use Rattle.vx_events.proofs.fitting.card_count.Given as goal

abbrev pub invariant-loop-style : goal.invariant-loop-style
invariant-loop-style l = l.count + card_count (drop l.style-index l.styles) ≡ card_count l.styles
