use Rattle.std.proofs.Common.{◌≡◌, take}
use Rattle.vx_scan_model.specs.Reading.{states_of}
use Rattle.vx_page.proofs.bubbles.states_of.Given as goal

-- the states of the scores so far
abbrev pub invariant-loop-score : goal.invariant-loop-score
invariant-loop-score l = l.states.items ≡ states_of l.thresholds (take l.score-index l.scores)
