use Rattle.std.proofs.Common.{◌≡◌, take}
use Rattle.vx_scan_model.specs.Reading.{scores_of}
use Rattle.vx_page.proofs.bubbles.scores_of.Given as goal

-- the scores of the bubbles so far
abbrev pub invariant-loop-bubble : goal.invariant-loop-bubble
invariant-loop-bubble l = l.scores.items ≡ scores_of l.counter l.border (take l.bubble-index l.bubbles)
