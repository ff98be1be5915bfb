use Rattle.vx_readings.proofs.Parts.{StandsNowhere}
use Rattle.vx_readings.proofs.lines.split_at.Given as goal

abbrev pub invariant-loop-place : goal.invariant-loop-place
invariant-loop-place l = StandsNowhere l.at l.text l.place
