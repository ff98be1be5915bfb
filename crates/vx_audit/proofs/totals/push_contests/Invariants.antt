use Rattle.std.proofs.Common.{◌≡◌, ◌++◌, take}
use Rattle.std.specs.Prelude.{string_bytes}
use Rattle.vx_tally.specs.Running.{summed_in}
use Rattle.vx_audit.specs.Totals.{contest_totals}
use Rattle.vx_audit.specs.Walk.{by_place}
use Rattle.vx_audit.proofs.totals.push_contests.Given as goal

abbrev pub invariant-loop-place : goal.invariant-loop-place
invariant-loop-place l =
    string_bytes l.text ≡ string_bytes l.initial.text ++ by_place (contest_totals (summed_in l.totals)) 0 (take l.place l.contests)
