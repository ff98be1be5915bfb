use Rattle.std.proofs.Common.{◌≡◌, ◌++◌, take}
use Rattle.std.specs.Prelude.{string_bytes}
use Rattle.vx_audit.specs.Walk.{by_place}
use Rattle.vx_results.specs.Counted.{kept_contest}
use Rattle.vx_results.proofs.summarizing.push_contests.Given as goal

abbrev pub invariant-loop-place : goal.invariant-loop-place
invariant-loop-place l =
    string_bytes l.text
    ≡ string_bytes l.initial.text ++ by_place (kept_contest l.election l.center.events l.figures) 0 (take l.place l.contests)
