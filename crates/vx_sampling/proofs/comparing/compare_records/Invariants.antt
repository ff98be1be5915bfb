use Rattle.std.proofs.Common.{take}
use Rattle.std.specs.Prelude.{slice_get}
use Rattle.std.specs.List.{flat_map}
use Rattle.vx_audit.specs.Audit.{record_lines, all_pairs}
use Rattle.vx_audit.specs.Found.{Finds}
use Rattle.vx_sampling.proofs.comparing.compare_records.Given as goal

abbrev pub invariant-loop-at : goal.invariant-loop-at
invariant-loop-at l =
    Finds (flat_map (λ at. record_lines l.contests l.hand at (slice_get l.records at)) (take l.at-index l.sample))
    (all_pairs l.contests l.records l.hand (take l.at-index l.sample)) l.initial.findings l.findings
