use Rattle.std.proofs.Common.{◌≡◌, ◌≤◌, take}
use Rattle.std.specs.Prelude.{All}
use Rattle.vx_sampling.specs.Findings.{findings_of, votes_of}
use Rattle.vx_sampling.proofs.finding.findings_of.Given as goal

abbrev pub invariant-loop-at : goal.invariant-loop-at
invariant-loop-at l = record {
  exact : l.findings.items ≡ take l.at (findings_of l.sides l.hand l.records l.sample.draws);
  few : All (λ finding. votes_of finding ≤ 2) l.findings.items;
}
