use Rattle.std.proofs.Common.{◌≡◌, ◌<◌, ℕ, false, length, slice_index_or, take}
use Rattle.std.specs.List.{list_any}
use Rattle.vx_sampling.specs.Findings.{is_of}
use Rattle.vx_sampling.proofs.finding.found_in.Given as goal

abbrev pub invariant-loop-line : goal.invariant-loop-line
invariant-loop-line l = record {
  sized : length l.found.items ≡ l.count;
  found : (place : ℕ) → place < l.count → slice_index_or l.found.items place false ≡ list_any (is_of place) (take l.line-index l.lines);
}
