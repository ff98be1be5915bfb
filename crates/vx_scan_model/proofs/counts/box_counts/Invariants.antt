use Rattle.std.proofs.Common.{◌≡◌, ℕ, ◌<◌, length, get_or}
use Rattle.vx_scan_model.specs.Reading.{box_count_of}
use Rattle.vx_scan_model.proofs.counts.box_counts.Given as goal

-- the boxes so far are counted
abbrev pub invariant-loop-n : goal.invariant-loop-n
invariant-loop-n l = record {
  all : length l.counts ≡ 84;
  counted : (k : ℕ) → k < l.n → get_or l.counts k 0 ≡ box_count_of l.counter l.border k;
}
