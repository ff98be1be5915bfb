use Rattle.std.proofs.Common.{◌≡◌, ◌≤◌, ◌-◌, ◌+◌}
use Rattle.vx_records.specs.Numbers.{reaches}
use Rattle.vx_records.proofs.numbers.reaches.Given as goal

-- the tries that are left go on from here
abbrev pub invariant-loop-tried : goal.invariant-loop-tried
invariant-loop-tried l = record {
  same : reaches 6 l.least l.most l.n l.n ≡ reaches (6 - l._tried) l.least l.most l.first l.last;
  grows : l.n ≤ l.first;
}
