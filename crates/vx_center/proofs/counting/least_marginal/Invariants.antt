use Rattle.std.proofs.Common.{◌≡◌, drop}
use Rattle.vx_rules.specs.Reasons.{is_marginal}
use Rattle.vx_center.specs.Finals.{options_from}
use Rattle.vx_center.specs.Replies.{first_of, least_marginal}
use Rattle.vx_center.proofs.counting.least_marginal.Given as goal

abbrev pub invariant-loop-state : goal.invariant-loop-state
invariant-loop-state l = record {
  counted : l.number ≡ l.state-index;
  same : first_of (options_from is_marginal l.number (drop l.state-index l.states)) ≡ least_marginal l.states;
}
