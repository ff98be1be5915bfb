use Rattle.std.proofs.Common.{◌≡◌, ◌≤◌, ◌*◌, ◌^◌, take}
use Rattle.vx_command_demo.specs.Summary.{hollow_in}
use Rattle.vx_command_demo.proofs.plans.hollow_in.Given as goal

-- of the cards so far
abbrev pub invariant-loop-plan : goal.invariant-loop-plan
invariant-loop-plan l = record {
  sum : l.hollow ≡ hollow_in (take l.plan-index l.plans);
  bound : l.hollow ≤ l.plan-index * 2 ^ 32;
}
