use Rattle.std.proofs.Common.{◌≡◌, ◌≤◌, ◌*◌}
use Rattle.std.specs.List.{range_with_len}
use Rattle.vx_simulate.specs.Draws.{draw_all}
use Rattle.vx_command_demo.specs.Adding.{IsCounted, counted_of}
use Rattle.vx_command_demo.specs.Trials.{generator_of, try_sheet}
use Rattle.vx_command_demo.proofs.sheets.try_sheets.Given as goal

-- what is counted of the sheets so far, and the generator after them
abbrev pub invariant-loop-before : goal.invariant-loop-before
invariant-loop-before g l = record {
  counted : l.counted ≡ counted_of l.election (draw_all (try_sheet l.election l.plans) (range_with_len 1 l.before) (generator_of l.seed)).0;
  rng : l.rng ≡ (draw_all (try_sheet l.election l.plans) (range_with_len 1 l.before) (generator_of l.seed)).1;
  within : IsCounted l.counted;
  few : l.counted.pages.pages ≤ 2 * l.before;
}
