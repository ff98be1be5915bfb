use Rattle.std.proofs.Common.{◌≡◌, filter}
use Rattle.std.specs.List.{range_with_len}
use Rattle.vx_simulate.specs.Draws.{draw_all}
use Rattle.vx_simulate.specs.Marks.{draw_options, has_bubble}
use Rattle.vx_simulate.proofs.marks.draw_marks.Given as goal

-- what is drawn for the contests so far
abbrev pub invariant-loop-number : goal.invariant-loop-number
invariant-loop-number l = record {
  drawn : l.drawn.items ≡ (draw_all (draw_options l.election) (filter (has_bubble l.plan) (range_with_len 0 l.number)) l.fn.rng).0;
  next : l.rng ≡ (draw_all (draw_options l.election) (filter (has_bubble l.plan) (range_with_len 0 l.number)) l.fn.rng).1;
}
