use Rattle.std.proofs.Common.{◌≡◌, ◌<◌}
use Rattle.vx_mark.specs.Search.{front_light}
use Rattle.vx_mark.proofs.judge.light_up_to.Given as goal

abbrev pub invariant-loop-j : goal.invariant-loop-j
invariant-loop-j l = record { light : l.light ≡ front_light l.counter l.u l.v l.j; less : l.light < l.below }
