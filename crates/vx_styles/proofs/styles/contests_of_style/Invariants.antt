use Rattle.std.proofs.Common.{◌≡◌, ◌++◌, drop}
use Rattle.vx_styles.specs.Cards.{contests_from}
use Rattle.vx_styles.proofs.styles.contests_of_style.Given as goal

abbrev pub invariant-loop-contest : goal.invariant-loop-contest
invariant-loop-contest l = record {
  at : l.place ≡ l.contest-index;
  so_far : l.places.items ++ contests_from l.style l.place (drop l.contest-index l.contests) ≡ contests_from l.style 0 l.contests;
}
