use Rattle.std.proofs.Common.{◌≡◌, ◌++◌, drop, map}
use Rattle.vx_ranked.specs.declared.groups.Group.{Group}
use Rattle.vx_ranked.specs.Rankings.{none_ranked}
use Rattle.vx_ranked.proofs.gathering.no_sheets.Given as goal

-- those that are made, and those that are left to make
abbrev pub invariant-loop : goal.invariant-loop
invariant-loop l =
    l.ranked.items ++ map (λ (group : Group). none_ranked) (drop l.index l.groups) ≡ map (λ (group : Group). none_ranked) l.groups
