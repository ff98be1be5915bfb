use Rattle.std.proofs.Common.{◌≡◌, ◌++◌, drop, flat_map, map, string_bytes}
use Rattle.vx_ranked.specs.Rankings.{group_ranked}
use Rattle.vx_ranked.specs.Texts.{told_of}
use Rattle.vx_ranked.proofs.telling.push_groups.Given as goal

-- the text so far and the groups that are left
abbrev pub invariant-loop-index : goal.invariant-loop-index
invariant-loop-index l = record {
  text : string_bytes l.text ++ flat_map (told_of l.election l.center.events) (drop l.index l.groups)
      ≡ string_bytes l.initial.text ++ flat_map (told_of l.election l.center.events) l.groups;
  left : drop l.index l.ranked.items ≡ map (group_ranked l.center.election l.center.events) (drop l.index l.groups);
}
