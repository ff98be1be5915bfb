use Rattle.std.proofs.Common.{◌≡◌, ◌++◌, ◌∙◌, List, [], ap, subst, rules}
use Rattle.std.specs.List.{flat_map}
use Rattle.std.specs.List.Sorted.{IsPermutation}
use Rattle.std.proofs.lemmas.List.Filters.{dedup_is}
use Rattle.vx_tally.specs.Cells.{Cell}
use Rattle.vx_tally.specs.Running.{cell_of}
use Rattle.vx_tally.proofs.Voted.{cells-voted}
use Rattle.vx_tally.proofs.cells.cells_of.Goals as goal

pub returns : goal.returns
returns c =
    let none : c.new-cells.result.items ≡ [] = search rules in
    let made : c.push_cells.new.cells.items ≡ flat_map cell_of c.args.sums.now.entries =
    c.in_ok-push_cells.ensures ∙ ap (λ (front : List Cell). front ++ flat_map cell_of c.args.sums.now.entries) none in
    cells-voted c.args.sums.now.entries c.len-count.ensures.unique c.sort_unstable.new.self.items c.dedup.new.self.items
    (subst (λ (all : List Cell). IsPermutation all c.sort_unstable.new.self.items) made c.sort_unstable.ensures.permutation)
    c.sort_unstable.ensures.sorted (dedup_is _ _ _ c.dedup.ensures.filtered)
