use Rattle.std.proofs.Common.{◌∷◌, []}
use Rattle.vx_tally.specs.declared.sums.Counted.TheVariants.{Votes, VotesIn}
use Rattle.vx_tally.specs.Sums.{Share}
use Rattle.vx_tally.proofs.Changes.{allows-front, allows-behind, changed-both}
use Rattle.vx_tally.proofs.sums.change_row.Goals as goal

pub change_sum-requires : goal.change_sum-requires
change_sum-requires c =
    let first : Share = (Votes c.args.contest c.args.row.selection, c.args.row.votes) in
    let second : Share = (VotesIn c.args.unit c.args.contest c.args.row.selection, c.args.row.votes) in
    allows-front c.args.change (first ∷ []) (second ∷ []) c.args.sums.now c.requires

pub change_sum-requires-2 : goal.change_sum-requires-2
change_sum-requires-2 c =
    let first : Share = (Votes c.args.contest c.args.row.selection, c.args.row.votes) in
    let second : Share = (VotesIn c.args.unit c.args.contest c.args.row.selection, c.args.row.votes) in
    allows-behind c.args.change (first ∷ []) (second ∷ []) c.args.sums.now c.change_sum.new.sums c.requires c.change_sum.ensures

pub returns : goal.returns
returns c =
    let first : Share = (Votes c.args.contest c.args.row.selection, c.args.row.votes) in
    let second : Share = (VotesIn c.args.unit c.args.contest c.args.row.selection, c.args.row.votes) in
    changed-both c.args.change (first ∷ []) (second ∷ []) c.args.sums.now c.change_sum.new.sums c.change_sum-2.new.sums
    c.change_sum.ensures c.change_sum-2.ensures
