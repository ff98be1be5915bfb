use Rattle.std.proofs.Common.{SFits, w32, ◌+ℤ◌, ◌-ℤ◌, pos, arith, rules}
use Rattle.std.proofs.lemmas.Int.{ints, to_z-of_z}
use Rattle.vx_mark.proofs.search.rows_near.Goals as goal

pub returns : goal.returns
returns c =
    let fit : SFits w32 c.args.predicted.v = search rules in
    let fit_low : SFits w32 (c.args.predicted.v -ℤ pos 6) = search (rules, arith, ints) in
    let fit_high : SFits w32 (c.args.predicted.v +ℤ pos 6) = search (rules, arith, ints) in
    record {
      first = simp to_z-of_z at c.first_of.ensures;
      past = rw c.height.ensures.value at (simp to_z-of_z at c.past_of.ensures);
    }
