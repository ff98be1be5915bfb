use Rattle.std.proofs.Common.{◌<◌, ◌≤◌, ◌*◌, subst, sym, arith}
use Rattle.indexmap.specs.IndexMap.{spare}
use Rattle.vx_tally.specs.Running.{SumsUp}
use Rattle.vx_tally.specs.Totals.{record_count_limit, size_of}
use Rattle.vx_tally.proofs.Running.{kept-count, one-allows, one-bounded, one-up}
use Rattle.vx_tally.proofs.totals.Totals.add.Goals as goal

pub change_record-requires : goal.change_record-requires
change_record-requires c =
    let count = kept-count c.self.inside.count c.self.inside.sums.entries c.args.self.now c.self.view_is in
    let few : c.self.inside.count < record_count_limit = omega (arith, count, c.requires.few) in
    let free : 2 * size_of c.args.cvr.now ≤ spare c.reserve.new.self = omega (arith, c.size_of.ensures, c.in_ok-reserve.ensures.ok) in
    one-allows c.args.cvr.now c.self.inside.count c.self.inside.sums c.reserve.new.self c.reserve.new.self c.in_ok-reserve.ensures.entries
    c.self.invariant few c.requires.countable free

pub overflow_add-self : goal.overflow_add-self
overflow_add-self c =
    let count = kept-count c.self.inside.count c.self.inside.sums.entries c.args.self.now c.self.view_is in
    omega (arith, count, c.requires.few)

pub invariant_of-self-2 : goal.invariant_of-self-2
invariant_of-self-2 c =
    one-bounded c.args.cvr.now c.self.inside.count c.self.inside.sums c.reserve.new.self c.change_record.new.sums c.in_ok-reserve.ensures.entries
    c.change_record.ensures c.self.invariant c.requires.countable

pub returns : goal.returns
returns c records up =
    one-up c.args.cvr.now c.self.inside.count c.self.inside.sums c.reserve.new.self c.change_record.new.sums c.in_ok-reserve.ensures.entries
    c.change_record.ensures records (subst (SumsUp records) (sym c.self.view_is) up)
