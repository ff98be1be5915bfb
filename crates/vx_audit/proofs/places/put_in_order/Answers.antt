use Rattle.std.proofs.lemmas.List.Filters.{dedup_is}
use Rattle.vx_audit.proofs.InOrder.{places-in_order}
use Rattle.vx_audit.proofs.places.put_in_order.Goals as goal

pub returns : goal.returns
returns c =
    places-in_order c.args.places.now.items c.sort_unstable.new.self.items c.dedup.new.self.items c.sort_unstable.ensures.permutation
    c.sort_unstable.ensures.sorted (dedup_is _ _ _ c.dedup.ensures.filtered)
