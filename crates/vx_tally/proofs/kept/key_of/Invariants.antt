use Rattle.std.proofs.Common.{◌≡◌}
use Rattle.std.specs.Prelude.{find}
use Rattle.vx_tally.specs.Totals.{same_record}
use Rattle.vx_tally.specs.Kept.{Entry, first_equal}
use Rattle.vx_tally.proofs.kept.key_of.Given as goal

abbrev pub invariant-loop-key : goal.invariant-loop-key
invariant-loop-key l =
    (goal.iterator-loop-key).can_next l.key-iterator
    × (goal.iterator-loop-key).is_finite l.key-iterator
    × (find (λ (other : Entry). same_record l.cvr other.1) l.key-iterator ≡ first_equal l.cvr l.next l.records.entries)
