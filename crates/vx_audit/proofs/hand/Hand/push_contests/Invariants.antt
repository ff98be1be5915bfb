use Rattle.std.proofs.Common.{◌≡◌, ◌++◌, ℕ, map}
use Rattle.vx_audit.proofs.hand.Hand.push_contests.Given as goal

abbrev pub invariant-loop-key : goal.invariant-loop-key
invariant-loop-key l =
    (goal.iterator-loop-key).can_next l.key-iterator
    × (goal.iterator-loop-key).is_finite l.key-iterator
    × (l.contests.items ++ map (λ (e : (ℕ × ℕ) × ℕ). e.0.1) l.key-iterator
    ≡ l.initial.contests.items ++ map (λ (e : (ℕ × ℕ) × ℕ). e.0.1) l.initial.key-iterator)
