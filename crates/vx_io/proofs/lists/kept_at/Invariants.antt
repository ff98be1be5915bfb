use Rattle.std.proofs.Common.{◌≡◌, ◌==◌, drop}
use Rattle.vx_io.specs.Fakes.{lookup}
use Rattle.vx_io.proofs.lists.kept_at.Given as goal

abbrev pub invariant-loop-call : goal.invariant-loop-call
invariant-loop-call l =
    lookup (λ call. call == l.number) (drop l.call-index l.call-items) ≡ lookup (λ call. call == l.number) l.call-items
