use Rattle.std.proofs.Common.{◌≡◌, take}
use Rattle.std.specs.Prelude.{filter}
use Rattle.vx_sampling.specs.Standing.{is_as, wins}
use Rattle.vx_sampling.proofs.standing.votes_where.Given as goal

abbrev pub invariant-loop-own : goal.invariant-loop-own
invariant-loop-own l = l.those.items ≡ filter (λ own. is_as l.winning (wins l.seats l.votes own)) (take l.own-index l.votes)
