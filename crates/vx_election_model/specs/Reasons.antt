-- Reasons and sets of them.
use Rattle.std.specs.Prelude.{ℕ, Bool, false, get_or}
use Rattle.vx_election_model.specs.declared.reason.Reason.{Reason}
use Rattle.vx_election_model.specs.declared.reason.Reason.TheVariants.{Overvote, Undervote, MarginalMark, BlankBallot, WriteIn}
use Rattle.vx_election_model.specs.declared.reason.ReasonSet.{ReasonSet}

-- the place of a reason in their order, from 0
abbrev pub reason_place : Reason → ℕ
reason_place Overvote = 0
reason_place Undervote = 1
reason_place MarginalMark = 2
reason_place BlankBallot = 3
reason_place WriteIn = 4

-- whether a set has the reason
abbrev pub has_reason : ReasonSet → Reason → Bool
has_reason set reason = get_or set (reason_place reason) false
