use Rattle.std.proofs.Common.{◌≡◌, drop}
use Rattle.vx_election.specs.Settings.{is_named}
use Rattle.vx_election.proofs.settings.is_named.Given as goal

abbrev pub invariant-loop-other : goal.invariant-loop-other
invariant-loop-other l = is_named l.reason (drop l.other-index l.reasons) ≡ is_named l.reason l.reasons
