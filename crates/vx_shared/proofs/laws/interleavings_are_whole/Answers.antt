use Rattle.vx_shared.proofs.Mixed.{as-many, comes, is-of}
use Rattle.vx_shared.proofs.laws.interleavings_are_whole.Goals as goal

pub returns : goal.returns
returns c = record { come = comes; are_of = is-of; no_more = as-many }
