use denote.Param.Send.{sendable, param_sync}
use Rattle.vx_shared.proofs.Crossing.{Center-shared-sync}
use Rattle.vx_shared.proofs.halves.run_all.Goals as goal

pub run_halves-pass-requires-sync-S : goal.run_halves-pass-requires-sync-S
run_halves-pass-requires-sync-S g c κs within = search (sendable, Center-shared-sync) depth 10

pub run_halves-pass-requires-clause-sync : goal.run_halves-pass-requires-clause-sync
run_halves-pass-requires-clause-sync g c κs within = (
  param_sync 0 _ c.type_bounds.sync-R,
  search (sendable, Center-shared-sync) depth 10,
  param_sync 2 _ c.type_bounds.sync-T,
  param_sync 3 _ c.type_bounds.sync-W,
  param_sync 4 _ c.type_bounds.sync-G,
)
