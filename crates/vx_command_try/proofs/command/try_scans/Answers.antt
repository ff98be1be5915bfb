use Rattle.std.proofs.Common.{List, ℕ, subst}
use Rattle.vx_command.specs.Done.{IsWritten}
use Rattle.vx_command_try.specs.declared.setting.Setting.{Setting}
use Rattle.vx_command_try.specs.Outcome.{tried_outcome}
use Rattle.vx_command_try.proofs.command.try_scans.Goals as goal

pub returns-clause-done : goal.returns-clause-done
returns-clause-done g c files told =
    let Done : Setting → List (List ℕ) → Type 0 = λ setting scans.
    IsWritten (tried_outcome setting.election.now files scans) (g.S.Sink.taken c.args.out.now) (g.S.Sink.taken c.walk_scans.new.out) c.walk_scans.result in
    let By : Setting → Type 0 = λ setting. Done setting c.as_slice.result.now in
    subst (Done c.args.setting.now) c.as_slice.ensures (subst By c.new-trying.ensures (c.walk_scans.ensures.done files told))
