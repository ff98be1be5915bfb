use Rattle.std.proofs.Common.{refl, sym, subst}
use Rattle.std.specs.Prelude.{Result}
use Rattle.vx_base.proofs.Results.{Unless-no}
use Rattle.vx_scan_model.specs.declared.reading.PageReading.{PageReading}
use Rattle.vx_scan_model.specs.declared.fault.PageFault.{PageFault}
use Rattle.vx_scan_model.specs.Faults.{is_no_memory}
use Rattle.vx_page.specs.Named.{GivesOnPlan}
use Rattle.vx_page.proofs.Answered.{unless-want, allowed-counted, allowed-turned, reading-upright, reading-turned}
use Rattle.vx_page.proofs.page.read_counted.Goals as goal

pub read_upright-requires-clause-allowed : goal.read_upright-requires-clause-allowed
read_upright-requires-clause-allowed c =
    allowed-counted c.args.election.now.paper c.args.counter.now c.args.counter.now refl c.requires.allowed

pub returns-in-Ok : goal.returns-in-Ok
returns-in-Ok c = (
  reading-upright c.args.election.now c.args.counter.now c.args.counter.now c.in-Ok.given.0 refl c.in-Ok.ensures.0,
  c.in-Ok.ensures.1,
)

pub returns-then-is_no_memory : goal.returns-then-is_no_memory
returns-then-is_no_memory c = unless-want _ (is_no_memory c.in-Err.fault) (sym c.if-is_no_memory.ensures)

pub read_turned-requires-clause-allowed : goal.read_turned-requires-clause-allowed
read_turned-requires-clause-allowed c =
    allowed-turned c.args.election.now.paper c.args.counter.now c.args.counter.now c.turn.new.self refl c.turn.ensures c.requires.allowed

pub returns-else-is_no_memory : goal.returns-else-is_no_memory
returns-else-is_no_memory c =
    subst (λ (defined : Result PageReading PageFault). GivesOnPlan c.args.election.now defined c.read_turned.result)
    (sym (reading-turned c.args.election.now c.args.counter.now c.args.counter.now c.turn.new.self c.in-Err.fault refl c.turn.ensures
    (Unless-no (is_no_memory c.in-Err.fault) (sym c.if-is_no_memory.ensures) c.in-Err.ensures)))
    c.read_turned.ensures
