use Rattle.std.proofs.Common.{sym}
use Rattle.vx_scan_model.specs.Faults.{is_no_memory}
use Rattle.vx_scan_model.specs.Reading.{upright_reading_of}
use Rattle.vx_page.proofs.Answered.{unless-want, turned-read, turned-on, turned-fault}
use Rattle.vx_page.proofs.page.read_turned.Goals as goal

pub returns-in-Ok : goal.returns-in-Ok
returns-in-Ok c = (
  turned-read c.args.election.now c.args.first (upright_reading_of c.args.election.now c.args.counter.now) c.in-Ok.reading c.in-Ok.ensures.0,
  turned-on c.args.election.now c.in-Ok.reading c.in-Ok.plan.now c.in-Ok.ensures.1,
)

pub returns-then-is_no_memory : goal.returns-then-is_no_memory
returns-then-is_no_memory c = unless-want _ (is_no_memory c.in-Err.other) (sym c.if-is_no_memory.ensures)

pub returns-else-is_no_memory : goal.returns-else-is_no_memory
returns-else-is_no_memory c =
    turned-fault c.args.first c.in-Err.other (upright_reading_of c.args.election.now c.args.counter.now) c.in-Err.ensures (sym c.if-is_no_memory.ensures)
