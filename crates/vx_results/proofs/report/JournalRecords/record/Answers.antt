use Rattle.std.proofs.Common.{subst, sym}
use Rattle.vx_election_model.specs.declared.election.Election.{Election}
use Rattle.vx_tally.specs.Totals.{IsCountable}
use Rattle.vx_results.specs.Fitting.{IsRow}
use Rattle.vx_results.proofs.Sized.{record-countable}
use Rattle.vx_results.proofs.report.JournalRecords.record.Goals as goal

pub returns-clause-countable : goal.returns-clause-countable
returns-clause-countable c =
    let is = subst (λ (e : Election). IsRow e c.in_ok-row.row) c.self.invariant.same c.in_ok-row.ensures.fits in
    subst IsCountable (sym c.in_ok-made.ensures)
    (record-countable c.self.inside.election.now c.self.invariant.valid c.in_ok-row.row is)
