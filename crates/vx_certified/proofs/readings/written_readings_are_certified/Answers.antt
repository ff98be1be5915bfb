use Rattle.vx_certified.proofs.Pages.{AreWritten}
use Rattle.vx_certified.proofs.Whole.{written-accepted}
use Rattle.vx_certified.proofs.readings.written_readings_are_certified.Goals as goal

pub returns : goal.returns
returns c name scans readings files later well held =
    let laws : AreWritten = record {
      back = c.written_readings_are_read_back.ensures;
      certificates = c.readings_are_certificates.ensures;
      accepted = c.certificates_are_accepted.ensures;
      sayable = c.readings_are_sayable.ensures;
      one_line = c.faults_are_one_line.ensures;
    } in
    written-accepted laws c.taken_elections_are_valid.ensures name scans readings files later held well
