use Rattle.vx_scan_model.proofs.Clean.{sheared-fits, clean-fits}
use Rattle.vx_scan_model.proofs.laws.clean_prints_fit.Goals as goal

pub returns : goal.returns
returns c = record {
  sheared = sheared-fits;
  clean = clean-fits c.timing_marks_are_marks.ensures c.printed_pages_keep_clear.ensures;
}
