use Rattle.vx_results.proofs.Written.{summed}
use Rattle.vx_results.proofs.kept_results.summary_is_of_what_was_kept.Goals as goal

pub returns : goal.returns
returns c = summed c.texts_are_of_journals.ensures
