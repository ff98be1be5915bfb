use Rattle.vx_results.proofs.Written.{written}
use Rattle.vx_results.proofs.kept_results.results_are_of_what_was_kept.Goals as goal

pub returns : goal.returns
returns c = written c.texts_are_of_journals.ensures
