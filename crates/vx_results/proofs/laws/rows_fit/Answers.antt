use Rattle.vx_results.proofs.Few.{rows-few}
use Rattle.vx_results.proofs.Fitting.{rows-are}
use Rattle.vx_results.proofs.laws.rows_fit.Goals as goal

pub returns : goal.returns
returns c election kept valid history =
    record { each = rows-are election kept valid history; few = rows-few election kept history }
