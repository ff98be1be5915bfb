use Rattle.vx_io.proofs.Asking.{size-then}
use Rattle.vx_io.proofs.taking.take_reusing.Goals as goal

pub returns-in_err-read_whole-clause-asked : goal.returns-in_err-read_whole-clause-asked
returns-in_err-read_whole-clause-asked g c =
    size-then c.args.name.now c.in_err-read_whole.ensures.asked.0 _ _ _ c.in_ok-size.ensures.asked c.in_err-read_whole.ensures.asked.1

pub returns-clause-asked : goal.returns-clause-asked
returns-clause-asked g c =
    size-then c.args.name.now c.in_ok-read_whole.ensures.asked.0 _ _ _ c.in_ok-size.ensures.asked c.in_ok-read_whole.ensures.asked.1
