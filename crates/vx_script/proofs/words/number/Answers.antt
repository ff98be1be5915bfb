use Rattle.vx_script.proofs.Numbered.{number_read}
use Rattle.vx_script.proofs.words.number.Goals as goal

pub returns : goal.returns
returns c = number_read c.args.most c.args.word.now c.read_number.result c.ranges.most.fits c.read_number.ensures
