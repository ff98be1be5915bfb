use Rattle.vx_desk.proofs.Framed.{can_be_shown}
use Rattle.vx_desk.proofs.image.Image.new.Goals as goal

pub invariant_of-result : goal.invariant_of-result
invariant_of-result c =
    can_be_shown c.args.election.now c.args.scan.now c.args.reading.now c.bubbles_of.result.now c.requires.read c.bubbles_of.ensures.on_grid
