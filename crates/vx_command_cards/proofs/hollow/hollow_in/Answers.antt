use Rattle.std.proofs.Common.{[]}
use Rattle.vx_base.proofs.Ranges.{flat_map-laid}
use Rattle.vx_command_cards.specs.Drawn.{hollow_at}
use Rattle.vx_command_cards.proofs.hollow.hollow_in.Goals as goal

pub loop-place-preserved : goal.loop-place-preserved
loop-place-preserved c =
    flat_map-laid (hollow_at c.args.characters.now) [] c.loop-place.points.items c.push_point.new.points.items c.loop-place.place c.loop-place.invariant c.in_ok-push_point.ensures
