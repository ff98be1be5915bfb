use Rattle.std.proofs.Common.{◌++◌, List, Err, ap, sym, subst, ◌∙◌}
use Rattle.vx_plane.specs.Plane.{Page}
use Rattle.vx_pbm.specs.Images.{images_left}
use Rattle.vx_command.specs.Done.{ComesTo, IsDone}
use Rattle.vx_command_count.specs.Gathering.{left_by, waits}
use Rattle.vx_command_count.specs.Outcome.{with_images}
use Rattle.vx_command_count.proofs.PieceActs.{leaves-piece, pieces-are}
use Rattle.vx_command_count.proofs.pieces.count_piece.Goals as goal

pub returns-in-Err-clause-counts : goal.returns-in-Err-clause-counts
returns-in-Err-clause-counts g c =
    let last = waits c.take_odd-last.result in
    let left = left_by c.in_ok-ended.ended c.gather.new.reader in
    let pieces = pieces-are (waits c.args.first) (images_left c.args.reader.now) left c.in_ok-images.images.items c.gather.new.images.items c.as_slice-held.result.now last
    c.in_ok-images.ensures c.in_ok-ended.ensures.gathers (ap (λ (images : List Page). images ++ last) c.as_slice-held.ensures.value ∙ c.take_odd-last.ensures.parts) in
    (λ rest.
    let From : List Page → Type 0 = λ images. IsDone (with_images c.args.setting.now.election.now c.args.setting.now.batch.now c.args.counting.now images rest) (g.S.Sink.taken c.args.out.now) (g.S.Sink.taken c.count_images.new.out) (g.K.Keeper.held c.args.keeper.now) (g.K.Keeper.held c.count_images.new.keeper) (Err c.in-Err.halt) in
    subst From (sym pieces) (c.in-Err.ensures.counts (last ++ left.pages) rest))

pub returns-in-Ok-clause-counts : goal.returns-in-Ok-clause-counts
returns-in-Ok-clause-counts g c rest =
    let last = waits c.take_odd-last.result in
    let left = left_by c.in_ok-ended.ended c.gather.new.reader in
    let pieces = pieces-are (waits c.args.first) (images_left c.args.reader.now) left c.in_ok-images.images.items c.gather.new.images.items c.as_slice-held.result.now last
    c.in_ok-images.ensures c.in_ok-ended.ensures.gathers (ap (λ (images : List Page). images ++ last) c.as_slice-held.ensures.value ∙ c.take_odd-last.ensures.parts) in
    let From : List Page → Type 0 = λ images. ComesTo (with_images c.args.setting.now.election.now c.args.setting.now.batch.now c.args.counting.now images rest) (with_images c.args.setting.now.election.now c.args.setting.now.batch.now c.count_images.new.counting (last ++ left.pages) rest) (g.S.Sink.taken c.args.out.now) (g.S.Sink.taken c.count_images.new.out) (g.K.Keeper.held c.args.keeper.now) (g.K.Keeper.held c.count_images.new.keeper) in
    subst From (sym pieces) (c.in-Ok.ensures.counts (last ++ left.pages) rest)

pub returns-in-Ok-clause-leaves : goal.returns-in-Ok-clause-leaves
returns-in-Ok-clause-leaves g c =
    leaves-piece c.args.first c.take_odd-last.result c.args.reader.now c.gather.new.reader c.in_ok-ended.ended c.in_ok-images.images.items c.gather.new.images.items c.take_odd-last.new.images.items
    c.in_ok-images.ensures c.in_ok-ended.ensures.gathers c.take_odd-last.ensures.parts c.take_odd-last.ensures.even c.in_ok-ended.ensures.filled
