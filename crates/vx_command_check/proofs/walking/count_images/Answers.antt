use Rattle.std.proofs.Common.{sym, subst}
use Rattle.vx_pbm.specs.Images.{Unread}
use Rattle.vx_command_check.proofs.Counted.{CountedTo, count-none}
use Rattle.vx_command_check.proofs.walking.count_images.Goals as goal

pub images-init : goal.images-init
images-init c =
    let To : Unread → Type 0 = λ unread. CountedTo c.args.bytes.now unread 0 in
    subst To (sym c.new-reader.ensures) (count-none c.args.bytes.now)
