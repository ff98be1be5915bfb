use Rattle.std.proofs.Common.{◌≡◌, length, ap, arith}
use Rattle.vx_pbm.specs.Images.{Unread}
use Rattle.vx_command_center.proofs.Scripts.{counts_none}
use Rattle.vx_command_center.proofs.lines.count_images.Goals as goal

pub images-init : goal.images-init
images-init c =
    let text : length c.new-reader.result.text ≡ length c.args.bytes.now = ap (λ (unread : Unread). length unread.text) c.new-reader.ensures in
    record {
      counted = counts_none c.args.bytes.now c.new-reader.result c.new-reader.ensures;
      room = omega (arith, text);
    }
