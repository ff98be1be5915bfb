use Rattle.std.proofs.Common.{◌≡◌, ◌-◌, ◌*◌, length, drop, min, arith, length-take, length-drop}
use Rattle.vx_command_cards.proofs.Worded.{chunk-is}
use Rattle.vx_command_cards.proofs.words.line_at.Goals as goal

pub returns : goal.returns
returns c =
    let cs = c.args.characters.now in
    let from = c.args.line * 29 in
    let least : c.min.result ≡ min (length cs - from) 29 = omega (arith, c.min.ensures, length-take (length cs - from) (drop from cs), length-drop from cs) in
    chunk-is cs c.args.line c.min.result least
