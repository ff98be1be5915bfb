use Rattle.std.proofs.Common.{◌≡◌, drop, length}
use Rattle.vx_records.specs.Parts.{choice_from}
use Rattle.vx_records.specs.Reading.{act_word}
use Rattle.vx_records.proofs.acts.act_among.Given as goal

-- the kinds that are left
abbrev pub invariant-loop-act : goal.invariant-loop-act
invariant-loop-act l =
    choice_from (length l.text) act_word l.among l.text ≡ choice_from l.left act_word (drop l.act-index l.among) l.text
