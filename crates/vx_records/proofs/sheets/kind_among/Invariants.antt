use Rattle.std.proofs.Common.{◌≡◌, drop, length}
use Rattle.vx_records.specs.Parts.{choice_from}
use Rattle.vx_records.specs.Reading.{kind_text}
use Rattle.vx_records.proofs.sheets.kind_among.Given as goal

-- the kinds that are left
abbrev pub invariant-loop-kind : goal.invariant-loop-kind
invariant-loop-kind l =
    choice_from (length l.text) kind_text l.among l.text ≡ choice_from l.left kind_text (drop l.kind-index l.among) l.text
