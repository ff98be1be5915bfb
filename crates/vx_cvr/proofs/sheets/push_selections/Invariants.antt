use Rattle.std.proofs.Common.{◌≡◌, ◌++◌, drop, false, map}
use Rattle.serde_json.specs.View.{items_of}
use Rattle.serde_json.specs.Written.{items_text}
use Rattle.vx_cvr.specs.Report as spec
use Rattle.vx_cvr.proofs.sheets.push_selections.Given as goal

-- what was written, and what is left to write, are all
abbrev pub invariant-loop-option : goal.invariant-loop-option
invariant-loop-option l =
    l.text ++ items_text l.is_later (items_of (map (spec.selected l.contest l.counted) (drop l.option-index l.counted.selected)))
    ≡ l.fn.text ++ items_text false (items_of (map (spec.selected l.contest l.counted) l.counted.selected))
