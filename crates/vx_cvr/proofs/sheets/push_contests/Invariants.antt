use Rattle.std.proofs.Common.{◌≡◌, ◌++◌, drop, false, map}
use Rattle.serde_json.specs.View.{items_of}
use Rattle.serde_json.specs.Written.{items_text}
use Rattle.vx_cvr.specs.Report as spec
use Rattle.vx_cvr.proofs.sheets.push_contests.Given as goal

-- what was written, and what is left to write, are all
abbrev pub invariant-loop-counted : goal.invariant-loop-counted
invariant-loop-counted l =
    l.text ++ items_text l.is_later (items_of (map (spec.counted_in l.election) (drop l.counted-index l.finals)))
    ≡ l.fn.text ++ items_text false (items_of (map (spec.counted_in l.election) l.finals))
