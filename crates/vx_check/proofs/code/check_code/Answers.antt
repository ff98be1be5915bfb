use Rattle.std.proofs.Common.{◌≡◌, ℕ, Bool, List, Ok, ap, ap₂, sym, ◌∙◌}
use Rattle.std.specs.Prelude.{is_ok}
use Rattle.std.proofs.lemmas.Bool.{false≢true}
use Rattle.vx_check.specs.Tests.{in_order, pair_tested, code_tested}
use Rattle.vx_check.proofs.Codes.{of-range, code-out, code-in, code-shown, read-passes}
use Rattle.vx_check.proofs.code.check_code.Goals as goal

pub returns-then-not-is_in_range-clause-exact : goal.returns-then-not-is_in_range-clause-exact
returns-then-not-is_in_range-clause-exact c = sym (code-out c.args.counter.now c.args.border.now c.args.code.now (sym c.if-not-is_in_range.ensures.exact))

pub returns-then-not-is_in_range-clause-read : goal.returns-then-not-is_in_range-clause-read
returns-then-not-is_in_range-clause-read c = λ h.
    let passed : code_tested c.args.counter.now c.args.border.now c.args.code.now ≡ Ok tt =
    read-passes c.args.counter.now c.args.border.now c.args.code.now c.read_codes_are_shown.ensures h in
    let range = of-range c.args.code.now (code-shown c.args.counter.now c.args.border.now c.args.code.now passed).0 in
    absurd (false≢true (c.if-not-is_in_range.ensures.exact ∙ range))

pub returns-clause-exact : goal.returns-clause-exact
returns-clause-exact c =
    c.check_pairs.ensures
    ∙ ap₂ (λ (counts : List ℕ) (boxes : List Bool). in_order (pair_tested counts boxes) 0 42) c.box_counts-counts.ensures c.boxes_of.ensures.exact
    ∙ sym (code-in c.args.counter.now c.args.border.now c.args.code.now (sym c.if-not-is_in_range.ensures.exact))

pub returns-clause-read : goal.returns-clause-read
returns-clause-read c = λ h.
    let passed : code_tested c.args.counter.now c.args.border.now c.args.code.now ≡ Ok tt =
    read-passes c.args.counter.now c.args.border.now c.args.code.now c.read_codes_are_shown.ensures h in
    let exact =
    c.check_pairs.ensures
    ∙ ap₂ (λ (counts : List ℕ) (boxes : List Bool). in_order (pair_tested counts boxes) 0 42) c.box_counts-counts.ensures c.boxes_of.ensures.exact
    ∙ sym (code-in c.args.counter.now c.args.border.now c.args.code.now (sym c.if-not-is_in_range.ensures.exact)) in
    ap is_ok (exact ∙ passed)
