use Rattle.std.proofs.Common.{◌≡◌, ℕ, ◌+◌, min, drop, ◌∙◌, arith, rules, false, sym, ap, refl}
use Rattle.vx_records.specs.Parts.{word_in, choice_from, found, done}
use Rattle.vx_records.specs.Reading.{kind_text}
use Rattle.std.specs.Prelude.{Err, slice_index_or}
use Rattle.vx_grid.specs.declared.kind.Kind.TheVariants.{Precinct}
use Rattle.vx_records.proofs.Loops.{choice_finds, choice_goes, choice_ends}
use Rattle.vx_records.proofs.sheets.kind_among.Goals as goal

pub returns-in-Ok : goal.returns-in-Ok
returns-in-Ok c =
    c.loop-kind.invariant ∙ choice_finds kind_text c.loop-kind.left c.args.among.now c.loop-kind.kind-index _ c.args.text.now c.in-Ok.rest.now (omega arith) (search rules)
    (rw (sym c.kind_word.ensures, sym c.as_bytes.ensures.value) c.in-Ok.ensures)

pub loop-kind-preserved : goal.loop-kind-preserved
loop-kind-preserved c =
    let stops = rw c.in-Err-Left.field-0-is at c.in-Err-Left.ensures in
    let least : c.min-left.result ≡ min c.loop-kind.left c.in-Err-Left.other = cc (c.min-left.ensures, c.in-Err-Left.other-is) in
    c.loop-kind.invariant ∙ choice_goes kind_text c.loop-kind.left c.args.among.now c.loop-kind.kind-index (slice_index_or c.args.among.now c.loop-kind.kind-index (Precinct, false)) c.args.text.now c.in-Err-Left.other (omega arith) (search rules)
    (rw (sym c.kind_word.ensures, sym c.as_bytes.ensures.value) stops)
    ∙ ap (λ (left : ℕ). choice_from left kind_text (drop (c.loop-kind.kind-index + 1) c.args.among.now) c.args.text.now) (sym least)

pub returns : goal.returns
returns c = c.loop-kind.invariant ∙ choice_ends kind_text c.loop-kind.left c.args.among.now c.loop-kind.kind-index c.args.text.now (omega arith)
