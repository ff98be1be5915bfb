use Rattle.std.proofs.Common.{◌≡◌, ℕ, ◌+◌, min, drop, ◌∙◌, arith, rules, sym, ap, refl}
use Rattle.vx_records.specs.Parts.{word_in, choice_from, found, done}
use Rattle.vx_records.specs.Reading.{act_word}
use Rattle.std.specs.Prelude.{Err, slice_index_or}
use Rattle.vx_records.specs.declared.acts.Act.TheVariants.{AddSheet}
use Rattle.vx_records.proofs.Loops.{choice_finds, choice_goes, choice_ends}
use Rattle.vx_records.proofs.acts.act_among.Goals as goal

pub returns-in-Ok : goal.returns-in-Ok
returns-in-Ok c =
    c.loop-act.invariant ∙ choice_finds act_word c.loop-act.left c.args.among.now c.loop-act.act-index _ c.args.text.now c.in-Ok.rest.now (omega arith) (search rules)
    (rw (sym c.act_word.ensures, sym c.as_bytes.ensures.value) c.in-Ok.ensures)

pub loop-act-preserved : goal.loop-act-preserved
loop-act-preserved c =
    let stops = rw c.in-Err-Left.field-0-is at c.in-Err-Left.ensures in
    let least : c.min-left.result ≡ min c.loop-act.left c.in-Err-Left.other = cc (c.min-left.ensures, c.in-Err-Left.other-is) in
    c.loop-act.invariant ∙ choice_goes act_word c.loop-act.left c.args.among.now c.loop-act.act-index (slice_index_or c.args.among.now c.loop-act.act-index AddSheet) c.args.text.now c.in-Err-Left.other (omega arith) (search rules)
    (rw (sym c.act_word.ensures, sym c.as_bytes.ensures.value) stops)
    ∙ ap (λ (left : ℕ). choice_from left act_word (drop (c.loop-act.act-index + 1) c.args.among.now) c.args.text.now) (sym least)

pub returns : goal.returns
returns c = c.loop-act.invariant ∙ choice_ends act_word c.loop-act.left c.args.among.now c.loop-act.act-index c.args.text.now (omega arith)
