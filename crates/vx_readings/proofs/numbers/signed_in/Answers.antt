use Rattle.std.proofs.Common.{length, sym, ap, ◌∙◌, le_refl, rules}
use Rattle.std.proofs.lemmas.Slice.{between_to_end}
use Rattle.vx_readings.specs.Numbers.{number_in, negative_of, positive_of}
use Rattle.vx_readings.proofs.Spelled.{signed_in-empty, signed_in-minus, signed_in-plain}
use Rattle.vx_readings.proofs.numbers.signed_in.Goals as goal

pub returns-then-is_empty : goal.returns-then-is_empty
returns-then-is_empty c = sym (signed_in-empty c.args.word.now (search (rules, c.if-is_empty.ensures)))

pub returns-then-word-eq45 : goal.returns-then-word-eq45
returns-then-word-eq45 c =
    let digits = between_to_end c.args.word.now 1 (length c.args.word.now) (le_refl (length c.args.word.now)) in
    c.negative_of.ensures ∙ ap negative_of (c.number_in.ensures ∙ ap number_in digits)
    ∙ sym (signed_in-minus c.args.word.now (search (rules, c.if-is_empty.ensures)) c.if-word-eq45.true)

pub returns-else-word-eq45 : goal.returns-else-word-eq45
returns-else-word-eq45 c =
    c.positive_of.ensures ∙ ap positive_of c.number_in-else-word-eq45.ensures
    ∙ sym (signed_in-plain c.args.word.now (search (rules, c.if-is_empty.ensures)) c.if-word-eq45.false)
