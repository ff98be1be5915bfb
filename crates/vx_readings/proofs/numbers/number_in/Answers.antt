use Rattle.std.proofs.Common.{◌≡◌, ◌<◌, length, get_or, arith, ap, sym, ◌∙◌, Some, rules}
use Rattle.vx_readings.proofs.Digits.{digits-spell, none-not_digits, none-too_great, none-leading_zero, none-empty, none-long, one_alone}
use Rattle.vx_readings.proofs.numbers.number_in.Goals as goal
use Rattle.vx_readings.proofs.numbers.number_in.Goals.{then-is_empty-via-then-is_empty, then-is_empty-via-else-is_empty+then-word-gt10, then-is_empty-via-else-is_empty+else-word-gt10+then-has_leading_zero}

pub returns-then-is_empty : goal.returns-then-is_empty
returns-then-is_empty c =
    elim c.then-is_empty.branch [
      | then-is_empty-via-then-is_empty w ↦ sym (none-empty c.args.word.now (search (rules, w.if-is_empty.ensures)))
      | then-is_empty-via-else-is_empty+then-word-gt10 w ↦ sym (none-long c.args.word.now (omega (arith, w.if-word-gt10.true)))
      | then-is_empty-via-else-is_empty+else-word-gt10+then-has_leading_zero w ↦
          let zero : (get_or c.args.word.now 0 0 ≡ 48) × (1 < length c.args.word.now) = search (rules, w.if-has_leading_zero.ensures) in
          sym (none-leading_zero c.args.word.now zero.0 zero.1)
    ]

pub returns-then-value-from : goal.returns-then-value-from
returns-then-value-from c =
    let word = c.args.word.now in
    let some : 0 < length word = search (rules, c.if-is_empty.ensures) in
    let alone : ¬ ((get_or word 0 0 ≡ 48) × (1 < length word)) = search (rules, c.if-has_leading_zero.ensures) in
    let told = c.in-Some.ensures in
    let spelled = digits-spell word told.0 some (λ zero. one_alone (length word) some (λ more. alone (zero, more))) (omega (arith, c.if-value-from.true, c.from.ensures, told.1)) in
    ap Some told.1 ∙ sym spelled

pub returns-else-value-from : goal.returns-else-value-from
returns-else-value-from c =
    sym (none-too_great c.args.word.now (omega (arith, c.if-value-from.false, c.from.ensures, c.in-Some.ensures.1)))

pub returns-in-None : goal.returns-in-None
returns-in-None c = sym (none-not_digits c.args.word.now c.in-None.ensures)
