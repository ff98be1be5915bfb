use Rattle.std.proofs.Common.{◌≡◌, ◌≤◌, ◌+◌, ◌*◌, ℕ, take, get_or, arith, refl, subst, ap, ◌∙◌, rules}
use Rattle.std.specs.Str.Parse.{AllDigits, digits_value}
use Rattle.std.proofs.lemmas.List.{take_all}
use Rattle.std.proofs.lemmas.Str.Parse.{digit_at}
use Rattle.vx_readings.proofs.Digits.{digits_below, one_more_digit}
use Rattle.vx_readings.proofs.numbers.value_of.Goals as goal
use Rattle.vx_readings.proofs.numbers.value_of.Goals.{then-byte-lt48-via-then-byte-lt48, then-byte-lt48-via-else-byte-lt48+then-byte-gt57}

pub loop-place-init : goal.loop-place-init
loop-place-init c = record { digits = tt; value = refl }

pub returns-then-byte-lt48 : goal.returns-then-byte-lt48
returns-then-byte-lt48 c = λ all.
    let byte : ℕ = get_or c.args.word.now c.loop-place.place 0 in
    let range = digit_at c.args.word.now c.loop-place.place all c.loop-place-test.true in
    let low : 48 ≤ byte = search (rules, range) in
    let high : byte ≤ 57 = search (rules, range) in
    elim c.then-byte-lt48.branch [
      | then-byte-lt48-via-then-byte-lt48 w ↦ omega (arith, low, w.if-byte-lt48.true)
      | then-byte-lt48-via-else-byte-lt48+then-byte-gt57 w ↦ omega (arith, high, w.if-byte-gt57.true)
    ]

pub overflow_mul-value : goal.overflow_mul-value
overflow_mul-value c =
    let below = digits_below c.args.word.now c.loop-place.place c.requires c.loop-place-test.true c.loop-place.invariant.digits in
    omega (arith, below, c.loop-place.invariant.value)

pub overflow_add-value : goal.overflow_add-value
overflow_add-value c =
    let below = digits_below c.args.word.now c.loop-place.place c.requires c.loop-place-test.true c.loop-place.invariant.digits in
    omega (arith, below, c.loop-place.invariant.value, c.from.ensures, c.if-byte-gt57.false)

pub loop-place-preserved : goal.loop-place-preserved
loop-place-preserved c =
    let more = one_more_digit c.args.word.now c.loop-place.place c.from.result c.loop-place-test.true c.loop-place.invariant.digits
    (omega (arith, c.from.ensures, c.if-byte-lt48.false)) (omega (arith, c.from.ensures, c.if-byte-gt57.false)) in
    record {
      digits = more.0;
      value = ap (λ (v : ℕ). 10 * v + c.from.result) c.loop-place.invariant.value ∙ more.1;
    }

pub returns : goal.returns
returns c =
    let whole : take c.loop-place.place c.args.word.now ≡ c.args.word.now = take_all c.loop-place.place c.args.word.now (omega (arith, c.loop-place-test.false)) in
    (subst (AllDigits 10) whole c.loop-place.invariant.digits, c.loop-place.invariant.value ∙ ap (digits_value 10) whole)
