use Rattle.std.proofs.Common.{◌≡◌, ◌+◌, ◌-◌, ◌*◌, ap, ◌∙◌, sym, arith, true, false, ℕ}
use Rattle.vx_records.specs.Numbers.{begins, is_digit, digits_in}
use Rattle.vx_records.proofs.Loops.{number_none, number_goes, number_no_digit, number_no_start}
use Rattle.vx_records.proofs.numbers.number.Goals as goal

pub returns-then-not-is_digit-clause-exact : goal.returns-then-not-is_digit-clause-exact
returns-then-not-is_digit-clause-exact c =
    let no : is_digit c.in-Some.byte ≡ false = cc (c.is_digit.ensures) in
    number_no_digit c.args.numbers c.in-Some.byte c.args.text.now c.in-Some.further.now c.in-Some.ensures no

pub returns-in-None-clause-exact : goal.returns-in-None-clause-exact
returns-in-None-clause-exact c = number_none c.args.numbers c.args.text.now c.in-None.ensures

pub returns-then-begins-clause-exact : goal.returns-then-begins-clause-exact
returns-then-begins-clause-exact c =
    let yes : is_digit c.in-Some.byte ≡ true = cc (c.is_digit.ensures) in
    let some : begins c.args.numbers (c.in-Some.byte - 48) ≡ true = cc (c.begins.ensures.exact, c.from-digit.ensures) in
    rw (number_goes c.args.numbers c.in-Some.byte c.args.text.now c.in-Some.further.now c.in-Some.ensures yes some
    ∙ ap (λ (d : ℕ). digits_in c.args.numbers d c.in-Some.further.now) (sym c.from-digit.ensures)) c.digits.ensures.exact

pub returns-else-begins-clause-exact : goal.returns-else-begins-clause-exact
returns-else-begins-clause-exact c =
    let yes : is_digit c.in-Some.byte ≡ true = cc (c.is_digit.ensures) in
    let none : begins c.args.numbers (c.in-Some.byte - 48) ≡ false = cc (c.begins.ensures.exact, c.from-digit.ensures) in
    number_no_start c.args.numbers c.in-Some.byte c.args.text.now c.in-Some.further.now c.in-Some.ensures yes none
