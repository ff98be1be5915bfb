use Rattle.std.proofs.Common.{◌≡◌, ◌+◌, ◌-◌, ◌*◌, ap, ◌∙◌, sym, arith, true, false, ℕ}
use Rattle.vx_records.specs.Numbers.{begins, is_digit, digits_in}
use Rattle.vx_records.proofs.Loops.{digits_end, digits_before, digits_zero, digits_break, digits_go}
use Rattle.vx_records.proofs.numbers.digits.Goals as goal

pub returns-then-not-is_digit-clause-exact : goal.returns-then-not-is_digit-clause-exact
returns-then-not-is_digit-clause-exact c =
    let no : is_digit c.in-Some.byte ≡ false = cc (c.is_digit.ensures) in
    rw (c.loop-byte.invariant.same ∙ digits_before c.args.numbers c.loop-byte.n c.in-Some.byte c.loop-byte.rest.now c.in-Some.further.now c.in-Some.ensures no) c.taken.ensures.exact

pub returns-then-n-eq0-clause-exact : goal.returns-then-n-eq0-clause-exact
returns-then-n-eq0-clause-exact c =
    let yes : is_digit c.in-Some.byte ≡ true = cc (c.is_digit.ensures) in
    c.loop-byte.invariant.same ∙ digits_zero c.args.numbers c.loop-byte.n c.in-Some.byte c.loop-byte.rest.now c.in-Some.further.now c.in-Some.ensures yes (omega arith)

pub returns-then-not-begins-clause-exact : goal.returns-then-not-begins-clause-exact
returns-then-not-begins-clause-exact c =
    let yes : is_digit c.in-Some.byte ≡ true = cc (c.is_digit.ensures) in
    let none : begins c.args.numbers (10 * c.loop-byte.n + (c.in-Some.byte - 48)) ≡ false = cc (c.begins.ensures.exact, c.from.ensures) in
    c.loop-byte.invariant.same ∙ digits_break c.args.numbers c.loop-byte.n c.in-Some.byte c.loop-byte.rest.now c.in-Some.further.now c.in-Some.ensures yes none

pub loop-byte-preserved : goal.loop-byte-preserved
loop-byte-preserved c =
    let yes : is_digit c.in-Some.byte ≡ true = cc (c.is_digit.ensures) in
    let some : begins c.args.numbers (10 * c.loop-byte.n + (c.in-Some.byte - 48)) ≡ true = cc (c.begins.ensures.exact, c.from.ensures) in
    record {
      same = c.loop-byte.invariant.same
          ∙ digits_go c.args.numbers c.loop-byte.n c.in-Some.byte c.loop-byte.rest.now c.in-Some.further.now c.in-Some.ensures yes (omega arith) some
          ∙ ap (λ (d : ℕ). digits_in c.args.numbers (10 * c.loop-byte.n + d) c.in-Some.further.now) (sym c.from.ensures);
      small = c.begins.ensures.small (cc);
    }

pub returns-clause-exact : goal.returns-clause-exact
returns-clause-exact c = rw (c.loop-byte.invariant.same ∙ digits_end c.args.numbers c.loop-byte.n c.loop-byte.rest.now c.in_default.ensures) c.taken-2.ensures.exact
