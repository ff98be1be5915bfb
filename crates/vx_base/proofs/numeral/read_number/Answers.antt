use Rattle.std.proofs.Common.{◌≡◌, Ok, arith, sym, subst, ◌∙◌}
use Rattle.std.proofs.lemmas.Fmt.{parse-decimal}
use Rattle.vx_base.specs.Numeral.{StartsNumeral}
use Rattle.vx_base.proofs.Numerals.{decimal_starts, parsed_spells}
use Rattle.vx_base.proofs.numeral.read_number.Goals as goal

pub returns-then-not-starts_numeral : goal.returns-then-not-starts_numeral
returns-then-not-starts_numeral c n most is =
    let starts : StartsNumeral c.as_bytes.result.now = subst StartsNumeral (sym is ∙ sym c.as_bytes.ensures.value) (decimal_starts n (omega arith)) in
    let true_too = c.starts_numeral.ensures.1 starts in
    cc

pub returns-then-value-most : goal.returns-then-value-most
returns-then-value-most c =
    let starts : StartsNumeral c.args.word.now = subst StartsNumeral c.as_bytes.ensures.value (c.starts_numeral.ensures.0 c.if-not-starts_numeral.false) in
    (c.if-value-most.true, parsed_spells _ _ _ starts c.in-Ok.is c.parse.ensures.value.0)

pub returns-else-value-most : goal.returns-else-value-most
returns-else-value-most c n most is =
    let found : c.parse.result ≡ Ok n = parse-decimal 32 n _ _ (omega arith) (omega arith) is c.parse.ensures.value.0 in
    let same : c.in-Ok.value ≡ n = cc in
    omega arith

pub returns-in-Err : goal.returns-in-Err
returns-in-Err c n most is =
    let found : c.parse.result ≡ Ok n = parse-decimal 32 n _ _ (omega arith) (omega arith) is c.parse.ensures.value.0 in
    cc
