use Rattle.std.proofs.Common.{◌≡◌, Ok, arith, sym, subst, ◌∙◌}
use Rattle.std.proofs.lemmas.Fmt.{parse-decimal}
use Rattle.vx_base.specs.Numeral.{StartsNumeral}
use Rattle.vx_words.proofs.Seeds.{decimal_starts, parsed_spells}
use Rattle.vx_words.proofs.seed.read_seed.Goals as goal

pub returns-then-not-starts_numeral : goal.returns-then-not-starts_numeral
returns-then-not-starts_numeral c n fits is =
    let starts : StartsNumeral c.as_bytes.result.now = subst StartsNumeral (sym is ∙ sym c.as_bytes.ensures.value) (decimal_starts n fits) in
    let true_too = c.starts_numeral.ensures.1 starts in
    cc

pub returns-in-Ok : goal.returns-in-Ok
returns-in-Ok c =
    let starts : StartsNumeral c.args.word.now = subst StartsNumeral c.as_bytes.ensures.value (c.starts_numeral.ensures.0 c.if-not-starts_numeral.false) in
    (omega arith, parsed_spells _ _ _ starts c.in-Ok.is c.parse.ensures.value.0)

pub returns-in-Err : goal.returns-in-Err
returns-in-Err c n fits is =
    let found : c.parse.result ≡ Ok n = parse-decimal 64 n _ _ fits fits is c.parse.ensures.value.0 in
    cc
