use Rattle.std.proofs.Common.{◌≡◌, length, rules}
use Rattle.std.specs.Prelude.{codes}
use Rattle.vx_words.specs.Words.{IsArgument}
use Rattle.vx_audit.proofs.Spelled.{form-told}
use Rattle.vx_audit.proofs.asking.is_audit_form.Goals as goal

pub returns : goal.returns
returns c =
    let count : length c.args.words.now ≡ 5 = search rules in
    let named : c.word.result.now ≡ codes "audit" = search rules in
    let argument : IsArgument c.word-2.result.now = search rules in
    form-told c.args.words.now c.word.result.now c.word-2.result.now c.word-3.result.now count c.word.ensures c.word-2.ensures c.word-3.ensures named argument
    c.is_argument-2.result c.is_argument-2.ensures.0 c.is_argument-2.ensures.1
