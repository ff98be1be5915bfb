use Rattle.std.proofs.Common.{◌≡◌, ◌∙◌, sym, subst, length, rules}
use Rattle.std.specs.Prelude.{codes}
use Rattle.vx_words.specs.Words.{IsArgument}
use Rattle.vx_audit.proofs.Spelled.{same-some, spells-totals}
use Rattle.vx_audit.proofs.asking.totals_in.Goals as goal

pub returns : goal.returns
returns c =
    let count : length c.args.words.now ≡ 2 = search rules in
    let named : c.word.result.now ≡ codes "totals" = search rules in
    let argument : IsArgument c.word-2.result.now = search rules in
    let same = same-some c.word-2.result.now c.word-3.result.now (sym c.word-2.ensures ∙ c.word-3.ensures) in
    spells-totals c.args.words.now c.word.result.now c.word-3.result.now count c.word.ensures c.word-3.ensures named (subst IsArgument same argument)
