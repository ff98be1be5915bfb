use Rattle.std.proofs.Common.{◌∙◌, ap, arith, get_or, rules}
use Rattle.clap.specs.Words.{App, app_of, with_subcommand}
use Rattle.vx_words.specs.declared.name.Name.{Name}
use Rattle.vx_words.specs.declared.name.Name.TheVariants.{Print}
use Rattle.vx_words.specs.Line.{form}
use Rattle.vx_words.specs.Names.{name_word}
use Rattle.vx_words.proofs.Split.{one_form_more}
use Rattle.vx_words.proofs.line.with_forms.Goals as goal

pub loop-name-preserved : goal.loop-name-preserved
loop-name-preserved c =
    let name : Name = get_or c.args.names.now c.loop-name.name-index Print in
    c.in_ok-line.ensures ∙ ap (λ word. with_subcommand (app_of c.loop-name.line) (form word)) c.row_in_table.ensures.name
    ∙ ap (λ (made : App). with_subcommand made (form (name_word name))) c.loop-name.invariant
    ∙ one_form_more (app_of c.args.line) c.args.names.now c.loop-name.name-index name (omega (arith, c.loop-name-test.true)) (search rules)
