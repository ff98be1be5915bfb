use Rattle.std.proofs.Common.{◌∙◌, sym}
use Rattle.std.proofs.lemmas.Bool.{false≢true}
use Rattle.vx_words.specs.declared.command.Command.TheVariants.{Center}
use Rattle.vx_program.proofs.running.run_command.Goals as goal

pub returns-then-is_center : goal.returns-then-is_center
returns-then-is_center g c =
    let named = c.is_center.ensures.0 c.if-is_center.true in (
      λ is. c.commands_are_named.ensures.center c.args.words.now named (c.run_center.ensures.usage.0 is),
      λ none. c.run_center.ensures.usage.1 (λ election moment device items spells. none (Center election moment device items) spells),
    )

pub returns-else-is_center : goal.returns-else-is_center
returns-else-is_center g c = (
  λ is. c.commands_are_named.ensures.other c.args.words.now (λ named. false≢true (sym c.if-is_center.false ∙ c.is_center.ensures.1 named)) (c.run.ensures.usage.0 is),
  λ none. c.run.ensures.usage.1 (λ command spells. none command spells.spells),
)
