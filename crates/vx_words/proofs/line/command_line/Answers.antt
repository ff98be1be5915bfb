use Rattle.std.proofs.Common.{◌≡◌, ◌∙◌, ap, true}
use Rattle.std.proofs.lemmas.Result.{IfOk-weaker}
use Rattle.clap.specs.Words.{App, app_of}
use Rattle.clap.specs.Simple.{app_of_fields}
use Rattle.clap.specs.declared.builder.command.Command.{Command}
use Rattle.clap.specs.declared.builder.command.Command.TheOpen.{Command-F}
use Rattle.vx_words.specs.Line.{with_names}
use Rattle.vx_words.specs.Names.{all_names}
use Rattle.vx_words.proofs.Split.{grown, start}
use Rattle.vx_words.proofs.line.command_line.Goals as goal

pub returns : goal.returns
returns c =
    let begun : app_of c.subcommand_required-line.result ≡ start = ap app_of_fields c.subcommand_required-line.ensures
    ∙ ap (λ (f : Command-F Command). app_of_fields (record f { subcommand_required = true })) c.disable_help_subcommand.ensures
    ∙ ap (λ (f : Command-F Command). app_of_fields (record f { disable_help_subcommand = true; subcommand_required = true })) c.disable_help_flag.ensures
    ∙ ap (λ (f : Command-F Command). app_of_fields (record f { disable_help_flag = true; disable_help_subcommand = true; subcommand_required = true })) c.no_binary_name.ensures
    ∙ ap (λ (a : App). record a { top = record a.top { no_binary_name = true; disable_help_flag = true; disable_help_subcommand = true; subcommand_required = true } }) c.new.ensures.app in
    IfOk-weaker c.with_forms.result _ _ (λ made is. is ∙ ap (λ (a : App). with_names a all_names) begun ∙ grown) c.with_forms.ensures
