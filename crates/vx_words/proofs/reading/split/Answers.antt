use Rattle.std.proofs.Common.{◌≡◌, ◌∙◌, [], map, ap, subst}
use Rattle.clap.specs.Words.{App, app_of, fault_of, is_simple, is_simple_and_free, subcommand_of, takes}
use Rattle.clap.specs.Words.{kind_of}
use Rattle.vx_words.specs.Line.{line}
use Rattle.vx_words.proofs.Parsed.{is_split, told}
use Rattle.vx_words.proofs.Split.{line_is_simple, line_simple}
use Rattle.vx_words.proofs.reading.split.Goals as goal

pub command_in-requires : goal.command_in-requires
command_in-requires c =
    let is : app_of c.in_ok-command_line.field-0 ≡ line = c.in_ok-command_line.ensures in
    let words = map (λ word. word.now) c.args.words.now in
    is_split words c.in-Ok.found c.requires.arguments
    (subst (λ (a : App). fault_of a words ≡ []) is (c.in-Ok.ensures.kinds (ap is_simple_and_free is ∙ line_simple)))
    ((c.in-Ok.ensures.matches (ap is_simple is ∙ line_is_simple)).1 ∙ ap (λ (a : App). subcommand_of a words) is)

pub returns-in-Err : goal.returns-in-Err
returns-in-Err c =
    let is : app_of c.in_ok-command_line.field-0 ≡ line = c.in_ok-command_line.ensures in
    let words = map (λ word. word.now) c.args.words.now in
    told words c.requires.arguments c.requires.few c.fault_of.result (kind_of c.in-Err.error)
    (λ taken_so. c.in-Err.ensures.passes (ap (λ (a : App). takes a words) is ∙ taken_so)) c.fault_of.ensures
