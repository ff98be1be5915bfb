-- The command line as `clap` reads it: one level of subcommands, and each takes all words behind its name.
use Rattle.std.specs.Prelude.{◌≡◌, All, List, [], ◌∷◌, None, Some, codes, true, false, fold, map}
use Rattle.clap.specs.Lexer.{usize_max}
use Rattle.clap.specs.Words.{App, Row, Rule, Shape, Text, new_rule, subcommand_rows_of, with_subcommand}
use Rattle.clap.specs.Simple.{new_shape}
use Rattle.clap.specs.declared.parser.matches.ArgMatches.{ArgMatches}
use Rattle.clap.specs.declared.parser.matches.ValueSource.TheVariants.{CommandLine}
use Rattle.clap.specs.declared.builder.value_parser.Reading.TheVariants.{AsWritten}
use Rattle.vx_words.specs.declared.name.Name.{Name}
use Rattle.vx_words.specs.Names.{all_names, name_word}
use Rattle.vx_words.specs.Words.{IsArgument}

-- the names of the commands
abbrev pub names : List Text
names = map name_word all_names

-- what stands behind a name: one word or more, which `clap` only counts
abbrev pub arguments : Rule
arguments = record (new_rule (codes "arguments")) {
  range = Some (record { start_inclusive = 1; end_inclusive = usize_max });
}

-- a command, by its name
abbrev pub form : Text → Shape
form name = record (new_shape name) { rules = arguments ∷ [] }

-- a command line with more commands
abbrev pub with_names : App → List Name → App
with_names made list = fold (λ some name. with_subcommand some (form (name_word name))) made list

-- all commands, without flags and without `help`
unfoldable pub line : App
line = record {
  top = record (new_shape (codes "vx")) {
    no_binary_name = true;
    disable_help_flag = true;
    disable_help_subcommand = true;
    subcommand_required = true;
    is_leaf = false;
  };
  subs = map form names;
}

-- what `clap` finds of the words behind a name
abbrev pub found_row : List Text → Row
found_row words = record { id = codes "arguments"; values = words; count = None; source = Some CommandLine; reading = AsWritten }

abbrev pub rows_for : List Text → List Row
rows_for [] = []
rows_for (word ∷ words) = found_row (word ∷ words) ∷ []

-- `clap` has found the words' first as a command's name, and behind it the others, which may be arguments
pub record IsSplit (words : List Text) (found : ArgMatches) : Type 0 where
  pub name : Text
  pub behind : List Text
  pub words_are : words ≡ name ∷ behind
  pub are_arguments : All IsArgument behind
  pub split : subcommand_rows_of found ≡ Some (name, rows_for behind)
