-- A command is the one that its words spell.
use Rattle.std.proofs.Common.{◌≡◌, ℕ, List, Some, sym, ap, subst, ◌∙◌}
use Rattle.std.specs.Prelude.{slice_get}
use Rattle.std.proofs.lemmas.Option.{same_Some}
use Rattle.vx_words.specs.declared.command.Command.{Command}
use Rattle.vx_words.specs.declared.name.Name.{Name}
use Rattle.vx_words.specs.Names.{name_word}
use Rattle.vx_words.specs.Words.{HasName, Spells, WordsSpellOneCommand, name_of}
use Rattle.vx_words.proofs.Commands.{command_at, command_back, named}
use Rattle.vx_words.proofs.Names.{same_name}

pub spelled_named : (words : List (List ℕ)) (command : Command) → Spells words command → HasName words (name_of command)
spelled_named words command spelled =
    subst (λ (w : List (List ℕ)). HasName w (name_of command)) (sym spelled.words_are) (named spelled.device command spelled.sound)

-- the name of a command is the first of its words
pub named_first : (words : List (List ℕ)) (command : Command) → Spells words command → slice_get words 0 ≡ Some (name_word (name_of command))
named_first words command spelled = ap (λ (w : List (List ℕ)). slice_get w 0) spelled.words_are

-- words spell the command with the name that is their first, and no other
pub is_named : (words : List (List ℕ)) (name : Name) (command : Command) → slice_get words 0 ≡ Some (name_word name) → Spells words command
    → name ≡ name_of command
is_named words name command first spelled =
    same_name name (name_of command) (same_Some (name_word name) (name_word (name_of command)) (sym first ∙ named_first words command spelled))

spelled_as : (words : List (List ℕ)) (name : Name) (command : Command) → slice_get words 0 ≡ Some (name_word name) → Spells words command
    → command_at name words ≡ command
spelled_as words name command first spelled =
    ap (λ (n : Name). command_at n words) (is_named words name command first spelled) ∙ ap (command_at (name_of command)) spelled.words_are
    ∙ command_back spelled.device command spelled.sound

pub spells_it : (words : List (List ℕ)) (name : Name) (command : Command) → slice_get words 0 ≡ Some (name_word name) → Spells words command
    → Spells words (command_at name words)
spells_it words name command first spelled =
    let Is : Command → Type 0 = λ it. Spells words it in
    subst Is (sym (spelled_as words name command first spelled)) spelled

pub spelled_once : WordsSpellOneCommand
spelled_once words a b first second =
    sym (spelled_as words (name_of a) a (named_first words a first) first) ∙ spelled_as words (name_of a) b (named_first words a first) second
