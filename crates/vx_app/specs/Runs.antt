-- Which commands `run` does, and which words are `run_center`'s.
use Rattle.std.specs.Prelude.{◌≡◌, ℕ, Bool, true, List, Some, codes, not, slice_get}
use Rattle.std.specs.Str.{bytes_eq}
use Rattle.vx_words.specs.declared.command.Command.{Command}
use Rattle.vx_words.specs.declared.command.Command.TheVariants.{Center}
use Rattle.vx_words.specs.declared.command.ItemWord.{ItemWord}
use Rattle.vx_words.specs.Names.{name_word}
use Rattle.vx_words.specs.Words.{NoCommand, Spells, name_of}

-- a command that `run` does: each but `center`, which has a top call of its own
abbrev pub is_run : Command → Bool
is_run command = not (bytes_eq (name_word (name_of command)) (codes "center"))

-- the words are this command, which `run` does
pub record SpellsRun (words : List (List ℕ)) (command : Command) : Type 0 where
  pub spells : Spells words command
  pub is_run : is_run command ≡ true

-- the words are no command that `run` does
abbrev pub NoRun : List (List ℕ) → Type 0
NoRun words = (command : Command) → SpellsRun words command → ⊥

-- the words are no `center`
abbrev pub NoCenter : List (List ℕ) → Type 0
NoCenter words = (election moment device : List ℕ) (items : List ItemWord) → Spells words (Center election moment device items) → ⊥

-- the first word names `center`
abbrev pub NamesCenter : List (List ℕ) → Type 0
NamesCenter words = slice_get words 0 ≡ Some (codes "center")

-- commands by their first word: words that begin as a `center` does and are none are no command, and neither are others
-- that are none of `run`
pub record CommandsAreNamed : Type 0 where
  pub center : (words : List (List ℕ)) → NamesCenter words → NoCenter words → NoCommand words
  pub other : (words : List (List ℕ)) → (NamesCenter words → ⊥) → NoRun words → NoCommand words
