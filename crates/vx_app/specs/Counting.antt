-- Words that are the command `count`.
use Rattle.std.specs.Prelude.{ℕ, List}
use Rattle.vx_words.specs.declared.command.Command.TheVariants.{Count}
use Rattle.vx_words.specs.Words.{Spells}

-- the words are a `count` of some scans as a batch for an election, by so many workers
pub record IsCount (words : List (List ℕ)) : Type 0 where
  pub election : List ℕ
  pub batch : List ℕ
  pub workers : ℕ
  pub scans : List (List ℕ)
  pub spells : Spells words (Count election batch workers scans)
