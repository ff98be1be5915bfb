use Rattle.vx_words.proofs.OneSpelling.{spelled_once}
use Rattle.vx_words.proofs.laws.words_spell_one_command.Goals as goal

pub returns : goal.returns
returns c = spelled_once
