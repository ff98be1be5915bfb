use Rattle.std.proofs.Common.{refl}
use Rattle.vx_command_cards.specs.Texts.{description_word}
use Rattle.vx_command_cards.proofs.texts.description_word.Goals as goal

pub returns : goal.returns
unfolding description_word
returns c = refl
