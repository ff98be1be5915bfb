use Rattle.std.proofs.Common.{refl}
use Rattle.vx_command_cards.specs.Texts.{election_word}
use Rattle.vx_command_cards.proofs.foot.election_word.Goals as goal

pub returns : goal.returns
unfolding election_word
returns c = refl
