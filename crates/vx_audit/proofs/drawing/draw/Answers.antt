use Rattle.std.proofs.Common.{◌∙◌, ap, ℕ}
use Rattle.rand_chacha.specs.ChaCha.{ChaCha, word_at}
use Rattle.vx_audit.specs.Sample.{word_of}
use Rattle.vx_audit.proofs.drawing.draw.Goals as goal

pub returns-clause-word : goal.returns-clause-word
unfolding word_of
returns-clause-word c =
    ap (λ (next : ℕ × ChaCha). next.0) c.next_word.ensures ∙ ap (λ (words : ChaCha). word_at 10 words.key words.stream words.word_pos) c.requires
