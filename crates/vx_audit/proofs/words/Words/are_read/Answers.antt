use Rattle.std.proofs.Common.{◌∙◌, ap, List, ℕ, ◌==◌, length}
use Rattle.vx_audit.proofs.Blanks.{read-where-ended}
use Rattle.vx_audit.proofs.words.Words.are_read.Goals as goal

pub returns : goal.returns
returns c = read-where-ended c.self.inside.ended c.self.inside.text.now ∙ ap (λ (words : List (List ℕ)). length words == 0) c.self.view_is
