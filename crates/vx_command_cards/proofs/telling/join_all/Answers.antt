use Rattle.std.proofs.Common.{◌≡◌, ◌++◌, ◌∷◌, [], ℕ, List, append_assoc, ◌∙◌}
use Rattle.vx_command_cards.specs.Lines.{ended}
use Rattle.vx_command_cards.proofs.telling.join_all.Goals as goal

joined : (a b c d e f a' b' c' d' e' : List ℕ) → a ≡ a' → b ≡ b' → c ≡ c' → d ≡ d' → e ≡ e' → a ++ (b ++ (c ++ (d ++ (e ++ (f ++ 10 ∷ []))))) ≡ a' ++ b' ++ c' ++ d' ++ e' ++ ended f
joined a b c d e f a' b' c' d' e' p q r s t = rw (p, q, r, s, t) (simp append_assoc)

pub returns : goal.returns
returns c =
    c.in_ok-text.ensures.ok
    ∙ joined _ _ _ _ _ c.args.last.now _ _ _ _ _ c.as_str-cards.ensures.value c.as_str-hollow.ensures.value c.as_str-blank.ensures.value c.as_str-cut.ensures.value c.as_str-alike.ensures.value
