-- The hollow box is drawn for the characters above U+007F and for no others.
use Rattle.std.proofs.Common.{◌≡◌, ◌<◌, ◌≤◌, ◌+◌, ◌⊎◌, inl, inr, ℕ, Bool, true, false, cond, List, [], ◌∷◌, refl, sym, ap, ◌∙◌, arith}
use Rattle.std.specs.Prelude.{nat_lt, chars, count_by, fold}
use Rattle.std.proofs.lemmas.Bool.{agree_below_at, cases_lt}
use Rattle.vx_base.proofs.Numbers.{below-yes, below-no, equal-no}
use Rattle.vx_font.specs.Font.{dots_of}
use Rattle.vx_layout.specs.declared.lines.TextLine.{TextLine}
use Rattle.vx_layout.specs.Plan.{hollow_in}
use Rattle.vx_command_cards.specs.Drawn.{is_hollow}

-- none of the first 128 characters, by one computed test
none-below : (c : ℕ) → c < 128 → is_hollow c ≡ false
unfolding dots_of
none-below c low = agree_below_at is_hollow (λ _. false) 128 c refl low

-- each behind them
all-above : (c : ℕ) → 128 ≤ c → is_hollow c ≡ true
unfolding dots_of
all-above c high =
    rw (below-no c 32 (omega arith), below-no c 127 (omega arith), equal-no c 127 (λ same. absurd (omega arith))) refl

hollow-is : (c : ℕ) → nat_lt 127 c ≡ is_hollow c
hollow-is c = by (cases_lt c 128)
  where
    by : (c < 128) ⊎ (128 ≤ c) → nat_lt 127 c ≡ is_hollow c
    by (inl low) = below-no 127 c (omega arith) ∙ sym (none-below c low)
    by (inr high) = below-yes 127 c (omega arith) ∙ sym (all-above c high)

same-count : (p q : ℕ → Bool) → ((c : ℕ) → p c ≡ q c) → (n : ℕ) (cs : List ℕ) → fold (λ (m c : ℕ). m + cond (p c) 1 0) n cs ≡ fold (λ (m c : ℕ). m + cond (q c) 1 0) n cs
same-count p q same n [] = refl
same-count p q same n (c ∷ cs) =
    same-count p q same (n + cond (p c) 1 0) cs ∙ ap (λ (b : Bool). fold (λ (m c : ℕ). m + cond (q c) 1 0) (n + cond b 1 0) cs) (same c)

-- so a plan counts what is drawn as the box
pub counts : (line : TextLine) → hollow_in line ≡ count_by is_hollow (chars line.text)
counts line = same-count (λ c. nat_lt 127 c) is_hollow hollow-is 0 (chars line.text)
