-- Texts that are written piece by piece.
use Rattle.std.proofs.Common.{◌≡◌, ℕ, List, [], ◌∷◌, ◌++◌, map, take, codes, refl, sym, ap, ap₂, ◌∙◌, append_assoc}
use Rattle.std.specs.List.{flat_map}
use Rattle.std.proofs.lemmas.List.Folds.{flat_map-map}
use Rattle.vx_grid.specs.declared.places.Point.{Point}
use Rattle.vx_readings.specs.ReadingText.{line_of, place_word, border_line}

-- a line is its first word, the others each behind a blank, and the line end
line_of-words : (word : List ℕ) (words : List (List ℕ)) → line_of (word ∷ words) ≡ word ++ (flat_map (λ other. 32 ∷ other) words ++ 10 ∷ [])
line_of-words word [] = refl
line_of-words word (next ∷ words) =
    ap (λ (line : List ℕ). word ++ 32 ∷ line) (line_of-words next words ∙ sym (append_assoc next (flat_map (λ other. 32 ∷ other) words) (10 ∷ [])))

-- a line of words that are made of a list
pub line_of-map : {X : Type 0} (word : List ℕ) (f : X → List ℕ) (xs : List X) → line_of (word ∷ map f xs) ≡ word ++ (flat_map (λ (x : X). 32 ∷ f x) xs ++ 10 ∷ [])
line_of-map word f xs =
    line_of-words word (map f xs) ∙ ap (λ (others : List ℕ). word ++ (others ++ 10 ∷ [])) (flat_map-map (λ other. 32 ∷ other) f xs)

-- the places of a border so far, each behind a blank
abbrev pub laid_places : List Point → List ℕ
laid_places border = flat_map (λ p. 32 ∷ place_word p) border

-- all of them, with the first word and the line end
pub border_line-laid : (old begun now : List ℕ) (border : List Point) (k : ℕ) → begun ≡ old ++ codes "border" → now ≡ begun ++ laid_places (take k border) → take k border ≡ border → now ++ 10 ∷ [] ≡ old ++ border_line border
unfolding border_line
border_line-laid old begun now border k begins laid all =
    ap (λ (text : List ℕ). text ++ 10 ∷ []) (laid ∙ ap₂ (λ (a b : List ℕ). a ++ b) begins (ap laid_places all))
    ∙ append_assoc (old ++ codes "border") (laid_places border) (10 ∷ [])
    ∙ append_assoc old (codes "border") (laid_places border ++ 10 ∷ [])
    ∙ ap (λ (line : List ℕ). old ++ line) (sym (line_of-map (codes "border") place_word border))
