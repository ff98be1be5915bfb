-- Lines of a text are cut where the characters at their ends say so.
use Rattle.std.proofs.Common.{◌≡◌, ◌<◌, ◌+◌, ◌-◌, ◌*◌, ℕ, zero, suc, Bool, true, false, not, ◌&&◌, List, [], ◌∷◌, length, take, drop, chars, refl, sym, ap, ap₂, ◌∙◌, arith, length-take, length-drop}
use Rattle.std.specs.Fork.{slice_chunk}
use Rattle.std.specs.Prelude.{slice_index}
use Rattle.std.specs.Str.{IsUtf8}
use Rattle.std.proofs.lemmas.List.{get_or-take, get_or-drop}
use Rattle.std.proofs.lemmas.Str.{chars-encodes, scalars-chars}
use Rattle.std.proofs.lemmas.Bool.{and_parts, and_from}
use lib.Utf8.{scalar, scalars}
use Rattle.vx_layout.specs.Lines.{line_of, lines_of}
use Rattle.vx_command_cards.specs.Drawn.{first_of, last_of, is_blank, is_cut, end_word, front_word}
use Rattle.vx_command_cards.specs.Texts.{cut_at, cut_line}

-- some of the characters of a text are characters
scalars-take : (n : ℕ) (cs : List ℕ) → scalars cs ≡ true → scalars (take n cs) ≡ true
scalars-take zero cs all = refl
scalars-take (suc n) [] all = refl
scalars-take (suc n) (c ∷ cs) all =
    let parts = and_parts (scalar c) (scalars cs) all in
    and_from (scalar c) (scalars (take n cs)) parts.0 (scalars-take n cs parts.1)

scalars-drop : (n : ℕ) (cs : List ℕ) → scalars cs ≡ true → scalars (drop n cs) ≡ true
scalars-drop zero cs all = all
scalars-drop (suc n) [] all = all
scalars-drop (suc n) (c ∷ cs) all = scalars-drop n cs (and_parts (scalar c) (scalars cs) all).1

-- the characters of a line are the next 29
chars-line : (text : List ℕ) (k : ℕ) → IsUtf8 text → chars (line_of text k) ≡ take 29 (drop (k * 29) (chars text))
chars-line text k is =
    let rest = drop (k * 29) (chars text) in
    chars-encodes (take 29 rest) (scalars-take 29 rest (scalars-drop (k * 29) (chars text) (scalars-chars text is)))

at-line : (cs : List ℕ) (start i : ℕ) → i < 29 → slice_index (take 29 (drop start cs)) i ≡ slice_index cs (start + i)
at-line cs start i low = get_or-take 29 (drop start cs) i 0 low ∙ get_or-drop start cs i 0

last-is : (text : List ℕ) (k : ℕ) → IsUtf8 text → 29 * (k + 1) < length (chars text) → last_of (line_of text k) ≡ slice_index (chars text) (29 * (k + 1) - 1)
last-is text k is more =
    let cs = chars text in
    let rest = drop (k * 29) cs in
    let long : length (take 29 rest) - 1 ≡ 28 = omega (arith, length-take 29 rest, length-drop (k * 29) cs) in
    let place : k * 29 + 28 ≡ 29 * (k + 1) - 1 = omega arith in
    ap (λ (line : List ℕ). slice_index line (length line - 1)) (chars-line text k is)
    ∙ ap (λ (i : ℕ). slice_index (take 29 rest) i) long
    ∙ at-line cs (k * 29) 28 (omega arith)
    ∙ ap (λ (i : ℕ). slice_index cs i) place

first-is : (text : List ℕ) (k : ℕ) → IsUtf8 text → first_of (line_of text (k + 1)) ≡ slice_index (chars text) (29 * (k + 1))
first-is text k is =
    let cs = chars text in
    let place : (k + 1) * 29 + 0 ≡ 29 * (k + 1) = omega arith in
    ap (λ (line : List ℕ). slice_index line 0) (chars-line text (k + 1) is)
    ∙ at-line cs ((k + 1) * 29) 0 (omega arith)
    ∙ ap (λ (i : ℕ). slice_index cs i) place

-- a line is cut where the two characters at its end are no blanks
pub cut-is : (text : List ℕ) (k : ℕ) → IsUtf8 text → 29 * (k + 1) < length (chars text) → is_cut text k ≡ (not (is_blank (slice_index (chars text) (29 * (k + 1) - 1))) && not (is_blank (slice_index (chars text) (29 * (k + 1)))))
unfolding is_cut
cut-is text k is more =
    ap₂ (λ (a b : ℕ). not (is_blank a) && not (is_blank b)) (last-is text k is more) (first-is text k is)

-- behind each line but the last there are characters
pub behind-line : (text : List ℕ) (k : ℕ) → k < lines_of text - 1 → 29 * (k + 1) < length (chars text)
behind-line text k low = omega arith

-- a line is cut as the characters say
pub cut-from : (text characters : List ℕ) (k : ℕ) (b : Bool) → IsUtf8 text → characters ≡ chars text → k < lines_of text - 1 → b ≡ (not (is_blank (slice_index characters (29 * (k + 1) - 1))) && not (is_blank (slice_index characters (29 * (k + 1))))) → is_cut text k ≡ b
cut-from text characters k b is same low said =
    cut-is text k is (behind-line text k low)
    ∙ ap (λ (cs : List ℕ). not (is_blank (slice_index cs (29 * (k + 1) - 1))) && not (is_blank (slice_index cs (29 * (k + 1))))) (sym same)
    ∙ sym said

-- what is told of it
pub cut_at-yes : (contest what text characters : List ℕ) (k : ℕ) → IsUtf8 text → characters ≡ chars text → is_cut text k ≡ true → cut_line contest what (k + 1) (end_word (slice_chunk characters 29 k)) (front_word (slice_chunk characters 29 (k + 1))) ∷ [] ≡ cut_at contest what text k
unfolding cut_at
cut_at-yes contest what text characters k is same cut =
    ap (λ (cs : List ℕ). cut_line contest what (k + 1) (end_word (slice_chunk cs 29 k)) (front_word (slice_chunk cs 29 (k + 1))) ∷ []) same
    ∙ ap₂ (λ (a b : List ℕ). cut_line contest what (k + 1) (end_word a) (front_word b) ∷ []) (sym (chars-line text k is)) (sym (chars-line text (k + 1) is))
    ∙ rw cut refl

pub cut_at-no : (contest what text : List ℕ) (k : ℕ) → is_cut text k ≡ false → cut_at contest what text k ≡ []
unfolding cut_at
cut_at-no contest what text k whole = rw whole refl
