-- Laws of lines of text.
use Rattle.std.proofs.Common.{◌≡◌, ℕ, zero, suc, ◌+◌, ◌*◌, ◌<◌, ◌≤◌, length, get_or, chars, Bool, true, false, cond, ◌||◌, ⊎_elim, inl, ℤ, pos, ◌<ℤ◌, refl, ap, ap₂, sym, ◌∙◌, arith}
use Rattle.std.proofs.Math.Bool.{or-false}
use Rattle.std.proofs.lemmas.Bool.{cases_lt}
use Rattle.std.proofs.lemmas.Int.{ints}
use Rattle.std.proofs.lemmas.List.{get_or_default}
use Rattle.vx_plane.specs.Plane.{Pixels, Page, rectangle, nowhere, painted, in_any}
use Rattle.vx_plane.proofs.Pages.{painted-same, rectangle-outside}
use Rattle.vx_font.specs.Font.{dot_of}
use Rattle.vx_layout.specs.declared.lines.TextLine.{TextLine}
use Rattle.vx_layout.specs.Print.{dot_pixels, column_pixels, glyph_pixels, character_pixels, line_pixels}

-- the next character of a line, in its cell
pub next_character : (line : TextLine) (n c x : ℕ) → (n < length (chars line.text)) × (c ≡ get_or (chars line.text) n c) → x ≡ line.x + 12 * n → glyph_pixels c x line.y ≡ character_pixels line n
next_character line n c x turn at =
    ap₂ (λ (d z : ℕ). glyph_pixels d z line.y) (turn.1 ∙ get_or_default (chars line.text) n c 0 turn.0) at

-- no set of a family has a place
in_any-none : (n : ℕ) (family : ℕ → Pixels) (u v : ℤ) → ((k : ℕ) → family k u v ≡ false) → in_any n family u v ≡ false
in_any-none zero family u v none = refl
in_any-none (suc n) family u v none = ap₂ (λ (a b : Bool). a || b) (in_any-none n family u v none) (none n)

-- the sets of a family from one on don't have a place
in_any-rest : (n m : ℕ) (family : ℕ → Pixels) (u v : ℤ) → n ≤ m → ((k : ℕ) → n ≤ k → family k u v ≡ false) → in_any n family u v ≡ in_any m family u v
in_any-rest n zero family u v le none = let e : n ≡ 0 = omega arith in ap (λ k. in_any k family u v) e
in_any-rest n (suc m) family u v le none =
    ⊎_elim
    (λ (before : n < suc m).
    sym (ap (λ (t : Bool). in_any m family u v || t) (none m (omega arith)) ∙ or-false (in_any m family u v) ∙ sym (in_any-rest n m family u v (omega arith) none)))
    (λ (last : suc m ≤ n). let e : n ≡ suc m = omega arith in ap (λ k. in_any k family u v) e)
    (cases_lt n (suc m))

dot_beyond : (there : Bool) (x y : ℕ) (u v : ℤ) → u <ℤ pos x → cond there (rectangle (pos x) (pos y) 2 2) nowhere u v ≡ false
dot_beyond true x y u v h = rectangle-outside (pos x) (pos y) 2 2 u v (inl h)
dot_beyond false x y u v h = refl

-- a glyph has no place to the left of its cell
glyph-beyond : (c x y : ℕ) (u v : ℤ) → u <ℤ pos x → glyph_pixels c x y u v ≡ false
unfolding glyph_pixels column_pixels
glyph-beyond c x y u v h =
    in_any-none 5 (column_pixels c x y) u v (λ column.
    in_any-none 7 (dot_pixels c x y column) u v (λ row.
    dot_beyond (dot_of c column row) (x + 2 * column) (y + 2 * row) u v (omega (arith, ints))))

-- a line is painted where the next character would begin beyond the page's right edge
pub painted-cut_line : (page : Page) (line : TextLine) (n : ℕ) → n < length (chars line.text) → page.width ≤ line.x + 12 * n → painted page (in_any n (character_pixels line)) ≡ painted page (line_pixels line)
unfolding line_pixels
painted-cut_line page line n l beyond =
    painted-same page _ _ (λ x y h m.
    in_any-rest n (length (chars line.text)) (character_pixels line) (pos x) (pos y) (omega arith) (λ k after.
    glyph-beyond (get_or (chars line.text) k 0) (line.x + 12 * k) line.y (pos x) (pos y) (omega (arith, ints))))

-- a line is painted where all its characters are
pub painted-whole_line : (page : Page) (line : TextLine) (n : ℕ) → n ≡ length (chars line.text) → painted page (in_any n (character_pixels line)) ≡ painted page (line_pixels line)
unfolding line_pixels
painted-whole_line page line n e = ap (λ k. painted page (in_any k (character_pixels line))) e
