-- The text of a fault stands on one line.
use Rattle.std.proofs.Common.{◌≡◌, ◌≢◌, ◌/◌, ◌%◌, ◌<◌, ◌==◌, ℕ, ℤ, pos, negsuc, zero, suc, Bool, true, false, List, [], ◌∷◌, ◌++◌, cond, length, length-append, arith, refl}
use Rattle.std.specs.Prelude.{codes, slice_index}
use Rattle.std.specs.Fmt.{decimal, signed_decimal, digit_glyph, digits_onto, digits}
use Rattle.std.proofs.lemmas.Bool.Decides.{nat_tests}
use Rattle.vx_base.proofs.Numbers.{equal-no, equal-yes}
use Rattle.vx_grid.specs.declared.places.Point.{Point}
use Rattle.vx_grid.specs.declared.side.Side.{Side}
use Rattle.vx_grid.specs.declared.side.Side.TheVariants.{Top, Right, Left, Bottom}
use Rattle.vx_mark_model.specs.declared.fault.BorderFault.{BorderFault}
use Rattle.vx_mark_model.specs.declared.fault.BorderFault.TheVariants.{NoCorner, NoMark, OpenBorder}
use Rattle.vx_code.specs.declared.code.CodeFault.{CodeFault}
use Rattle.vx_code.specs.declared.code.CodeFault.TheVariants.{BadPair, BadVersion}
use Rattle.vx_scan_model.specs.declared.fault.PageFault.{PageFault}
use Rattle.vx_scan_model.specs.declared.fault.PageFault.TheVariants.{FrameSize, Border, Code, OtherElection, NoCard, NoPage, OutOfMemory}
use Rattle.vx_scan_model.specs.FaultTexts.{side_name, place_text, border_text, code_text, fault_text}
use Rattle.vx_readings.specs.Laws.{IsOneLine}

-- whether no byte of a text is an LF
abbrev lacks : List ℕ → Bool
lacks [] = true
lacks (byte ∷ text) = cond (byte == 10) false (lacks text)

lacks-both : (a b : List ℕ) → lacks a ≡ true → lacks b ≡ true → lacks (a ++ b) ≡ true
lacks-both [] b la lb = lb
lacks-both (byte ∷ a) b la lb = more (byte == 10) la (λ la. lacks-both a b la lb)
  where
    more : (is : Bool) → cond is false (lacks a) ≡ true → (lacks a ≡ true → lacks (a ++ b) ≡ true) → cond is false (lacks (a ++ b)) ≡ true
    more true la then = absurd cc
    more false la then = then la

true_false : {b : Bool} → b ≡ true → b ≡ false → ⊥
true_false p q = cc

end-later : (byte : ℕ) (text : List ℕ) (is : Bool) → (byte == 10) ≡ is → cond is false (lacks text) ≡ true
    → (lacks text ≡ true → (k : ℕ) → slice_index text k ≢ 10) → (k : ℕ) → slice_index (byte ∷ text) k ≢ 10
end-later byte text true test lacking later k here = absurd cc
end-later byte text false test lacking later zero here = true_false (equal-yes byte 10 here) test
end-later byte text false test lacking later (suc k) here = later lacking k here

lacks-end : (text : List ℕ) → lacks text ≡ true → (k : ℕ) → slice_index text k ≢ 10
lacks-end [] lacking k here = absurd (omega (arith, here))
lacks-end (byte ∷ text) lacking k here = end-later byte text (byte == 10) refl lacking (lacks-end text) k here

-- digits are no LF
glyph-other : (n : ℕ) → digit_glyph false (n % 10) ≡ 10 → ⊥
glyph-other n e = grind (arith, nat_tests)

glyph-lacks : (n : ℕ) (acc : List ℕ) → lacks acc ≡ true → lacks (digit_glyph false (n % 10) ∷ acc) ≡ true
glyph-lacks n acc h = rw (equal-no (digit_glyph false (n % 10)) 10 (glyph-other n)) h

onto-lacks : (k n : ℕ) (acc : List ℕ) → lacks acc ≡ true → lacks (digits_onto k 10 false n acc) ≡ true
onto-lacks zero n acc h = h
onto-lacks (suc k) n acc h = by_last (n / 10 == 0) (onto-lacks k (n / 10) (digit_glyph false (n % 10) ∷ acc) (glyph-lacks n acc h))
  where
    by_last : (last : Bool) → lacks (digits_onto k 10 false (n / 10) (digit_glyph false (n % 10) ∷ acc)) ≡ true
        → lacks (cond last (digit_glyph false (n % 10) ∷ acc) (digits_onto k 10 false (n / 10) (digit_glyph false (n % 10) ∷ acc))) ≡ true
    by_last true more = glyph-lacks n acc h
    by_last false more = more

decimal-lacks : (n : ℕ) → lacks (decimal n) ≡ true
unfolding digits
decimal-lacks n = onto-lacks 64 n [] refl

signed-lacks : (z : ℤ) → lacks (signed_decimal z) ≡ true
signed-lacks (pos n) = decimal-lacks n
signed-lacks (negsuc n) = decimal-lacks (suc n)

place-lacks : (p : Point) → lacks (place_text p) ≡ true
place-lacks p = lacks-both (signed_decimal p.u) (32 ∷ signed_decimal p.v) (signed-lacks p.u) (signed-lacks p.v)

side-lacks : (side : Side) → lacks (side_name side) ≡ true
side-lacks Top = refl
side-lacks Right = refl
side-lacks Left = refl
side-lacks Bottom = refl

-- a text that begins with a name and goes on so
begins : (a b : List ℕ) → 0 < length a → 0 < length (a ++ b)
begins a b some = omega (arith, length-append a b, some)

abbrev Fine : List ℕ → Type 0
Fine text = (0 < length text) × (lacks text ≡ true)

and-then : (a b : List ℕ) → Fine a → lacks b ≡ true → Fine (a ++ b)
and-then a b fine l = (begins a b fine.0, lacks-both a b fine.1 l)

border-fine : (fault : BorderFault) → Fine (border_text fault)
border-fine NoCorner = (omega arith, refl)
border-fine (NoMark side index predicted) =
    and-then (codes "2.2 NoMark " ++ side_name side ++ 32 ∷ decimal index) (32 ∷ place_text predicted)
    (and-then (codes "2.2 NoMark " ++ side_name side) (32 ∷ decimal index)
    (and-then (codes "2.2 NoMark ") (side_name side) (omega arith, refl) (side-lacks side)) (decimal-lacks index)) (place-lacks predicted)
border-fine (OpenBorder predicted found) =
    and-then (codes "2.3 OpenBorder " ++ place_text predicted) (32 ∷ place_text found)
    (and-then (codes "2.3 OpenBorder ") (place_text predicted) (omega arith, refl) (place-lacks predicted)) (place-lacks found)

code-fine : (fault : CodeFault) → Fine (code_text fault)
code-fine (BadPair bit left right) =
    and-then (codes "3.1 BadPair " ++ decimal bit ++ 32 ∷ decimal left) (32 ∷ decimal right)
    (and-then (codes "3.1 BadPair " ++ decimal bit) (32 ∷ decimal left)
    (and-then (codes "3.1 BadPair ") (decimal bit) (omega arith, refl) (decimal-lacks bit)) (decimal-lacks left)) (decimal-lacks right)
code-fine (BadVersion version) = and-then (codes "3.2 BadVersion ") (decimal version) (omega arith, refl) (decimal-lacks version)

fault-fine : (fault : PageFault) → Fine (fault_text fault)
fault-fine (FrameSize width height) =
    and-then (codes "1 FrameSize " ++ decimal width) (32 ∷ decimal height)
    (and-then (codes "1 FrameSize ") (decimal width) (omega arith, refl) (decimal-lacks width)) (decimal-lacks height)
fault-fine (Border fault) = border-fine fault
fault-fine (Code fault) = code-fine fault
fault-fine (OtherElection tag) = and-then (codes "4 OtherElection ") (decimal tag) (omega arith, refl) (decimal-lacks tag)
fault-fine (NoCard card) = and-then (codes "5 NoCard ") (decimal card) (omega arith, refl) (decimal-lacks card)
fault-fine (NoPage page) = and-then (codes "6 NoPage ") (decimal page) (omega arith, refl) (decimal-lacks page)
fault-fine OutOfMemory = (omega arith, refl)

pub fault-one-line : (fault : PageFault) → IsOneLine (fault_text fault)
fault-one-line fault = let fine = fault-fine fault in record { some = fine.0; no_end = lacks-end (fault_text fault) fine.1 }
