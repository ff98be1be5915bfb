-- The parts of a header that was read.
use Rattle.std.proofs.Common.{◌≡◌, ◌+◌, ◌<◌, ℕ, Bool, true, false, cond, List, drop, Result, Ok, Err, arith, ap, sym, ◌∙◌, subst}
use Rattle.vx_base.specs.Results.{◌>>=◌}
use Rattle.vx_base.proofs.Results.{bind_ok}
use Rattle.vx_pbm.specs.declared.header.Header.{Header}
use Rattle.vx_pbm.specs.Header.{header_at, gap_at, number_at, space_at, begins_with_space}

-- the parts of a header, each behind the one before
pub record Parts (text : List ℕ) (header : Header) : Type 0 where
  pub first_gap : ℕ
  pub width : ℕ × ℕ
  pub second_gap : ℕ
  pub height : ℕ × ℕ
  pub size : ℕ
  pub first_gap_is : gap_at text 2 ≡ Ok first_gap
  pub width_is : number_at text first_gap ≡ Ok width
  pub second_gap_is : gap_at text width.1 ≡ Ok second_gap
  pub height_is : number_at text second_gap ≡ Ok height
  pub size_is : space_at text height.1 ≡ Ok size
  pub header_is : header ≡ record { width = width.0; height = height.0; size = size }

abbrev from_space : List ℕ → ℕ × ℕ → ℕ × ℕ → Result Header ℕ
from_space text width height = space_at text height.1 >>= λ size. Ok (record { width = width.0; height = height.0; size = size })

abbrev from_height : List ℕ → ℕ × ℕ → ℕ → Result Header ℕ
from_height text width at = number_at text at >>= from_space text width

abbrev from_second_gap : List ℕ → ℕ × ℕ → Result Header ℕ
from_second_gap text width = gap_at text width.1 >>= from_height text width

abbrev from_width : List ℕ → ℕ → Result Header ℕ
from_width text at = number_at text at >>= from_second_gap text

header_in : Header → Result Header ℕ → Header
header_in default (Ok header) = header
header_in default (Err offset) = default

-- what was read as a header has its parts
pub parts_of : (text : List ℕ) (header : Header) → header_at text ≡ Ok header → Parts text header
unfolding header_at header_in
parts_of text header e =
    let a : (x : ℕ) × (gap_at text 2 ≡ Ok x) × (from_width text x ≡ Ok header) = bind_ok (gap_at text 2) (from_width text) header e in
    let b : (x : ℕ × ℕ) × (number_at text a.0 ≡ Ok x) × (from_second_gap text x ≡ Ok header) = bind_ok (number_at text a.0) (from_second_gap text) header a.2 in
    let c : (x : ℕ) × (gap_at text b.0.1 ≡ Ok x) × (from_height text b.0 x ≡ Ok header) = bind_ok (gap_at text b.0.1) (from_height text b.0) header b.2 in
    let d : (x : ℕ × ℕ) × (number_at text c.0 ≡ Ok x) × (from_space text b.0 x ≡ Ok header) = bind_ok (number_at text c.0) (from_space text b.0) header c.2 in
    let f : (x : ℕ) × (space_at text d.0.1 ≡ Ok x) × (◌≡◌ {A = Result Header ℕ} (Ok (record { width = b.0.0; height = d.0.0; size = x })) (Ok header)) = bind_ok (space_at text d.0.1) (λ size. Ok (record { width = b.0.0; height = d.0.0; size = size })) header d.2 in
    record {
      first_gap = a.0;
      width = b.0;
      second_gap = c.0;
      height = d.0;
      size = f.0;
      first_gap_is = a.1;
      width_is = b.1;
      second_gap_is = c.1;
      height_is = d.1;
      size_is = f.1;
      header_is = sym (ap (header_in header) f.2);
    }

-- and its parts make it one
pub header_of_parts : (text : List ℕ) (header : Header) → Parts text header → header_at text ≡ Ok header
unfolding header_at
header_of_parts text header p =
    ap (λ r. r >>= from_width text) p.first_gap_is
    ∙ (ap (λ r. r >>= from_second_gap text) p.width_is
    ∙ (ap (λ r. r >>= from_height text p.width) p.second_gap_is
    ∙ (ap (λ r. r >>= from_space text p.width) p.height_is
    ∙ (ap (λ (r : Result ℕ ℕ). r >>= λ size. Ok (record { width = p.width.0; height = p.height.0; size = size })) p.size_is
    ∙ ap Ok (sym p.header_is)))))

given_size : (space : Bool) (at size : ℕ) → cond space (Ok (at + 1)) (Err at) ≡ Ok size → 0 < size
given_size true at size e = let is : at + 1 ≡ size = cc in omega arith
given_size false at size e = absurd cc

space_size : (text : List ℕ) (at size : ℕ) → space_at text at ≡ Ok size → 0 < size
unfolding space_at
space_size text at size e = given_size (begins_with_space (drop at text)) at size e

-- a header takes a byte at least
pub header_size : (text : List ℕ) (header : Header) → header_at text ≡ Ok header → 0 < header.size
header_size text header e =
    let p : Parts text header = parts_of text header e in
    subst (λ (h : Header). 0 < h.size) (sym p.header_is) (space_size text p.height.1 p.size p.size_is)
