-- Lists that are made by the numbers from one on, and answers that are as defined.
use Rattle.std.proofs.Common.{◌≡◌, ℕ, zero, suc, ◌+◌, ◌<◌, ◌≤◌, map, Ok, Err, refl, sym, ◌∙◌, arith}
use Rattle.std.specs.Prelude.{All, Result, slice_get, Some}
use Rattle.std.specs.List.{range_with_len}
use Rattle.std.proofs.lemmas.List.Elements.{All-nil, All-cons, All-map}
use Rattle.std.proofs.lemmas.List.FromFn.{length-map-range_with_len, get_or-map-range_with_len}
use Rattle.std.proofs.lemmas.Option.{slice_get_within, get_or_from_slice_get}
use Rattle.vx_base.proofs.Results.{Holds}

-- what holds of each number of a range
pub All-range : (P : ℕ → Type 0) (from count : ℕ) → ((k : ℕ) → from ≤ k → k < from + count → P k) → All P (range_with_len from count)
All-range P from zero each = All-nil P
All-range P from (suc count) each =
    All-cons P from (range_with_len (from + 1) count) (each from (omega arith) (omega arith))
    (All-range P (from + 1) count (λ k low high. each k (omega arith) (omega arith)))

-- what holds of each that is made
pub All-made : {X : Type 0} (P : X → Type 0) (make : ℕ → X) (from count : ℕ) → ((k : ℕ) → from ≤ k → k < from + count → P (make k)) → All P (map make (range_with_len from count))
All-made P make from count each = All-map P make (range_with_len from count) (All-range (λ k. P (make k)) from count each)

-- the one at an index
pub made-at : {X : Type 0} (make : ℕ → X) (from count i : ℕ) (x : X) → slice_get (map make (range_with_len from count)) i ≡ Some x → x ≡ make (from + i)
made-at make from count i x at =
    let xs = map make (range_with_len from count) in
    let inside : i < count = omega (arith, slice_get_within xs i x at, length-map-range_with_len make from count) in
    sym (get_or_from_slice_get xs i x x at) ∙ get_or-map-range_with_len make from count i (from + i) x inside (omega arith)

-- what holds of each value that a definition gives
pub holds-each : {A F : Type 0} (P : A → Type 0) (defined : Result A F) → ((x : A) → defined ≡ Ok x → P x) → Holds P defined
holds-each P (Ok x) each = record { is = each x refl }
holds-each P (Err e) each = record { is = tt }
