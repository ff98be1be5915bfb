-- Lines that a text and a count get.
use Rattle.std.proofs.Common.{◌≡◌, ◌≤◌, ◌+◌, ℕ, List, [], ◌++◌, length, take, sym, ap, subst, ◌∙◌, append_assoc, append-nil, length-append, add-zero, arith}
use Rattle.std.specs.Prelude.{OnOk, Result}
use Rattle.std.specs.List.{flat_map, range_with_len}
use Rattle.std.proofs.lemmas.List.{take_all}
use Rattle.std.proofs.lemmas.List.Concat.{flat_map-append}
use Rattle.vx_base.proofs.Ranges.{flat_map-range_more}
use Rattle.vx_command_cards.specs.Lines.{GotLines, ended, text_of}

pub no_lines : (text : List ℕ) (count : ℕ) → GotLines [] text text count count
no_lines text count = record { got = sym (append-nil text); counted = sym (add-zero count) }

pub lines_then : (first further : List (List ℕ)) (a b c : List ℕ) (m n o : ℕ) → GotLines first a b m n → GotLines further b c n o → GotLines (first ++ further) a c m o
lines_then first further a b c m n o p q = record {
  got =
      q.got
      ∙ ap (λ (text : List ℕ). text ++ text_of further) p.got
      ∙ append_assoc a (text_of first) (text_of further)
      ∙ ap (λ (text : List ℕ). a ++ text) (sym (flat_map-append ended first further));
  counted = omega (arith, q.counted, p.counted, length-append first further);
}

-- those of a text and a count that had none
pub lines_from : (lines : List (List ℕ)) (a b : List ℕ) (m n : ℕ) → a ≡ [] → m ≡ 0 → GotLines lines a b m n → GotLines lines [] b 0 n
lines_from lines a b m n empty zero p = record {
  got = p.got ∙ ap (λ (text : List ℕ). text ++ text_of lines) empty;
  counted = omega (arith, p.counted, zero);
}

pub lines_are : (some all : List (List ℕ)) (a b : List ℕ) (m n : ℕ) → some ≡ all → GotLines some a b m n → GotLines all a b m n
lines_are some all a b m n is got = let Got : List (List ℕ) → Type 0 = λ lines. GotLines lines a b m n in subst Got is got

-- those of one number more
pub lines_on : (f : ℕ → List (List ℕ)) (i : ℕ) (a b c : List ℕ) (m n o : ℕ) → GotLines (flat_map f (range_with_len 0 i)) a b m n → GotLines (f i) b c n o → GotLines (flat_map f (range_with_len 0 (i + 1))) a c m o
lines_on f i a b c m n o p q =
    lines_are (flat_map f (range_with_len 0 i) ++ f i) (flat_map f (range_with_len 0 (i + 1))) a c m o (sym (flat_map-range_more f i)) (lines_then (flat_map f (range_with_len 0 i)) (f i) a b c m n o p q)

-- those of all numbers
pub lines_up_to : (f : ℕ → List (List ℕ)) (i all : ℕ) (a b : List ℕ) (m n : ℕ) → i ≡ all → GotLines (flat_map f (range_with_len 0 i)) a b m n → GotLines (flat_map f (range_with_len 0 all)) a b m n
lines_up_to f i all a b m n is got =
    lines_are (flat_map f (range_with_len 0 i)) (flat_map f (range_with_len 0 all)) a b m n (ap (λ (k : ℕ). flat_map f (range_with_len 0 k)) is) got

-- the same of a step that may run out of memory
pub ok_lines_are : {F : Type 0} (r : Result (Unit {0}) F) (some all : List (List ℕ)) (a b : List ℕ) (m n : ℕ) → some ≡ all → OnOk r (GotLines some a b m n) → OnOk r (GotLines all a b m n)
ok_lines_are r some all a b m n is got = let Got : List (List ℕ) → Type 0 = λ lines. OnOk r (GotLines lines a b m n) in subst Got is got

-- those of all elements
pub lines_all : {X : Type 0} (f : X → List (List ℕ)) (xs : List X) (i : ℕ) (a b : List ℕ) (m n : ℕ) → length xs ≤ i → GotLines (flat_map f (take i xs)) a b m n → GotLines (flat_map f xs) a b m n
lines_all f xs i a b m n past got = lines_are (flat_map f (take i xs)) (flat_map f xs) a b m n (ap (flat_map f) (take_all i xs past)) got
