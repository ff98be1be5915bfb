-- Lines that a text and a count get.
use Rattle.std.proofs.Common.{◌≡◌, ◌+◌, ℕ, List, [], ◌∷◌, ◌++◌, take, Some, refl, sym, ap, subst, ◌∙◌, append_assoc, append-nil, length-append, add-zero, arith}
use Rattle.std.specs.Prelude.{slice_get}
use Rattle.std.specs.List.{concat, flat_map}
use Rattle.std.proofs.lemmas.List.Folds.{concat-append}
use Rattle.vx_base.proofs.Lists.{flat_map-take_more}
use Rattle.vx_command_queue.specs.Walk.{GotLine, GotLines}

pub no_lines : (text : List ℕ) (count : ℕ) → GotLines [] text text count count
no_lines text count = record { got = sym (append-nil text); counted = sym (add-zero count) }

pub lines_then : (first further : List (List ℕ)) (a b c : List ℕ) (m n o : ℕ) → GotLines first a b m n → GotLines further b c n o → GotLines (first ++ further) a c m o
lines_then first further a b c m n o p q = record {
  got =
      q.got
      ∙ ap (λ (text : List ℕ). text ++ concat further) p.got
      ∙ append_assoc a (concat first) (concat further)
      ∙ ap (λ (text : List ℕ). a ++ text) (sym (concat-append first further));
  counted = omega (arith, q.counted, p.counted, length-append first further);
}

pub lines_are : (some all : List (List ℕ)) (a b : List ℕ) (m n : ℕ) → some ≡ all → GotLines some a b m n → GotLines all a b m n
lines_are some all a b m n is got = let Got : List (List ℕ) → Type 0 = λ lines. GotLines lines a b m n in subst Got is got

-- those of one element more
pub lines_more : {X : Type 0} (f : X → List (List ℕ)) (xs : List X) (i : ℕ) (x : X) (a b c : List ℕ) (m n o : ℕ) → slice_get xs i ≡ Some x → GotLines (flat_map f (take i xs)) a b m n → GotLines (f x) b c n o → GotLines (flat_map f (take (i + 1) xs)) a c m o
lines_more f xs i x a b c m n o there p q =
    lines_are (flat_map f (take i xs) ++ f x) (flat_map f (take (i + 1) xs)) a c m o (sym (flat_map-take_more f xs i x there)) (lines_then (flat_map f (take i xs)) (f x) a b c m n o p q)

-- one line
pub one_line : (lines : List (List ℕ)) (a b : List ℕ) (m : ℕ) → GotLine lines a b → GotLines lines a b m (m + 1)
one_line lines a b m it =
    lines_are (it.line ∷ []) lines a b m (m + 1) (sym it.one)
    (record { got = it.got ∙ ap (λ (text : List ℕ). a ++ text) (sym (append-nil it.line)); counted = refl })
