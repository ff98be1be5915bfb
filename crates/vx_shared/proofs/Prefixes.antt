-- Beginnings of lists.
use Rattle.std.proofs.Common.{◌≡◌, ◌≤◌, List, [], ◌∷◌, ◌++◌, length, sym, refl, ap, ◌∙◌, arith, append_assoc, length-append}
use Rattle.std.proofs.lemmas.Grind.{common_steps}
use mathlib.Core.List.{IsPrefix}

module _ {A : Type 0} where
  pub prefix_whole : (xs : List A) → IsPrefix xs xs
  prefix_whole xs = ([], grind (arith, common_steps))

  pub prefix_more : (xs ys zs : List A) → IsPrefix xs ys → IsPrefix xs (ys ++ zs)
  prefix_more xs ys zs pre = (pre.0 ++ zs, sym (append_assoc xs pre.0 zs) ∙ ap (λ (l : List A). l ++ zs) pre.1)

  pub prefix_then : (xs ys zs : List A) → IsPrefix xs ys → IsPrefix ys zs → IsPrefix xs zs
  prefix_then xs ys zs one two =
      (one.0 ++ two.0, sym (append_assoc xs one.0 two.0) ∙ (ap (λ (l : List A). l ++ two.0) one.1 ∙ two.1))

  pub prefix_length : (xs ys : List A) → IsPrefix xs ys → length xs ≤ length ys
  prefix_length xs ys pre = let e : length (xs ++ pre.0) ≡ length ys = ap length pre.1 in let l = length-append xs pre.0 in omega arith

  head_same : (x y : A) (xs ys : List A) → x ∷ xs ≡ y ∷ ys → x ≡ y
  head_same x y xs ys e = cc

  tail_same : (x y : A) (xs ys : List A) → x ∷ xs ≡ y ∷ ys → xs ≡ ys
  tail_same x y xs ys e = cc

  -- of two beginnings of one list the shorter begins the longer
  pub prefix_of : (xs ys log : List A) → IsPrefix xs log → IsPrefix ys log → length xs ≤ length ys → IsPrefix xs ys
  prefix_of [] ys log p q le = (ys, refl)
  prefix_of (x ∷ xs) [] log p q le = absurd (omega arith)
  prefix_of (x ∷ xs) (y ∷ ys) [] p q le = absurd (cc p.1)
  prefix_of (x ∷ xs) (y ∷ ys) (z ∷ zs) p q le =
      let rest = prefix_of xs ys zs (p.0, tail_same x z (xs ++ p.0) zs p.1) (q.0, tail_same y z (ys ++ q.0) zs q.1) (omega arith) in
      let head : x ≡ y = head_same x z (xs ++ p.0) zs p.1 ∙ sym (head_same y z (ys ++ q.0) zs q.1) in
      (rest.0, (λ k. head k ∷ rest.1 k))

  -- a beginning that is as long as the list is the list
  pub prefix_all : (xs ys : List A) → IsPrefix xs ys → length ys ≤ length xs → xs ≡ ys
  prefix_all [] [] p le = refl
  prefix_all [] (y ∷ ys) p le = absurd (omega arith)
  prefix_all (x ∷ xs) [] p le = absurd (cc p.1)
  prefix_all (x ∷ xs) (y ∷ ys) p le =
      let rest = prefix_all xs ys (p.0, tail_same x y (xs ++ p.0) ys p.1) (omega arith) in
      let head = head_same x y (xs ++ p.0) ys p.1 in (λ k. head k ∷ rest k)
