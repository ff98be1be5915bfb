-- The places of ids in an index, one more at a time.
use Rattle.std.proofs.Common.{◌≡◌, ℕ, suc, ◌+◌, ◌<◌, Bool, true, false, cond, List, [], ◌∷◌, ◌++◌, length, take, get_or, Some, None, refl, ap, sym, ◌∙◌, arith}
use Rattle.std.specs.Prelude.{bytes_eq}
use Rattle.std.specs.List.{position_from}
use Rattle.std.specs.Map.{lookup}
use Rattle.std.proofs.lemmas.List.{take_more, length-take-le}
use Rattle.vx_audit.specs.Finding.{placed}

-- an entry behind the others is found where none of them is
pub lookup-push : {K : Type 0} (test : K → Bool) (entries : List (K × ℕ)) (one : K × ℕ) (id key : List ℕ) → test one.0 ≡ bytes_eq id key
    → lookup test (entries ++ one ∷ []) ≡ placed key one.1 id (lookup test entries)
lookup-push test [] one id key e = ap (λ b. cond b (Some one.1) None) e
lookup-push test (first ∷ entries) one id key e = by (test first.0) (lookup-push test entries one id key e)
  where
    by : (b : Bool) → lookup test (entries ++ one ∷ []) ≡ placed key one.1 id (lookup test entries)
        → cond b (Some first.1) (lookup test (entries ++ one ∷ [])) ≡ placed key one.1 id (cond b (Some first.1) (lookup test entries))
    by true rest = refl
    by false rest = rest

module _ {X : Type 0} (test : X → Bool) where
  position-push : (n : ℕ) (xs : List X) (x : X) (id key : List ℕ) → test x ≡ bytes_eq id key
      → position_from test n (xs ++ x ∷ []) ≡ placed key (n + length xs) id (position_from test n xs)
  position-push n [] x id key e = let at : n ≡ n + 0 = omega arith in ap (λ b. cond b (Some n) None) e ∙ ap (λ m. placed key m id None) at
  position-push n (y ∷ xs) x id key e = by (test y) (position-push (n + 1) xs x id key e)
    where
      by : (b : Bool) → position_from test (n + 1) (xs ++ x ∷ []) ≡ placed key (n + 1 + length xs) id (position_from test (n + 1) xs)
          → cond b (Some n) (position_from test (n + 1) (xs ++ x ∷ [])) ≡ placed key (n + suc (length xs)) id (cond b (Some n) (position_from test (n + 1) xs))
      by true rest = refl
      by false rest = let at : n + 1 + length xs ≡ n + suc (length xs) = omega arith in rest ∙ ap (λ m. placed key m id (position_from test (n + 1) xs)) at

  -- one element more that is looked through
  pub position-more : (xs : List X) (i : ℕ) (x : X) (id key : List ℕ) → i < length xs → x ≡ get_or xs i x → test x ≡ bytes_eq id key
      → position_from test 0 (take (i + 1) xs) ≡ placed key i id (position_from test 0 (take i xs))
  position-more xs i x id key within is e =
      let at : 0 + length (take i xs) ≡ i = omega (arith, length-take-le i xs (omega arith)) in
      ap (position_from test 0) (take_more xs i x within)
      ∙ position-push 0 (take i xs) (get_or xs i x) id key (ap test (sym is) ∙ e)
      ∙ ap (λ m. placed key m id (position_from test 0 (take i xs))) at
