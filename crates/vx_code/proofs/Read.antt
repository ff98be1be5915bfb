-- Counts that give a code show the boxes of that code.
use Rattle.std.proofs.Common.{◌≡◌, ℕ, ◌≤◌, ◌==◌, nat_lt, ◌∙◌, ap, subst, List, [], ◌∷◌, Bool, true, false, cond, Option, Some, None, Ok, Err, map, length, unwrap_or, is_none, position, refl, arith}
use Rattle.std.specs.List.{position_or_len}
use Rattle.std.proofs.lemmas.Bool.Decides.{nat_tests}
use Rattle.std.proofs.lemmas.List.{length-map}
use Rattle.vx_grid.specs.declared.paper.Paper.{Paper}
use Rattle.vx_code.specs.declared.code.PageCode.{PageCode}
use Rattle.vx_code.specs.declared.code.CodeFault.TheVariants.{BadVersion}
use Rattle.vx_code.specs.Code.{IsInRange, Shows, boxes_of, shown_by, bits_unless, bits_shown_by, code_of_bits, version_of, code_of_shown, code_shown_by}
use Rattle.vx_code.proofs.Pairs.{length-shown_by}
use Rattle.vx_code.proofs.Fields.{IsInRange-code_of_bits}
use Rattle.vx_code.proofs.Readings.{Shows-code_of_bits}

abbrev or_false : Option Bool → Bool
or_false bit = unwrap_or bit false

-- where none is lacking, all are there
all_there : (xs : List (Option Bool)) → position_or_len is_none xs ≡ length xs → xs ≡ map Some (map or_false xs)
all_there [] h = refl
all_there (None ∷ xs) h = absurd (omega (arith, h))
all_there (Some bit ∷ xs) h = ap (λ rest. Some bit ∷ rest) (all_there xs (omega (arith, h)))

none_there : (xs : List (Option Bool)) → position is_none xs ≡ None → position_or_len is_none xs ≡ length xs
none_there xs h = by_test (position_or_len is_none xs) (length xs) h (at_most xs)
  where
    at_most : (ys : List (Option Bool)) → position_or_len is_none ys ≤ length ys
    at_most [] = omega arith
    at_most (None ∷ ys) = omega arith
    at_most (Some bit ∷ ys) = let more = at_most ys in omega (arith, more)

    by_test : (at size : ℕ) → cond (nat_lt at size) (Some at) None ≡ None → at ≤ size → at ≡ size
    by_test at size e low = grind (arith, nat_tests)

-- counts that give a code, by the pairs that show no bit
module _ (paper : Paper) (counts : List ℕ) (size : length counts ≡ 84) (code : PageCode) where
  by_version : (found : PageCode) (test : Bool) → cond test (Ok found) (Err (BadVersion found.version)) ≡ Ok code → found ≡ code
  by_version found true h = cc
  by_version found false h = absurd cc

  by_place : (place : Option ℕ) → position is_none (shown_by counts) ≡ place → code_of_shown paper (bits_unless counts place) ≡ Ok code
      → (position is_none (shown_by counts) ≡ None) × (code_of_bits (map or_false (shown_by counts)) ≡ code)
  by_place None at h =
      (at, by_version (code_of_bits (map or_false (shown_by counts))) ((code_of_bits (map or_false (shown_by counts))).version == version_of paper) h)
  by_place (Some n) at h = absurd cc

  -- its fields fit, and they show its boxes
  shows : code_shown_by paper counts ≡ Ok code → IsInRange code × Shows counts (boxes_of code)
  unfolding code_shown_by bits_shown_by
  shows h =
      let found = by_place (position is_none (shown_by counts)) refl h in
      let bits : List Bool = map or_false (shown_by counts) in
      let many : length bits ≡ 42 = length-map (shown_by counts) or_false ∙ length-shown_by counts 42 (omega (arith, size)) in
      let shown : shown_by counts ≡ map Some bits = all_there (shown_by counts) (none_there (shown_by counts) found.0) in
      subst (λ (known : PageCode). IsInRange known × Shows counts (boxes_of known)) found.1
      (IsInRange-code_of_bits bits many, Shows-code_of_bits counts bits size many shown)

-- counts that give a code show its boxes
pub code_shown_by-shows : (paper : Paper) (counts : List ℕ) (code : PageCode) → length counts ≡ 84 → code_shown_by paper counts ≡ Ok code
    → IsInRange code × Shows counts (boxes_of code)
code_shown_by-shows paper counts code size h = shows paper counts size code h
