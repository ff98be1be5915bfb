use Rattle.std.proofs.Common.{◌≡◌, ℕ, List, [], ◌∷◌, length, Some, ap, ap₂, ◌∙◌, arith, rules}
use Rattle.std.specs.Prelude.{codes, slice_get}
use Rattle.vx_ranked.proofs.words.ranked_words.Goals as goal

-- three words, by their places
by_place : (words : List (List ℕ)) (first second third : List ℕ) → length words ≡ 3 → slice_get words 0 ≡ Some first → slice_get words 1 ≡ Some second
    → slice_get words 2 ≡ Some third → words ≡ first ∷ second ∷ third ∷ []
by_place [] first second third many a b c = absurd cc
by_place (one ∷ []) first second third many a b c = absurd cc
by_place (one ∷ two ∷ []) first second third many a b c = absurd cc
by_place (one ∷ two ∷ three ∷ []) first second third many a b c =
    let is_first : one ≡ first = cc in
    let is_second : two ≡ second = cc in
    let is_third : three ≡ third = cc in
    ap (λ (some : List ℕ). some ∷ two ∷ three ∷ []) is_first ∙ ap₂ (λ (some other : List ℕ). first ∷ some ∷ other ∷ []) is_second is_third
by_place (one ∷ two ∷ three ∷ four ∷ more) first second third many a b c = absurd (omega (arith, many))

pub returns-then-is_argument-2 : goal.returns-then-is_argument-2
returns-then-is_argument-2 c =
    let many : length c.args.words.now ≡ 3 = search rules in
    let named : c.word.result.now ≡ codes "ranked" = search rules in
    record {
      words_are =
          by_place c.args.words.now c.word.result.now c.word-election.result.now c.word-ranked.result.now many c.word.ensures c.word-election.ensures
          c.word-ranked.ensures
          ∙ ap (λ (some : List ℕ). some ∷ c.word-election.result.now ∷ c.word-ranked.result.now ∷ []) named;
      election_is_argument = c.is_argument.ensures.0 c.if-is_argument.true;
      ranked_is_argument = c.is_argument-then-is_argument.ensures.0 c.if-is_argument-2.true;
    }
