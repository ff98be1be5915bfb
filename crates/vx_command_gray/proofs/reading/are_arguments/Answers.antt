use Rattle.std.proofs.Common.{◌≡◌, ◌+◌, ◌-◌, ◌≤◌, ◌<◌, ℕ, List, [], drop, length, get_or, Some, inl, inr, sym, ap, subst, ◌∙◌, arith, rules}
use Rattle.std.specs.Prelude.{All, slice_get}
use Rattle.std.proofs.lemmas.Bool.{false≢true, cases_lt}
use Rattle.std.proofs.lemmas.Option.{slice_get_within, get_or_from_slice_get}
use Rattle.std.proofs.lemmas.List.{get_or-drop, length-drop}
use Rattle.std.proofs.lemmas.List.Elements.{All-get_or, All-from_get_or}
use Rattle.vx_words.specs.Words.{IsArgument}
use Rattle.vx_command_gray.proofs.reading.are_arguments.Goals as goal

-- one word more that is looked at
one_more : (words : List (List ℕ)) (index : ℕ) (word : List ℕ) → slice_get words index ≡ Some word → IsArgument word
    → ((k : ℕ) → 1 ≤ k → k < index → IsArgument (get_or words k [])) → (k : ℕ) → 1 ≤ k → k < index + 1 → IsArgument (get_or words k [])
one_more words index word at is before k low high = elim (cases_lt k index) [
  | inl l ↦ before k low l
  | inr l ↦
      let same : index ≡ k = omega arith in
      subst IsArgument (sym (get_or_from_slice_get words index word [] at) ∙ ap (λ n. get_or words n []) same) is
]

-- all of them are looked at
all_words : (words : List (List ℕ)) (index : ℕ) → length words ≤ index → ((k : ℕ) → 1 ≤ k → k < index → IsArgument (get_or words k []))
    → All IsArgument (drop 1 words)
all_words words index past each = All-from_get_or IsArgument (drop 1 words) []
    (λ i h. subst IsArgument (sym (get_or-drop 1 words i [])) (each (1 + i) (omega arith) (omega (arith, length-drop 1 words))))

-- one of the words
one_word : (words : List (List ℕ)) (index : ℕ) (word : List ℕ) → 1 ≤ index → slice_get words index ≡ Some word → All IsArgument (drop 1 words)
    → IsArgument word
one_word words index word low at are =
    let inside : index < length words = slice_get_within words index word at in
    let place : 1 + (index - 1) ≡ index = omega arith in
    subst IsArgument (get_or-drop 1 words (index - 1) [] ∙ (ap (λ n. get_or words n []) place ∙ get_or_from_slice_get words index word [] at))
    (All-get_or IsArgument (drop 1 words) (index - 1) [] (omega (arith, length-drop 1 words)) are)

pub loop-index-preserved : goal.loop-index-preserved
loop-index-preserved c =
    one_more c.args.words.now c.loop-index.index c.word.result.now c.word.ensures (c.is_argument.ensures.0 c.if-not-is_argument.false) c.loop-index.invariant

pub returns : goal.returns
returns c = (λ is. all_words c.args.words.now c.loop-index.index (omega arith) c.loop-index.invariant, λ are. search rules)

pub returns-then-not-is_argument : goal.returns-then-not-is_argument
returns-then-not-is_argument c = (
  λ is. absurd (false≢true is),
  λ are.
      let good = one_word c.args.words.now c.loop-index.index c.word.result.now (omega arith) c.word.ensures are in
      let told = c.is_argument.ensures.1 good in search rules,
)
