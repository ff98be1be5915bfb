-- Reasons with commas between.
use Rattle.std.proofs.Common.{◌≡◌, ◌<◌, ◌+◌, ℕ, Bool, true, false, cond, List, [], ◌∷◌, ◌++◌, map, take, get_or, refl, sym, ap, ◌∙◌, append_assoc, append-nil}
use Rattle.std.specs.List.{filter, flat_map}
use Rattle.std.proofs.lemmas.List.{map-append, take_more}
use Rattle.std.proofs.lemmas.List.Elements.{filter-append}
use Rattle.std.proofs.lemmas.List.Concat.{flat_map-append}
use Rattle.vx_election_model.specs.declared.reason.Reason.{Reason}
use Rattle.vx_election_model.specs.declared.reason.ReasonSet.{ReasonSet}
use Rattle.vx_election_model.specs.Reasons.{has_reason}
use Rattle.vx_rules.specs.Reasons.{reason_word}
use Rattle.vx_command_queue.specs.Queue.{all_reasons, with_commas, further}

-- the words of the first reasons that a set has
abbrev pub words_of : ReasonSet → ℕ → List (List ℕ)
words_of set count = map reason_word (filter (has_reason set) (take count all_reasons))

abbrev pub are_none : List (List ℕ) → Bool
are_none [] = true
are_none (word ∷ words) = false

-- one word more
with_one_more : (words : List (List ℕ)) (word : List ℕ) → with_commas (words ++ word ∷ []) ≡ with_commas words ++ further (are_none words) word
with_one_more [] word = append-nil word
with_one_more (first ∷ words) word =
    ap (λ (text : List ℕ). first ++ text) (flat_map-append (λ other. 44 ∷ other) words (word ∷ []) ∙ ap (λ (text : List ℕ). flat_map (λ other. 44 ∷ other) words ++ text) (append-nil (44 ∷ word)))
    ∙ sym (append_assoc first (flat_map (λ other. 44 ∷ other) words) (44 ∷ word))

are_some : (words : List (List ℕ)) (word : List ℕ) → are_none (words ++ word ∷ []) ≡ false
are_some [] word = refl
are_some (first ∷ words) word = refl

one_word : (set : ReasonSet) (reason : Reason) (has : Bool) → has_reason set reason ≡ has → map reason_word (filter (has_reason set) (reason ∷ [])) ≡ cond has (reason_word reason ∷ []) []
one_word set reason true is = rw is refl
one_word set reason false is = rw is refl

words_more : (set : ReasonSet) (count : ℕ) (d reason : Reason) (has : Bool) → count < 5 → get_or all_reasons count d ≡ reason → has_reason set reason ≡ has → words_of set (count + 1) ≡ words_of set count ++ cond has (reason_word reason ∷ []) []
words_more set count d reason has below is held =
    ap (λ (some : List Reason). map reason_word (filter (has_reason set) some)) (take_more all_reasons count d below ∙ ap (λ (other : Reason). take count all_reasons ++ other ∷ []) is)
    ∙ ap (map reason_word) (filter-append (has_reason set) (take count all_reasons) (reason ∷ []))
    ∙ map-append reason_word (filter (has_reason set) (take count all_reasons)) (filter (has_reason set) (reason ∷ []))
    ∙ ap (λ (some : List (List ℕ)). words_of set count ++ some) (one_word set reason has held)

-- so many reasons were told
pub record Told (set : ReasonSet) (count : ℕ) (first : Bool) (old new : List ℕ) : Type 0 where
  pub text : new ≡ old ++ with_commas (words_of set count)
  pub is_first : first ≡ are_none (words_of set count)

pub none_told : (set : ReasonSet) (old : List ℕ) → Told set 0 true old old
none_told set old = record { text = sym (append-nil old); is_first = refl }

module _ (set : ReasonSet) (count : ℕ) (first : Bool) (old new : List ℕ) (told : Told set count first old new) (d : Reason) (below : count < 5) where
  abbrev reason : Reason
  reason = get_or all_reasons count d

  pub one_told : (now : List ℕ) → has_reason set reason ≡ true → now ≡ new ++ further first (reason_word reason) → Told set (count + 1) false old now
  one_told now held got =
      let more = words_more set count d reason true below refl held in
      record {
        text =
            got
            ∙ ap (λ (b : Bool). new ++ further b (reason_word reason)) told.is_first
            ∙ ap (λ (some : List ℕ). some ++ further (are_none (words_of set count)) (reason_word reason)) told.text
            ∙ append_assoc old (with_commas (words_of set count)) (further (are_none (words_of set count)) (reason_word reason))
            ∙ ap (λ (some : List ℕ). old ++ some) (sym (with_one_more (words_of set count) (reason_word reason)) ∙ ap with_commas (sym more));
        is_first = sym (ap are_none more ∙ are_some (words_of set count) (reason_word reason));
      }

  pub one_passed : has_reason set reason ≡ false → Told set (count + 1) first old new
  one_passed held =
      let same : words_of set (count + 1) ≡ words_of set count = words_more set count d reason false below refl held ∙ append-nil (words_of set count) in
      record {
        text = told.text ∙ ap (λ (some : List (List ℕ)). old ++ with_commas some) (sym same);
        is_first = told.is_first ∙ ap are_none (sym same);
      }
