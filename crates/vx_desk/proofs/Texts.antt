-- Texts of values that are written one after the other, without markup.
use Rattle.std.proofs.Common.{◌≡◌, ◌≤◌, ◌<◌, ◌+◌, ℕ, Bool, true, false, cond, List, [], ◌∷◌, ◌++◌, length, drop, map, get_or, refl, sym, ap, ◌∙◌, append_assoc}
use Rattle.std.specs.Prelude.{filter}
use Rattle.std.proofs.lemmas.List.{drop_all}
use Rattle.std.proofs.lemmas.List.Concat.{flat_map-append}
use Rattle.serde_json.specs.Data.{Data}
use Rattle.serde_json.specs.View.{items_of}
use Rattle.serde_json.specs.Written.{comma_if, compact_text, items_text}
use Rattle.vx_markup.specs.Escaped.{escaped, escaped_byte}
use Rattle.vx_desk.proofs.Steps.{begins}

-- each byte is escaped by itself
pub escaped_joined : (xs ys : List ℕ) → escaped (xs ++ ys) ≡ escaped xs ++ escaped ys
escaped_joined xs ys = flat_map-append escaped_byte xs ys

-- a comma stays as it is
item : (later : Bool) (d : Data) (others : List ℕ)
    → escaped (comma_if later ++ (compact_text d ++ others)) ≡ comma_if later ++ (escaped (compact_text d) ++ escaped others)
item true d others = ap (λ (text : List ℕ). 44 ∷ text) (escaped_joined (compact_text d) others)
item false d others = escaped_joined (compact_text d) others

module _ {X : Type 0} (make : X → Data) (test : X → Bool) where
  -- the text of those of some items that pass, behind others
  abbrev items : Bool → List X → List ℕ
  items later xs = escaped (items_text later (items_of (map make (filter test xs))))

  passes : (later : Bool) (x : X) (rest : List X) (b : Bool) → b ≡ true
      → escaped (items_text later (items_of (map make (cond b (x ∷ filter test rest) (filter test rest)))))
      ≡ comma_if later ++ (escaped (compact_text (make x)) ++ items true rest)
  passes later x rest true is = item later (make x) (items_text true (items_of (map make (filter test rest))))
  passes later x rest false is = absurd cc

  fails : (later : Bool) (x : X) (rest : List X) (b : Bool) → b ≡ false
      → escaped (items_text later (items_of (map make (cond b (x ∷ filter test rest) (filter test rest))))) ≡ items later rest
  fails later x rest true is = absurd cc
  fails later x rest false is = refl

  module _ (xs : List X) (i : ℕ) (x : X) (within : i < length xs) (is : x ≡ get_or xs i x) where
    -- what was written of the first items, and what is still to be written of the others, are what is written of all
    pub item_more : (before now all : List ℕ) (later : Bool) → test x ≡ true
        → now ≡ before ++ (comma_if later ++ escaped (compact_text (make x)))
        → before ++ items later (drop i xs) ≡ all → now ++ items true (drop (i + 1) xs) ≡ all
    item_more before now all later waits written so_far =
        let others : List ℕ = items true (drop (i + 1) xs) in
        let own : List ℕ = escaped (compact_text (make x)) in
        ap (λ (text : List ℕ). text ++ others) written
        ∙ append_assoc before (comma_if later ++ own) others
        ∙ ap (λ (text : List ℕ). before ++ text)
        (append_assoc (comma_if later) own others
        ∙ sym (passes later x (drop (i + 1) xs) (test x) waits)
        ∙ ap (items later) (sym (begins xs i x within is)))
        ∙ so_far

    pub item_passed : (before all : List ℕ) (later : Bool) → test x ≡ false
        → before ++ items later (drop i xs) ≡ all → before ++ items later (drop (i + 1) xs) ≡ all
    item_passed before all later not_waiting so_far =
        ap (λ (text : List ℕ). before ++ text)
        (sym (ap (items later) (begins xs i x within is) ∙ fails later x (drop (i + 1) xs) (test x) not_waiting))
        ∙ so_far

  -- behind the last one stands the closing bracket
  pub items_end : (xs : List X) (i : ℕ) (before all : List ℕ) (later : Bool) → length xs ≤ i
      → before ++ items later (drop i xs) ≡ all → before ++ 93 ∷ [] ≡ all
  items_end xs i before all later past so_far =
      ap (λ (text : List ℕ). before ++ text) (sym (ap (items later) (drop_all i xs past))) ∙ so_far
