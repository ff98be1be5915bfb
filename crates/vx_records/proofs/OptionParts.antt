-- Options as a part of a text.
use Rattle.std.proofs.Common.{◌≡◌, ℕ, zero, suc, ◌+◌, ◌-◌, ◌≤◌, ◌<◌, Bool, true, false, cond, List, [], ◌∷◌, ◌++◌, length, refl, ap, sym, subst, ◌∙◌, inl, inr, arith, length-append, append-nil, append_assoc}
use Rattle.std.specs.Prelude.{Result, Ok, Err, ◌⊎◌, ◌&&◌, not, nat_le, nat_lt}
use Rattle.std.specs.List.{list_all, flat_map}
use Rattle.std.specs.Fmt.{decimal}
use Rattle.std.proofs.lemmas.Bool.{ltb-true, ltb-false, lt-ltb, le-ltb, leb-true, le-leb, cases_Bool}
use Rattle.vx_base.specs.Results.{◌>>=◌}
use Rattle.vx_base.proofs.Booleans.{and-left, and-right, and-both}
use Rattle.vx_json.specs.Reading.{is_within}
use Rattle.vx_events.specs.Ascending.{ascends_from, is_ascending}
use Rattle.vx_records.specs.declared.numbers.Numbers.{Numbers}
use Rattle.vx_records.specs.declared.numbers.Numbers.TheVariants.{Between}
use Rattle.vx_records.specs.Records.{options_word}
use Rattle.vx_records.specs.Parts.{Found, Read, found, stop, done, word_in, ended_at, each_in, behind, first_is}
use Rattle.vx_records.specs.Numbers.{number_in}
use Rattle.vx_records.specs.Reading.{option_in, next_option, some_options_in, no_options_in, options_in}
use Rattle.vx_records.proofs.Grammar.{Part, Splits, Begins, Both, Some_text, StopsAt, StopsAt-any, StopsAt-none, any, none, then_in, then_part}
use Rattle.vx_records.proofs.Steps.{Spelled, Nothing, ended_at_part, Mapped, map_in, map_part, same_reader, same_texts, Guarded, guarded_part, Either, this, that, either_part, Starts, Differs}
use Rattle.vx_records.proofs.Runs.{Word, word_part}
use Rattle.vx_records.proofs.Digits.{FirstDigit, first_digit}
use Rattle.vx_records.proofs.Range.{Good, between, within, within_low, within_high}
use Rattle.vx_records.proofs.NumberPart.{Number, number_part, no_digit}
use Rattle.vx_records.proofs.Items.{Items, no_more, one_more, Head, items_part}

-- a number within a range
abbrev pub Within : ℕ → ℕ → ℕ → List ℕ → Type 0
Within least most = Spelled (λ n. is_within least most n ≡ true) decimal

pub within_part : (least most : ℕ) → least ≤ most → most < 1000000 → Part (Within least most) no_digit (number_in (Between least most))
within_part least most h k = number_part (Between least most) (between least most h k)

pub some_within : (least most : ℕ) → least ≤ most → Some_text (Within least most)
some_within least most h = record { b = least; w = decimal least; is = record { is = within least most least (omega arith) h; text = refl } }

-- an option behind a comma
abbrev pub Comma : ℕ → ℕ → List ℕ → Type 0
Comma least = Spelled (λ n. is_within least 999 n ≡ true) (λ n. 44 ∷ decimal n)

comma_both : (least : ℕ) → nat_lt least 1000 ≡ true → Part (Both (Word (44 ∷ [])) (λ a n. Within least 999)) no_digit (then_in (word_in (44 ∷ [])) (λ a n. number_in (Between least 999)))
comma_both least h =
    let few : least < 1000 = ltb-true least 1000 h in
    then_part (Word (44 ∷ [])) any (word_in (44 ∷ [])) (λ a n. Within least 999) no_digit (λ a n. number_in (Between least 999))
    (word_part (44 ∷ [])) (λ a n. within_part least 999 (omega arith) (omega arith)) (λ a u h. some_within least 999 (omega arith))
    (λ a n b w x h k. StopsAt-any (w ++ x))

comma_to : (least n : ℕ) (u : List ℕ) → Guarded (nat_lt least 1000) (Both (Word (44 ∷ [])) (λ a n. Within least 999)) n u → Comma least n u
comma_to least n u h = record { is = h.is.second.is; text = h.is.text ∙ ap (λ (t : List ℕ). t ++ h.is.w) h.is.first.text ∙ ap (λ (t : List ℕ). 44 ∷ t) h.is.second.text }

comma_back : (least n : ℕ) (u : List ℕ) → Comma least n u → Guarded (nat_lt least 1000) (Both (Word (44 ∷ [])) (λ a n. Within least 999)) n u
comma_back least n u h = record {
  may = lt-ltb least 1000 (omega (arith, within_low least 999 n h.is, within_high least 999 n h.is));
  is = record { a = done; u = 44 ∷ []; w = decimal n; first = record { is = tt; text = refl }; second = record { is = h.is; text = refl }; text = h.text };
}

pub comma_part : (least : ℕ) → Part (Comma least) no_digit (option_in least)
unfolding option_in
comma_part least = same_texts
    (guarded_part (nat_lt least 1000) (Both (Word (44 ∷ [])) (λ a n. Within least 999)) no_digit (then_in (word_in (44 ∷ [])) (λ a n. number_in (Between least 999))) (comma_both least))
    (λ n u h. comma_to least n u h) (λ n u h. comma_back least n u h)

comma_head : (least n : ℕ) (u : List ℕ) → Comma least n u → Head no_digit u
comma_head least n u h = record { head = 44; tail = decimal n; text = h.text; is = refl }

comma_decided_at : (least : ℕ) (t : Bool) → nat_lt least 1000 ≡ t → Some_text (Comma least) ⊎ ((s : List ℕ) → cond t (word_in (44 ∷ []) s >>= λ comma. number_in (Between least 999) comma.rest) (stop s) ≡ stop s)
comma_decided_at least true e =
    let few : least < 1000 = ltb-true least 1000 e in
    inl (record { b = least; w = 44 ∷ decimal least; is = record { is = within least 999 least (omega arith) (omega arith); text = refl } })
comma_decided_at least false e = inr (λ s. refl)

comma_decided : (least : ℕ) → Some_text (Comma least) ⊎ ((s : List ℕ) → option_in least s ≡ stop s)
unfolding option_in
comma_decided least = comma_decided_at least (nat_lt least 1000) refl

-- the options behind the first
pub further_part : (most least : ℕ) → Part (Items Comma next_option most least) none (each_in option_in next_option most least)
further_part most least = items_part Comma option_in next_option no_digit comma_part comma_head comma_decided most least

abbrev pub commas : List ℕ → List ℕ
commas options = flat_map (λ other. 44 ∷ decimal other) options

-- options from `least` on, below 1,000
pub record Ascend (least : ℕ) (options : List ℕ) : Type 0 where
  pub ascends : ascends_from least options ≡ true
  pub below : list_all (λ option. nat_lt option 1000) options ≡ true

further_to : (most least : ℕ) (options u : List ℕ) → Items Comma next_option most least options u → Spelled (Ascend least) commas options u
further_to most least [] u no_more = record { is = record { ascends = refl; below = refl }; text = refl }
further_to zero least (x ∷ xs) u h = elim h [ ]
further_to (suc most) least (x ∷ xs) u (one_more v w h r) =
    let rest = further_to most (x + 1) xs w r in
    let low = within_low least 999 x h.is in
    let high = within_high least 999 x h.is in
    record {
      is = record {
        ascends = and-both (nat_le least x) (ascends_from (x + 1) xs) (le-leb least x low) rest.is.ascends;
        below = and-both (nat_lt x 1000) (list_all (λ option. nat_lt option 1000) xs) (lt-ltb x 1000 (omega arith)) rest.is.below;
      };
      text = ap (λ (t : List ℕ). t ++ w) h.text ∙ ap (λ (t : List ℕ). (44 ∷ decimal x) ++ t) rest.text;
    }

further_back_at : (most least : ℕ) (options : List ℕ) → 1000 ≤ most + least → Ascend least options → Items Comma next_option most least options (commas options)
further_back_at most least [] enough h = no_more
further_back_at zero least (x ∷ xs) enough h =
    let low = leb-true least x (and-left (nat_le least x) (ascends_from (x + 1) xs) h.ascends) in
    let high = ltb-true x 1000 (and-left (nat_lt x 1000) (list_all (λ option. nat_lt option 1000) xs) h.below) in
    absurd (omega (arith, low, high, enough))
further_back_at (suc most) least (x ∷ xs) enough h =
    let low = leb-true least x (and-left (nat_le least x) (ascends_from (x + 1) xs) h.ascends) in
    let high = ltb-true x 1000 (and-left (nat_lt x 1000) (list_all (λ option. nat_lt option 1000) xs) h.below) in
    let rest = further_back_at most (x + 1) xs (omega (arith, low, enough)) (record {
      ascends = and-right (nat_le least x) (ascends_from (x + 1) xs) h.ascends;
      below = and-right (nat_lt x 1000) (list_all (λ option. nat_lt option 1000) xs) h.below;
    }) in
    one_more (44 ∷ decimal x) (commas xs) (record { is = within least 999 x low (omega arith); text = refl }) rest

further_back : (least : ℕ) (options u : List ℕ) → Spelled (Ascend least) commas options u → Items Comma next_option 1000 least options u
further_back least options u h = subst (Items Comma next_option 1000 least options) (sym h.text) (further_back_at 1000 least options (omega arith) h.is)

pub further_options_part : (least : ℕ) → Part (Spelled (Ascend least) commas) none (each_in option_in next_option 1000 least)
further_options_part least = same_texts (further_part 1000 least) (λ xs u h. further_to 1000 least xs u h) (λ xs u h. further_back least xs u h)

-- one option or more
pub data Some_options : List ℕ → Type 0 where
  options_from : (first : ℕ) (further : List ℕ) → is_within 0 999 first ≡ true → Ascend (first + 1) further → Some_options (first ∷ further)

abbrev Firsts : ℕ → ℕ → List ℕ → List ℕ → Type 0
Firsts first n = Mapped (λ (xs : List ℕ). first ∷ xs) (Spelled (Ascend (first + 1)) commas)

commas_stop : (xs u : List ℕ) → u ≡ commas xs → StopsAt no_digit u
commas_stop [] u e = subst (StopsAt no_digit) (sym e) tt
commas_stop (x ∷ xs) u e = subst (StopsAt no_digit) (sym e) refl

firsts_ending : (first n : ℕ) (xs w x : List ℕ) → Firsts first n xs w → StopsAt none x → StopsAt no_digit (w ++ x)
firsts_ending first n xs w x h k =
    subst (λ (t : List ℕ). StopsAt no_digit (w ++ t)) (sym (StopsAt-none x k)) (subst (StopsAt no_digit) (sym (append-nil w)) (commas_stop h.a w h.is.text))

some_to : (xs u : List ℕ) → Both (Within 0 999) Firsts xs u → Spelled Some_options options_word xs u
some_to xs u h =
    subst (λ (ys : List ℕ). Spelled Some_options options_word ys u) (sym h.second.value) (record {
      is = options_from h.a h.second.a h.first.is h.second.is.is;
      text = h.text ∙ ap (λ (t : List ℕ). t ++ h.w) h.first.text ∙ ap (λ (t : List ℕ). decimal h.a ++ t) h.second.is.text;
    })

some_back_at : (xs : List ℕ) → Some_options xs → Both (Within 0 999) Firsts xs (options_word xs)
some_back_at [] h = elim h [ ]
some_back_at (first ∷ further) (options_from _ _ h k) = record {
  a = first;
  u = decimal first;
  w = commas further;
  first = record { is = h; text = refl };
  second = record { a = further; is = record { is = k; text = refl }; value = refl };
  text = refl;
}

some_back : (xs u : List ℕ) → Spelled Some_options options_word xs u → Both (Within 0 999) Firsts xs u
some_back xs u h = subst (Both (Within 0 999) Firsts xs) (sym h.text) (some_back_at xs h.is)

pub some_options_part : Part (Spelled Some_options options_word) none some_options_in
unfolding some_options_in
some_options_part = same_texts
    (then_part (Within 0 999) no_digit (number_in (Between 0 999)) Firsts none (λ first n. map_in (λ (xs : List ℕ). first ∷ xs) (each_in option_in next_option 1000 (first + 1)))
    (within_part 0 999 (omega arith) (omega arith))
    (λ first n. map_part (λ (xs : List ℕ). first ∷ xs) (further_options_part (first + 1)))
    (λ first u h. record { b = first ∷ []; w = []; is = record { a = []; is = record { is = record { ascends = refl; below = refl }; text = refl }; value = refl } })
    (λ first n xs w x h k. firsts_ending first n xs w x h k))
    (λ xs u h. some_to xs u h) (λ xs u h. some_back xs u h)

pub some_ascend : (xs : List ℕ) → Some_options xs → is_ascending xs ≡ true
some_ascend [] h = elim h [ ]
some_ascend (first ∷ further) (options_from _ _ h k) = and-both (nat_le 0 first) (ascends_from (first + 1) further) (le-leb 0 first (omega arith)) k.ascends

behind_first : (first : ℕ) (r : Read (List ℕ)) → (r >>= λ more. found (first ∷ more.value) more.rest) ≡ behind (first ∷ []) r
behind_first first (Ok xs) = refl
behind_first first (Err left) = refl

pub some_found : (text rest xs : List ℕ) (first : ℕ) → number_in (Between 0 999) text ≡ found first rest → behind (first ∷ []) (each_in option_in next_option 1000 (first + 1) rest) ≡ found xs [] → some_options_in text ≡ found xs []
unfolding some_options_in
some_found text rest xs first e h =
    ap (λ (r : Read ℕ). r >>= λ x. each_in option_in next_option 1000 (x.value + 1) x.rest >>= λ more. found (x.value ∷ more.value) more.rest) e
    ∙ behind_first first (each_in option_in next_option 1000 (first + 1) rest) ∙ h

-- what is read as options ascends
pub options_ascend : (text xs : List ℕ) → some_options_in text ≡ found xs [] → is_ascending xs ≡ true
options_ascend text xs e = some_ascend xs (some_options_part.only text xs [] e).is.is

-- `-` for no options
pub record No_options (xs : List ℕ) : Type 0 where
  pub is : xs ≡ []

no_to : (xs u : List ℕ) → Both (Word (45 ∷ [])) (λ a n. Nothing {A = List ℕ} []) xs u → Spelled No_options (λ x. 45 ∷ []) xs u
no_to xs u h = record { is = record { is = h.second.value }; text = h.text ∙ ap (λ (t : List ℕ). t ++ h.w) h.first.text ∙ ap (λ (t : List ℕ). 45 ∷ t) h.second.text }

no_back : (xs u : List ℕ) → Spelled No_options (λ x. 45 ∷ []) xs u → Both (Word (45 ∷ [])) (λ a n. Nothing {A = List ℕ} []) xs u
no_back xs u h = record { a = done; u = 45 ∷ []; w = []; first = record { is = tt; text = refl }; second = record { value = h.is.is; text = refl }; text = h.text }

no_options_part : Part (Spelled No_options (λ x. 45 ∷ [])) none no_options_in
unfolding no_options_in
no_options_part = same_texts
    (then_part (Word (45 ∷ [])) any (word_in (45 ∷ [])) (λ a n. Nothing {A = List ℕ} []) none (λ a n. ended_at [])
    (word_part (45 ∷ [])) (λ a n. ended_at_part []) (λ a u h. record { b = []; w = []; is = record { value = refl; text = refl } }) (λ a n xs w x h k. StopsAt-any (w ++ x)))
    (λ xs u h. no_to xs u h) (λ xs u h. no_back xs u h)

no_starts : (xs u : List ℕ) → Spelled No_options (λ x. 45 ∷ []) xs u → Starts 45 u
no_starts xs u h = record { tail = []; text = h.text }

some_differ_at : (xs : List ℕ) → Some_options xs → Differs 45 (options_word xs)
some_differ_at [] h = elim h [ ]
some_differ_at (first ∷ further) (options_from _ _ h k) =
    let d = first_digit first (omega (arith, within_high 0 999 first h)) in
    record { head = d.digit; tail = d.more ++ commas further; text = ap (λ (t : List ℕ). t ++ commas further) d.text; other = λ e. absurd (omega (arith, d.low, e)) }

some_differ : (xs u : List ℕ) → Spelled Some_options options_word xs u → Differs 45 u
some_differ xs u h = subst (Differs 45) (sym h.text) (some_differ_at xs h.is)

-- options that ascend and are below 1,000
pub record Options (xs : List ℕ) : Type 0 where
  pub ascends : is_ascending xs ≡ true
  pub below : list_all (λ option. nat_lt option 1000) xs ≡ true

some_are_at : (xs : List ℕ) → Some_options xs → Options xs
some_are_at [] h = elim h [ ]
some_are_at (first ∷ further) (options_from _ _ h k) = record {
  ascends = and-both (nat_le 0 first) (ascends_from (first + 1) further) (le-leb 0 first (omega arith)) k.ascends;
  below = and-both (nat_lt first 1000) (list_all (λ option. nat_lt option 1000) further) (lt-ltb first 1000 (omega (arith, within_high 0 999 first h))) k.below;
}

options_to : (xs u : List ℕ) → Either (Spelled No_options (λ x. 45 ∷ [])) (Spelled Some_options options_word) xs u → Spelled Options options_word xs u
options_to xs u (this h) = subst (λ (ys : List ℕ). Spelled Options options_word ys u) (sym h.is.is) (record { is = record { ascends = refl; below = refl }; text = h.text })
options_to xs u (that h) = record { is = some_are_at xs h.is; text = h.text }

options_back : (xs u : List ℕ) → Spelled Options options_word xs u → Either (Spelled No_options (λ x. 45 ∷ [])) (Spelled Some_options options_word) xs u
options_back [] u h = this (record { is = record { is = refl }; text = h.text })
options_back (first ∷ further) u h =
    let low = and-left (nat_lt first 1000) (list_all (λ option. nat_lt option 1000) further) h.is.below in
    that (record {
      is = options_from first further (within 0 999 first (omega arith) (omega (arith, ltb-true first 1000 low)))
          (record { ascends = and-right (nat_le 0 first) (ascends_from (first + 1) further) h.is.ascends; below = and-right (nat_lt first 1000) (list_all (λ option. nat_lt option 1000) further) h.is.below });
      text = h.text;
    })

pub options_part : Part (Spelled Options options_word) none options_in
unfolding options_in
options_part = same_texts
    (either_part 45 (Spelled No_options (λ x. 45 ∷ [])) (Spelled Some_options options_word) none no_options_in some_options_in no_options_part some_options_part
    (λ xs u h. no_starts xs u h) (λ xs u h. some_differ xs u h)
    (record { b = []; w = 45 ∷ []; is = record { is = record { is = refl }; text = refl } })
    (record { b = 0 ∷ []; w = decimal 0 ++ []; is = record { is = options_from 0 [] refl (record { ascends = refl; below = refl }); text = refl } }))
    (λ xs u h. options_to xs u h) (λ xs u h. options_back xs u h)
