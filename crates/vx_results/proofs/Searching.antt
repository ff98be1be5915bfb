-- Whether something is found in a list, so far and at all, and which numbers pass.
use Rattle.std.proofs.Common.{◌≡◌, ℕ, zero, suc, ◌+◌, ◌<◌, Bool, true, false, cond, ◌||◌, ◌==◌, List, [], ◌∷◌, ◌++◌, length, take, get_or, refl, sym, ap, ◌∙◌, arith}
use Rattle.std.specs.Prelude.{filter, slice_index_or}
use Rattle.std.specs.List.{list_any, range_with_len}
use Rattle.std.proofs.lemmas.List.{take_more, get_or-map}
use Rattle.std.proofs.lemmas.List.Elements.{filter-append}
use Rattle.std.proofs.lemmas.List.FromFn.{get_or-range_with_len, length-map-range_with_len, length-range_with_len}
use Rattle.vx_base.proofs.Ranges.{range-more}
use Rattle.vx_election_model.specs.declared.election.Election.{Election}
use Rattle.vx_styles.specs.Cards.{cards_of, contests_of_card}
use Rattle.vx_events.specs.declared.event.Event.{Event}
use Rattle.vx_center.specs.Places.{no_sheet, sheet_at}
use Rattle.vx_center.specs.Sheets.{Added, sheets_in}
use Rattle.vx_results.specs.Figures.{card_contests, stands_in, stands_on}
use Rattle.vx_results.specs.Kinds.{kind_of}

any-append : {X : Type 0} (p : X → Bool) (xs ys : List X) → list_any p (xs ++ ys) ≡ list_any p xs || list_any p ys
any-append p [] ys = refl
any-append p (x ∷ xs) ys = by (p x) (any-append p xs ys)
  where
    by : (b : Bool) → list_any p (xs ++ ys) ≡ list_any p xs || list_any p ys → b || list_any p (xs ++ ys) ≡ (b || list_any p xs) || list_any p ys
    by true rest = refl
    by false rest = rest

or-none : (a b : Bool) → a ≡ false → b ≡ false → a || (b || false) ≡ false
or-none true b e f = absurd cc
or-none false true e f = absurd cc
or-none false false e f = refl

-- one more that isn't it
any-later : {X : Type 0} (p : X → Bool) (xs : List X) (i : ℕ) (d : X) → i < length xs → list_any p (take i xs) ≡ false → p (get_or xs i d) ≡ false
    → list_any p (take (i + 1) xs) ≡ false
any-later p xs i d less none isnt =
    ap (list_any p) (take_more xs i d less) ∙ any-append p (take i xs) (get_or xs i d ∷ [])
    ∙ or-none (list_any p (take i xs)) (p (get_or xs i d)) none isnt

any-here : {X : Type 0} (p : X → Bool) (xs : List X) (i : ℕ) (d : X) → i < length xs → p (get_or xs i d) ≡ true → list_any p xs ≡ true
any-here p [] i d less is = absurd (omega (arith, less))
any-here p (x ∷ xs) zero d less is = ap (λ b. b || list_any p xs) is
any-here p (x ∷ xs) (suc i) d less is = by (p x) (any-here p xs i d (omega (arith, less)) is)
  where
    by : (b : Bool) → list_any p xs ≡ true → b || list_any p xs ≡ true
    by true rest = refl
    by false rest = rest

-- ---- sheets

pub sheet_later : (kept : List Event) (kind place : ℕ) → place < length (sheets_in kept)
    → list_any (λ (added : Added). kind == kind_of added.sheet) (take place (sheets_in kept)) ≡ false
    → (kind == kind_of (sheet_at kept place).sheet) ≡ false
    → list_any (λ (added : Added). kind == kind_of added.sheet) (take (place + 1) (sheets_in kept)) ≡ false
sheet_later kept kind place less none isnt = any-later (λ (added : Added). kind == kind_of added.sheet) (sheets_in kept) place no_sheet less none isnt

pub sheet_here : (kept : List Event) (kind place : ℕ) → place < length (sheets_in kept) → (kind == kind_of (sheet_at kept place).sheet) ≡ true
    → list_any (λ (added : Added). kind == kind_of added.sheet) (sheets_in kept) ≡ true
sheet_here kept kind place less is = any-here (λ (added : Added). kind == kind_of added.sheet) (sheets_in kept) place no_sheet less is

-- ---- numbers

pub number_later : (p : ℕ → Bool) (n : ℕ) → list_any p (range_with_len 0 n) ≡ false → p n ≡ false → list_any p (range_with_len 0 (n + 1)) ≡ false
number_later p n none isnt =
    let at : 0 + n ≡ n = omega arith in
    ap (list_any p) (range-more 0 n) ∙ any-append p (range_with_len 0 n) ((0 + n) ∷ [])
    ∙ or-none (list_any p (range_with_len 0 n)) (p (0 + n)) none (ap p at ∙ isnt)

pub number_here : (p : ℕ → Bool) (n k : ℕ) → k < n → p k ≡ true → list_any p (range_with_len 0 n) ≡ true
number_here p n k less is =
    let at : 0 + k ≡ k = omega arith in
    any-here p (range_with_len 0 n) k 0 (omega (arith, less, length-range_with_len 0 n)) (ap p (get_or-range_with_len 0 n k 0 less ∙ at) ∙ is)

-- ---- cards

pub card_later : (election : Election) (contest unit card : ℕ) → list_any (stands_on election contest unit) (range_with_len 0 card) ≡ false
    → stands_on election contest unit card ≡ false → list_any (stands_on election contest unit) (range_with_len 0 (card + 1)) ≡ false
card_later election contest unit card none isnt = number_later (stands_on election contest unit) card none isnt

pub card_here : (election : Election) (contest unit card : ℕ) → card < length (cards_of election) → stands_on election contest unit card ≡ true
    → stands_in election contest unit ≡ true
card_here election contest unit card less is = number_here (stands_on election contest unit) (length (cards_of election)) card less is

-- the contests of a card, among those of each
pub cards_listed : (election : Election) → length (card_contests election) ≡ length (cards_of election)
cards_listed election = length-map-range_with_len (contests_of_card election) 0 (length (cards_of election))

pub contests_at : (election : Election) (card : ℕ) → card < length (cards_of election) → slice_index_or (card_contests election) card [] ≡ contests_of_card election card
contests_at election card less =
    let at : 0 + card ≡ card = omega arith in
    let inside : card < length (range_with_len 0 (length (cards_of election))) = omega (arith, less, length-range_with_len 0 (length (cards_of election))) in
    get_or-map (contests_of_card election) (range_with_len 0 (length (cards_of election))) card 0 [] inside
    ∙ ap (contests_of_card election) (get_or-range_with_len 0 (length (cards_of election)) card 0 less ∙ at)

-- ---- numbers that pass

-- one number more, of those that pass
pub passing_more : (p : ℕ → Bool) (a n : ℕ) → filter p (range_with_len a (n + 1)) ≡ filter p (range_with_len a n) ++ cond (p (a + n)) ((a + n) ∷ []) []
passing_more p a n = ap (filter p) (range-more a n) ∙ filter-append p (range_with_len a n) ((a + n) ∷ [])

-- the loop's step
pub passing_laid : (p : ℕ → Bool) (a n k : ℕ) (so_far now : List ℕ) (b : Bool) → k ≡ a + n → so_far ≡ filter p (range_with_len a n) → b ≡ p k
    → now ≡ so_far ++ cond b (k ∷ []) [] → now ≡ filter p (range_with_len a (n + 1))
passing_laid p a n k so_far now b at before test step =
    step
    ∙ (λ i. before i ++ cond (test i) (k ∷ []) [])
    ∙ ap (λ (m : ℕ). filter p (range_with_len a n) ++ cond (p m) (m ∷ []) []) at
    ∙ sym (passing_more p a n)

pub range_laid : (n k : ℕ) (so_far now : List ℕ) → k ≡ 1 + n → so_far ≡ range_with_len 1 n → now ≡ so_far ++ k ∷ [] → now ≡ range_with_len 1 (n + 1)
range_laid n k so_far now at before step = step ∙ (λ i. before i ++ at i ∷ []) ∙ sym (range-more 1 n)
