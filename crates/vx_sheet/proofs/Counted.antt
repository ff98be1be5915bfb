-- How many bubbles of a contest there are: on one page, and on a card.
use Rattle.std.proofs.Common.{◌≡◌, ◌≢◌, ℕ, zero, suc, ◌+◌, ◌<◌, ◌≤◌, ◌⊎◌, inl, inr, Bool, true, false, cond, ◌==◌, List, [], ◌∷◌, ◌++◌, length, map, drop, refl, sym, ap, ap₂, ◌∙◌, subst, arith, length-append}
use Rattle.std.specs.Prelude.{◌||◌, All, Option, Some, None, slice_get}
use Rattle.std.specs.Borrow.{Bor}
use Rattle.std.specs.Slice.{IsItemAt}
use Rattle.std.specs.Option.{option_copied}
use Rattle.std.specs.List.{flat_map, list_any, range_with_len}
use Rattle.std.proofs.lemmas.List.Elements.{All-head, All-tail}
use Rattle.std.proofs.lemmas.List.FromFn.{length-range_with_len}
use Rattle.std.proofs.lemmas.List.{append_assoc}
use Rattle.std.proofs.lemmas.Option.{same_Some, slice_get_read, slice_get_past}
use Rattle.vx_base.proofs.Numbers.{equal-yes, equal-no, equal-from_yes}
use Rattle.vx_grid.specs.declared.state.State.{State}
use Rattle.vx_election_model.specs.declared.contest.Contest.{Contest}
use Rattle.vx_election_model.specs.declared.style.Style.{Style}
use Rattle.vx_election_model.specs.Options.{options_of}
use Rattle.vx_styles.specs.Cards.{has_contest, contests_from}
use Rattle.vx_layout.specs.declared.bubbles.Bubble.{Bubble}
use Rattle.vx_layout.specs.declared.pages.PagePlan.{PagePlan}
use Rattle.vx_layout.specs.Flow.{contest_at}
use Rattle.vx_layout.specs.Options.{options_with, options_shown}
use Rattle.vx_sheet.specs.Sheet.{has_bubble, state_on, states_on}

-- how many of some options, each with its contest, are of a contest
abbrev pub count : ℕ → List (ℕ × ℕ) → ℕ
count contest [] = 0
count contest (option ∷ options) = cond (option.0 == contest) (suc (count contest options)) (count contest options)

pub count-append : (contest : ℕ) (xs ys : List (ℕ × ℕ)) → count contest (xs ++ ys) ≡ count contest xs + count contest ys
count-append contest [] ys = omega arith
count-append contest (x ∷ xs) ys = by (x.0 == contest) (count-append contest xs ys)
  where
    by : (b : Bool) → count contest (xs ++ ys) ≡ count contest xs + count contest ys → cond b (suc (count contest (xs ++ ys))) (count contest (xs ++ ys)) ≡ cond b (suc (count contest xs)) (count contest xs) + count contest ys
    by true h = omega arith
    by false h = h

-- as many states as bubbles
pub states-counted : (contest : ℕ) (bubbles : List Bubble) (states : List State) → length states ≡ length bubbles → length (states_on contest bubbles states) ≡ count contest (options_shown bubbles)
states-counted contest [] states h = refl
states-counted contest (bubble ∷ bubbles) [] h = absurd cc
states-counted contest (bubble ∷ bubbles) (state ∷ states) h = by (bubble.contest == contest) (states-counted contest bubbles states (omega arith))
  where
    by : (b : Bool) → length (states_on contest bubbles states) ≡ count contest (options_shown bubbles)
        → length (cond b (state ∷ []) [] ++ states_on contest bubbles states) ≡ cond b (suc (count contest (options_shown bubbles))) (count contest (options_shown bubbles))
    by true h = ap suc h
    by false h = h

-- a contest with a bubble has some
pub some-counted : (contest : ℕ) (bubbles : List Bubble) → has_bubble contest bubbles ≡ true → 0 < count contest (options_shown bubbles)
some-counted contest [] h = absurd cc
some-counted contest (bubble ∷ bubbles) h = by (bubble.contest == contest) refl (some-counted contest bubbles)
  where
    by : (b : Bool) → (bubble.contest == contest) ≡ b → (has_bubble contest bubbles ≡ true → 0 < count contest (options_shown bubbles)) → 0 < cond b (suc (count contest (options_shown bubbles))) (count contest (options_shown bubbles))
    by true e rest = omega arith
    by false e rest = rest (sym (ap (λ (c : Bool). c || has_bubble contest bubbles) e) ∙ h)

-- of a page that isn't its own a contest has no bubble
pub none-elsewhere : (page_for : ℕ → ℕ) (contest page : ℕ) (bubbles : List Bubble) → All (λ (bubble : Bubble). page_for bubble.contest ≡ page) bubbles → page_for contest ≢ page → count contest (options_shown bubbles) ≡ 0
none-elsewhere page_for contest page [] on apart = refl
none-elsewhere page_for contest page (bubble ∷ bubbles) on apart =
    ap (λ (b : Bool). cond b (suc (count contest (options_shown bubbles))) (count contest (options_shown bubbles)))
    (equal-no bubble.contest contest (λ e. apart (ap page_for (sym e) ∙ All-head (λ (bubble : Bubble). page_for bubble.contest ≡ page) bubble bubbles on)))
    ∙ none-elsewhere page_for contest page bubbles (All-tail (λ (bubble : Bubble). page_for bubble.contest ≡ page) bubble bubbles on) apart

-- what holds of each bubble holds of one of a contest that has one
pub of-bubble : (P : ℕ → Type 0) (contest : ℕ) (bubbles : List Bubble) → All (λ (bubble : Bubble). P bubble.contest) bubbles → has_bubble contest bubbles ≡ true → P contest
of-bubble P contest [] on h = absurd cc
of-bubble P contest (bubble ∷ bubbles) on h = by (bubble.contest == contest) refl (of-bubble P contest bubbles)
  where
    by : (b : Bool) → (bubble.contest == contest) ≡ b → (All (λ (bubble : Bubble). P bubble.contest) bubbles → has_bubble contest bubbles ≡ true → P contest) → P contest
    by true e rest = subst P (equal-from_yes bubble.contest contest e) (All-head (λ (bubble : Bubble). P bubble.contest) bubble bubbles on)
    by false e rest = rest (All-tail (λ (bubble : Bubble). P bubble.contest) bubble bubbles on) (sym (ap (λ (c : Bool). c || has_bubble contest bubbles) e) ∙ h)

abbrev shown-on : PagePlan → List (ℕ × ℕ)
shown-on page = options_shown page.bubbles

none-counted : (contest : ℕ) (pages : List PagePlan) → ((j : ℕ) (page : PagePlan) → slice_get pages j ≡ Some page → count contest (shown-on page) ≡ 0) → count contest (flat_map shown-on pages) ≡ 0
none-counted contest [] none = refl
none-counted contest (page ∷ pages) none =
    count-append contest (shown-on page) (flat_map shown-on pages)
    ∙ ap₂ (λ (m n : ℕ). m + n) (none 0 page refl) (none-counted contest pages (λ j other there. none (suc j) other there))

-- where no other page has a bubble of a contest, all are on its page
pub page-counted : (contest : ℕ) (pages : List PagePlan) (i : ℕ) (page : PagePlan) → slice_get pages i ≡ Some page
    → ((j : ℕ) (other : PagePlan) → slice_get pages j ≡ Some other → j ≢ i → count contest (shown-on other) ≡ 0)
    → count contest (flat_map shown-on pages) ≡ count contest (shown-on page)
page-counted contest [] i page there none = absurd cc
page-counted contest (first ∷ pages) zero page there none =
    let rest = none-counted contest pages (λ j other at. none (suc j) other at (λ e. absurd cc)) in
    let whole = count-append contest (shown-on first) (flat_map shown-on pages) in
    let same : count contest (shown-on first) ≡ count contest (shown-on page) = ap (λ (p : PagePlan). count contest (shown-on p)) (same_Some first page there) in
    omega (arith, rest, whole, same)
page-counted contest (first ∷ pages) (suc i) page there none =
    let rest = page-counted contest pages i page there (λ j other at apart. none (suc j) other at (λ e. apart (omega arith))) in
    let whole = count-append contest (shown-on first) (flat_map shown-on pages) in
    let here = none 0 first refl (λ e. absurd cc) in
    omega (arith, rest, whole, here)

-- options of one contest
of-one : (contest number : ℕ) (options : List ℕ) → count contest (map (λ option. (number, option)) options) ≡ cond (number == contest) (length options) 0
of-one contest number options = by (number == contest) refl options
  where
    by : (b : Bool) → (number == contest) ≡ b → (options : List ℕ) → count contest (map (λ option. (number, option)) options) ≡ cond b (length options) 0
    by true e [] = refl
    by false e [] = refl
    by true e (option ∷ options) =
        ap (λ (c : Bool). cond c (suc (count contest (map (λ option. (number, option)) options))) (count contest (map (λ option. (number, option)) options))) e
        ∙ ap suc (by true e options)
    by false e (option ∷ options) =
        ap (λ (c : Bool). cond c (suc (count contest (map (λ option. (number, option)) options))) (count contest (map (λ option. (number, option)) options))) e
        ∙ by false e options

module _ (style : Style) (all : List Contest) (contest : ℕ) where
  -- the options of the contests of a style from a place on that are of this contest
  abbrev pub from-place : ℕ → List Contest → ℕ
  from-place place contests = count contest (flat_map (options_with all) (contests_from style place contests))

  more : (b : Bool) (place : ℕ) (rest : List ℕ) → count contest (flat_map (options_with all) (cond b (place ∷ rest) rest))
      ≡ cond b (cond (place == contest) (options_of (contest_at all place)) 0) 0 + count contest (flat_map (options_with all) rest)
  more true place rest =
      count-append contest (options_with all place) (flat_map (options_with all) rest)
      ∙ ap (λ n. n + count contest (flat_map (options_with all) rest))
      (of-one contest place (range_with_len 0 (options_of (contest_at all place)))
      ∙ ap (λ n. cond (place == contest) n 0) (length-range_with_len 0 (options_of (contest_at all place))))
  more false place rest = omega arith

  -- those behind it have none
  behind : (place : ℕ) (contests : List Contest) → contest < place → from-place place contests ≡ 0
  behind place [] h = refl
  behind place (one ∷ contests) h =
      let rest = behind (place + 1) contests (omega arith) in
      let here : (place == contest) ≡ false = equal-no place contest (λ e. absurd (omega arith)) in
      let whole = more (has_contest style one) place (contests_from style (place + 1) contests) in
      whole ∙ ap₂ (λ (m n : ℕ). m + n) (ap (λ (c : Bool). cond (has_contest style one) (cond c (options_of (contest_at all place)) 0) 0) here ∙ by (has_contest style one)) rest
    where
      by : (b : Bool) → cond b (cond false (options_of (contest_at all place)) 0) 0 ≡ 0
      by true = refl
      by false = refl

  -- all options of the contest or none
  pub all-or-none : (place : ℕ) (contests : List Contest) → (from-place place contests ≡ 0) ⊎ (from-place place contests ≡ options_of (contest_at all contest))
  all-or-none place [] = inl refl
  all-or-none place (one ∷ contests) = by (has_contest style one) (place == contest) refl (all-or-none (place + 1) contests)
    where
      rest : List ℕ
      rest = contests_from style (place + 1) contests

      by : (b c : Bool) → (place == contest) ≡ c → (from-place (place + 1) contests ≡ 0) ⊎ (from-place (place + 1) contests ≡ options_of (contest_at all contest))
          → (count contest (flat_map (options_with all) (cond b (place ∷ rest) rest)) ≡ 0) ⊎ (count contest (flat_map (options_with all) (cond b (place ∷ rest) rest)) ≡ options_of (contest_at all contest))
      by false c e later = later
      by true true e later =
          let same : place ≡ contest = equal-from_yes place contest e in
          let none = behind (place + 1) contests (omega arith) in
          inr (more true place rest ∙ ap₂ (λ (m n : ℕ). m + n)
          (ap (λ (d : Bool). cond d (options_of (contest_at all place)) 0) e ∙ ap (λ n. options_of (contest_at all n)) same) none
          ∙ add-none (options_of (contest_at all contest)))
        where
          add-none : (n : ℕ) → n + 0 ≡ n
          add-none n = omega arith
      by true false e (inl none) =
          inl (more true place rest ∙ ap₂ (λ (m n : ℕ). m + n) (ap (λ (d : Bool). cond d (options_of (contest_at all place)) 0) e) none)
      by true false e (inr every) =
          inr (more true place rest ∙ ap₂ (λ (m n : ℕ). m + n) (ap (λ (d : Bool). cond d (options_of (contest_at all place)) 0) e) every ∙ none-add (options_of (contest_at all contest)))
        where
          none-add : (n : ℕ) → 0 + n ≡ n
          none-add n = omega arith

states-none : (contest : ℕ) (bubbles : List Bubble) → states_on contest bubbles [] ≡ []
states-none contest [] = refl
states-none contest (bubble ∷ bubbles) = refl

-- the loop's step: one bubble, and those behind it
pub states-step : (contest : ℕ) (bubbles : List Bubble) (states : List State) (i : ℕ) (bubble : Bubble) → slice_get bubbles i ≡ Some bubble
    → states_on contest (drop i bubbles) (drop i states) ≡ state_on contest bubble (slice_get states i) ++ states_on contest (drop (suc i) bubbles) (drop (suc i) states)
states-step contest [] states i bubble h = absurd cc
states-step contest (one ∷ bubbles) [] zero bubble h = sym (states-none contest bubbles)
states-step contest (one ∷ bubbles) (state ∷ states) zero bubble h =
    ap (λ (b : Bubble). state_on contest b (Some state) ++ states_on contest bubbles states) (same_Some one bubble h)
states-step contest (one ∷ bubbles) [] (suc i) bubble h = states-none contest (drop i bubbles) ∙ sym (states-none contest (drop (suc i) bubbles))
states-step contest (one ∷ bubbles) (state ∷ states) (suc i) bubble h = states-step contest bubbles states i bubble h

-- what `get` lends is what stands there
pub lent : {X : Type 0} (found : Option (Bor X)) (xs : List X) (i : ℕ) → IsItemAt xs i found → option_copied found ≡ slice_get xs i
lent None xs i h = sym (slice_get_past xs i h.3)
lent (Some x) xs i h = sym (slice_get_read xs (length xs) i x.now refl h.3.0 h.1)

-- the same, with what is added so far
pub states-laid : (contest : ℕ) (bubbles : List Bubble) (states : List State) (place : ℕ) (bubble : Bubble) (state : Option State) (old now whole : List State)
    → now ≡ old ++ state_on contest bubble state → slice_get bubbles place ≡ Some bubble → state ≡ slice_get states place
    → old ++ states_on contest (drop place bubbles) (drop place states) ≡ whole
    → now ++ states_on contest (drop (place + 1) bubbles) (drop (place + 1) states) ≡ whole
states-laid contest bubbles states place bubble state old now whole added there read before =
    let next : place + 1 ≡ suc place = omega arith in
    ap₂ (λ (xs : List State) (n : ℕ). xs ++ states_on contest (drop n bubbles) (drop n states)) (added ∙ ap (λ (s : Option State). old ++ state_on contest bubble s) read) next
    ∙ append_assoc old (state_on contest bubble (slice_get states place)) (states_on contest (drop (suc place) bubbles) (drop (suc place) states))
    ∙ ap (λ (xs : List State). old ++ xs) (sym (states-step contest bubbles states place bubble there))
    ∙ before
