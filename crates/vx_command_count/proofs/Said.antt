-- A marked sheet says each mark at its bubble's contest and option: a contest has its bubbles on one page, one for each of
-- its options, in order.
use Rattle.std.proofs.Common.{◌≡◌, ◌≢◌, ◌⊎◌, inl, inr, ℕ, zero, suc, ◌+◌, ◌-◌, ◌<◌, ◌≤◌, ◌==◌, Bool, true, false, cond, List, [], ◌∷◌, ◌++◌, map, Option, None, Some, Ok, refl, sym, ap, ap₂, subst, ◌∙◌, append-nil, append_assoc, arith}
use Rattle.std.specs.Prelude.{◌||◌, All, find, slice_get}
use Rattle.std.specs.List.{flat_map, range_with_len}
use Rattle.std.proofs.lemmas.List.Elements.{All-head, All-tail}
use Rattle.std.proofs.lemmas.Option.{get_or_from_slice_get, same_Some, slice_get_within}
use Rattle.vx_base.proofs.Booleans.{or-left, or-right}
use Rattle.vx_base.proofs.Numbers.{equal-from_yes, equal-no, equal-yes}
use Rattle.vx_plane.specs.Plane.{Page}
use Rattle.vx_election_model.specs.declared.contest.Contest.{Contest}
use Rattle.vx_election_model.specs.declared.election.Election.{Election}
use Rattle.vx_election_model.specs.declared.style.Style.{Style}
use Rattle.vx_election_model.specs.Options.{options_of}
use Rattle.vx_election_model.specs.Valid.{IsValid}
use Rattle.vx_layout.specs.declared.bubbles.Bubble.{Bubble}
use Rattle.vx_layout.specs.declared.pages.PagePlan.{PagePlan}
use Rattle.vx_layout.specs.declared.plan.CardPlan.{CardPlan}
use Rattle.vx_layout.specs.Flow.{contest_at}
use Rattle.vx_layout.specs.Options.{GivesEachContestAPage, ShowsEachOption, options_shown, options_with}
use Rattle.vx_layout.specs.Pages.{IsNumbered, NamesOption, PlansAreNumbered, PlansStandOnGrid, StandsOnGrid}
use Rattle.vx_layout.specs.Plan.{plan_of}
use Rattle.vx_layout.specs.Plans.{PlansShowEachOption}
use Rattle.vx_layout.specs.Printed.{IsPlanned, PrintedPage}
use Rattle.vx_rules.specs.declared.marks.ContestMarks.{ContestMarks}
use Rattle.vx_scan_model.specs.Fits.{FitsUpright, state_of_mark}
use Rattle.vx_sheet.specs.Sheet.{contest_limit, has_bubble}
use Rattle.vx_styles.specs.Cards.{contests_from, contests_of_card, has_contest, style_of_card}
use Rattle.vx_center.specs.Sheets.{marks_on}
use Rattle.vx_sheet.specs.Margin.{FitsPages, MarkedSheet, back_of, contest_marked, front_of, marks_of, sheet_marked}
use Rattle.vx_command_count.specs.Margin.{MarkedSheetsSayEachMark, SaysEachMark, state_in}

-- the options of a contest among some options
abbrev picks : ℕ → List (ℕ × ℕ) → List ℕ
picks contest [] = []
picks contest (option ∷ options) = cond (option.0 == contest) (option.1 ∷ []) [] ++ picks contest options

picks-append : (contest : ℕ) (xs ys : List (ℕ × ℕ)) → picks contest (xs ++ ys) ≡ picks contest xs ++ picks contest ys
picks-append contest [] ys = refl
picks-append contest (x ∷ xs) ys =
    ap (λ (more : List ℕ). cond (x.0 == contest) (x.1 ∷ []) [] ++ more) (picks-append contest xs ys)
    ∙ sym (append_assoc (cond (x.0 == contest) (x.1 ∷ []) []) (picks contest xs) (picks contest ys))

-- an option and a mark stand in one place of two lists
record Found (options : List ℕ) (marks : List Bool) (option : ℕ) (mark : Bool) : Type 0 where
  at : ℕ
  option-there : slice_get options at ≡ Some option
  mark-there : slice_get marks at ≡ Some mark

behind-one : (test : Bool) (first : ℕ) (one : Bool) (options : List ℕ) (marks : List Bool) (option : ℕ) (mark : Bool)
    → Found options marks option mark → Found (cond test (first ∷ []) [] ++ options) (cond test (one ∷ []) [] ++ marks) option mark
behind-one true first one options marks option mark it = record { at = suc it.at; option-there = it.option-there; mark-there = it.mark-there }
behind-one false first one options marks option mark it = it

-- so a bubble's option and its mark stand among those of its contest
found : (contest : ℕ) (bubbles : List Bubble) (marks : List Bool) (n : ℕ) (bubble : Bubble) (mark : Bool)
    → slice_get bubbles n ≡ Some bubble → slice_get marks n ≡ Some mark → bubble.contest ≡ contest
    → Found (picks contest (options_shown bubbles)) (marks_of contest bubbles marks) bubble.option mark
found contest [] marks n bubble mark there marked own = absurd cc
found contest (first ∷ bubbles) [] n bubble mark there marked own = absurd cc
found contest (first ∷ bubbles) (one ∷ marks) zero bubble mark there marked own =
    let same : first ≡ bubble = same_Some first bubble there in
    let test : (first.contest == contest) ≡ true = equal-yes first.contest contest (ap (λ (some : Bubble). some.contest) same ∙ own) in
    record {
      at = 0;
      option-there =
          ap (λ (t : Bool). slice_get (cond t (first.option ∷ []) [] ++ picks contest (options_shown bubbles)) 0) test
          ∙ ap (λ (some : Bubble). Some some.option) same;
      mark-there = ap (λ (t : Bool). slice_get (cond t (one ∷ []) [] ++ marks_of contest bubbles marks) 0) test ∙ marked;
    }
found contest (first ∷ bubbles) (one ∷ marks) (suc n) bubble mark there marked own =
    behind-one (first.contest == contest) first.option one (picks contest (options_shown bubbles)) (marks_of contest bubbles marks) bubble.option mark
    (found contest bubbles marks n bubble mark there marked own)

-- options of one contest
of-one : (contest number : ℕ) (options : List ℕ) → picks contest (map (λ option. (number, option)) options) ≡ cond (number == contest) options []
of-one contest number options = by (number == contest) refl options
  where
    by : (b : Bool) → (number == contest) ≡ b → (options : List ℕ) → picks contest (map (λ option. (number, option)) options) ≡ cond b options []
    by true e [] = refl
    by false e [] = refl
    by true e (option ∷ options) =
        ap (λ (c : Bool). cond c (option ∷ []) [] ++ picks contest (map (λ option. (number, option)) options)) e
        ∙ ap (λ (more : List ℕ). option ∷ more) (by true e options)
    by false e (option ∷ options) =
        ap (λ (c : Bool). cond c (option ∷ []) [] ++ picks contest (map (λ option. (number, option)) options)) e
        ∙ by false e options

module _ (style : Style) (all : List Contest) (contest : ℕ) where
  -- the options of this contest among those of the contests of a style from a place on
  abbrev from-place : ℕ → List Contest → List ℕ
  from-place place contests = picks contest (flat_map (options_with all) (contests_from style place contests))

  abbrev own-options : ℕ → List ℕ
  own-options number = range_with_len 0 (options_of (contest_at all number))

  more-of : (b : Bool) (place : ℕ) (rest : List ℕ) → picks contest (flat_map (options_with all) (cond b (place ∷ rest) rest))
      ≡ cond b (cond (place == contest) (own-options place) []) [] ++ picks contest (flat_map (options_with all) rest)
  more-of true place rest =
      picks-append contest (options_with all place) (flat_map (options_with all) rest)
      ∙ ap (λ (xs : List ℕ). xs ++ picks contest (flat_map (options_with all) rest)) (of-one contest place (own-options place))
  more-of false place rest = refl

  none-of : (b : Bool) (options : List ℕ) → cond b (cond false options []) [] ≡ []
  none-of true options = refl
  none-of false options = refl

  -- those behind it have none
  behind : (place : ℕ) (contests : List Contest) → contest < place → from-place place contests ≡ []
  behind place [] h = refl
  behind place (one ∷ contests) h =
      let here : (place == contest) ≡ false = equal-no place contest (λ e. absurd (omega (arith, e, h))) in
      more-of (has_contest style one) place (contests_from style (place + 1) contests)
      ∙ ap₂ (λ (xs ys : List ℕ). xs ++ ys)
      (ap (λ (c : Bool). cond (has_contest style one) (cond c (own-options place) []) []) here ∙ none-of (has_contest style one) (own-options place))
      (behind (place + 1) contests (omega (arith, h)))

  -- all options of the contest in order, or none
  all-or-none : (place : ℕ) (contests : List Contest) → (from-place place contests ≡ []) ⊎ (from-place place contests ≡ own-options contest)
  all-or-none place [] = inl refl
  all-or-none place (one ∷ contests) = by (has_contest style one) (place == contest) refl (all-or-none (place + 1) contests)
    where
      rest : List ℕ
      rest = contests_from style (place + 1) contests

      by : (b c : Bool) → (place == contest) ≡ c → (from-place (place + 1) contests ≡ []) ⊎ (from-place (place + 1) contests ≡ own-options contest)
          → (picks contest (flat_map (options_with all) (cond b (place ∷ rest) rest)) ≡ []) ⊎ (picks contest (flat_map (options_with all) (cond b (place ∷ rest) rest)) ≡ own-options contest)
      by false c e later = later
      by true true e later =
          let same : place ≡ contest = equal-from_yes place contest e in
          let none = behind (place + 1) contests (omega (arith, same)) in
          inr (more-of true place rest ∙ ap₂ (λ (xs ys : List ℕ). xs ++ ys)
          (ap (λ (d : Bool). cond d (own-options place) []) e ∙ ap own-options same) none
          ∙ append-nil (own-options contest))
      by true false e (inl none) =
          inl (more-of true place rest ∙ ap₂ (λ (xs ys : List ℕ). xs ++ ys) (ap (λ (d : Bool). cond d (own-options place) []) e) none)
      by true false e (inr every) =
          inr (more-of true place rest ∙ ap₂ (λ (xs ys : List ℕ). xs ++ ys) (ap (λ (d : Bool). cond d (own-options place) []) e) every)

-- each number of a range stands in its place
ranged : (from n at number : ℕ) → slice_get (range_with_len from n) at ≡ Some number → number ≡ from + at
ranged from zero at number there = absurd cc
ranged from (suc n) zero number there = let same : from ≡ number = same_Some from number there in omega (arith, same)
ranged from (suc n) (suc at) number there = let rest = ranged (from + 1) n at number there in omega (arith, rest)

in-place : (options : List ℕ) (n at number : ℕ) → (options ≡ []) ⊎ (options ≡ range_with_len 0 n) → slice_get options at ≡ Some number → at ≡ number
in-place options n at number (inl none) there =
    let past : None ≡ Some number = sym (ap (λ (some : List ℕ). slice_get some at) none) ∙ there in absurd cc
in-place options n at number (inr every) there =
    let is = ranged 0 n at number (sym (ap (λ (some : List ℕ). slice_get some at) every) ∙ there) in omega (arith, is)

-- of a page that isn't its own a contest has no bubble
module _ (page_for : ℕ → ℕ) (contest page : ℕ) (apart : page_for contest ≢ page) where
  differs : (bubble : Bubble) → page_for bubble.contest ≡ page → (bubble.contest == contest) ≡ false
  differs bubble on = equal-no bubble.contest contest (λ e. absurd (apart (ap page_for (sym e) ∙ on)))

  no-picks : (bubbles : List Bubble) → All (λ (bubble : Bubble). page_for bubble.contest ≡ page) bubbles → picks contest (options_shown bubbles) ≡ []
  no-picks [] on = refl
  no-picks (bubble ∷ bubbles) on =
      ap (λ (b : Bool). cond b (bubble.option ∷ []) [] ++ picks contest (options_shown bubbles)) (differs bubble (All-head (λ (some : Bubble). page_for some.contest ≡ page) bubble bubbles on))
      ∙ no-picks bubbles (All-tail (λ (some : Bubble). page_for some.contest ≡ page) bubble bubbles on)

  no-marks : (bubbles : List Bubble) (marks : List Bool) → All (λ (bubble : Bubble). page_for bubble.contest ≡ page) bubbles → marks_of contest bubbles marks ≡ []
  no-marks [] marks on = refl
  no-marks (bubble ∷ bubbles) [] on = refl
  no-marks (bubble ∷ bubbles) (mark ∷ marks) on =
      ap (λ (b : Bool). cond b (mark ∷ []) [] ++ marks_of contest bubbles marks) (differs bubble (All-head (λ (some : Bubble). page_for some.contest ≡ page) bubble bubbles on))
      ∙ no-marks bubbles marks (All-tail (λ (some : Bubble). page_for some.contest ≡ page) bubble bubbles on)

abbrev shown-on : PagePlan → List (ℕ × ℕ)
shown-on page = options_shown page.bubbles

no-pages : (contest : ℕ) (pages : List PagePlan) → ((j : ℕ) (page : PagePlan) → slice_get pages j ≡ Some page → picks contest (shown-on page) ≡ []) → picks contest (flat_map shown-on pages) ≡ []
no-pages contest [] none = refl
no-pages contest (page ∷ pages) none =
    picks-append contest (shown-on page) (flat_map shown-on pages)
    ∙ ap₂ (λ (xs ys : List ℕ). xs ++ ys) (none 0 page refl) (no-pages contest pages (λ j other there. none (suc j) other there))

-- where no other page has a bubble of a contest, all are on its page
one-page : (contest : ℕ) (pages : List PagePlan) (i : ℕ) (page : PagePlan) → slice_get pages i ≡ Some page
    → ((j : ℕ) (other : PagePlan) → slice_get pages j ≡ Some other → j ≢ i → picks contest (shown-on other) ≡ [])
    → picks contest (flat_map shown-on pages) ≡ picks contest (shown-on page)
one-page contest [] i page there none = absurd cc
one-page contest (first ∷ pages) zero page there none =
    picks-append contest (shown-on first) (flat_map shown-on pages)
    ∙ ap₂ (λ (xs ys : List ℕ). xs ++ ys)
    (ap (λ (p : PagePlan). picks contest (shown-on p)) (same_Some first page there))
    (no-pages contest pages (λ j other at. none (suc j) other at (λ e. absurd cc)))
    ∙ append-nil (picks contest (shown-on page))
one-page contest (first ∷ pages) (suc i) page there none =
    picks-append contest (shown-on first) (flat_map shown-on pages)
    ∙ ap₂ (λ (xs ys : List ℕ). xs ++ ys)
    (none 0 first refl (λ e. absurd cc))
    (one-page contest pages i page there (λ j other at apart. none (suc j) other at (λ e. apart (omega (arith, e)))))

-- a contest of a sheet is found by its number
module _ (p : ℕ → Bool) (f : ℕ → ContestMarks) (own : (k : ℕ) → (f k).contest ≡ k) (contest : ℕ) (has : p contest ≡ true) where
  abbrev is-own : ContestMarks → Bool
  is-own marks = marks.contest == contest

  contest-found : (n from : ℕ) → from ≤ contest → contest < from + n → find is-own (flat_map (λ k. cond (p k) (f k ∷ []) []) (range_with_len from n)) ≡ Some (f contest)
  contest-found zero from low high = absurd (omega (arith, low, high))
  contest-found (suc n) from low high = by (from == contest) refl (λ less. contest-found n (from + 1) less (omega (arith, high)))
    where
      rest : List ContestMarks
      rest = flat_map (λ k. cond (p k) (f k ∷ []) []) (range_with_len (from + 1) n)

      passes : (b : Bool) → (from == contest) ≡ b → is-own (f from) ≡ b
      passes b e = ap (λ (k : ℕ). k == contest) (own from) ∙ e

      skip : (b : Bool) → (from == contest) ≡ false → find is-own rest ≡ Some (f contest) → find is-own (cond b (f from ∷ []) [] ++ rest) ≡ Some (f contest)
      skip true e later = ap (λ (c : Bool). cond c (Some (f from)) (find is-own rest)) (passes false e) ∙ later
      skip false e later = later

      by : (b : Bool) → (from == contest) ≡ b → (from + 1 ≤ contest → find is-own rest ≡ Some (f contest)) → find is-own (cond (p from) (f from ∷ []) [] ++ rest) ≡ Some (f contest)
      by true e later =
          let same : from ≡ contest = equal-from_yes from contest e in
          ap (λ (c : Bool). find is-own (cond c (f from ∷ []) [] ++ rest)) (ap p same ∙ has)
          ∙ ap (λ (c : Bool). cond c (Some (f from)) (find is-own rest)) (passes true e)
          ∙ ap (λ (k : ℕ). Some (f k)) same
      by false e later =
          let apart : from ≢ contest = λ same. let is : (from == contest) ≡ true = equal-yes from contest same in absurd cc in
          skip (p from) e (later (omega (arith, low, apart)))

limit-is : contest_limit ≡ 500
unfolding contest_limit
limit-is = refl

-- what stands in a list stands in it where another follows, and its state where states are made
in-front : {X : Type 0} (xs ys : List X) (at : ℕ) (x : X) → slice_get xs at ≡ Some x → slice_get (xs ++ ys) at ≡ Some x
in-front [] ys at x there = absurd cc
in-front (first ∷ xs) ys zero x there = there
in-front (first ∷ xs) ys (suc at) x there = in-front xs ys at x there

state-made : (marks : List Bool) (at : ℕ) (mark : Bool) → slice_get marks at ≡ Some mark → slice_get (map state_of_mark marks) at ≡ Some (state_of_mark mark)
state-made [] at mark there = absurd cc
state-made (one ∷ marks) zero mark there = ap (λ (some : Bool). Some (state_of_mark some)) (same_Some one mark there)
state-made (one ∷ marks) (suc at) mark there = state-made marks at mark there

bubble-there : (bubbles : List Bubble) (n : ℕ) (bubble : Bubble) → slice_get bubbles n ≡ Some bubble → has_bubble bubble.contest bubbles ≡ true
bubble-there [] n bubble there = absurd cc
bubble-there (first ∷ bubbles) zero bubble there =
    or-left (first.contest == bubble.contest) (has_bubble bubble.contest bubbles) (equal-yes first.contest bubble.contest (ap (λ (some : Bubble). some.contest) (same_Some first bubble there)))
bubble-there (first ∷ bubbles) (suc n) bubble there =
    or-right (first.contest == bubble.contest) (has_bubble bubble.contest bubbles) (bubble-there bubbles n bubble there)

all-at : {X : Type 0} (P : X → Type 0) (xs : List X) (i : ℕ) (x : X) → All P xs → slice_get xs i ≡ Some x → P x
all-at P xs i x all at = subst P (get_or_from_slice_get xs i x x at) (all i x (slice_get_within xs i x at))

-- a page of a planned card
module _ (election : Election) (number : ℕ) (card : CardPlan) (numbered : IsNumbered number card) (shows : ShowsEachOption election number card)
    (pages : GivesEachContestAPage card) (grid : StandsOnGrid election card) (i : ℕ) (page : PagePlan) (there : slice_get card.pages i ≡ Some page)
    (n : ℕ) (bubble : Bubble) (bubble-is : slice_get page.bubbles n ≡ Some bubble) where
  abbrev IsOn : PagePlan → Type 0
  IsOn some = All (λ (one : Bubble). pages.page_for one.contest ≡ some.page) some.bubbles

  on-page : (j : ℕ) (other : PagePlan) → slice_get card.pages j ≡ Some other → IsOn other
  on-page j other at = all-at IsOn card.pages j other pages.each at

  own-page : pages.page_for bubble.contest ≡ page.page
  own-page = all-at (λ (one : Bubble). pages.page_for one.contest ≡ page.page) page.bubbles n bubble (on-page i page there) bubble-is

  apart-from : (j : ℕ) (other : PagePlan) → slice_get card.pages j ≡ Some other → j ≢ i → pages.page_for bubble.contest ≢ other.page
  apart-from j other at apart e =
      let one = numbered.number i page there in
      let two = numbered.number j other at in
      absurd (apart (omega (arith, own-page, one, two, e)))

  -- the bubbles of a contest are its options in order
  option-placed : (at option : ℕ) → slice_get (picks bubble.contest (options_shown page.bubbles)) at ≡ Some option → at ≡ option
  option-placed at option is =
      let here : picks bubble.contest (flat_map shown-on card.pages) ≡ picks bubble.contest (shown-on page) =
      one-page bubble.contest card.pages i page there
      (λ j other at apart. no-picks pages.page_for bubble.contest other.page (apart-from j other at apart) other.bubbles (on-page j other at)) in
      let all : picks bubble.contest (flat_map shown-on card.pages) ≡ picks bubble.contest (flat_map (options_with election.contests) (contests_of_card election number)) =
      ap (picks bubble.contest) shows.each in
      in-place (picks bubble.contest (flat_map (options_with election.contests) (contests_of_card election number)))
      (options_of (contest_at election.contests bubble.contest)) at option
      (all-or-none (style_of_card election.styles number) election.contests bubble.contest 0 election.contests)
      (ap (λ (some : List ℕ). slice_get some at) (sym all ∙ here) ∙ is)

  -- the contest is one of the election's
  contest-below : IsValid election → bubble.contest < contest_limit
  contest-below valid =
      let named = all-at (NamesOption election.contests) page.bubbles n bubble (all-at (λ (some : PagePlan). All (NamesOption election.contests) some.bubbles) card.pages i page grid.options there) bubble-is in
      omega (arith, named.contest, valid.contests.few, limit-is)

  -- its mark stands at its option, among those of its page
  mark-placed : (marks : List Bool) (mark : Bool) → slice_get marks n ≡ Some mark → slice_get (marks_of bubble.contest page.bubbles marks) bubble.option ≡ Some mark
  mark-placed marks mark marked =
      let it = found bubble.contest page.bubbles marks n bubble mark bubble-is marked refl in
      let at : it.at ≡ bubble.option = option-placed it.at bubble.option it.option-there in
      ap (slice_get (marks_of bubble.contest page.bubbles marks)) (sym at) ∙ it.mark-there

  -- and no mark of another page is of the contest
  no-marks-on : (j : ℕ) (other : PagePlan) (marks : List Bool) → slice_get card.pages j ≡ Some other → j ≢ i → marks_of bubble.contest other.bubbles marks ≡ []
  no-marks-on j other marks at apart = no-marks pages.page_for bubble.contest other.page (apart-from j other at apart) other.bubbles marks (on-page j other at)

module _ (sheet : MarkedSheet) (contest option : ℕ) (mark : Bool) (below : contest < contest_limit)
    (has : (has_bubble contest sheet.front_plan.bubbles || has_bubble contest sheet.back_plan.bubbles) ≡ true)
    (placed : slice_get (marks_of contest sheet.front_plan.bubbles sheet.front_marks ++ marks_of contest sheet.back_plan.bubbles sheet.back_marks) option ≡ Some mark) where
  says : state_in (marks_on (sheet_marked sheet) contest) option ≡ Some (state_of_mark mark)
  says =
      let on = λ (k : ℕ). has_bubble k sheet.front_plan.bubbles || has_bubble k sheet.back_plan.bubbles in
      ap (λ (marks : Option ContestMarks). state_in marks option) (contest-found on (contest_marked sheet) (λ k. refl) contest has contest_limit 0 (omega arith) (omega (arith, below)))
      ∙ state-made (marks_of contest sheet.front_plan.bubbles sheet.front_marks ++ marks_of contest sheet.back_plan.bubbles sheet.back_marks) option mark placed

planned-of : (election : Election) (a b : Page) (printed : PrintedPage) (plan : PagePlan) (marks : List Bool)
    → FitsUpright election a printed plan marks ⊎ FitsUpright election b printed plan marks → IsPlanned election printed plan
planned-of election a b printed plan marks (inl fits) = fits.planned
planned-of election a b printed plan marks (inr fits) = fits.planned

same-plan : (election : Election) (number : ℕ) (one other : CardPlan) → plan_of election number ≡ Ok one → plan_of election number ≡ Ok other → one ≡ other
same-plan election number one other is too = cc

module _ (numbered-law : PlansAreNumbered) (shows-law : PlansShowEachOption) (grid-law : PlansStandOnGrid) where
  both-said : (election : Election) (front back : Page) (sheet : MarkedSheet) → IsValid election → FitsPages election front back sheet
      → SaysEachMark (sheet_marked sheet) sheet.front_plan sheet.front_marks × SaysEachMark (sheet_marked sheet) sheet.back_plan sheet.back_marks
  both-said election front back sheet valid fits =
      let one : IsPlanned election (front_of sheet) sheet.front_plan = planned-of election _ _ (front_of sheet) sheet.front_plan sheet.front_marks fits.0 in
      let two : IsPlanned election (back_of sheet) sheet.back_plan = planned-of election _ _ (back_of sheet) sheet.back_plan sheet.back_marks fits.1 in
      let card : CardPlan = one.card in
      let numbered : IsNumbered sheet.card card = numbered-law election sheet.card card valid one.card_is in
      let shown = shows-law election sheet.card card valid one.card_is in
      let grid : StandsOnGrid election card = grid-law election sheet.card card valid one.card_is in
      let same : two.card ≡ card = same-plan election sheet.card two.card card two.card_is one.card_is in
      let behind-it : slice_get card.pages (sheet.front + 1 - 1) ≡ Some sheet.back_plan = ap (λ (some : CardPlan). slice_get some.pages (sheet.front + 1 - 1)) (sym same) ∙ two.page_is in
      let apart : sheet.front - 1 ≢ sheet.front + 1 - 1 = λ e. absurd (omega (arith, e, one.from_one)) in (
        λ n bubble mark there marked.
            says sheet bubble.contest bubble.option mark
            (contest-below election sheet.card card numbered shown.0 shown.1 grid (sheet.front - 1) sheet.front_plan one.page_is n bubble there valid)
            (or-left (has_bubble bubble.contest sheet.front_plan.bubbles) (has_bubble bubble.contest sheet.back_plan.bubbles) (bubble-there sheet.front_plan.bubbles n bubble there))
            (in-front (marks_of bubble.contest sheet.front_plan.bubbles sheet.front_marks) (marks_of bubble.contest sheet.back_plan.bubbles sheet.back_marks) bubble.option mark
            (mark-placed election sheet.card card numbered shown.0 shown.1 grid (sheet.front - 1) sheet.front_plan one.page_is n bubble there sheet.front_marks mark marked)),
        λ n bubble mark there marked.
            says sheet bubble.contest bubble.option mark
            (contest-below election sheet.card card numbered shown.0 shown.1 grid (sheet.front + 1 - 1) sheet.back_plan behind-it n bubble there valid)
            (or-right (has_bubble bubble.contest sheet.front_plan.bubbles) (has_bubble bubble.contest sheet.back_plan.bubbles) (bubble-there sheet.back_plan.bubbles n bubble there))
            (ap (λ (marks : List Bool). slice_get (marks ++ marks_of bubble.contest sheet.back_plan.bubbles sheet.back_marks) bubble.option)
            (no-marks-on election sheet.card card numbered shown.0 shown.1 grid (sheet.front + 1 - 1) sheet.back_plan behind-it n bubble there (sheet.front - 1) sheet.front_plan sheet.front_marks one.page_is apart)
            ∙ mark-placed election sheet.card card numbered shown.0 shown.1 grid (sheet.front + 1 - 1) sheet.back_plan behind-it n bubble there sheet.back_marks mark marked),
      )

  pub marks-said : MarkedSheetsSayEachMark
  marks-said election first second sheet valid fits = by fits.either
    where
      by : FitsPages election first second sheet ⊎ FitsPages election second first sheet
          → SaysEachMark (sheet_marked sheet) sheet.front_plan sheet.front_marks × SaysEachMark (sheet_marked sheet) sheet.back_plan sheet.back_marks
      by (inl pages) = both-said election first second sheet valid pages
      by (inr pages) = both-said election second first sheet valid pages
