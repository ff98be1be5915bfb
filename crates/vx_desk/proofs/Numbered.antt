-- The bubbles of a contest on its page are those of its options, in the order of their numbers.
use Rattle.std.proofs.Common.{◌≡◌, ◌≢◌, ℕ, zero, suc, ◌+◌, ◌-◌, ◌<◌, ◌⊎◌, inl, inr, Bool, true, false, cond, ◌==◌, List, [], ◌∷◌, ◌++◌, length, map, refl, sym, ap, ap₂, ◌∙◌, subst, arith, append-nil}
use Rattle.std.specs.Prelude.{◌||◌, All, Option, Some, None, Ok, Err, Result, slice_get}
use Rattle.std.specs.List.{AllZip, flat_map, range_with_len}
use Rattle.std.proofs.lemmas.List.Elements.{All-head, All-tail}
use Rattle.std.proofs.lemmas.Option.{same_Some, get_or_from_slice_get}
use Rattle.serde_json.specs.Data.{Data}
use Rattle.vx_base.proofs.Booleans.{chosen-if}
use Rattle.vx_base.proofs.Numbers.{equal-no, equal-from_yes}
use Rattle.vx_plane.specs.Plane.{Page}
use Rattle.vx_election_model.specs.declared.contest.Contest.{Contest}
use Rattle.vx_election_model.specs.declared.election.Election.{Election}
use Rattle.vx_election_model.specs.declared.style.Style.{Style}
use Rattle.vx_election_model.specs.Options as ballot
use Rattle.vx_election_model.specs.Valid.{IsValid}
use Rattle.vx_styles.specs.Cards.{has_contest, contests_from, style_of_card}
use Rattle.vx_code.specs.declared.code.PageCode.{PageCode}
use Rattle.vx_code.specs.Code.{tag_of}
use Rattle.vx_layout.specs.declared.bubbles.Bubble.{Bubble}
use Rattle.vx_layout.specs.declared.fault.LayoutFault.{LayoutFault}
use Rattle.vx_layout.specs.declared.pages.PagePlan.{PagePlan}
use Rattle.vx_layout.specs.declared.plan.CardPlan.{CardPlan}
use Rattle.vx_layout.specs.Flow.{contest_at}
use Rattle.vx_layout.specs.Options.{options_with, options_shown, ShowsEachOption, GivesEachContestAPage}
use Rattle.vx_layout.specs.Pages.{IsNumbered, PlansAreNumbered}
use Rattle.vx_layout.specs.Plan.{plan_of}
use Rattle.vx_layout.specs.Plans.{PlansShowEachOption}
use Rattle.vx_scan_model.specs.declared.fault.PageFault.{PageFault}
use Rattle.vx_scan_model.specs.declared.fault.PageFault.TheVariants.{OtherElection}
use Rattle.vx_scan_model.specs.declared.reading.PageReading.{PageReading}
use Rattle.vx_scan_model.specs.Named.{named_plan, page_numbered, plan_on_card, plan_unless}
use Rattle.vx_sheet.specs.Sheet.{has_bubble}
use Rattle.vx_desk.specs.declared.region.Region.{Region}
use Rattle.vx_desk.specs.Contests.{option_at, option_of}
use Rattle.vx_desk.specs.Shown.{Shown, bubble_at, bubbles_named, bubbles_of, no_bubble, score_at, shown_by, state_at}
use Rattle.vx_desk.specs.Standing.{IsOptionBy, OptionsStandByNumber, StandsByNumber}

-- the options of a contest among some, each with its contest
abbrev of_contest : ℕ → List (ℕ × ℕ) → List ℕ
of_contest contest [] = []
of_contest contest (option ∷ options) = cond (option.0 == contest) (option.1 ∷ of_contest contest options) (of_contest contest options)

joined : (contest : ℕ) (xs ys : List (ℕ × ℕ)) → of_contest contest (xs ++ ys) ≡ of_contest contest xs ++ of_contest contest ys
joined contest [] ys = refl
joined contest (x ∷ xs) ys = by (x.0 == contest) (joined contest xs ys)
  where
    by : (b : Bool) → of_contest contest (xs ++ ys) ≡ of_contest contest xs ++ of_contest contest ys
        → cond b (x.1 ∷ of_contest contest (xs ++ ys)) (of_contest contest (xs ++ ys)) ≡ cond b (x.1 ∷ of_contest contest xs) (of_contest contest xs) ++ of_contest contest ys
    by true h = ap (λ (options : List ℕ). x.1 ∷ options) h
    by false h = h

-- a contest with a bubble has some
some_shown : (contest : ℕ) (bubbles : List Bubble) → has_bubble contest bubbles ≡ true → of_contest contest (options_shown bubbles) ≡ [] → ⊥
some_shown contest [] has none = absurd cc
some_shown contest (bubble ∷ bubbles) has none = by (bubble.contest == contest) refl none (some_shown contest bubbles)
  where
    by : (b : Bool) → (bubble.contest == contest) ≡ b → cond b (bubble.option ∷ of_contest contest (options_shown bubbles)) (of_contest contest (options_shown bubbles)) ≡ []
        → (has_bubble contest bubbles ≡ true → of_contest contest (options_shown bubbles) ≡ [] → ⊥) → ⊥
    by true e one rest = absurd cc
    by false e others rest = rest (sym (ap (λ (c : Bool). c || has_bubble contest bubbles) e) ∙ has) others

-- of a page that isn't its own a contest has no bubble
none_elsewhere : (page_for : ℕ → ℕ) (contest page : ℕ) (bubbles : List Bubble) → All (λ (bubble : Bubble). page_for bubble.contest ≡ page) bubbles → page_for contest ≢ page
    → of_contest contest (options_shown bubbles) ≡ []
none_elsewhere page_for contest page [] on apart = refl
none_elsewhere page_for contest page (bubble ∷ bubbles) on apart =
    ap (λ (b : Bool). cond b (bubble.option ∷ of_contest contest (options_shown bubbles)) (of_contest contest (options_shown bubbles)))
    (equal-no bubble.contest contest (λ e. apart (ap page_for (sym e) ∙ All-head (λ (bubble : Bubble). page_for bubble.contest ≡ page) bubble bubbles on)))
    ∙ none_elsewhere page_for contest page bubbles (All-tail (λ (bubble : Bubble). page_for bubble.contest ≡ page) bubble bubbles on) apart

-- what holds of each bubble holds of one of a contest that has one
of_bubble : (P : ℕ → Type 0) (contest : ℕ) (bubbles : List Bubble) → All (λ (bubble : Bubble). P bubble.contest) bubbles → has_bubble contest bubbles ≡ true → P contest
of_bubble P contest [] on h = absurd cc
of_bubble P contest (bubble ∷ bubbles) on h = by (bubble.contest == contest) refl (of_bubble P contest bubbles)
  where
    by : (b : Bool) → (bubble.contest == contest) ≡ b → (All (λ (bubble : Bubble). P bubble.contest) bubbles → has_bubble contest bubbles ≡ true → P contest) → P contest
    by true e rest = subst P (equal-from_yes bubble.contest contest e) (All-head (λ (bubble : Bubble). P bubble.contest) bubble bubbles on)
    by false e rest = rest (All-tail (λ (bubble : Bubble). P bubble.contest) bubble bubbles on) (sym (ap (λ (c : Bool). c || has_bubble contest bubbles) e) ∙ h)

-- what holds of each element holds of the one at a place
at_place : {X : Type 0} (P : X → Type 0) (xs : List X) (i : ℕ) (x : X) → All P xs → slice_get xs i ≡ Some x → P x
at_place P [] i x each at = absurd cc
at_place P (y ∷ xs) zero x each at = subst P (same_Some y x at) (All-head P y xs each)
at_place P (y ∷ xs) (suc i) x each at = at_place P xs i x (All-tail P y xs each) at

abbrev shown_on : PagePlan → List (ℕ × ℕ)
shown_on page = options_shown page.bubbles

none_on : (contest : ℕ) (pages : List PagePlan) → ((j : ℕ) (page : PagePlan) → slice_get pages j ≡ Some page → of_contest contest (shown_on page) ≡ []) → of_contest contest (flat_map shown_on pages) ≡ []
none_on contest [] none = refl
none_on contest (page ∷ pages) none =
    joined contest (shown_on page) (flat_map shown_on pages)
    ∙ ap₂ (λ (a b : List ℕ). a ++ b) (none 0 page refl) (none_on contest pages (λ j other there. none (suc j) other there))

-- where no other page has a bubble of a contest, all are on its page
on_page : (contest : ℕ) (pages : List PagePlan) (i : ℕ) (page : PagePlan) → slice_get pages i ≡ Some page
    → ((j : ℕ) (other : PagePlan) → slice_get pages j ≡ Some other → j ≢ i → of_contest contest (shown_on other) ≡ [])
    → of_contest contest (flat_map shown_on pages) ≡ of_contest contest (shown_on page)
on_page contest [] i page there none = absurd cc
on_page contest (first ∷ pages) zero page there none =
    joined contest (shown_on first) (flat_map shown_on pages)
    ∙ ap₂ (λ (a b : List ℕ). a ++ b) (ap (λ (p : PagePlan). of_contest contest (shown_on p)) (same_Some first page there))
    (none_on contest pages (λ j other at. none (suc j) other at (λ e. absurd cc)))
    ∙ append-nil (of_contest contest (shown_on page))
on_page contest (first ∷ pages) (suc i) page there none =
    joined contest (shown_on first) (flat_map shown_on pages)
    ∙ ap₂ (λ (a b : List ℕ). a ++ b) (none 0 first refl (λ e. absurd cc))
    (on_page contest pages i page there (λ j other at apart. none (suc j) other at (λ e. apart (omega arith))))

-- options of one contest
of_one : (contest number : ℕ) (options : List ℕ) → of_contest contest (map (λ option. (number, option)) options) ≡ cond (number == contest) options []
of_one contest number options = by (number == contest) refl options
  where
    others : List ℕ → List ℕ
    others options = of_contest contest (map (λ option. (number, option)) options)

    by : (b : Bool) → (number == contest) ≡ b → (options : List ℕ) → of_contest contest (map (λ option. (number, option)) options) ≡ cond b options []
    by true e [] = refl
    by false e [] = refl
    by true e (option ∷ options) =
        ap (λ (c : Bool). cond c (option ∷ of_contest contest (map (λ option. (number, option)) options)) (of_contest contest (map (λ option. (number, option)) options))) e
        ∙ ap (λ (rest : List ℕ). option ∷ rest) (by true e options)
    by false e (option ∷ options) =
        ap (λ (c : Bool). cond c (option ∷ of_contest contest (map (λ option. (number, option)) options)) (of_contest contest (map (λ option. (number, option)) options))) e
        ∙ by false e options

module _ (style : Style) (all : List Contest) (contest : ℕ) where
  abbrev numbers : ℕ → List ℕ
  numbers number = range_with_len 0 (ballot.options_of (contest_at all number))

  -- the options of this contest among those of a style's contests from a place on
  abbrev from_place : ℕ → List Contest → List ℕ
  from_place place contests = of_contest contest (flat_map (options_with all) (contests_from style place contests))

  more : (b : Bool) (place : ℕ) (rest : List ℕ) → of_contest contest (flat_map (options_with all) (cond b (place ∷ rest) rest))
      ≡ cond b (cond (place == contest) (numbers place) []) [] ++ of_contest contest (flat_map (options_with all) rest)
  more true place rest =
      joined contest (options_with all place) (flat_map (options_with all) rest)
      ∙ ap (λ (options : List ℕ). options ++ of_contest contest (flat_map (options_with all) rest)) (of_one contest place (numbers place))
  more false place rest = refl

  -- those behind it have none
  behind : (place : ℕ) (contests : List Contest) → contest < place → from_place place contests ≡ []
  behind place [] h = refl
  behind place (one ∷ contests) h =
      let rest = behind (place + 1) contests (omega arith) in
      let here : (place == contest) ≡ false = equal-no place contest (λ e. absurd (omega arith)) in
      more (has_contest style one) place (contests_from style (place + 1) contests)
      ∙ ap₂ (λ (a b : List ℕ). a ++ b) (ap (λ (c : Bool). cond (has_contest style one) (cond c (numbers place) []) []) here ∙ by (has_contest style one)) rest
    where
      by : (b : Bool) → cond b (cond false (numbers place) []) [] ≡ []
      by true = refl
      by false = refl

  -- all options of the contest, in order, or none
  all_or_none : (place : ℕ) (contests : List Contest) → (from_place place contests ≡ []) ⊎ (from_place place contests ≡ numbers contest)
  all_or_none place [] = inl refl
  all_or_none place (one ∷ contests) = by (has_contest style one) (place == contest) refl (all_or_none (place + 1) contests)
    where
      rest : List ℕ
      rest = contests_from style (place + 1) contests

      by : (b c : Bool) → (place == contest) ≡ c → (from_place (place + 1) contests ≡ []) ⊎ (from_place (place + 1) contests ≡ numbers contest)
          → (of_contest contest (flat_map (options_with all) (cond b (place ∷ rest) rest)) ≡ []) ⊎ (of_contest contest (flat_map (options_with all) (cond b (place ∷ rest) rest)) ≡ numbers contest)
      by false c e later = later
      by true true e later =
          let same : place ≡ contest = equal-from_yes place contest e in
          inr (more true place rest
          ∙ ap₂ (λ (a b : List ℕ). a ++ b) (ap (λ (d : Bool). cond d (numbers place) []) e ∙ ap numbers same) (behind (place + 1) contests (omega arith))
          ∙ append-nil (numbers contest))
      by true false e (inl none) =
          inl (more true place rest ∙ ap₂ (λ (a b : List ℕ). a ++ b) (ap (λ (d : Bool). cond d (numbers place) []) e) none)
      by true false e (inr every) =
          inr (more true place rest ∙ ap₂ (λ (a b : List ℕ). a ++ b) (ap (λ (d : Bool). cond d (numbers place) []) e) every)

-- a page of a planned card: its bubbles of a contest that has some there are those of all options
module _ (election : Election) (card : ℕ) (plan : CardPlan) (shows : ShowsEachOption election card plan) (gives : GivesEachContestAPage plan) (numbered : IsNumbered card plan)
    (i : ℕ) (page : PagePlan) (at : slice_get plan.pages i ≡ Some page) (contest : ℕ) (has : has_bubble contest page.bubbles ≡ true) where
  page_is : gives.page_for contest ≡ page.page
  page_is =
      of_bubble (λ (contest : ℕ). gives.page_for contest ≡ page.page) contest page.bubbles
      (at_place (λ (page : PagePlan). All (λ (bubble : Bubble). gives.page_for bubble.contest ≡ page.page) page.bubbles) plan.pages i page gives.each at) has

  elsewhere : (j : ℕ) (other : PagePlan) → slice_get plan.pages j ≡ Some other → j ≢ i → of_contest contest (shown_on other) ≡ []
  elsewhere j other there apart =
      none_elsewhere gives.page_for contest other.page other.bubbles
      (at_place (λ (page : PagePlan). All (λ (bubble : Bubble). gives.page_for bubble.contest ≡ page.page) page.bubbles) plan.pages j other gives.each there)
      (λ e. apart (omega (arith, e, page_is, numbered.number i page at, numbered.number j other there)))

  by_cases : (of_contest contest (flat_map shown_on plan.pages) ≡ []) ⊎ (of_contest contest (flat_map shown_on plan.pages) ≡ range_with_len 0 (ballot.options_of (contest_at election.contests contest)))
      → of_contest contest (shown_on page) ≡ range_with_len 0 (ballot.options_of (contest_at election.contests contest))
  by_cases (inl none) = absurd (some_shown contest page.bubbles has (sym (on_page contest plan.pages i page at elsewhere) ∙ none))
  by_cases (inr every) = sym (on_page contest plan.pages i page at elsewhere) ∙ every

  all_in_order : of_contest contest (options_shown page.bubbles) ≡ range_with_len 0 (ballot.options_of (contest_at election.contests contest))
  all_in_order =
      let Either : List (ℕ × ℕ) → Type 0 = λ options. (of_contest contest options ≡ []) ⊎ (of_contest contest options ≡ range_with_len 0 (ballot.options_of (contest_at election.contests contest))) in
      by_cases (subst Either (sym shows.each) (all_or_none (style_of_card election.styles card) election.contests contest 0 election.contests))

-- what a code names, taken apart
record Named (election : Election) (code : PageCode) (plan : PagePlan) : Type 0 where
  card : CardPlan
  planned : plan_of election code.card ≡ Ok card
  place : ℕ
  at : slice_get card.pages place ≡ Some plan

unless_some : (number : ℕ) (page : Option PagePlan) (plan : PagePlan) → plan_unless number page ≡ Ok plan → page ≡ Some plan
unless_some number None plan h = absurd cc
unless_some number (Some found) plan h = cc

numbered_at : (number : ℕ) (card : CardPlan) (plan : PagePlan) → page_numbered card number ≡ Some plan → (place : ℕ) × (slice_get card.pages place ≡ Some plan)
numbered_at number card plan h = by (number == 0) h
  where
    by : (b : Bool) → cond b None (slice_get card.pages (number - 1)) ≡ Some plan → (place : ℕ) × (slice_get card.pages place ≡ Some plan)
    by true one = absurd cc
    by false one = (number - 1, one)

named_on_card : (election : Election) (code : PageCode) (card : Result CardPlan LayoutFault) (plan : PagePlan) → plan_of election code.card ≡ card → plan_on_card code card ≡ Ok plan → Named election code plan
named_on_card election code (Err fault) plan is h = absurd cc
named_on_card election code (Ok card) plan is h =
    let found = numbered_at code.page card plan (unless_some code.page (page_numbered card code.page) plan h) in
    record { card = card; planned = is; place = found.0; at = found.1 }

parts_of_named : (election : Election) (code : PageCode) (plan : PagePlan) → named_plan election code ≡ Ok plan → Named election code plan
unfolding named_plan
parts_of_named election code plan h =
    named_on_card election code (plan_of election code.card) plan refl
    (chosen-if (code.tag == tag_of election.digest) (plan_on_card code (plan_of election code.card)) (OtherElection code.tag) plan h).1

-- the options of a list are those of the bubbles
module _ (contest : Contest) (number : ℕ) (shown : Shown) (region : Region) where
  walked : (bubbles : List Bubble) (base : ℕ) → ((i : ℕ) (bubble : Bubble) → slice_get bubbles i ≡ Some bubble → bubble_at shown (base + i) ≡ bubble)
      → base + length bubbles ≡ length shown.bubbles
      → AllZip (IsOptionBy contest number shown region) (flat_map (option_at contest number shown region) (range_with_len base (length bubbles))) (of_contest number (options_shown bubbles))
  walked [] base are whole = tt
  walked (bubble ∷ bubbles) base are whole =
      let Zipped : Bubble → Type 0 = λ first. AllZip (IsOptionBy contest number shown region)
      (flat_map (option_at contest number shown region) (range_with_len base (length (bubble ∷ bubbles)))) (of_contest number (options_shown (first ∷ bubbles))) in
      let here : bubble_at shown base ≡ bubble = ap (bubble_at shown) none_more ∙ are 0 bubble refl in
      subst Zipped here
      (by ((bubble_at shown base).contest == number) refl
      (walked bubbles (base + 1) (λ i other there. ap (bubble_at shown) (one_more i) ∙ are (suc i) other there) (omega (arith, whole))))
    where
      none_more : base ≡ base + 0
      none_more = omega arith

      one_more : (i : ℕ) → base + 1 + i ≡ base + suc i
      one_more i = omega arith

      rest : List Data
      rest = flat_map (option_at contest number shown region) (range_with_len (base + 1) (length bubbles))

      option : Data
      option = option_of contest shown region (bubble_at shown base) (score_at shown base) (state_at shown base)

      others : List ℕ
      others = of_contest number (options_shown bubbles)

      by : (b : Bool) → ((bubble_at shown base).contest == number) ≡ b → AllZip (IsOptionBy contest number shown region) rest others
          → AllZip (IsOptionBy contest number shown region) (cond b (option ∷ []) [] ++ rest) (cond b ((bubble_at shown base).option ∷ others) others)
      by true is zipped = (
        record { bubble = base; there = omega (arith, whole); of_contest = equal-from_yes (bubble_at shown base).contest number is; of_option = refl; is = refl },
        zipped,
      )
      by false is zipped = zipped

from_start : (n : ℕ) → 0 + n ≡ n
from_start n = omega arith

module _ (numbered : PlansAreNumbered) (each : PlansShowEachOption) (election : Election) (image : Page) (reading : PageReading) (number : ℕ) (region : Region) (valid : IsValid election) where
  by_plan : (planned : Result PagePlan PageFault) → named_plan election reading.code ≡ planned → has_bubble number (bubbles_of planned) ≡ true
      → of_contest number (options_shown (bubbles_of planned)) ≡ range_with_len 0 (ballot.options_of (contest_at election.contests number))
  by_plan (Err fault) is has = absurd cc
  by_plan (Ok plan) is has =
      let parts = parts_of_named election reading.code plan is in
      let shows = each election reading.code.card parts.card valid parts.planned in
      all_in_order election reading.code.card parts.card shows.0 shows.1 (numbered election reading.code.card parts.card valid parts.planned) parts.place plan parts.at number has

  by_number : has_bubble number (bubbles_named election reading) ≡ true → StandsByNumber (contest_at election.contests number) number (shown_by election image reading) region
  by_number has =
      let contest : Contest = contest_at election.contests number in
      let shown : Shown = shown_by election image reading in
      let Zipped : List ℕ → Type 0 = λ numbers. AllZip (IsOptionBy contest number shown region) (flat_map (option_at contest number shown region) (range_with_len 0 (length shown.bubbles))) numbers in
      subst Zipped (by_plan (named_plan election reading.code) refl has)
      (walked contest number shown region shown.bubbles 0
      (λ i bubble there. ap (bubble_at shown) (from_start i) ∙ get_or_from_slice_get shown.bubbles i bubble no_bubble there)
      (from_start (length shown.bubbles)))

pub stand_by_number : PlansAreNumbered → PlansShowEachOption → OptionsStandByNumber
stand_by_number numbered each election image reading number region valid has = by_number numbered each election image reading number region valid has
