-- The sheet of two readings fits the election and has a record.
use Rattle.std.proofs.Common.{◌≡◌, ◌⊎◌, inl, inr, ℕ, ◌+◌, ◌<◌, ◌≤◌, ◌%◌, ◌==◌, Bool, true, false, cond, List, [], ◌∷◌, length, Option, None, Some, Result, Ok, Err, refl, sym, ap, ◌∙◌, subst, arith}
use Rattle.std.specs.Prelude.{◌&&◌, All, nat_lt, nat_le, slice_get, IsOk}
use Rattle.std.specs.List.{list_all}
use Rattle.std.proofs.lemmas.List.Elements.{All-get_or, All-head, All-tail}
use Rattle.std.proofs.lemmas.Option.{slice_get_within, get_or_from_slice_get}
use Rattle.vx_base.proofs.Booleans.{and-both, and-left, and-right, chosen-if}
use Rattle.vx_base.proofs.Numbers.{below-yes, below-from_yes, at_most-yes, at_most-from_yes, equal-from_yes}
use Rattle.vx_code.specs.declared.code.PageCode.{PageCode}
use Rattle.vx_code.specs.Code.{tag_of}
use Rattle.vx_election_model.specs.declared.contest.Contest.{Contest}
use Rattle.vx_election_model.specs.declared.election.Election.{Election}
use Rattle.vx_election_model.specs.Lists.{card_count}
use Rattle.vx_election_model.specs.Options.{options_of}
use Rattle.vx_election_model.specs.Valid.{IsValid, IsContest, HasChoices}
use Rattle.vx_events.specs.declared.event.Event.TheVariants.{Add}
use Rattle.vx_events.specs.declared.key.Key.{Key}
use Rattle.vx_events.specs.Ascending.{is_ascending}
use Rattle.vx_events.specs.Fits.{contests_of, has_options, is_batch, is_key, is_read, is_sheet}
use Rattle.vx_layout.specs.declared.fault.LayoutFault.{LayoutFault}
use Rattle.vx_layout.specs.declared.pages.PagePlan.{PagePlan}
use Rattle.vx_layout.specs.declared.plan.CardPlan.{CardPlan}
use Rattle.vx_layout.specs.Plan.{plan_of}
use Rattle.vx_records.specs.Held.{IsHeld, is_held_sheet, is_marked}
use Rattle.vx_rules.specs.declared.marks.ContestMarks.{ContestMarks}
use Rattle.vx_rules.specs.declared.marks.SheetMarks.{SheetMarks}
use Rattle.vx_scan_model.specs.declared.fault.PageFault.{PageFault}
use Rattle.vx_scan_model.specs.declared.fault.PageFault.TheVariants.{OtherElection}
use Rattle.vx_scan_model.specs.declared.reading.PageReading.{PageReading}
use Rattle.vx_scan_model.specs.Named.{page_numbered, plan_unless, plan_on_card, named_plan, NamedStandOnGrid}
use Rattle.vx_sheet.specs.declared.fault.SheetFault.{SheetFault}
use Rattle.vx_sheet.specs.declared.fault.SheetFault.TheVariants.{CardsDiffer}
use Rattle.vx_sheet.specs.Laws.{SheetsFit, IsPlanned, IsOfCard}
use Rattle.vx_sheet.specs.Sheet.{bubbles_of, facing_sheet, sheet_of, sheet_with}
use Rattle.vx_sheet.specs.declared.came.Came.{Came}
use Rattle.vx_sheet.specs.Came.{if_paired, plan_there}
use Rattle.vx_sheet.specs.Shows.{CanBeAdded, IsOfPage, PairedCanBeAdded, PlansShowOptions}
use Rattle.vx_sheet.proofs.Planned.{given-is_ok}
use Rattle.vx_sheet.proofs.Paired.{HasState, IsOf, contests-have, sheet-either}
use Rattle.vx_sheet.proofs.Short.{contests-weigh, record-short, weight}
use Rattle.std.specs.List.{sum_by}

-- a contest has at most 150 options
options-most : (contest : Contest) → contest.seats ≤ 50 → HasChoices contest.is_yes_no contest → options_of contest ≤ 150
options-most contest seats choices = by contest.is_yes_no contest.write_ins refl choices
  where
    by : (yes_no write_ins : Bool) → contest.write_ins ≡ write_ins → HasChoices yes_no contest → length contest.choices + cond write_ins contest.seats 0 ≤ 150
    by true true is answers = let never = answers.write_ins in absurd cc
    by true false is answers = omega (arith, ap length answers.answers.2)
    by false true is candidates = omega (arith, candidates.few)
    by false false is candidates = omega (arith, candidates.few)

-- what a contest was read as can be kept
one-marked : (election : Election) (marks : ContestMarks) → IsValid election → is_read election marks ≡ true → HasState marks → is_marked marks ≡ true
one-marked election marks valid read has = by (slice_get election.contests marks.contest) refl read
  where
    by : (found : Option Contest) → slice_get election.contests marks.contest ≡ found → has_options found (length marks.states) ≡ true → is_marked marks ≡ true
    by None there h = absurd cc
    by (Some contest) there h =
        let Is : Contest → Type 0 = IsContest (length election.parties) (length election.districts) in
        let within = slice_get_within election.contests marks.contest contest there in
        let is : Is contest = subst Is (get_or_from_slice_get election.contests marks.contest contest contest there) (All-get_or Is election.contests marks.contest contest within valid.contests.each) in
        let same = equal-from_yes (options_of contest) (length marks.states) h in
        let most = options-most contest is.seats.1 is.choices in
        and-both (nat_lt marks.contest 500) (nat_le 1 (length marks.states) && nat_le (length marks.states) 150)
        (below-yes marks.contest 500 (omega (arith, within, valid.contests.few)))
        (and-both (nat_le 1 (length marks.states)) (nat_le (length marks.states) 150) (at_most-yes 1 (length marks.states) has) (at_most-yes (length marks.states) 150 (omega (arith, same, most))))

all-marked : (election : Election) → IsValid election → (contests : List ContestMarks) → list_all (is_read election) contests ≡ true → All HasState contests → list_all is_marked contests ≡ true
all-marked election valid [] read has = refl
all-marked election valid (marks ∷ contests) read has =
    and-both (is_marked marks) (list_all is_marked contests)
    (one-marked election marks valid (and-left (is_read election marks) (list_all (is_read election) contests) read) (All-head HasState marks contests has))
    (all-marked election valid contests (and-right (is_read election marks) (list_all (is_read election) contests) read) (All-tail HasState marks contests has))

-- what a sheet that fits is, part by part
record FitsSo (election : Election) (sheet : SheetMarks) : Type 0 where
  card : sheet.card < card_count election.styles
  odd : (sheet.front % 2 == 1) ≡ true
  front : sheet.front < 64
  ascends : is_ascending (contests_of sheet.contests) ≡ true
  read : list_all (is_read election) sheet.contests ≡ true

fits-so : (election : Election) (sheet : SheetMarks) → is_sheet election sheet ≡ true → FitsSo election sheet
fits-so election sheet h =
    let a = nat_lt sheet.card (card_count election.styles) in
    let b = sheet.front % 2 == 1 in
    let c = nat_lt sheet.front 64 in
    let d = is_ascending (contests_of sheet.contests) in
    let e = list_all (is_read election) sheet.contests in
    let four = and-left (((a && b) && c) && d) e h in
    let three = and-left ((a && b) && c) d four in
    let two = and-left (a && b) c three in
    record {
      card = below-from_yes sheet.card (card_count election.styles) (and-left a b two);
      odd = and-right a b two;
      front = below-from_yes sheet.front 64 (and-right (a && b) c three);
      ascends = and-right ((a && b) && c) d four;
      read = and-right (((a && b) && c) && d) e h;
    }

held-so : (election : Election) (sheet : SheetMarks) → IsValid election → FitsSo election sheet → All HasState sheet.contests → is_held_sheet sheet ≡ true
held-so election sheet valid fits has =
    let a = nat_lt sheet.card 1024 in
    let b = sheet.front % 2 == 1 in
    let c = nat_lt sheet.front 64 in
    let d = is_ascending (contests_of sheet.contests) in
    and-both (((a && b) && c) && d) (list_all is_marked sheet.contests)
    (and-both ((a && b) && c) d
    (and-both (a && b) c
    (and-both a b (below-yes sheet.card 1024 (omega (arith, fits.card, valid.styles.cards))) fits.odd)
    (below-yes sheet.front 64 fits.front))
    fits.ascends)
    (all-marked election valid sheet.contests fits.read has)

-- what a key that there may be is
key-short : (key : Key) → is_key key ≡ true → (length key.batch ≤ 32) × (key.number ≤ 999999)
key-short key h =
    let batch = and-left (is_batch key.batch) (nat_le 1 key.number && nat_le key.number 999999) h in
    let number = and-right (is_batch key.batch) (nat_le 1 key.number && nat_le key.number 999999) h in
    let size = and-left (nat_le 1 (length key.batch) && nat_le (length key.batch) 32) _ batch in (
      at_most-from_yes (length key.batch) 32 (and-right (nat_le 1 (length key.batch)) (nat_le (length key.batch) 32) size),
      at_most-from_yes key.number 999999 (and-right (nat_le 1 key.number) (nat_le key.number 999999) number),
    )

-- a sheet that fits, whose contests have states, few enough together, can be added
added-so : (election : Election) (sheet : SheetMarks) → IsValid election → is_sheet election sheet ≡ true → All HasState sheet.contests → sum_by weight sheet.contests ≤ 4500 → CanBeAdded election sheet
added-so election sheet valid fits has short =
    let so = fits-so election sheet fits in
    record {
      fits = fits;
      held = λ key is_one. record {
        in_range = and-both (is_key key) (is_held_sheet sheet) is_one (held-so election sheet valid so has);
        written = tt;
        short = record-short key sheet (key-short key is_one).0 (key-short key is_one).1 (omega (arith, so.card, valid.styles.cards)) so.front short;
      };
    }

-- what a code names, taken apart
record Named (election : Election) (code : PageCode) (plan : PagePlan) : Type 0 where
  card : CardPlan
  card_is : plan_of election code.card ≡ Ok card
  page_is : page_numbered card code.page ≡ Some plan

unless-some : (number : ℕ) (page : Option PagePlan) (plan : PagePlan) → plan_unless number page ≡ Ok plan → page ≡ Some plan
unless-some number None plan h = absurd cc
unless-some number (Some found) plan h = cc

named-on_card : (code : PageCode) (card : Result CardPlan LayoutFault) (plan : PagePlan) → plan_on_card code card ≡ Ok plan → (found : CardPlan) × (card ≡ Ok found) × (page_numbered found code.page ≡ Some plan)
named-on_card code (Err fault) plan h = absurd cc
named-on_card code (Ok card) plan h = (card, refl, unless-some code.page (page_numbered card code.page) plan h)

parts-of_named : (election : Election) (code : PageCode) (plan : PagePlan) → named_plan election code ≡ Ok plan → Named election code plan
unfolding named_plan
parts-of_named election code plan h =
    let on = chosen-if (code.tag == tag_of election.digest) (plan_on_card code (plan_of election code.card)) (OtherElection code.tag) plan h in
    let found = named-on_card code (plan_of election code.card) plan on.1 in
    record { card = found.0; card_is = found.1; page_is = found.2 }

-- the card of a reading is planned
pub named-there : (election : Election) (reading : PageReading) → IsOfPage election reading → IsOk (plan_of election reading.code.card)
named-there election reading is =
    let parts = parts-of_named election reading.code is.plan is.named in
    given-is_ok (plan_of election reading.code.card) parts.card parts.card_is

module _ (fit : SheetsFit) (grid : NamedStandOnGrid) (election : Election) (valid : IsValid election) where
  -- a reading is of a card's plan
  of-card : (card : CardPlan) (reading : PageReading) (is : IsOfPage election reading) → page_numbered card reading.code.page ≡ Some is.plan → IsOf card reading × IsOfCard card reading
  of-card card reading is numbered =
      let bubbles : bubbles_of (page_numbered card reading.code.page) ≡ is.plan.bubbles = ap bubbles_of numbered in
      let few = (grid election reading.code is.plan valid is.named).few in (
        record { states = is.states ∙ ap length (sym bubbles); few = omega (arith, few, ap length bubbles) },
        record { page = is.plan; numbered = numbered; states = is.states },
      )

  from-front : (card : CardPlan) (front back : PageReading) (sheet : SheetMarks) → is_sheet election sheet ≡ true → sheet ≡ sheet_with card front back → IsOf card front → IsOf card back → CanBeAdded election sheet
  from-front card front back sheet fits is front-of back-of =
      let Have : SheetMarks → Type 0 = λ made. All HasState made.contests in
      let Short : SheetMarks → Type 0 = λ made. sum_by weight made.contests ≤ 4500 in
      added-so election sheet valid fits (subst Have (sym is) (contests-have card front back front-of back-of)) (subst Short (sym is) (contests-weigh card front back front-of back-of))

  from-either : (card : CardPlan) (first second : PageReading) (sheet : SheetMarks) → is_sheet election sheet ≡ true → (sheet ≡ sheet_with card first second) ⊎ (sheet ≡ sheet_with card second first) → IsOf card first → IsOf card second → CanBeAdded election sheet
  from-either card first second sheet fits (inl is) a b = from-front card first second sheet fits is a b
  from-either card first second sheet fits (inr is) a b = from-front card second first sheet fits is b a

  pub sheet-added : (shown : PlansShowOptions election) (card : CardPlan) (first second : PageReading) (one : IsOfPage election first) (other : IsOfPage election second) (sheet : SheetMarks) → plan_of election first.code.card ≡ Ok card → sheet_of card first second ≡ Ok sheet → CanBeAdded election sheet
  sheet-added shown card first second one other sheet planned paired =
      let alike = chosen-if (first.code.card == second.code.card) (facing_sheet card first second) (CardsDiffer first.code.card second.code.card) sheet paired in
      let same : first.code.card ≡ second.code.card = equal-from_yes first.code.card second.code.card alike.0 in
      let ones = parts-of_named election first.code one.plan one.named in
      let others = parts-of_named election second.code other.plan other.named in
      let ones-card : ones.card ≡ card = let h = ones.card_is in cc in
      let others-card : others.card ≡ card = let h = others.card_is in let k = ap (plan_of election) same in cc in
      let On : PageReading → PagePlan → CardPlan → Type 0 = λ reading plan c. page_numbered c reading.code.page ≡ Some plan in
      let first-of = of-card card first one (subst (On first one.plan) ones-card ones.page_is) in
      let second-of = of-card card second other (subst (On second other.plan) others-card others.page_is) in
      let shows = shown first.code.card card planned in
      let fits = fit election card first second sheet valid (record { planned = planned; options = shows.options; pages = shows.pages }) first-of.1 second-of.1 paired in
      from-either card first second sheet fits (sheet-either card first second sheet paired) first-of.0 second-of.0

paired-so : (paired : Result SheetMarks SheetFault) (sheet : SheetMarks) → if_paired paired ≡ Ok sheet → paired ≡ Ok sheet
paired-so (Ok made) sheet h = cc
paired-so (Err fault) sheet h = absurd cc

-- the sheet of two images that were read can be added
pub paired-added : SheetsFit → NamedStandOnGrid → PairedCanBeAdded
paired-added fit grid election image (Err fault) second sheet valid shown one other is = absurd cc
paired-added fit grid election image (Ok first) (Err fault) sheet valid shown one other is = absurd cc
paired-added fit grid election image (Ok first) (Ok second) sheet valid shown one other is =
    let parts = parts-of_named election first.code one.plan one.named in
    let At : Result CardPlan LayoutFault → Type 0 = λ planned. if_paired (sheet_of (plan_there first.code.card planned) first second) ≡ Ok sheet in
    sheet-added fit grid election valid shown parts.card first second one other sheet parts.card_is
    (paired-so (sheet_of parts.card first second) sheet (subst At parts.card_is is))
