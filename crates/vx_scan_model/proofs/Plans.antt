-- The bubbles of a planned page stand on the grid, and what the plans of all cards say of a code.
use Rattle.std.proofs.Common.{◌≡◌, ℕ, ◌≤◌, ◌<◌, ◌+◌, ◌-◌, ◌==◌, List, length, get_or, Bool, true, false, cond, refl, sym, ap, ap₂, ◌∙◌, subst, arith}
use Rattle.std.specs.Prelude.{All, slice_get, Option, None, Some, Result, Ok, Err}
use Rattle.std.proofs.lemmas.Bool.Decides.{nat_tests}
use Rattle.vx_base.proofs.Numbers.{equal-no, equal-from_yes, below-no, equal-yes}
use Rattle.std.proofs.lemmas.List.Elements.{All-get_or}
use Rattle.std.proofs.lemmas.Option.{slice_get_within, slice_get_read, slice_get_past, get_or_from_slice_get}
use Rattle.vx_grid.specs.declared.paper.Paper.{Paper}
use Rattle.vx_grid.specs.declared.paper.Paper.TheVariants.{Letter, Legal}
use Rattle.vx_grid.specs.Paper.{last_row}
use Rattle.vx_grid.specs.Grid.{first_code_row, first_contest_row, contest_rows}
use Rattle.vx_election_model.specs.declared.election.Election.{Election}
use Rattle.vx_election_model.specs.Valid.{IsValid}
use Rattle.vx_code.specs.declared.code.PageCode.{PageCode}
use Rattle.vx_code.specs.Code.{tag_of, version_of}
use Rattle.vx_styles.specs.Cards.{cards_of}
use Rattle.vx_layout.specs.declared.pages.PagePlan.{PagePlan}
use Rattle.vx_layout.specs.declared.plan.CardPlan.{CardPlan}
use Rattle.vx_layout.specs.declared.fault.LayoutFault.{LayoutFault}
use Rattle.vx_layout.specs.declared.fault.LayoutFault.TheVariants.{NoCard as NoSuchCard}
use Rattle.vx_layout.specs.Pages.{IsOnGrid, PlansStandOnGrid, PlansHavePaper}
use Rattle.vx_layout.specs.Plan.{plan_of_card, plan_of}
use Rattle.vx_layout.specs.Plans.{ArePlansOf}
use Rattle.vx_layout.specs.Printed.{PrintedPage, IsPlanned, code_of}
use Rattle.vx_scan_model.specs.declared.fault.PageFault.{PageFault}
use Rattle.vx_scan_model.specs.declared.fault.PageFault.TheVariants.{OtherElection, NoCard}
use Rattle.vx_scan_model.specs.Named.{page_numbered, plan_unless, plan_on_card, named_plan, IsPrintedCode}

-- all bubbles of a page stand on the grid
abbrev AreOnGrid : PagePlan → Type 0
AreOnGrid page = All (IsOnGrid page.paper) page.bubbles

-- what a code names, taken apart
record IsNamed (election : Election) (code : PageCode) (plan : PagePlan) : Type 0 where
  card : CardPlan
  card_is : plan_of election code.card ≡ Ok card
  page_is : page_numbered card code.page ≡ Some plan

unless-some : (number : ℕ) (page : Option PagePlan) (plan : PagePlan) → plan_unless number page ≡ Ok plan → page ≡ Some plan
unless-some number None plan h = absurd (cc)
unless-some number (Some found) plan h = cc

named-on_card : (code : PageCode) (card : Result CardPlan LayoutFault) (plan : PagePlan) → plan_on_card code card ≡ Ok plan → (found : CardPlan) × (card ≡ Ok found) × (page_numbered found code.page ≡ Some plan)
named-on_card code (Err fault) plan h = absurd (cc)
named-on_card code (Ok card) plan h = (card, refl, unless-some code.page (page_numbered card code.page) plan h)

of-election : (b : Bool) (named : Result PagePlan PageFault) (fault : PageFault) (plan : PagePlan) → cond b named (Err fault) ≡ Ok plan → named ≡ Ok plan
of-election true named fault plan h = h
of-election false named fault plan h = absurd (cc)

parts-of_named : (election : Election) (code : PageCode) (plan : PagePlan) → named_plan election code ≡ Ok plan → IsNamed election code plan
unfolding named_plan
parts-of_named election code plan h =
    let on = of-election (code.tag == tag_of election.digest) (plan_on_card code (plan_of election code.card)) (OtherElection code.tag) plan h in
    let found = named-on_card code (plan_of election code.card) plan on in
    record { card = found.0; card_is = found.1; page_is = found.2 }

numbered-listed : (P : PagePlan → Type 0) (b : Bool) (pages : List PagePlan) (number : ℕ) (plan : PagePlan) → cond b None (slice_get pages number) ≡ Some plan → All P pages → P plan
numbered-listed P true pages number plan h all = absurd (cc)
numbered-listed P false pages number plan h all =
    subst P (get_or_from_slice_get pages number plan plan h) (All-get_or P pages number plan (slice_get_within pages number plan h) all)

-- the bubbles of the page that a code names
pub named-on_grid : PlansStandOnGrid → PlansHavePaper → (election : Election) (code : PageCode) (plan : PagePlan) → IsValid election → named_plan election code ≡ Ok plan → All (IsOnGrid election.paper) plan.bubbles
named-on_grid stand have election code plan valid h =
    let is = parts-of_named election code plan h in
    let HasPaper : PagePlan → Type 0 = λ page. page.paper ≡ election.paper in
    let grid : AreOnGrid plan = numbered-listed AreOnGrid (code.page == 0) is.card.pages (code.page - 1) plan is.page_is (stand election code.card is.card valid is.card_is).on_grid in
    let paper : plan.paper ≡ election.paper = numbered-listed HasPaper (code.page == 0) is.card.pages (code.page - 1) plan is.page_is (have election code.card is.card valid is.card_is).each in
    let OnGrid : Paper → Type 0 = λ p. All (IsOnGrid p) plan.bubbles in
    subst OnGrid paper grid

-- a row of contests is a grid row
pub contest_row-within : (paper : Paper) (row : ℕ) → row < first_contest_row + contest_rows paper → row ≤ last_row paper
contest_row-within Letter row h = omega arith
contest_row-within Legal row h = omega arith

-- a row of the page code is one
pub code_row-within : (paper read : Paper) (row : ℕ) → read ≡ paper → row ≤ first_code_row read + 2 → row ≤ last_row paper
code_row-within Letter read row same h = let at : row ≤ 37 = subst (λ (p : Paper). row ≤ first_code_row p + 2) same h in omega arith
code_row-within Legal read row same h = let at : row ≤ 48 = subst (λ (p : Paper). row ≤ first_code_row p + 2) same h in omega arith

-- a card that the election hasn't
plan-past_cards : (election : Election) (number : ℕ) → length (cards_of election) ≤ number → plan_of election number ≡ Err (NoSuchCard (length (cards_of election)))
unfolding plan_of
plan-past_cards election number past =
    let none : Result CardPlan LayoutFault = Err (NoSuchCard (length (cards_of election))) in
    ap (λ (b : Bool). cond b (plan_of_card election number) none) (below-no number (length (cards_of election)) past)

-- a code of another election
pub named-other : (election : Election) (code : PageCode) → (code.tag ≡ tag_of election.digest → ⊥) → named_plan election code ≡ Err (OtherElection code.tag)
unfolding named_plan
named-other election code h =
    let other : Result PagePlan PageFault = Err (OtherElection code.tag) in
    ap (λ (b : Bool). cond b (plan_on_card code (plan_of election code.card)) other) (equal-no code.tag (tag_of election.digest) h)

-- a code of this election
named-here : (election : Election) (code : PageCode) → code.tag ≡ tag_of election.digest → named_plan election code ≡ plan_on_card code (plan_of election code.card)
unfolding named_plan
named-here election code h =
    let other : Result PagePlan PageFault = Err (OtherElection code.tag) in
    ap (λ (b : Bool). cond b (plan_on_card code (plan_of election code.card)) other) (equal-yes code.tag (tag_of election.digest) h)

-- a code of a card that isn't there
pub named-no_card : (election : Election) (plans : List CardPlan) (code : PageCode) → ArePlansOf election plans → code.tag ≡ tag_of election.digest → length plans ≤ code.card → named_plan election code ≡ Err (NoCard code.card)
named-no_card election plans code are h past =
    named-here election code h ∙ ap (plan_on_card code) (plan-past_cards election code.card (omega (arith, are.all)))

-- a code of a card that is there
pub named-on_card_plan : (election : Election) (plans : List CardPlan) (code : PageCode) (card : CardPlan) → ArePlansOf election plans → code.tag ≡ tag_of election.digest → code.card < length plans → card ≡ get_or plans code.card card → named_plan election code ≡ plan_unless code.page (page_numbered card code.page)
named-on_card_plan election plans code card are h there is =
    let planned : plan_of election code.card ≡ Ok card = are.each code.card card there ∙ ap Ok (sym is) in
    named-here election code h ∙ ap (plan_on_card code) planned

-- the page with a number, of those that are listed
pub numbered-zero : (card : CardPlan) (number : ℕ) → number ≡ 0 → page_numbered card number ≡ None
numbered-zero card number h =
    let found : Option PagePlan = slice_get card.pages (number - 1) in
    ap (λ (b : Bool). cond b None found) (equal-yes number 0 h)

numbered-other : (card : CardPlan) (number : ℕ) → (number ≡ 0 → ⊥) → page_numbered card number ≡ slice_get card.pages (number - 1)
numbered-other card number h =
    let found : Option PagePlan = slice_get card.pages (number - 1) in
    ap (λ (b : Bool). cond b None found) (equal-no number 0 h)

pub numbered-past : (card : CardPlan) (number : ℕ) → (number ≡ 0 → ⊥) → length card.pages ≤ number - 1 → page_numbered card number ≡ None
numbered-past card number h past = numbered-other card number h ∙ slice_get_past card.pages (number - 1) past

pub numbered-there : (card : CardPlan) (number : ℕ) (plan : PagePlan) → (number ≡ 0 → ⊥) → number - 1 < length card.pages → plan ≡ get_or card.pages (number - 1) plan → page_numbered card number ≡ Some plan
numbered-there card number plan h there is =
    numbered-other card number h ∙ slice_get_read card.pages (length card.pages) (number - 1) plan refl there is

-- the page that a code names, as one that is printed
abbrev pub printed_by : PageCode → PrintedPage
printed_by code = record { card = code.card; page = code.page; kind = code.kind; test = code.test }

-- a number that counts pages, and the page
numbered-parts : (test : Bool) (found : Option PagePlan) (plan : PagePlan) → cond test None found ≡ Some plan → (test ≡ false) × (found ≡ Some plan)
numbered-parts true found plan h = absurd (cc)
numbered-parts false found plan h = (refl, h)

some-number : (n : ℕ) → (n == 0) ≡ false → 1 ≤ n
some-number n h = grind (arith, nat_tests)

tag-is : (b : Bool) (named : Result PagePlan PageFault) (fault : PageFault) (plan : PagePlan) → cond b named (Err fault) ≡ Ok plan → b ≡ true
tag-is true named fault plan h = refl
tag-is false named fault plan h = absurd (cc)

-- a code that names a page is of this election
pub named-tag : (election : Election) (code : PageCode) (plan : PagePlan) → named_plan election code ≡ Ok plan → code.tag ≡ tag_of election.digest
unfolding named_plan
named-tag election code plan h =
    let is : (code.tag == tag_of election.digest) ≡ true = tag-is (code.tag == tag_of election.digest) (plan_on_card code (plan_of election code.card)) (OtherElection code.tag) plan h in
    equal-from_yes code.tag (tag_of election.digest) is

-- and its page is a printed one
pub named-planned : (election : Election) (code : PageCode) (plan : PagePlan) → named_plan election code ≡ Ok plan → IsPlanned election (printed_by code) plan
named-planned election code plan h =
    let is : IsNamed election code plan = parts-of_named election code plan h in
    let parts = numbered-parts (code.page == 0) (slice_get is.card.pages (code.page - 1)) plan is.page_is in
    record { card = is.card; card_is = is.card_is; from_one = some-number code.page parts.0; page_is = parts.1 }

-- so with the version of the election's paper it is the code of a printed page
pub named-printed : (election : Election) (code : PageCode) (plan : PagePlan) → named_plan election code ≡ Ok plan → code.version ≡ version_of election.paper → IsPrintedCode election code plan
named-printed election code plan h version = record {
  printed = printed_by code;
  planned = named-planned election code plan h;
  code_is =
      ap₂ (λ v t. let c : PageCode = record { version = v; test = code.test; kind = code.kind; card = code.card; page = code.page; tag = t } in c)
      version (named-tag election code plan h);
}

-- the code of a printed page names its plan
pub planned-named : (election : Election) (printed : PrintedPage) (plan : PagePlan) → IsPlanned election printed plan → named_plan election (code_of election printed) ≡ Ok plan
planned-named election printed plan planned =
    let code : PageCode = code_of election printed in
    let other : (printed.page == 0) ≡ false = equal-no printed.page 0 (λ none. (let one : 1 ≤ printed.page = planned.from_one in absurd (omega (arith, one, none)))) in
    named-here election code refl
    ∙ (ap (plan_on_card code) planned.card_is
    ∙ (ap (λ (t : Bool). plan_unless printed.page (cond t None (slice_get planned.card.pages (printed.page - 1)))) other
    ∙ ap (plan_unless printed.page) planned.page_is))
