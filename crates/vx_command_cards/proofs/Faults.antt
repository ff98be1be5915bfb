-- What tells why a card can't be planned has no line feed.
use Rattle.std.proofs.Common.{◌≡◌, ◌++◌, ℕ, Bool, true, false, List, [], ◌∷◌, length, refl}
use Rattle.std.specs.Fmt.{decimal}
use Rattle.std.specs.Prelude.{codes, nat_lt, Option, Some, None, Result, Ok, Err, if◌then◌else◌}
use Rattle.vx_base.specs.Results.{◌>>=◌}
use Rattle.vx_election_model.specs.declared.contest.Contest.{Contest}
use Rattle.vx_election_model.specs.declared.election.Election.{Election}
use Rattle.vx_election_model.specs.Valid.{IsValid}
use Rattle.vx_layout.specs.Blocks.{height_of}
use Rattle.vx_layout.specs.FaultTexts.{layout_fault_text}
use Rattle.vx_layout.specs.Flow.{contest_at}
use Rattle.vx_layout.specs.Plan.{contest_checked, contests_checked, height_checked, long_in, names_checked, pages_of, plan_of, plan_of_card, plan_with}
use Rattle.vx_layout.specs.declared.fault.LayoutFault.{LayoutFault}
use Rattle.vx_layout.specs.declared.fault.LayoutFault.TheVariants.{ContestTooTall, TooManyPages, NoCard}
use Rattle.vx_layout.specs.declared.plan.CardPlan.{CardPlan}
use Rattle.vx_styles.specs.Cards.{card_at, cards_of, contests_of_card}
use Rattle.vx_command_cards.specs.Cards.{planned_words}
use Rattle.vx_command_cards.proofs.Ids.{contest-whole}
use Rattle.vx_command_cards.proofs.Whole.{is_whole, joined, number}

-- its fault, if it has one, is told without a line feed
abbrev pub Told : {A : Type 0} → Result A LayoutFault → Type 0
Told (Ok x) = Unit {0}
Told (Err fault) = is_whole (layout_fault_text fault) ≡ true

then-told : {A B : Type 0} (r : Result A LayoutFault) (f : A → Result B LayoutFault) → Told r → ((x : A) → Told (f x)) → Told (r >>= f)
then-told (Ok x) f first next = next x
then-told (Err fault) f first next = first

either : {A : Type 0} (t : Bool) (a b : Result A LayoutFault) → Told a → Told b → Told (if t then a else b)
either true a b first second = first
either false a b first second = second

with-id : (id : List ℕ) (n : ℕ) → is_whole id ≡ true → is_whole (id ++ 32 ∷ decimal n) ≡ true
with-id id n whole = joined id (32 ∷ decimal n) whole (number n)

height-told : (paper : _) (contest : Contest) → is_whole contest.id ≡ true → Told (height_checked paper contest)
height-told paper contest whole =
    either _ (Err (ContestTooTall contest.id (height_of contest))) (Ok tt) (with-id contest.id (height_of contest) whole) tt

names-told : (paper : _) (contest : Contest) (long : Option ℕ) → is_whole contest.id ≡ true → Told (names_checked paper contest long)
names-told paper contest (Some size) whole = with-id contest.id size whole
names-told paper contest None whole = height-told paper contest whole

contest-told : (paper : _) (contest : Contest) → is_whole contest.id ≡ true → Told (contest_checked paper contest)
unfolding contest_checked
contest-told paper contest whole = names-told paper contest (long_in contest.choices) whole

contests-told : (paper : _) (contests : List Contest) → ((i : ℕ) → is_whole (contest_at contests i).id ≡ true) → (numbers : List ℕ) → Told (contests_checked paper contests numbers)
contests-told paper contests whole [] = tt
contests-told paper contests whole (i ∷ numbers) =
    then-told (contest_checked paper (contest_at contests i)) (λ _. contests_checked paper contests numbers) (contest-told paper (contest_at contests i) (whole i)) (λ _. contests-told paper contests whole numbers)

module _ (election : Election) (valid : IsValid election) (i : ℕ) where
  plan-told : Told (plan_of_card election i)
  plan-told =
      let numbers = contests_of_card election i in
      then-told (contests_checked election.paper election.contests numbers)
      (λ _. plan_with election i (card_at election i) numbers (pages_of election.paper election.contests numbers))
      (contests-told election.paper election.contests (contest-whole election valid) numbers)
      (λ _. pages-told numbers (pages_of election.paper election.contests numbers))
    where
      pages-told : (numbers : List ℕ) (pages : ℕ) → Told (plan_with election i (card_at election i) numbers pages)
      pages-told numbers pages = either (nat_lt 63 pages) (Err (TooManyPages pages)) _ (number pages) tt

  pub told : Told (plan_of election i)
  unfolding plan_of
  told =
      either (nat_lt i (length (cards_of election))) (plan_of_card election i) (Err (NoCard (length (cards_of election)))) plan-told (number (length (cards_of election)))

-- so have the words on a card's pages
pub planned-whole : (r : Result CardPlan LayoutFault) → Told r → is_whole (planned_words r) ≡ true
planned-whole (Ok plan) is = joined (codes "pages") (32 ∷ decimal (length plan.pages)) refl (number (length plan.pages))
planned-whole (Err fault) is = joined (codes "layout") (32 ∷ layout_fault_text fault) refl is
