-- The ids of a valid election have no line feed.
use Rattle.std.proofs.Common.{◌≡◌, ◌<◌, ◌≤◌, ◌⊎◌, inl, inr, ℕ, zero, suc, Bool, true, false, List, [], ◌∷◌, length, get_or, refl, ap, ◌∙◌}
use Rattle.std.specs.List.{list_all}
use Rattle.std.specs.Option.{option_map_or}
use Rattle.std.specs.Prelude.{slice_get}
use Rattle.std.proofs.lemmas.Bool.{and_parts, and_from, cases_lt}
use Rattle.std.proofs.lemmas.List.{get_or_past}
use Rattle.std.proofs.lemmas.List.Sums.{list_all-from_AllPass}
use Rattle.vx_election_model.specs.Ids.{is_id, is_id_character}
use Rattle.vx_election_model.specs.Valid.{IsValid, IsContest, HasChoices}
use Rattle.vx_election_model.specs.declared.choice.Choice.{Choice}
use Rattle.vx_election_model.specs.declared.contest.Contest.{Contest}
use Rattle.vx_election_model.specs.declared.election.Election.{Election}
use Rattle.vx_layout.specs.Flow.{contest_at, no_contest}
use Rattle.vx_styles.specs.Cards.{no_style}
use Rattle.vx_command_cards.specs.Cards.{no_precinct, precinct_id, style_id}
use Rattle.vx_command_cards.specs.Texts.{choice_id}
use Rattle.vx_command_cards.proofs.Whole.{is_no_feed, is_whole, no_feed}

each-more : (test other : ℕ → Bool) → ((b : ℕ) → test b ≡ true → other b ≡ true) → (bs : List ℕ) → list_all test bs ≡ true → list_all other bs ≡ true
each-more test other more [] all = refl
each-more test other more (b ∷ bs) all =
    let parts = and_parts (test b) (list_all test bs) all in
    and_from (other b) (list_all other bs) (more b parts.0) (each-more test other more bs parts.1)

pub id-whole : (id : List ℕ) → is_id id ≡ true → is_whole id ≡ true
unfolding is_id
id-whole id is = each-more is_id_character is_no_feed (no_feed is_id_character refl) id (and_parts _ (list_all is_id_character id) is).1

-- the id of an element by its place, and of none
at-place : {X : Type 0} (id : X → List ℕ) (none : X) (xs : List X) → is_whole (id none) ≡ true → ((k : ℕ) (d : X) → k < length xs → is_whole (id (get_or xs k d)) ≡ true) → (i : ℕ) → is_whole (id (get_or xs i none)) ≡ true
at-place {X} id none xs lacks all i = by (cases_lt i (length xs))
  where
    by : (i < length xs) ⊎ (length xs ≤ i) → is_whole (id (get_or xs i none)) ≡ true
    by (inl low) = all i none low
    by (inr past) = ap (λ (x : X). is_whole (id x)) (get_or_past xs i none past) ∙ lacks

choices-whole : (contest : Contest) (is_yes_no : Bool) → HasChoices is_yes_no contest → list_all (λ (choice : Choice). is_whole choice.id) contest.choices ≡ true
choices-whole contest true has = ap (list_all (λ (choice : Choice). is_whole choice.id)) has.answers.2
choices-whole contest false has =
    list_all-from_AllPass (λ (choice : Choice). is_whole choice.id) contest.choices (λ k d low. id-whole (get_or contest.choices k d).id (has.each k d low).id)

-- the id of a choice by its place, and of none
among : (choices : List Choice) (i : ℕ) → list_all (λ (choice : Choice). is_whole choice.id) choices ≡ true → is_whole (option_map_or (λ (choice : Choice). choice.id) (slice_get choices i) []) ≡ true
among [] i all = refl
among (choice ∷ choices) zero all = (and_parts (is_whole choice.id) (list_all (λ (choice : Choice). is_whole choice.id) choices) all).0
among (choice ∷ choices) (suc i) all = among choices i (and_parts (is_whole choice.id) (list_all (λ (choice : Choice). is_whole choice.id) choices) all).1

pub choice-whole : (parties districts : ℕ) (contest : Contest) → IsContest parties districts contest → (i : ℕ) → is_whole (choice_id contest i) ≡ true
choice-whole parties districts contest valid i = among contest.choices i (choices-whole contest contest.is_yes_no valid.choices)

module _ (election : Election) (valid : IsValid election) where
  pub style-whole : (i : ℕ) → is_whole (style_id election i) ≡ true
  style-whole = at-place (λ style. style.id) no_style election.styles refl (λ k d low. id-whole (get_or election.styles k d).id (valid.styles.each k d low).id)

  pub precinct-whole : (i : ℕ) → is_whole (precinct_id election i) ≡ true
  precinct-whole = at-place (λ precinct. precinct.id) no_precinct election.precincts refl (λ k d low. id-whole (get_or election.precincts k d).id (valid.precincts.each k d low).id)

  pub contest-whole : (i : ℕ) → is_whole (contest_at election.contests i).id ≡ true
  contest-whole = at-place (λ contest. contest.id) no_contest election.contests refl (λ k d low. id-whole (get_or election.contests k d).id (valid.contests.each k d low).id)
