-- A valid contest keeps to the sizes of a layout.
use Rattle.std.proofs.Common.{◌≡◌, ℕ, ◌≤◌, ◌⊎◌, inr, List, [], ◌∷◌, length, Bool, true, false, refl, ap, arith}
use Rattle.std.specs.Prelude.{All, codes}
use Rattle.std.proofs.lemmas.List.Elements.{All-nil, All-cons, All-same, All-weaker}
use Rattle.vx_election_model.specs.declared.choice.Choice.{Choice}
use Rattle.vx_election_model.specs.declared.contest.Contest.{Contest}
use Rattle.vx_election_model.specs.declared.election.Election.{Election}
use Rattle.vx_election_model.specs.Labels.{answer_of}
use Rattle.vx_election_model.specs.Valid.{IsValid, IsContest, IsCandidate, HasChoices, HasCandidates, HasAnswers}
use Rattle.vx_layout.specs.Lines.{size_of}
use Rattle.vx_layout.specs.Blocks.{HasSizes}
use Rattle.vx_layout.proofs.Labels.{size-nil}

-- the sizes of choices
record AreSized (contest : Contest) : Type 0 where
  description : size_of contest.description ≤ 10000
  few : length contest.choices ≤ 100
  names : All (λ (choice : Choice). size_of choice.name ≤ 256) contest.choices
  labels : All (λ (choice : Choice). (size_of choice.label ≤ 58) ⊎ (choice.label ≡ choice.name)) contest.choices

candidates-sized : (contest : Contest) → HasCandidates contest → AreSized contest
candidates-sized contest has = record {
  description = omega (arith, ap size_of has.description, size-nil);
  few = has.few;
  names = All-weaker IsCandidate (λ (choice : Choice). size_of choice.name ≤ 256) (λ choice is. is.name.1) contest.choices has.each;
  labels = All-weaker IsCandidate (λ (choice : Choice). (size_of choice.label ≤ 58) ⊎ (choice.label ≡ choice.name)) (λ choice is. is.label) contest.choices has.each;
}

two : (P : Choice → Type 0) (choices : List Choice) (first second : Choice) → choices ≡ first ∷ second ∷ [] → P first → P second → All P choices
two P choices first second are f s = All-same P choices (first ∷ second ∷ []) are (All-cons P first (second ∷ []) f (All-cons P second [] s (All-nil P)))

answers-sized : (contest : Contest) → HasAnswers contest → AreSized contest
answers-sized contest has =
    let first = answer_of (codes "yes") has.answers.0 in
    let second = answer_of (codes "no") has.answers.1 in
    record {
      description = has.description.1;
      few = omega (arith, ap length has.answers.2);
      names = two (λ (choice : Choice). size_of choice.name ≤ 256) contest.choices first second has.answers.2 has.answers.3.1 has.answers.4.1;
      labels = two (λ (choice : Choice). (size_of choice.label ≤ 58) ⊎ (choice.label ≡ choice.name)) contest.choices first second has.answers.2 (inr refl) (inr refl);
    }

choices-sized : (is_yes_no : Bool) (contest : Contest) → HasChoices is_yes_no contest → AreSized contest
choices-sized true contest has = answers-sized contest has
choices-sized false contest has = candidates-sized contest has

contest-sized : (parties districts : ℕ) (contest : Contest) → IsContest parties districts contest → HasSizes contest
contest-sized parties districts contest is =
    let sized = choices-sized contest.is_yes_no contest is.choices in
    record {
      title = is.title.1;
      description = sized.description;
      seats = is.seats.1;
      choices = sized.few;
      names = sized.names;
      labels = sized.labels;
    }

-- each contest of a valid election keeps to them
pub sizes-from_valid : (election : Election) → IsValid election → All HasSizes election.contests
sizes-from_valid election valid =
    All-weaker (IsContest (length election.parties) (length election.districts)) HasSizes
    (contest-sized (length election.parties) (length election.districts)) election.contests valid.contests.each
