-- The parts of a report hold no number with a fraction.
use Rattle.std.proofs.Common.{◌≡◌, ℕ, Bool, true, false, ◌||◌, List, [], ◌∷◌, ◌++◌, length, map, refl}
use Rattle.std.specs.Prelude.{if◌then◌else◌}
use Rattle.std.specs.List.{flat_map, range_with_len}
use Rattle.std.specs.Prelude.{codes}
use Rattle.std.proofs.lemmas.Bool.{true≢false}
use Rattle.serde_json.specs.Data.{Data, boolean}
use Rattle.serde_json.specs.View.{items_of}
use Rattle.serde_json.specs.Written.{has_float, items_have_float}
use Rattle.vx_election_model.specs.declared.contest.Contest.{Contest}
use Rattle.vx_election_model.specs.declared.election.Election.{Election}
use Rattle.vx_election_model.specs.Options.{options_of}
use Rattle.vx_cvr.specs.Json.{text, list, described}
use Rattle.vx_cvr.specs.Names.{candidate_name, selection_name}
use Rattle.vx_cvr.specs.Votes.{is_slot}
use Rattle.vx_cvr.specs.Report as spec

-- values without floats
abbrev AreWhole : List Data → Type 0
AreWhole values = items_have_float (items_of values) ≡ false

both : (a b : Bool) → a ≡ false → b ≡ false → (a || b) ≡ false
both false false first second = refl
both false true first second = second
both true b first second = first

made : {X : Type 0} (make : X → Data) (xs : List X) → ((x : X) → has_float (make x) ≡ false) → AreWhole (map make xs)
made make [] each = refl
made make (x ∷ xs) each = both (has_float (make x)) (items_have_float (items_of (map make xs))) (each x) (made make xs each)

front : (a b : Bool) → (a || b) ≡ false → a ≡ false
front false b is = refl
front true b is = absurd (true≢false is)

back : (a b : Bool) → (a || b) ≡ false → b ≡ false
back false b is = is
back true b is = absurd (true≢false is)

joined : (xs ys : List Data) → AreWhole xs → AreWhole ys → AreWhole (xs ++ ys)
joined [] ys first second = second
joined (x ∷ xs) ys first second =
    let rest : Bool = items_have_float (items_of xs) in
    both (has_float x) (items_have_float (items_of (xs ++ ys))) (front (has_float x) rest first) (joined xs ys (back (has_float x) rest first) second)

made_each : {X : Type 0} (make : X → List Data) (xs : List X) → ((x : X) → AreWhole (make x)) → AreWhole (flat_map make xs)
made_each make [] each = refl
made_each make (x ∷ xs) each = joined (make x) (flat_map make xs) (each x) (made_each make xs each)

candidates : (contest : Contest) → AreWhole (spec.candidates_of contest)
candidates contest = by contest.is_yes_no
  where
    by : (b : Bool) → AreWhole (if b then [] else map (spec.candidate contest) (range_with_len 0 (length contest.choices)))
    by true = refl
    by false = made (spec.candidate contest) (range_with_len 0 (length contest.choices)) (λ option. refl)

selection : (contest : Contest) (option : ℕ) → has_float (spec.candidate_selection contest option) ≡ false
selection contest option = by (is_slot contest option)
  where
    by : (b : Bool) → has_float (described ((codes "@id", text (selection_name contest.id option)) ∷ spec.class (codes "CandidateSelection")
        ∷ (if b then (codes "IsWriteIn", boolean true) else (codes "CandidateIds", list (text (candidate_name contest.id option) ∷ []))) ∷ [])) ≡ false
    by true = refl
    by false = refl

contest : (given : Contest) → has_float (spec.contest given) ≡ false
contest given = by given.is_yes_no
  where
    by : (b : Bool) → has_float (if b then spec.measure given else spec.candidate_contest given) ≡ false
    by true = both (items_have_float (items_of (map (spec.answer given) (range_with_len 0 (options_of given))))) false (made (spec.answer given) (range_with_len 0 (options_of given)) (λ option. refl)) refl
    by false = both (items_have_float (items_of (map (spec.candidate_selection given) (range_with_len 0 (options_of given))))) false (made (spec.candidate_selection given) (range_with_len 0 (options_of given)) (selection given)) refl

election : (given : Election) → has_float (spec.election_object given) ≡ false
election given =
    both (items_have_float (items_of (flat_map spec.candidates_of given.contests))) _ (made_each spec.candidates_of given.contests candidates)
    (both (items_have_float (items_of (map spec.contest given.contests))) false (made spec.contest given.contests contest) refl)

pub behind : (election : Election) (moment id : List ℕ) → has_float (described (spec.behind_sheets election moment id)) ≡ false
behind given moment id =
    both (has_float (spec.election_object given) || false) _ (both (has_float (spec.election_object given)) false (election given) refl)
    (both (items_have_float (items_of (map spec.precinct given.precincts))) false (made spec.precinct given.precincts (λ named. refl)) refl)
