-- The data hold no number with a fraction.
use Rattle.std.proofs.Common.{◌≡◌, ℕ, Bool, true, false, ◌||◌, List, [], ◌∷◌, length, map, refl}
use Rattle.std.specs.List.{range_with_len}
use Rattle.std.proofs.lemmas.Bool.{true≢false}
use Rattle.serde_json.specs.Data.{Data}
use Rattle.serde_json.specs.View.{items_of}
use Rattle.serde_json.specs.Written.{has_float, items_have_float}
use Rattle.vx_election_model.specs.declared.contest.Contest.{Contest}
use Rattle.vx_election_model.specs.declared.election.Election.{Election}
use Rattle.vx_election_model.specs.Options.{options_of}
use Rattle.vx_styles.specs.Cards.{cards_of, contests_of_card}
use Rattle.vx_markup.specs.Json.{whole}
use Rattle.vx_board.specs.Contests as spec
use Rattle.vx_board.specs.Data.{first_data}

both : (a b : Bool) → a ≡ false → b ≡ false → (a || b) ≡ false
both false b first second = second
both true b first second = absurd (true≢false first)

made : {X : Type 0} (make : X → Data) (xs : List X) → ((x : X) → has_float (make x) ≡ false) → items_have_float (items_of (map make xs)) ≡ false
made make [] each = refl
made make (x ∷ xs) each = both (has_float (make x)) (items_have_float (items_of (map make xs))) (each x) (made make xs each)

contest : (one : Contest) → has_float (spec.contest_data one) ≡ false
contest one =
    let options = made (spec.option_data one) (range_with_len 0 (options_of one)) (λ option. refl) in
    both (items_have_float (items_of (map (spec.option_data one) (range_with_len 0 (options_of one))))) _ options refl

card : (election : Election) (number : ℕ) → has_float (spec.card_data election number) ≡ false
card election number =
    let contests = made whole (contests_of_card election number) (λ place. refl) in
    both (items_have_float (items_of (map whole (contests_of_card election number)))) _ contests refl

pub first : (election : Election) (seed : List ℕ) (size records : ℕ) → has_float (first_data election seed size records) ≡ false
first election seed size records =
    both (items_have_float (items_of (spec.cards_data election))) _
    (made (spec.card_data election) (range_with_len 0 (length (cards_of election))) (card election))
    (both (items_have_float (items_of (map spec.contest_data election.contests))) _
    (made spec.contest_data election.contests contest) refl)
