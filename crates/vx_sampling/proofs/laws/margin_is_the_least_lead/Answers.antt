use Rattle.std.proofs.Common.{◌≡◌, inl, inr, ℕ, ◌<◌, ◌==◌, ◌||◌, not, Bool, true, false, cond, List, [], ◌∷◌, length, refl, ap, sym, ◌∙◌, subst, arith}
use Rattle.std.specs.Prelude.{sum_by}
use Rattle.std.proofs.lemmas.Bool.{eqb-true, eqb-false, false≢true}
use Rattle.std.proofs.lemmas.List.{length-map, nil_from_length}
use Rattle.vx_election_model.specs.declared.contest.Contest.{Contest}
use Rattle.vx_tally.specs.declared.report.CvrRecord.{CvrRecord}
use Rattle.vx_tally.specs.Totals.{total_of}
use Rattle.vx_sampling.specs.declared.rows.Told.{Told}
use Rattle.vx_sampling.specs.declared.rows.Told.TheVariants.{Tie, WriteIn, Risk}
use Rattle.vx_sampling.specs.declared.standing.Standing.{Standing}
use Rattle.vx_sampling.specs.declared.standing.Standing.TheVariants as standing
use Rattle.vx_sampling.specs.Leads.{IsLeastLead, rival_votes, sides, together, winner_votes}
use Rattle.vx_sampling.specs.Rows.{told_by}
use Rattle.vx_sampling.specs.Said.{slots_count}
use Rattle.vx_sampling.specs.Sides.{choice_votes, choices_where, slot_votes, slots_of}
use Rattle.vx_sampling.specs.Standing.{standing_of, votes_where}
use Rattle.vx_sampling.proofs.Kept.{choices-votes}
use Rattle.vx_sampling.proofs.Leads.{AreBehind, least_lead}
use Rattle.vx_sampling.proofs.laws.margin_is_the_least_lead.Goals as goal

more-than-none : (n : ℕ) → (n ≡ 0 → ⊥) → 0 < n
more-than-none n not-none = omega (arith, not-none)

-- the slots stand behind the losers, or have no votes
slots-behind : (total : ℕ → ℕ) (losers slots losing : List ℕ) → length losing ≡ length losers
    → AreBehind (sum_by total slots) losing (cond (slots_count losers slots) (sum_by total slots ∷ []) [])
slots-behind total losers slots losing as-many = by (length losers == 0) (length slots == 0) refl refl
  where
    by : (alone without : Bool) → (length losers == 0) ≡ alone → (length slots == 0) ≡ without
        → AreBehind (sum_by total slots) losing (cond (alone || not without) (sum_by total slots ∷ []) [])
    by true without e f = inl refl
    by false false e f = inl refl
    by false true e f =
        let no-slots : slots ≡ [] = nil_from_length slots (eqb-true (length slots) 0 f) in
        let many : 0 < length losing = more-than-none (length losing) (λ is. eqb-false (length losers) 0 e (sym as-many ∙ is)) in
        inr (refl, ap (sum_by total) no-slots, many)

-- a contest that stands by a margin
module _ (records : List CvrRecord) (place : ℕ) (contest : Contest) where
  abbrev votes : List ℕ
  votes = choice_votes records place contest

  by-margin : (margin : ℕ) → standing_of contest.seats votes (slot_votes records place contest) ≡ standing.Margin margin
      → IsLeastLead (winner_votes records place contest) (rival_votes records place contest) margin
  by-margin margin is =
      let winning = choices-votes (total_of records place) (length contest.choices) contest.seats true in
      let losing = choices-votes (total_of records place) (length contest.choices) contest.seats false in
      let losers : List ℕ = choices_where contest.seats votes false in
      let behind = slots-behind (total_of records place) losers (slots_of contest) (votes_where contest.seats votes false)
      (ap length (sym losing) ∙ length-map losers (total_of records place)) in
      rw (winning, losing) (least_lead contest.seats votes (slot_votes records place contest) (together records place contest) margin behind is)

abbrev is-risk : Told → Bool
is-risk Tie = false
is-risk WriteIn = false
is-risk (Risk figures) = true

abbrev margin-told : Told → ℕ
margin-told Tie = 0
margin-told WriteIn = 0
margin-told (Risk figures) = figures.margin

pub returns : goal.returns
returns c records lines draws limit place contest figures is =
    by (standing_of contest.seats (choice_votes records place contest) (slot_votes records place contest)) refl is
  where
    by : (how : Standing) → standing_of contest.seats (choice_votes records place contest) (slot_votes records place contest) ≡ how
        → told_by records lines draws limit (sides records place contest) how ≡ Risk figures
        → IsLeastLead (winner_votes records place contest) (rival_votes records place contest) figures.margin
    by standing.Tie e h = absurd (false≢true (ap is-risk h))
    by standing.WriteIn e h = absurd (false≢true (ap is-risk h))
    by (standing.Margin margin) e h =
        subst (IsLeastLead (winner_votes records place contest) (rival_votes records place contest)) (ap margin-told h)
        (by-margin records place contest margin e)
