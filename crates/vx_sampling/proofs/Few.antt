-- What is few: the options of a valid election's contests, and the draws of a sample.
use Rattle.std.proofs.Common.{◌≡◌, ℕ, ◌%◌, ◌<◌, ◌≤◌, ◌^◌, ◌==◌, Bool, true, false, cond, List, [], length, map, refl, ap, subst, sym, ◌∙◌, arith}
use Rattle.std.specs.Prelude.{All}
use Rattle.std.specs.List.{range_with_len}
use Rattle.std.proofs.lemmas.List.FromFn.{length-map-range_with_len}
use Rattle.vx_election_model.specs.declared.contest.Contest.{Contest}
use Rattle.vx_election_model.specs.declared.election.Election.{Election}
use Rattle.vx_election_model.specs.Options.{options_of}
use Rattle.vx_election_model.specs.Valid.{HasChoices, IsContest, IsValid}
use Rattle.vx_audit.specs.Sample.{draws_of, word_of}

few-choices : (is_yes_no : Bool) (contest : Contest) → HasChoices is_yes_no contest → length contest.choices ≤ 100
few-choices true contest has = let two = ap length has.answers.2 in omega (arith, two)
few-choices false contest has = has.few

few-slots : (write_ins : Bool) (seats : ℕ) → seats ≤ 50 → cond write_ins seats 0 ≤ 50
few-slots true seats few = few
few-slots false seats few = omega arith

few-options : (parties districts : ℕ) (contest : Contest) → IsContest parties districts contest → options_of contest < 2 ^ 32
few-options parties districts contest is =
    omega (arith, few-choices contest.is_yes_no contest is.choices, few-slots contest.write_ins contest.seats is.seats.1)

pub all_few : (election : Election) → IsValid election → All (λ contest. options_of contest < 2 ^ 32) election.contests
all_few election valid = λ k d within. few-options (length election.parties) (length election.districts) _ (valid.contests.each k d within)

-- the draws of no record, and of some
pub draws_none : (seed : List ℕ) (size count : ℕ) → (count == 0) ≡ true → draws_of seed size count ≡ []
unfolding draws_of
draws_none seed size count none = ap (λ (b : Bool). cond b [] (map (λ (word : ℕ). word_of seed word % count) (range_with_len 0 size))) none

pub draws_some : (seed : List ℕ) (size count : ℕ) → (count == 0) ≡ false
    → draws_of seed size count ≡ map (λ (word : ℕ). word_of seed word % count) (range_with_len 0 size)
unfolding draws_of
draws_some seed size count some = ap (λ (b : Bool). cond b [] (map (λ (word : ℕ). word_of seed word % count) (range_with_len 0 size))) some

-- no more draws than words
pub few_draws : (seed : List ℕ) (size count : ℕ) → size < 2 ^ 32 → length (draws_of seed size count) < 2 ^ 32
few_draws seed size count few = by (count == 0) refl
  where
    by : (b : Bool) → (count == 0) ≡ b → length (draws_of seed size count) < 2 ^ 32
    by true e =
        let Few : ℕ → Type 0 = λ number. number < 2 ^ 32 in
        let nought : 0 < 2 ^ 32 = omega arith in
        subst Few (sym (ap length (draws_none seed size count e))) nought
    by false e =
        let Few : ℕ → Type 0 = λ number. number < 2 ^ 32 in
        subst Few
        (sym (ap length (draws_some seed size count e) ∙ length-map-range_with_len (λ (word : ℕ). word_of seed word % count) 0 size)) few
