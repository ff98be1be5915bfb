-- A contest of a valid election has few options.
use Rattle.std.proofs.Common.{ℕ, ◌+◌, ◌≤◌, Bool, true, false, cond, length, ap, arith}
use Rattle.std.specs.Prelude.{All, slice_index_or}
use Rattle.vx_election_model.specs.declared.contest.Contest.{Contest}
use Rattle.vx_election_model.specs.declared.election.Election.{Election}
use Rattle.vx_election_model.specs.Valid.{HasChoices, IsContest, IsValid}
use Rattle.vx_results.specs.Report.{HasFewOptions}

few_choices : (is_yes_no : Bool) (contest : Contest) → HasChoices is_yes_no contest → length contest.choices ≤ 100
few_choices true contest has = let two = ap length has.answers.2 in omega (arith, two)
few_choices false contest has = has.few

few : (parties districts : ℕ) (contest : Contest) → IsContest parties districts contest → HasFewOptions contest
few parties districts contest is =
    let most = by contest.write_ins (few_choices contest.is_yes_no contest is.choices) is.seats.1 in
    omega (arith, most)
  where
    by : (b : Bool) → length contest.choices ≤ 100 → contest.seats ≤ 50 → length contest.choices + cond b contest.seats 0 ≤ 150
    by true choices seats = omega (arith, choices, seats)
    by false choices seats = omega (arith, choices)

pub options_few : (election : Election) → IsValid election → All HasFewOptions election.contests
options_few election valid k contest within =
    few (length election.parties) (length election.districts) (slice_index_or election.contests k contest) (valid.contests.each k contest within)
