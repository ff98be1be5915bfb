-- The report of a history is no longer than a reader admits, and its records can be added up.
use Rattle.std.proofs.Common.{ℕ, ◌+◌, ◌-◌, ◌*◌, ◌≤◌, Bool, true, false, cond, List, length, map, arith}
use Rattle.std.specs.Prelude.{All}
use Rattle.vx_election_model.specs.declared.contest.Contest.{Contest}
use Rattle.vx_election_model.specs.declared.election.Election.{Election}
use Rattle.vx_election_model.specs.declared.named.Named.{Named}
use Rattle.vx_election_model.specs.Options.{options_of}
use Rattle.vx_election_model.specs.Valid.{IsContest, IsValid}
use Rattle.vx_events.specs.declared.event.Event.{Event}
use Rattle.vx_center.specs.declared.rows.ExportSheet.{ExportSheet}
use Rattle.vx_center.specs.declared.rows.Final.{Final}
use Rattle.vx_center.specs.Histories.{IsHistory}
use Rattle.vx_cvr.specs.Names.{precinct_name, selection_name}
use Rattle.vx_cvr.specs.Report.{no_contest}
use Rattle.vx_cvr.specs.Rows.{rows_of}
use Rattle.vx_cvr.specs.Votes.{candidate_of, is_overvoted, is_repeated, votes_of}
use Rattle.vx_tally.specs.declared.report.RecordContest.{RecordContest}
use Rattle.vx_tally.specs.declared.report.VoteRow.{VoteRow}
use Rattle.vx_tally.specs.Totals.{IsCountable, IsSmall, size_of}
use Rattle.vx_audit.specs.Sized.{HasFew}
use Rattle.vx_results.specs.Fitting.{IsFinalAt, IsRow}
use Rattle.vx_results.specs.Laws.{RowsFit}
use Rattle.vx_results.specs.Report.{HasFewOptions, contest_at, contest_of, counted_in, record_of, report_of_events, vote_of}
use Rattle.vx_results.proofs.Each.{all-each, each-all, each-any, each-map, each-weaker, length-mapped}
use Rattle.vx_results.proofs.Few.{sum-few}
use Rattle.vx_results.proofs.RowsOf.{few-choices}
use Rattle.std.proofs.lemmas.Option.{slice_get_within}
use Rattle.std.proofs.lemmas.List.FromFn.{length-map-range_with_len}

-- a valid contest has at most 150 options
options-few : (parties districts : ℕ) (contest : Contest) → IsContest parties districts contest → options_of contest ≤ 150
options-few parties districts contest is = by contest.write_ins (few-choices contest.is_yes_no contest is.choices) is.seats.1
  where
    by : (b : Bool) → length contest.choices ≤ 100 → contest.seats ≤ 50 → length contest.choices + cond b contest.seats 0 ≤ 150
    by true choices seats = omega (arith, choices, seats)
    by false choices seats = omega (arith, choices)

module _ (election : Election) (valid : IsValid election) where
  abbrev IsOne : Contest → Type 0
  IsOne contest = IsContest (length election.parties) (length election.districts) contest

  -- the contest of a final is valid
  final-contest : (final : Final) → IsFinalAt election final → IsOne (contest_at election final)
  final-contest final is =
      valid.contests.each final.contest no_contest (slice_get_within election.contests final.contest (contest_at election final) is.there)

  pub options-there : All HasFewOptions election.contests
  options-there =
      all-each HasFewOptions election.contests
      (each-weaker IsOne HasFewOptions election.contests
      (λ contest is. omega (arith, options-few (length election.parties) (length election.districts) contest is))
      (each-all IsOne election.contests valid.contests.each))

  pub contests-few : All HasFew (map contest_of election.contests)
  contests-few =
      all-each HasFew (map contest_of election.contests)
      (each-map HasFew contest_of election.contests
      (each-weaker IsOne (λ (contest : Contest). HasFew (contest_of contest)) election.contests
      (λ contest is. omega (
        arith,
        length-map-range_with_len (selection_name contest.id) 0 (options_of contest),
        options-few (length election.parties) (length election.districts) contest is,
      ))
      (each-all IsOne election.contests valid.contests.each)))

  -- ---- records

  vote-small : (contest : Contest) (final : Final) (option : ℕ) → votes_of contest final option ≤ 50
  vote-small contest final option = by (is_overvoted contest final) (is_repeated contest final option (candidate_of contest final option))
    where
      by : (a b : Bool) → cond a 0 (cond b 0 1) ≤ 50
      by true b = omega arith
      by false true = omega arith
      by false false = omega arith

  final-small : (final : Final) → IsFinalAt election final → IsSmall (counted_in election final)
  final-small final is = (over (is_overvoted contest final), under (is_overvoted contest final), votes)
    where
      contest : Contest
      contest = contest_at election final

      seats : contest.seats ≤ 50
      seats = (final-contest final is).seats.1

      over : (b : Bool) → cond b contest.seats 0 ≤ 50
      over true = seats
      over false = omega arith

      under : (b : Bool) → cond b 0 (contest.seats - length final.selected) ≤ 50
      under true = omega arith
      under false = omega (arith, seats)

      votes : All (λ (row : VoteRow). row.votes ≤ 50) (map (vote_of contest final) final.selected)
      votes =
          all-each (λ (row : VoteRow). row.votes ≤ 50) (map (vote_of contest final) final.selected)
          (each-map (λ (row : VoteRow). row.votes ≤ 50) (vote_of contest final) final.selected
          (each-any (λ (option : ℕ). votes_of contest final option ≤ 50) final.selected (vote-small contest final)))

  final-size : (final : Final) → IsFinalAt election final → 1 + length (counted_in election final).votes ≤ 1000
  final-size final is =
      let one = final-contest final is in
      omega (
        arith,
        length-mapped (vote_of (contest_at election final) final) final.selected,
        is.options.few,
        one.seats.1,
        options-few (length election.parties) (length election.districts) (contest_at election final) one,
      )

  pub record-countable : (row : ExportSheet) → IsRow election row → IsCountable (record_of election row)
  record-countable row is = record {
    size = omega (arith, sizes, length-mapped (counted_in election) row.finals, is.few);
    small =
        all-each IsSmall (map (counted_in election) row.finals)
        (each-map IsSmall (counted_in election) row.finals
        (each-weaker (IsFinalAt election) (λ (final : Final). IsSmall (counted_in election final)) row.finals final-small is.finals));
  }
    where
      sizes : size_of (record_of election row) ≤ 1000 * length (map (counted_in election) row.finals)
      sizes =
          sum-few (λ (counted : RecordContest). 1 + length counted.votes) (map (counted_in election) row.finals)
          (each-map (λ (counted : RecordContest). 1 + length counted.votes ≤ 1000) (counted_in election) row.finals
          (each-weaker (IsFinalAt election) (λ (final : Final). 1 + length (counted_in election final).votes ≤ 1000) row.finals final-size is.finals))
