-- The votes of one record for a selection are those of its rows, contest by contest.
use Rattle.std.proofs.Common.{◌≡◌, ℕ, ◌+◌, Bool, true, false, cond, ◌&&◌, ◌==◌, List, [], ◌∷◌, ◌++◌, map, refl, ap, sym, ◌∙◌, arith, append-nil}
use Rattle.std.specs.Prelude.{sum_by}
use Rattle.std.specs.List.{filter, flat_map}
use Rattle.std.proofs.lemmas.List.Sums.{sum_by-cons, sum_by-append}
use Rattle.std.proofs.lemmas.List.Elements.{filter-append}
use Rattle.vx_tally.specs.declared.report.CvrRecord.{CvrRecord}
use Rattle.vx_tally.specs.declared.report.RecordContest.{RecordContest}
use Rattle.vx_tally.specs.declared.report.VoteRow.{VoteRow}
use Rattle.vx_tally.specs.Totals.{Row, row_of, contest_rows, record_rows, is_for, votes_of, total_of}
use Rattle.vx_sampling.specs.Votes.{row_votes, rows_votes, contest_votes, record_votes}

module _ (unit contest selection : ℕ) where
  abbrev share : Row → ℕ
  share row = row.votes

  abbrev test : Row → Bool
  test = is_for contest selection

  votes-cons : (row : Row) (rows : List Row) → votes_of test (row ∷ rows) ≡ cond (test row) row.votes 0 + votes_of test rows
  votes-cons row rows = by (test row)
    where
      by : (b : Bool) → sum_by share (cond b (row ∷ filter test rows) (filter test rows)) ≡ cond b row.votes 0 + sum_by share (filter test rows)
      by true = sum_by-cons share row (filter test rows)
      by false = omega arith

  votes-append : (front back : List Row) → votes_of test (front ++ back) ≡ votes_of test front + votes_of test back
  votes-append front back = ap (sum_by share) (filter-append test front back) ∙ sum_by-append share (filter test front) (filter test back)

  rows-told : (counted : ℕ) (b : Bool) → (contest == counted) ≡ b → (rows : List VoteRow)
      → votes_of test (map (row_of unit counted) rows) ≡ cond b (rows_votes selection rows) 0
  rows-told counted true e [] = refl
  rows-told counted false e [] = refl
  rows-told counted true e (row ∷ rows) =
      votes-cons (row_of unit counted row) (map (row_of unit counted) rows)
      ∙ ap (λ (b : Bool). cond (b && (selection == row.selection)) row.votes 0 + votes_of test (map (row_of unit counted) rows)) e
      ∙ ap (λ (n : ℕ). row_votes selection row + n) (rows-told counted true e rows)
      ∙ sym (sum_by-cons (row_votes selection) row rows)
  rows-told counted false e (row ∷ rows) =
      votes-cons (row_of unit counted row) (map (row_of unit counted) rows)
      ∙ ap (λ (b : Bool). cond (b && (selection == row.selection)) row.votes 0 + votes_of test (map (row_of unit counted) rows)) e
      ∙ ap (λ (n : ℕ). 0 + n) (rows-told counted false e rows)

  told : (contests : List RecordContest) → votes_of test (flat_map (contest_rows unit) contests) ≡ sum_by (contest_votes contest selection) contests
  told [] = refl
  told (counted ∷ contests) =
      votes-append (contest_rows unit counted) (flat_map (contest_rows unit) contests)
      ∙ ap (λ (n : ℕ). n + votes_of test (flat_map (contest_rows unit) contests)) (rows-told counted.contest (contest == counted.contest) refl counted.votes)
      ∙ ap (λ (n : ℕ). contest_votes contest selection counted + n) (told contests)
      ∙ sym (sum_by-cons (contest_votes contest selection) counted contests)

pub one_record : (one : CvrRecord) (contest selection : ℕ) → total_of (one ∷ []) contest selection ≡ record_votes one contest selection
unfolding total_of
one_record one contest selection =
    ap (votes_of (is_for contest selection)) (append-nil (record_rows one)) ∙ told one.unit contest selection one.contests
