-- Sums of shares are the sums over rows, and they are bounded.
use Rattle.std.proofs.Common.{◌≡◌, ℕ, ◌+◌, ◌&&◌, ◌==◌, Bool, true, false, cond, List, [], ◌∷◌, map, filter, refl, sym, ap, ◌∙◌, arith}
use Rattle.std.specs.Prelude.{sum_by}
use Rattle.std.specs.List.{flat_map}
use Rattle.std.proofs.lemmas.List.Elements.{filter-append}
use Rattle.std.proofs.lemmas.List.Sums.{sum_by-append}
use Rattle.vx_tally.specs.declared.report.CvrRecord.{CvrRecord}
use Rattle.vx_tally.specs.declared.report.RecordContest.{RecordContest}
use Rattle.vx_tally.specs.declared.report.VoteRow.{VoteRow}
use Rattle.vx_tally.specs.declared.sums.Counted.{Counted}
use Rattle.vx_tally.specs.declared.sums.Counted.TheVariants.{Votes, VotesIn, Over, Under}
use Rattle.vx_tally.specs.Totals.{Row, row_of, contest_rows, record_rows, is_for, is_for_in, total_of, total_in_of, over_of, under_of}
use Rattle.vx_tally.specs.Sums.{Share, same_counted, row_shares, contest_shares, record_shares, sum_of}

-- one more in front
pub sum-cons : {X : Type 0} (f : X → ℕ) (x : X) (xs : List X) → sum_by f (x ∷ xs) ≡ f x + sum_by f xs
sum-cons f x xs =
    let alone : sum_by f (x ∷ []) ≡ f x = omega arith in
    sum_by-append f (x ∷ []) xs ∙ ap (λ n. n + sum_by f xs) alone

sum-same : {X : Type 0} (f g : X → ℕ) → ((x : X) → f x ≡ g x) → (xs : List X) → sum_by f xs ≡ sum_by g xs
sum-same f g same [] = refl
sum-same f g same (x ∷ xs) = omega (arith, sum-cons f x xs, sum-cons g x xs, same x, sum-same f g same xs)

-- the sum over all that several give
sum-flat : {X Y : Type 0} (f : X → List Y) (test : Y → Bool) (value : Y → ℕ) (xs : List X)
    → sum_by value (filter test (flat_map f xs)) ≡ sum_by (λ x. sum_by value (filter test (f x))) xs
sum-flat f test value [] = refl
sum-flat {X} f test value (x ∷ xs) =
    let own : X → ℕ = λ x. sum_by value (filter test (f x)) in
    ap (sum_by value) (filter-append test (f x) (flat_map f xs))
    ∙ sum_by-append value (filter test (f x)) (filter test (flat_map f xs))
    ∙ ap (λ n. own x + n) (sum-flat f test value xs)
    ∙ sym (sum-cons own x xs)

pub chosen-sum : {X : Type 0} (b : Bool) (value : X → ℕ) (x : X) (xs : List X) → sum_by value (cond b (x ∷ xs) xs) ≡ cond b (value x) 0 + sum_by value xs
chosen-sum true value x xs = sum-cons value x xs
chosen-sum false value x xs = omega arith

-- the sum over those that pass
sum-filter : {X : Type 0} (test : X → Bool) (value : X → ℕ) (xs : List X) → sum_by value (filter test xs) ≡ sum_by (λ x. cond (test x) (value x) 0) xs
sum-filter test value [] = refl
sum-filter test value (x ∷ xs) =
    chosen-sum (test x) value x (filter test xs) ∙ ap (λ n. cond (test x) (value x) 0 + n) (sum-filter test value xs)
    ∙ sym (sum-cons (λ x. cond (test x) (value x) 0) x xs)

-- the shares of rows among the votes
rows-votes : (c s unit contest : ℕ) (votes : List VoteRow)
    → sum_of (Votes c s) (flat_map (row_shares unit contest) votes)
    ≡ sum_by (λ (row : Row). row.votes) (filter (is_for c s) (map (row_of unit contest) votes))
rows-votes c s unit contest [] = refl
rows-votes c s unit contest (row ∷ votes) =
    let b = c == contest && s == row.selection in
    let rest = flat_map (row_shares unit contest) votes in
    let mine : Share = (Votes contest row.selection, row.votes) in
    let here : Row = row_of unit contest row in
    chosen-sum b (λ (share : Share). share.1) mine (filter (λ (share : Share). same_counted (Votes c s) share.0) rest)
    ∙ ap (λ n. cond b row.votes 0 + n) (rows-votes c s unit contest votes)
    ∙ sym (chosen-sum b (λ (row : Row). row.votes) here _)

-- and among those of a unit
rows-votes-in : (u c s unit contest : ℕ) (votes : List VoteRow)
    → sum_of (VotesIn u c s) (flat_map (row_shares unit contest) votes)
    ≡ sum_by (λ (row : Row). row.votes) (filter (is_for_in u c s) (map (row_of unit contest) votes))
rows-votes-in u c s unit contest [] = refl
rows-votes-in u c s unit contest (row ∷ votes) =
    let b = u == unit && (c == contest && s == row.selection) in
    let rest = flat_map (row_shares unit contest) votes in
    let mine : Share = (VotesIn unit contest row.selection, row.votes) in
    let here : Row = row_of unit contest row in
    chosen-sum b (λ (share : Share). share.1) mine (filter (λ (share : Share). same_counted (VotesIn u c s) share.0) rest)
    ∙ ap (λ n. cond b row.votes 0 + n) (rows-votes-in u c s unit contest votes)
    ∙ sym (chosen-sum b (λ (row : Row). row.votes) here _)

rows-over : (c unit contest : ℕ) (votes : List VoteRow)
    → filter (λ (share : Share). same_counted (Over c) share.0) (flat_map (row_shares unit contest) votes) ≡ []
rows-over c unit contest [] = refl
rows-over c unit contest (row ∷ votes) = rows-over c unit contest votes

rows-under : (c unit contest : ℕ) (votes : List VoteRow)
    → filter (λ (share : Share). same_counted (Under c) share.0) (flat_map (row_shares unit contest) votes) ≡ []
rows-under c unit contest [] = refl
rows-under c unit contest (row ∷ votes) = rows-under c unit contest votes

single : {X : Type 0} (b : Bool) (value : X → ℕ) (x : X) → sum_by value (cond b (x ∷ []) []) ≡ cond b (value x) 0
single true value x = omega arith
single false value x = refl

-- what the shares of a record come to
record-sum : (key : Counted) (one : CvrRecord)
    → sum_of key (record_shares one) ≡ sum_by (λ (counted : RecordContest). sum_of key (contest_shares one.unit counted)) one.contests
record-sum key one = sum-flat (contest_shares one.unit) (λ (share : Share). same_counted key share.0) (λ (share : Share). share.1) one.contests

pub sum-total : (records : List CvrRecord) (c s : ℕ) → sum_by (λ (one : CvrRecord). sum_of (Votes c s) (record_shares one)) records ≡ total_of records c s
unfolding total_of
sum-total records c s =
    sum-same _ _ of-record records ∙ sym (sum-flat record_rows (is_for c s) (λ (row : Row). row.votes) records)
  where
    of-record : (one : CvrRecord) → sum_of (Votes c s) (record_shares one) ≡ sum_by (λ (row : Row). row.votes) (filter (is_for c s) (record_rows one))
    of-record one =
        record-sum (Votes c s) one
        ∙ sum-same _ _ (λ counted. rows-votes c s one.unit counted.contest counted.votes) one.contests
        ∙ sym (sum-flat (contest_rows one.unit) (is_for c s) (λ (row : Row). row.votes) one.contests)

pub sum-total-in : (records : List CvrRecord) (u c s : ℕ)
    → sum_by (λ (one : CvrRecord). sum_of (VotesIn u c s) (record_shares one)) records ≡ total_in_of records u c s
unfolding total_in_of
sum-total-in records u c s =
    sum-same _ _ of-record records ∙ sym (sum-flat record_rows (is_for_in u c s) (λ (row : Row). row.votes) records)
  where
    of-record : (one : CvrRecord) → sum_of (VotesIn u c s) (record_shares one) ≡ sum_by (λ (row : Row). row.votes) (filter (is_for_in u c s) (record_rows one))
    of-record one =
        record-sum (VotesIn u c s) one
        ∙ sum-same _ _ (λ counted. rows-votes-in u c s one.unit counted.contest counted.votes) one.contests
        ∙ sym (sum-flat (contest_rows one.unit) (is_for_in u c s) (λ (row : Row). row.votes) one.contests)

pub sum-over : (records : List CvrRecord) (c : ℕ) → sum_by (λ (one : CvrRecord). sum_of (Over c) (record_shares one)) records ≡ over_of records c
unfolding over_of
sum-over records c =
    sum-same _ _ of-record records ∙ sym (sum-flat (λ (one : CvrRecord). one.contests) (λ (counted : RecordContest). c == counted.contest)
    (λ (counted : RecordContest). counted.over) records)
  where
    of-contest : (unit : ℕ) (counted : RecordContest) → sum_of (Over c) (contest_shares unit counted) ≡ cond (c == counted.contest) counted.over 0
    of-contest unit counted =
        let mine : Share = (Over counted.contest, counted.over) in
        ap (λ (rest : List Share). sum_by (λ (share : Share). share.1) (cond (c == counted.contest) (mine ∷ rest) rest))
        (rows-over c unit counted.contest counted.votes)
        ∙ single (c == counted.contest) (λ (share : Share). share.1) mine

    of-record : (one : CvrRecord)
        → sum_of (Over c) (record_shares one)
        ≡ sum_by (λ (counted : RecordContest). counted.over) (filter (λ (counted : RecordContest). c == counted.contest) one.contests)
    of-record one =
        record-sum (Over c) one ∙ sum-same _ _ (of-contest one.unit) one.contests
        ∙ sym (sum-filter (λ (counted : RecordContest). c == counted.contest) (λ (counted : RecordContest). counted.over) one.contests)

pub sum-under : (records : List CvrRecord) (c : ℕ) → sum_by (λ (one : CvrRecord). sum_of (Under c) (record_shares one)) records ≡ under_of records c
unfolding under_of
sum-under records c =
    sum-same _ _ of-record records ∙ sym (sum-flat (λ (one : CvrRecord). one.contests) (λ (counted : RecordContest). c == counted.contest)
    (λ (counted : RecordContest). counted.under) records)
  where
    of-contest : (unit : ℕ) (counted : RecordContest) → sum_of (Under c) (contest_shares unit counted) ≡ cond (c == counted.contest) counted.under 0
    of-contest unit counted =
        let mine : Share = (Under counted.contest, counted.under) in
        ap (λ (rest : List Share). sum_by (λ (share : Share). share.1) (cond (c == counted.contest) (mine ∷ rest) rest))
        (rows-under c unit counted.contest counted.votes)
        ∙ single (c == counted.contest) (λ (share : Share). share.1) mine

    of-record : (one : CvrRecord)
        → sum_of (Under c) (record_shares one)
        ≡ sum_by (λ (counted : RecordContest). counted.under) (filter (λ (counted : RecordContest). c == counted.contest) one.contests)
    of-record one =
        record-sum (Under c) one ∙ sum-same _ _ (of-contest one.unit) one.contests
        ∙ sym (sum-filter (λ (counted : RecordContest). c == counted.contest) (λ (counted : RecordContest). counted.under) one.contests)
