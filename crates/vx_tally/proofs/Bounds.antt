-- How many shares there are, how much they can come to, and the sums behind a record more or less.
use Rattle.std.proofs.Common.{◌≡◌, ℕ, suc, ◌+◌, ◌*◌, ◌<◌, ◌≤◌, Bool, true, false, cond, All, List, [], ◌∷◌, ◌++◌, length, filter, take, drop, refl, ap, arith, length-append}
use Rattle.std.specs.Prelude.{sum_by, remove}
use Rattle.std.specs.Option.{unwrap_or}
use Rattle.std.specs.Map.{lookup}
use Rattle.indexmap.specs.IndexMap.{IndexMap, spare}
use Rattle.std.specs.List.{flat_map}
use Rattle.std.proofs.lemmas.List.Sums.{sum_by-append}
use Rattle.std.proofs.lemmas.List.Edits.{length-remove}
use Rattle.std.proofs.lemmas.List.Elements.{All-head, All-tail, All-push, All-append, All-take, All-drop}
use Rattle.vx_tally.specs.declared.report.CvrRecord.{CvrRecord}
use Rattle.vx_tally.specs.declared.report.RecordContest.{RecordContest}
use Rattle.vx_tally.specs.declared.report.VoteRow.{VoteRow}
use Rattle.vx_tally.specs.declared.sums.Counted.{Counted}
use Rattle.vx_tally.specs.declared.sums.Counted.TheVariants.{Votes, VotesIn, Over, Under}
use Rattle.vx_tally.specs.Totals.{size_of, IsSmall, IsCountable, record_count_limit}
use Rattle.vx_tally.specs.Sums.{Share, same_counted, row_shares, contest_shares, record_shares, sum_of, sum_at, Allows, IsChanged, IsSummed}
use Rattle.vx_tally.specs.declared.sums.Change.TheVariants.{Raise, Lower}
use Rattle.vx_tally.proofs.Summed.{sum-cons, chosen-sum}

rows-length : (unit contest : ℕ) (votes : List VoteRow) → length (flat_map (row_shares unit contest) votes) ≡ 2 * length votes
rows-length unit contest [] = refl
rows-length unit contest (row ∷ votes) = omega (arith, rows-length unit contest votes)

contests-length : (unit : ℕ) (contests : List RecordContest)
    → length (flat_map (contest_shares unit) contests) ≡ 2 * sum_by (λ (counted : RecordContest). 1 + length counted.votes) contests
contests-length unit [] = refl
contests-length unit (counted ∷ contests) =
    omega (
      arith,
      length-append (contest_shares unit counted) (flat_map (contest_shares unit) contests),
      rows-length unit counted.contest counted.votes,
      contests-length unit contests,
      sum-cons (λ (counted : RecordContest). 1 + length counted.votes) counted contests,
    )

-- a record has two shares for each contest and each row
pub shares-length : (one : CvrRecord) → length (record_shares one) ≡ 2 * size_of one
shares-length one = contests-length one.unit one.contests

cond-most : (b : Bool) (n : ℕ) → cond b n 0 ≤ n
cond-most true n = omega arith
cond-most false n = omega arith

-- what passes comes to no more than all
pub filter-most : {X : Type 0} (test : X → Bool) (value : X → ℕ) (xs : List X) → sum_by value (filter test xs) ≤ sum_by value xs
filter-most test value [] = omega arith
filter-most test value (x ∷ xs) =
    omega (arith, chosen-sum (test x) value x (filter test xs), cond-most (test x) (value x), filter-most test value xs, sum-cons value x xs)

rows-most : (unit contest : ℕ) (votes : List VoteRow) → All (λ (row : VoteRow). row.votes ≤ 50) votes
    → sum_by (λ (share : Share). share.1) (flat_map (row_shares unit contest) votes) ≤ 100 * length votes
rows-most unit contest [] small = omega arith
rows-most unit contest (row ∷ votes) small =
    let value : Share → ℕ = λ share. share.1 in
    let rest = flat_map (row_shares unit contest) votes in
    let first : Share = (Votes contest row.selection, row.votes) in
    let second : Share = (VotesIn unit contest row.selection, row.votes) in
    omega (
      arith,
      sum-cons value first (second ∷ rest),
      sum-cons value second rest,
      rows-most unit contest votes
          (All-tail (λ (row : VoteRow). row.votes ≤ 50) row votes small),
      All-head (λ (row : VoteRow). row.votes ≤ 50) row votes small,
    )

contests-most : (unit : ℕ) (contests : List RecordContest) → All IsSmall contests
    → sum_by (λ (share : Share). share.1) (flat_map (contest_shares unit) contests)
    ≤ 100 * sum_by (λ (counted : RecordContest). 1 + length counted.votes) contests
contests-most unit [] small = omega arith
contests-most unit (counted ∷ contests) small =
    let value : Share → ℕ = λ share. share.1 in
    let rows = flat_map (row_shares unit counted.contest) counted.votes in
    let over : Share = (Over counted.contest, counted.over) in
    let under : Share = (Under counted.contest, counted.under) in
    let mine = All-head IsSmall counted contests small in
    omega (
      arith,
      sum_by-append value (contest_shares unit counted) (flat_map (contest_shares unit) contests),
      sum-cons value over (under ∷ rows),
      sum-cons value under rows,
      mine.0,
      mine.1,
      rows-most unit counted.contest counted.votes mine.2,
      contests-most unit contests (All-tail IsSmall counted contests small),
      sum-cons (λ (counted : RecordContest). 1 + length counted.votes) counted contests,
    )

-- a record that can be added raises no sum by more than so much
pub record-most : (key : Counted) (one : CvrRecord) → IsCountable one → sum_of key (record_shares one) ≤ 1000000000
record-most key one countable =
    omega (
      arith,
      filter-most (λ (share : Share). same_counted key share.0) (λ (share : Share). share.1) (record_shares one),
      contests-most one.unit one.contests countable.small,
      countable.size,
    )

-- and records no sum above so much for each
pub records-most : (key : Counted) (records : List CvrRecord) → All IsCountable records
    → sum_by (λ (one : CvrRecord). sum_of key (record_shares one)) records ≤ 1000000000 * length records
records-most key [] countable = omega arith
records-most key (one ∷ records) countable =
    omega (
      arith,
      sum-cons (λ (one : CvrRecord). sum_of key (record_shares one)) one records,
      record-most key one (All-head IsCountable one records countable),
      records-most key records (All-tail IsCountable one records countable),
    )

module _ {S : Type 0} where
  -- the sums behind one record more
  pub summed-more : (records : List CvrRecord) (one : CvrRecord) (old room new : IndexMap Counted ℕ S) → IsSummed records old
      → length records < record_count_limit → IsCountable one → room.entries ≡ old.entries
      → IsChanged Raise (record_shares one) room new → IsSummed (records ++ one ∷ []) new
  summed-more records one old room new is few countable same changed = record {
    few = omega (arith, few, length-append records (one ∷ []));
    countable = All-push IsCountable records one is.countable countable;
    sums_are = λ key.
        let was : sum_at room key ≡ sum_at old key = ap (λ (entries : List (Counted × ℕ)). unwrap_or (lookup (same_counted key) entries) 0) same in
        let own : CvrRecord → ℕ = λ one. sum_of key (record_shares one) in
        omega (arith, changed.1 key, was, is.sums_are key, sum_by-append own records (one ∷ []), sum-cons own one []);
  }

  -- a record that can be added can be
  pub allows-more : (records : List CvrRecord) (one : CvrRecord) (old room : IndexMap Counted ℕ S) → IsSummed records old
      → length records < record_count_limit → IsCountable one → room.entries ≡ old.entries
      → 2 * size_of one ≤ spare room → Allows Raise (record_shares one) room
  allows-more records one old room is few countable same free = (
    omega (arith, free, shares-length one),
    λ key.
        let was : sum_at room key ≡ sum_at old key = ap (λ (entries : List (Counted × ℕ)). unwrap_or (lookup (same_counted key) entries) 0) same in
        omega (arith, was, is.sums_are key, records-most key records is.countable, record-most key one countable, few),
  )

-- the sums without a record
module _ (records : List CvrRecord) (place : ℕ) (gone : CvrRecord) (lt : place < length records)
    (left : (own : CvrRecord → ℕ) → sum_by own (remove records place) + own gone ≡ sum_by own records) where
  pub allows-less : {S : Type 0} (old : IndexMap Counted ℕ S) → IsSummed records old → Allows Lower (record_shares gone) old
  allows-less old is = λ key. omega (arith, left (λ (one : CvrRecord). sum_of key (record_shares one)), is.sums_are key)

  pub summed-less : {S : Type 0} (old new : IndexMap Counted ℕ S) → IsSummed records old → IsChanged Lower (record_shares gone) old new
      → IsSummed (remove records place) new
  summed-less old new is changed = record {
    few = omega (arith, is.few, length-remove records place lt);
    countable =
        All-append IsCountable (take place records) (drop (suc place) records) (All-take IsCountable place records is.countable)
        (All-drop IsCountable (suc place) records is.countable);
    sums_are = λ key. omega (arith, left (λ (one : CvrRecord). sum_of key (record_shares one)), is.sums_are key, changed key);
  }
