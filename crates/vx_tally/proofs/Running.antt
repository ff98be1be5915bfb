-- Running sums are those of the records, with one more, and in any order.
use Rattle.std.proofs.Common.{◌≡◌, ℕ, ◌+◌, ◌*◌, ◌<◌, ◌≤◌, List, [], ◌∷◌, ◌++◌, length, refl, sym, ap, subst, ◌∙◌, arith, length-append}
use Rattle.std.specs.Prelude.{sum_by}
use Rattle.std.specs.List.Sorted.{IsPermutation}
use Rattle.std.specs.Map.{lookup}
use Rattle.std.specs.Option.{unwrap_or}
use Rattle.std.proofs.lemmas.List.Sorted.{length_permutation, sum_by-IsPermutation}
use Rattle.std.proofs.lemmas.List.Sums.{sum_by-append}
use Rattle.indexmap.specs.IndexMap.{IndexMap, spare}
use Rattle.vx_tally.specs.declared.report.CvrRecord.{CvrRecord}
use Rattle.vx_tally.specs.declared.sums.Counted.{Counted}
use Rattle.vx_tally.specs.declared.sums.Counted.TheVariants.{Votes, VotesIn, Over, Under}
use Rattle.vx_tally.specs.declared.sums.Change.TheVariants.{Raise}
use Rattle.vx_tally.specs.Laws.{SumsAreOfAnyOrder}
use Rattle.vx_tally.specs.Running.{AreBounded, Running, SumsUp, sum_in, summed_in}
use Rattle.vx_tally.specs.Sums.{Allows, IsChanged, record_shares, same_counted, sum_at, sum_of}
use Rattle.vx_tally.specs.Totals.{IsCountable, Summed, record_count_limit, size_of, summed_of, total_of, total_in_of, over_of, under_of}
use Rattle.vx_tally.proofs.Bounds.{record-most, shares-length}
use Rattle.vx_tally.proofs.Summed.{sum-cons, sum-over, sum-total, sum-total-in, sum-under}

-- the number of a record for a sum
abbrev own : Counted → CvrRecord → ℕ
own key one = sum_of key (record_shares one)

-- the sum of a key
abbrev told : Summed → Counted → ℕ
told summed (Votes c s) = summed.votes c s
told summed (VotesIn u c s) = summed.votes_in u c s
told summed (Over c) = summed.over c
told summed (Under c) = summed.under c

told-running : (running : Running) (key : Counted) → sum_in running.1 key ≡ told (summed_in running) key
unfolding summed_in
told-running running (Votes c s) = refl
told-running running (VotesIn u c s) = refl
told-running running (Over c) = refl
told-running running (Under c) = refl

told-records : (records : List CvrRecord) (key : Counted) → told (summed_of records) key ≡ sum_by (own key) records
told-records records (Votes c s) = sym (sum-total records c s)
told-records records (VotesIn u c s) = sym (sum-total-in records u c s)
told-records records (Over c) = sym (sum-over records c)
told-records records (Under c) = sym (sum-under records c)

-- what is kept for each key is what the records have together
sums-are : (records : List CvrRecord) (running : Running) → SumsUp records running → (key : Counted) → sum_in running.1 key ≡ sum_by (own key) records
sums-are records running up key = told-running running key ∙ ap (λ (summed : Summed). told summed key) up ∙ told-records records key

counts : (records : List CvrRecord) (running : Running) → SumsUp records running → running.0 ≡ length records
unfolding summed_in
counts records running up = ap (λ (summed : Summed). summed.count) up

-- and the other way round
sums-up : (records : List CvrRecord) (running : Running) → running.0 ≡ length records
    → ((key : Counted) → sum_in running.1 key ≡ sum_by (own key) records) → SumsUp records running
unfolding summed_in
sums-up records running count sums = λ i. record {
  count = count i;
  votes = λ c s. (sums (Votes c s) ∙ sum-total records c s) i;
  votes_in = λ u c s. (sums (VotesIn u c s) ∙ sum-total-in records u c s) i;
  over = λ c. (sums (Over c) ∙ sum-over records c) i;
  under = λ c. (sums (Under c) ∙ sum-under records c) i;
}

-- what is kept for a key, and how many records there were
module _ (count : ℕ) (sums : List (Counted × ℕ)) (running : Running) (is : (count, sums) ≡ running) where
  pub kept-count : count ≡ (summed_in running).count
  unfolding summed_in
  kept-count = ap (λ (one : Running). one.0) is

  pub kept-votes : (c s : ℕ) → sum_in sums (Votes c s) ≡ (summed_in running).votes c s
  unfolding summed_in
  kept-votes c s = ap (λ (one : Running). sum_in one.1 (Votes c s)) is

  pub kept-votes_in : (u c s : ℕ) → sum_in sums (VotesIn u c s) ≡ (summed_in running).votes_in u c s
  unfolding summed_in
  kept-votes_in u c s = ap (λ (one : Running). sum_in one.1 (VotesIn u c s)) is

  pub kept-over : (c : ℕ) → sum_in sums (Over c) ≡ (summed_in running).over c
  unfolding summed_in
  kept-over c = ap (λ (one : Running). sum_in one.1 (Over c)) is

  pub kept-under : (c : ℕ) → sum_in sums (Under c) ≡ (summed_in running).under c
  unfolding summed_in
  kept-under c = ap (λ (one : Running). sum_in one.1 (Under c)) is

-- no record
pub none-up : (sums : List (Counted × ℕ)) → sums ≡ [] → SumsUp [] (0, sums)
none-up sums none = sums-up [] (0, sums) refl (λ key. ap (λ (entries : List (Counted × ℕ)). sum_in entries key) none)

pub none-bounded : (sums : List (Counted × ℕ)) → sums ≡ [] → AreBounded (0, sums)
none-bounded sums none = record {
  each = λ key.
      let zero : sum_in sums key ≡ 0 = ap (λ (entries : List (Counted × ℕ)). sum_in entries key) none in
      omega (arith, zero);
}

-- one record more
module _ {S : Type 0} (one : CvrRecord) (count : ℕ) (old room new : IndexMap Counted ℕ S) (same : room.entries ≡ old.entries) where
  kept : (key : Counted) → sum_at room key ≡ sum_in old.entries key
  kept key = ap (λ (entries : List (Counted × ℕ)). sum_in entries key) same

  pub one-allows : AreBounded (count, old.entries) → count < record_count_limit → IsCountable one → 2 * size_of one ≤ spare room
      → Allows Raise (record_shares one) room
  one-allows bounded few countable free = (
    omega (arith, free, shares-length one),
    λ key. omega (arith, kept key, bounded.each key, record-most key one countable, few),
  )

  module _ (changed : IsChanged Raise (record_shares one) room new) where
    raised : (key : Counted) → sum_in new.entries key ≡ sum_in old.entries key + own key one
    raised key =
        let up : sum_in new.entries key ≡ sum_at room key + own key one = changed.1 key in
        omega (arith, up, kept key)

    pub one-bounded : AreBounded (count, old.entries) → IsCountable one → AreBounded (count + 1, new.entries)
    one-bounded bounded countable = record {
      each = λ key. omega (arith, raised key, bounded.each key, record-most key one countable);
    }

    pub one-up : (records : List CvrRecord) → SumsUp records (count, old.entries) → SumsUp (records ++ one ∷ []) (count + 1, new.entries)
    one-up records up =
        let counted : count ≡ length records = counts records (count, old.entries) up in
        sums-up (records ++ one ∷ []) (count + 1, new.entries) (omega (arith, counted, length-append records (one ∷ [])))
        (λ key.
        omega (
          arith,
          raised key,
          sums-are records (count, old.entries) up key,
          sum_by-append (own key) records (one ∷ []),
          sum-cons (own key) one [],
        ))

-- any order
module _ (one other : List CvrRecord) (moved : IsPermutation one other) where
  together : (key : Counted) → sum_by (own key) one ≡ sum_by (own key) other
  together key = sym (sum_by-IsPermutation (own key) one other moved)

  votes : (c s : ℕ) → total_of one c s ≡ total_of other c s
  votes c s = sym (sum-total one c s) ∙ together (Votes c s) ∙ sum-total other c s

  votes-in : (u c s : ℕ) → total_in_of one u c s ≡ total_in_of other u c s
  votes-in u c s = sym (sum-total-in one u c s) ∙ together (VotesIn u c s) ∙ sum-total-in other u c s

  over : (c : ℕ) → over_of one c ≡ over_of other c
  over c = sym (sum-over one c) ∙ together (Over c) ∙ sum-over other c

  under : (c : ℕ) → under_of one c ≡ under_of other c
  under c = sym (sum-under one c) ∙ together (Under c) ∙ sum-under other c

  count : length one ≡ length other
  count = omega (arith, length_permutation one other moved)

  same-summed : summed_of one ≡ summed_of other
  same-summed = λ i. record {
    count = count i;
    votes = λ c s. votes c s i;
    votes_in = λ u c s. votes-in u c s i;
    over = λ c. over c i;
    under = λ c. under c i;
  }

pub any-order : SumsAreOfAnyOrder
any-order one other moved = same-summed one other moved
