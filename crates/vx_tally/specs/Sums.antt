-- What a tally keeps sums of: each number of a record is a share of one or two sums.
use Rattle.std.specs.Prelude.{◌≡◌, ℕ, ◌+◌, ◌-◌, ◌<◌, ◌≤◌, ◌^◌, ◌&&◌, ◌==◌, Bool, false, All, List, [], ◌∷◌, length, filter, sum_by}
use Rattle.std.specs.List.{flat_map}
use Rattle.std.specs.Option.{unwrap_or}
use Rattle.indexmap.specs.IndexMap.{IndexMap, get, spare}
use Rattle.vx_tally.specs.declared.report.CvrRecord.{CvrRecord}
use Rattle.vx_tally.specs.declared.report.RecordContest.{RecordContest}
use Rattle.vx_tally.specs.declared.report.VoteRow.{VoteRow}
use Rattle.vx_tally.specs.declared.sums.Counted.{Counted}
use Rattle.vx_tally.specs.declared.sums.Counted.TheVariants.{Votes, VotesIn, Over, Under}
use Rattle.vx_tally.specs.declared.sums.Change.{Change}
use Rattle.vx_tally.specs.declared.sums.Change.TheVariants.{Raise, Lower}
use Rattle.vx_tally.specs.Totals.{IsCountable, record_count_limit}

-- the same sum
abbrev pub same_counted : Counted → Counted → Bool
same_counted (Votes c s) (Votes d t) = c == d && s == t
same_counted (VotesIn u c s) (VotesIn v d t) = u == v && (c == d && s == t)
same_counted (Over c) (Over d) = c == d
same_counted (Under c) (Under d) = c == d
same_counted one other = false

-- a number, and the sum that it is a share of
abbrev pub Share : Type 0
Share = Counted × ℕ

-- the shares of votes for a selection
abbrev pub row_shares : ℕ → ℕ → VoteRow → List Share
row_shares unit contest row = (Votes contest row.selection, row.votes) ∷ (VotesIn unit contest row.selection, row.votes) ∷ []

-- the shares of a contest of a record
abbrev pub contest_shares : ℕ → RecordContest → List Share
contest_shares unit counted =
    (Over counted.contest, counted.over) ∷ (Under counted.contest, counted.under) ∷ flat_map (row_shares unit counted.contest) counted.votes

-- the shares of a record
abbrev pub record_shares : CvrRecord → List Share
record_shares one = flat_map (contest_shares one.unit) one.contests

-- the sum of the shares of one
abbrev pub sum_of : Counted → List Share → ℕ
sum_of key shares = sum_by (λ (share : Share). share.1) (filter (λ (share : Share). same_counted key share.0) shares)

-- a number behind another, or what is left without it
abbrev pub changed_by : Change → ℕ → ℕ → ℕ
changed_by Raise before number = before + number
changed_by Lower before number = before - number

module _ {S : Type 0} where
  -- a sum that is kept
  abbrev pub sum_at : IndexMap Counted ℕ S → Counted → ℕ
  sum_at sums key = unwrap_or (get same_counted sums key) 0

  -- the shares can be added, or taken away
  abbrev pub Allows : Change → List Share → IndexMap Counted ℕ S → Type 0
  Allows Raise shares sums = (length shares ≤ spare sums) × ((key : Counted) → sum_at sums key + sum_of key shares < 2 ^ 64)
  Allows Lower shares sums = (key : Counted) → sum_of key shares ≤ sum_at sums key

  -- the shares were added, or taken away
  abbrev pub IsChanged : Change → List Share → IndexMap Counted ℕ S → IndexMap Counted ℕ S → Type 0
  IsChanged Raise shares old new = (spare old ≤ spare new + length shares) × ((key : Counted) → sum_at new key ≡ sum_at old key + sum_of key shares)
  IsChanged Lower shares old new = (key : Counted) → sum_at old key ≡ sum_at new key + sum_of key shares

  -- what is kept are the sums over those records
  pub record IsSummed (records : List CvrRecord) (sums : IndexMap Counted ℕ S) : Type 0 where
    pub few : length records ≤ record_count_limit
    pub countable : All IsCountable records
    pub sums_are : (key : Counted) → sum_at sums key ≡ sum_by (λ (one : CvrRecord). sum_of key (record_shares one)) records
