-- Where the lines of a ballot and a contest stand, and the contests of which there are lines.
use Rattle.std.specs.Prelude.{◌≡◌, ◌<◌, ◌^◌, ℕ, true, ◌||◌, ◌==◌, Bool, List, ◌++◌, Contains, Option}
use Rattle.std.specs.BTreeMap.{BTreeMap, get}
use Rattle.std.specs.List.{list_any, position_from}
use Rattle.std.specs.List.Sorted.{IsStrictlySortedBy}
use Rattle.std.specs.Ordering.{nat_cmp, ordering_then}
use Rattle.std.specs.declared.cmp.Ordering.{Ordering}
use Rattle.vx_tally.specs.declared.report.CvrRecord.{CvrRecord}
use Rattle.vx_tally.specs.declared.report.RecordContest.{RecordContest}
use Rattle.vx_audit.specs.declared.hand.HandLine.{HandLine}
use Rattle.vx_audit.specs.Hand.{is_for}

-- a ballot and a contest, by the ballots and then by the contests
abbrev pub key_cmp : ℕ × ℕ → ℕ × ℕ → Ordering
key_cmp x y = ordering_then (nat_cmp x.0 y.0) (nat_cmp x.1 y.1)

-- the place of the line of a ballot and a contest
abbrev pub place_for : List HandLine → ℕ × ℕ → Option ℕ
place_for lines key = position_from (is_for key.0 key.1) 0 lines

-- each line is found
pub record AreFound (lines : List HandLine) (places : BTreeMap (ℕ × ℕ) ℕ) : Type 0 where
  pub at : (key : ℕ × ℕ) → get key_cmp places key ≡ place_for lines key

-- contests are added, among them all of which there are lines of the ballot
pub record AddsContests (lines : List HandLine) (ballot : ℕ) (old new : List ℕ) : Type 0 where
  pub added : List ℕ
  pub behind : new ≡ old ++ added
  pub has : (contest : ℕ) → contest < 2 ^ 32 → list_any (is_for ballot contest) lines ≡ true → Contains added contest

-- a contest that the record has, or of which there is a line of the ballot
abbrev pub is_looked_at : List HandLine → ℕ → CvrRecord → ℕ → Bool
is_looked_at lines ballot one contest =
    list_any (λ (counted : RecordContest). contest == counted.contest) one.contests || list_any (is_for ballot contest) lines

-- contests in order and each once, among them all that are looked at
pub record AreLookedAt (lines : List HandLine) (ballot : ℕ) (one : CvrRecord) (contests : List ℕ) : Type 0 where
  pub ordered : IsStrictlySortedBy nat_cmp contests
  pub has : (contest : ℕ) → contest < 2 ^ 32 → is_looked_at lines ballot one contest ≡ true → Contains contests contest
