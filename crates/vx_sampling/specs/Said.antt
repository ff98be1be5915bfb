-- What the record and the hand say of the selections of a contest on one ballot, and by how much the record overstates
-- the margin (P. B. Stark, Super-Simple Simultaneous Single-Ballot Risk-Limiting Audits, 2010).
use Rattle.std.specs.Prelude.{ℕ, ◌+◌, ◌-◌, ◌==◌, ◌&&◌, ◌||◌, Bool, not, if◌then◌else◌, List, [], ◌∷◌, ◌++◌, length, map, fold, nat_lt, nat_le, min, max}
use Rattle.std.specs.List.{flat_map, list_any}
use Rattle.vx_tally.specs.declared.report.CvrRecord.{CvrRecord}
use Rattle.vx_tally.specs.Totals.{total_of}
use Rattle.vx_sampling.specs.declared.said.Said.{Said}

-- a hand's votes for a selection: one where it is marked, but none for any where more are marked than there are seats
abbrev pub hand_votes : ℕ → List ℕ → ℕ → ℕ
hand_votes seats marks selection =
    if nat_le (length marks) seats && list_any (λ mark. selection == mark) marks then 1 else 0

-- what a record and a line of the hand say of a selection of the contest at a place
abbrev pub said_of : CvrRecord → ℕ → ℕ → List ℕ → ℕ → Said
said_of one contest seats marks selection = record {
  counted = total_of (one ∷ []) contest selection;
  read = hand_votes seats marks selection;
}

-- by how many votes the record overstates a winner's lead over a loser, not below 0
abbrev pub overstated : Said → Said → ℕ
overstated winner loser = (winner.counted + loser.read) - (winner.read + loser.counted)

-- the hand has a vote there, and the record has none
abbrev pub is_missed : Said → Bool
is_missed said = said.counted == 0 && nat_lt 0 said.read

-- all slots as one loser: of what they say, a vote that the record hasn't is all that counts
abbrev pub as_one : List Said → Said
as_one slots = record { counted = 0; read = if list_any is_missed slots then 1 else 0 }

-- the slots are one more loser where there are slots; where there is no loser at all, a winner is held against no votes
abbrev pub slots_count : {X : Type 0} → List X → List X → Bool
slots_count losers slots = length losers == 0 || not (length slots == 0)

abbrev pub rivals_of : List Said → List Said → List Said
rivals_of losers slots = if slots_count losers slots then losers ++ as_one slots ∷ [] else losers

-- the greatest over all pairs of a winner and a rival, and 2 where it is more
abbrev pub overstatement : List Said → List Said → ℕ
overstatement winners rivals = min 2 (fold max 0 (flat_map (λ winner. map (overstated winner) rivals) winners))
