-- The data hold no number with a fraction.
use Rattle.std.proofs.Common.{◌≡◌, ℕ, Bool, true, false, ◌||◌, ◌==◌, cond, List, [], ◌∷◌, ◌++◌, length, map, refl}
use Rattle.std.specs.Prelude.{Option, None, Some, slice_index_or}
use Rattle.std.specs.List.{flat_map, range_with_len}
use Rattle.std.proofs.lemmas.Bool.{true≢false}
use Rattle.serde_json.specs.Data.{Data}
use Rattle.serde_json.specs.View.{items_of}
use Rattle.serde_json.specs.Written.{has_float, items_have_float}
use Rattle.vx_election_model.specs.declared.contest.Contest.{Contest}
use Rattle.vx_election_model.specs.declared.election.Election.{Election}
use Rattle.vx_election_model.specs.declared.reason.Reason.{Reason}
use Rattle.vx_election_model.specs.declared.reason.Reason.TheVariants.{Overvote, Undervote, MarginalMark, BlankBallot, WriteIn}
use Rattle.vx_election_model.specs.declared.reason.ReasonSet.{ReasonSet}
use Rattle.vx_election_model.specs.Reasons.{has_reason}
use Rattle.vx_rules.specs.declared.marks.ContestMarks.{ContestMarks}
use Rattle.vx_rules.specs.Reasons.{reasons_of, reason_word}
use Rattle.vx_events.specs.declared.event.Event.{Event}
use Rattle.vx_events.specs.declared.key.Key.{Key}
use Rattle.vx_center.specs.Holders.{holder_of}
use Rattle.vx_desk.specs.declared.region.Region.{Region}
use Rattle.vx_markup.specs.Json.{described, text, whole}
use Rattle.vx_desk.specs.Shown.{Shown, bubble_at, score_at, state_at}
use Rattle.vx_desk.specs.Regions.{region_round}
use Rattle.vx_desk.specs.Contests as spec
use Rattle.vx_desk.specs.Lines as lines

-- values without floats
abbrev AreWhole : List Data → Type 0
AreWhole values = items_have_float (items_of values) ≡ false

both : (a b : Bool) → a ≡ false → b ≡ false → (a || b) ≡ false
both false b first second = second
both true b first second = absurd (true≢false first)

front : (a b : Bool) → (a || b) ≡ false → a ≡ false
front false b is = refl
front true b is = absurd (true≢false is)

back : (a b : Bool) → (a || b) ≡ false → b ≡ false
back false b is = is
back true b is = absurd (true≢false is)

joined : (xs ys : List Data) → AreWhole xs → AreWhole ys → AreWhole (xs ++ ys)
joined [] ys first second = second
joined (x ∷ xs) ys first second =
    let rest : Bool = items_have_float (items_of xs) in
    both (has_float x) (items_have_float (items_of (xs ++ ys))) (front (has_float x) rest first) (joined xs ys (back (has_float x) rest first) second)

made : {X : Type 0} (make : X → Data) (xs : List X) → ((x : X) → has_float (make x) ≡ false) → AreWhole (map make xs)
made make [] each = refl
made make (x ∷ xs) each = both (has_float (make x)) (items_have_float (items_of (map make xs))) (each x) (made make xs each)

made_each : {X : Type 0} (make : X → List Data) (xs : List X) → ((x : X) → AreWhole (make x)) → AreWhole (flat_map make xs)
made_each make [] each = refl
made_each make (x ∷ xs) each = joined (make x) (flat_map make xs) (each x) (made_each make xs each)

option_at : (contest : Contest) (number : ℕ) (shown : Shown) (region : Region) (k : ℕ) → AreWhole (spec.option_at contest number shown region k)
option_at contest number shown region k = by ((bubble_at shown k).contest == number)
  where
    by : (b : Bool) → AreWhole (cond b (spec.option_of contest shown region (bubble_at shown k) (score_at shown k) (state_at shown k) ∷ []) [])
    by true = refl
    by false = refl

reason_if : (set : ReasonSet) (reason : Reason) → AreWhole (spec.reason_if set reason)
reason_if set reason = by (has_reason set reason)
  where
    by : (b : Bool) → AreWhole (cond b (text (reason_word reason) ∷ []) [])
    by true = refl
    by false = refl

contest_in : (contest : Contest) (number : ℕ) (set : ReasonSet) (shown : Shown) → has_float (spec.contest_in contest number set shown) ≡ false
contest_in contest number set shown =
    let region : Region = region_round contest number shown in
    both (items_have_float (items_of (spec.options_of contest number shown region))) _
    (made_each (spec.option_at contest number shown region) (range_with_len 0 (length shown.bubbles)) (option_at contest number shown region))
    (both (items_have_float (items_of (spec.reason_texts set))) _
    (made_each (spec.reason_if set) (Overvote ∷ Undervote ∷ MarginalMark ∷ BlankBallot ∷ WriteIn ∷ []) (reason_if set))
    refl)

pub contest_data : (election : Election) (blank : Bool) (marks : ContestMarks) (shown : Shown) → has_float (spec.contest_data election blank marks shown) ≡ false
unfolding spec.contest_data
contest_data election blank marks shown =
    let contest : Contest = slice_index_or election.contests marks.contest spec.no_contest in
    contest_in contest marks.contest (reasons_of contest marks.states blank election.reasons) shown

holder : (held : Option ℕ) → has_float (lines.holder_data held) ≡ false
holder None = refl
holder (Some station) = refl

pub behind : (kept : List Event) (key : Key) (scan : List ℕ) → has_float (described (lines.behind_contests kept key scan)) ≡ false
behind kept key scan = both (has_float (lines.holder_data (holder_of kept key))) _ (holder (holder_of kept key)) refl

pub differing : (kept : List Event) (key : Key) (scan : List ℕ) → has_float (lines.differing_data kept key scan) ≡ false
differing kept key scan = behind kept key scan

-- a sum of what is left over
pub left_data : (numbers : List ℕ) (waiting : ℕ) → has_float (lines.left_data (map whole numbers) waiting) ≡ false
left_data numbers waiting = both (items_have_float (items_of (map whole numbers))) _ (made whole numbers (λ n. refl)) refl
