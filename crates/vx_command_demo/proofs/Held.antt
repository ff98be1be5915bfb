-- Contests that were read, and the reasons that hold of them.
use Rattle.std.proofs.Common.{◌≡◌, ◌==◌, ◌&&◌, ℕ, ◌<◌, ◌≤◌, ◌%◌, Bool, true, false, [], ◌∷◌, length, refl, sym, ap, ◌∙◌, arith}
use Rattle.std.specs.Prelude.{IfOk, Option, None, Some, Result, Ok, Err, slice_get, if◌then◌else◌}
use Rattle.std.specs.List.{range_with_len}
use Rattle.std.proofs.lemmas.Bool.{false≢true}
use Rattle.std.proofs.lemmas.Option.{get_or_from_slice_get, slice_get_within}
use Rattle.std.proofs.lemmas.List.FromFn.{length-range_with_len}
use Rattle.std.proofs.lemmas.Result.{IfOk-at_ok}
use Rattle.vx_base.proofs.Lists.{All-always, length-flat_map_le}
use Rattle.vx_base.proofs.Numbers.{equal-from_yes}
use Rattle.vx_election_model.specs.declared.contest.Contest.{Contest}
use Rattle.vx_election_model.specs.declared.election.Election.{Election}
use Rattle.vx_election_model.specs.declared.reason.Reason.{Reason}
use Rattle.vx_election_model.specs.declared.reason.Reason.TheVariants.{Overvote, Undervote, MarginalMark, BlankBallot, WriteIn}
use Rattle.vx_election_model.specs.Options.{options_of}
use Rattle.vx_events.specs.Fits.{has_options, is_read}
use Rattle.vx_layout.specs.Flow.{contest_at, no_contest}
use Rattle.vx_layout.specs.Plan.{plan_of}
use Rattle.vx_layout.specs.declared.plan.CardPlan.{CardPlan}
use Rattle.vx_rules.specs.declared.marks.ContestMarks.{ContestMarks}
use Rattle.vx_rules.specs.declared.marks.SheetMarks.{SheetMarks}
use Rattle.vx_rules.specs.Reasons.{is_enabled}
use Rattle.vx_scan_model.specs.declared.reading.PageReading.{PageReading}
use Rattle.vx_scan_model.specs.declared.fault.PageFault.{PageFault}
use Rattle.vx_sheet.specs.Came.{if_paired, plan_there, sheet_read}
use Rattle.vx_sheet.specs.Sheet.{alike_sheet, are_alike, are_facing, either_sheet, facing_sheet, is_on, marks_if_on, marks_of, sheet_of, sheet_with, contest_limit}
use Rattle.vx_sheet.specs.declared.fault.SheetFault.{SheetFault}

-- a contest that was read is there, with a state for each option
pub record IsThere (election : Election) (marks : ContestMarks) : Type 0 where
  pub there : marks.contest < length election.contests
  pub states : length marks.states ≡ options_of (contest_at election.contests marks.contest)

pub is-there : (election : Election) (marks : ContestMarks) → is_read election marks ≡ true → IsThere election marks
is-there election marks read = found (slice_get election.contests marks.contest) refl read
  where
    found : (at : Option Contest) → slice_get election.contests marks.contest ≡ at → has_options at (length marks.states) ≡ true → IsThere election marks
    found None is read = absurd (false≢true read)
    found (Some contest) is read = record {
      there = slice_get_within election.contests marks.contest contest is;
      states = sym (equal-from_yes (options_of contest) (length marks.states) read) ∙ ap options_of (sym (get_or_from_slice_get election.contests marks.contest contest no_contest is));
    }

pub all-enabled : (reason : Reason) → is_enabled (true ∷ true ∷ true ∷ true ∷ true ∷ []) reason ≡ true
all-enabled Overvote = refl
all-enabled Undervote = refl
all-enabled MarginalMark = refl
all-enabled BlankBallot = refl
all-enabled WriteIn = refl

pub and-true : (a b : Bool) → b ≡ true → (a && b) ≡ a
and-true true b is = is
and-true false b is = refl

-- a sheet has at most 500 contests
one-if-on : (plan : CardPlan) (front back : PageReading) (contest : ℕ) → length (marks_if_on plan front back contest) ≤ 1
one-if-on plan front back contest = chosen (is_on plan front back contest)
  where
    chosen : (b : Bool) → length (if b then marks_of plan front back contest ∷ [] else []) ≤ 1
    chosen true = omega arith
    chosen false = omega arith

few-with : (plan : CardPlan) (front back : PageReading) → length (sheet_with plan front back).contests ≤ 500
unfolding contest_limit
few-with plan front back =
    let most = length-flat_map_le (marks_if_on plan front back) 1 (range_with_len 0 500) (All-always (λ (contest : ℕ). length (marks_if_on plan front back contest) ≤ 1) (range_with_len 0 500) (one-if-on plan front back)) in
    omega (arith, most, length-range_with_len 0 500)

abbrev IsFew : SheetMarks → Type 0
IsFew sheet = length sheet.contests ≤ 500

either-few : (b : Bool) (x y : SheetMarks) → IsFew x → IsFew y → IsFew (if b then x else y)
either-few true x y few other = few
either-few false x y few other = other

unless-few : (b : Bool) (r : Result SheetMarks SheetFault) (e : SheetFault) → IfOk r IsFew → IfOk (if b then r else Err e) IsFew
unless-few true r e few = few
unless-few false r e few = tt

sheet-few : (plan : CardPlan) (front back : PageReading) → IfOk (sheet_of plan front back) IsFew
sheet-few plan front back =
    unless-few (front.code.card == back.code.card) (facing_sheet plan front back) _
    (unless-few (are_facing front.code.page back.code.page) (alike_sheet plan front back) _
    (unless-few (are_alike front.code back.code) (Ok (either_sheet plan front back)) _
    (either-few (front.code.page % 2 == 1) (sheet_with plan front back) (sheet_with plan back front) (few-with plan front back) (few-with plan back front))))

paired-few : (r : Result SheetMarks SheetFault) → IfOk r IsFew → IfOk (if_paired r) IsFew
paired-few (Ok sheet) few = few
paired-few (Err fault) few = tt

read-few : (election : Election) (front back : Result PageReading PageFault) → IfOk (sheet_read election 1 front back) IsFew
read-few election (Err fault) back = tt
read-few election (Ok front) (Err fault) = tt
read-few election (Ok front) (Ok back) = paired-few (sheet_of (plan_there front.code.card (plan_of election front.code.card)) front back) (sheet-few (plan_there front.code.card (plan_of election front.code.card)) front back)

pub few-read : (election : Election) (front back : Result PageReading PageFault) (sheet : SheetMarks) → sheet_read election 1 front back ≡ Ok sheet → length sheet.contests ≤ 500
few-read election front back sheet is = IfOk-at_ok IsFew is (read-few election front back)
