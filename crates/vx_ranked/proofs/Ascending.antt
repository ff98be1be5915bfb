-- Exported contests in ascending order: each stands once.
use Rattle.std.proofs.Common.{◌≡◌, ◌+◌, ◌≤◌, ◌&&◌, ℕ, zero, suc, Bool, true, false, cond, List, [], ◌∷◌, ◌++◌, map, nat_le, Option, Some, None, refl, ap, ap₂, ◌∙◌, arith}
use Rattle.std.specs.Prelude.{slice_get}
use Rattle.std.specs.List.{flat_map}
use Rattle.vx_base.proofs.Booleans.{and-left, and-right}
use Rattle.vx_base.proofs.Numbers.{at_most-from_yes, at_most-yes, equal-no, equal-yes}
use Rattle.vx_election_model.specs.declared.contest.Contest.{Contest}
use Rattle.vx_election_model.specs.declared.election.Election.{Election}
use Rattle.vx_rules.specs.declared.marks.ContestMarks.{ContestMarks}
use Rattle.vx_rules.specs.Reasons.{is_blank_sheet}
use Rattle.vx_events.specs.declared.decision.Decision.{Decision}
use Rattle.vx_events.specs.declared.event.Event.{Event}
use Rattle.vx_events.specs.Ascending.{ascends_from}
use Rattle.vx_events.specs.Fits.{contests_of, is_sheet}
use Rattle.vx_center.specs.declared.decided.Decided.{Decided}
use Rattle.vx_center.specs.declared.rows.Final.{Final}
use Rattle.vx_center.specs.Decisions.{decided_of, decisions_on}
use Rattle.vx_center.specs.Exports.{final_in, final_if_exported}
use Rattle.vx_center.specs.Sheets.{Added}
use Rattle.vx_center.specs.Waiting.{exports_by}
use Rattle.vx_ranked.specs.Rankings.{are_ascending, final_on, finals_of}
use Rattle.vx_ranked.proofs.Marked.{sheet-ascends}

abbrev places : List Final → List ℕ
places finals = map (λ (one : Final). one.contest) finals

-- none stands before the first
none_before : (finals : List Final) (least i : ℕ) (one : Final) → ascends_from least (places finals) ≡ true → slice_get finals i ≡ Some one
    → least ≤ one.contest
none_before [] least i one ascends at = absurd cc
none_before (first ∷ finals) least zero one ascends at =
    let same : first ≡ one = cc in
    let is : first.contest ≡ one.contest = ap (λ (f : Final). f.contest) same in
    let above = at_most-from_yes least first.contest (and-left (nat_le least first.contest) (ascends_from (first.contest + 1) (places finals)) ascends) in
    omega (arith, above, is)
none_before (first ∷ finals) least (suc i) one ascends at =
    let above = at_most-from_yes least first.contest (and-left (nat_le least first.contest) (ascends_from (first.contest + 1) (places finals)) ascends) in
    let later = none_before finals (first.contest + 1) i one
    (and-right (nat_le least first.contest) (ascends_from (first.contest + 1) (places finals)) ascends) at in
    omega (arith, above, later)

found_from : (finals : List Final) (least i : ℕ) (one : Final) → ascends_from least (places finals) ≡ true → slice_get finals i ≡ Some one
    → final_on finals one.contest ≡ Some one
found_from [] least i one ascends at = absurd cc
found_from (first ∷ finals) least zero one ascends at =
    let same : first ≡ one = cc in
    ap (λ (b : Bool). cond b (Some first) (final_on finals one.contest)) (equal-yes first.contest one.contest (ap (λ (f : Final). f.contest) same))
    ∙ ap Some same
found_from (first ∷ finals) least (suc i) one ascends at =
    let rest = and-right (nat_le least first.contest) (ascends_from (first.contest + 1) (places finals)) ascends in
    let later = none_before finals (first.contest + 1) i one rest at in
    ap (λ (b : Bool). cond b (Some first) (final_on finals one.contest))
    (equal-no first.contest one.contest (λ same. omega (arith, same, later)))
    ∙ found_from finals (first.contest + 1) i one rest at

-- so the one at a place is the one that is found
pub found-at : (finals : List Final) (i : ℕ) (one : Final) → are_ascending finals ≡ true → slice_get finals i ≡ Some one
    → final_on finals one.contest ≡ Some one
found-at finals i one ascends at = found_from finals 0 i one ascends at

-- what ascends from a number ascends from a lower one
from_lower : (numbers : List ℕ) (least more : ℕ) → least ≤ more → ascends_from more numbers ≡ true → ascends_from least numbers ≡ true
from_lower [] least more low ascends = refl
from_lower (number ∷ numbers) least more low ascends =
    let above = at_most-from_yes more number (and-left (nat_le more number) (ascends_from (number + 1) numbers) ascends) in
    ap₂ (λ (a b : Bool). a && b) (at_most-yes least number (omega (arith, low, above)))
    (and-right (nat_le more number) (ascends_from (number + 1) numbers) ascends)

-- the exported contests of a sheet stand in the order of its contests
module _ (election : Election) (blank : Bool) (decided : List Decided) where
  abbrev exported : ContestMarks → List Final
  exported marks = final_if_exported election blank decided marks

  one_ascends : (marks : ContestMarks) (decisions : List Decision) (least : ℕ) (more : List Final) (b : Bool) (found : Option Contest) → least ≤ marks.contest
      → ascends_from (marks.contest + 1) (places more) ≡ true → ascends_from least (places (cond b (final_in marks decisions found) [] ++ more)) ≡ true
  one_ascends marks decisions least more true (Some contest) low ascends = ap₂ (λ (a b : Bool). a && b) (at_most-yes least marks.contest low) ascends
  one_ascends marks decisions least more true None low ascends = from_lower (places more) least (marks.contest + 1) (omega (arith, low)) ascends
  one_ascends marks decisions least more false found low ascends = from_lower (places more) least (marks.contest + 1) (omega (arith, low)) ascends

  all_ascend : (list : List ContestMarks) (least : ℕ) → ascends_from least (contests_of list) ≡ true
      → ascends_from least (places (flat_map exported list)) ≡ true
  all_ascend [] least ascends = refl
  all_ascend (marks ∷ list) least ascends =
      one_ascends marks (decisions_on marks.contest decided) least (flat_map exported list) (exports_by election blank decided marks)
      (slice_get election.contests marks.contest)
      (at_most-from_yes least marks.contest (and-left (nat_le least marks.contest) (ascends_from (marks.contest + 1) (contests_of list)) ascends))
      (all_ascend list (marks.contest + 1) (and-right (nat_le least marks.contest) (ascends_from (marks.contest + 1) (contests_of list)) ascends))

pub finals-ascend : (election : Election) (kept : List Event) (added : Added) → is_sheet election added.sheet ≡ true
    → are_ascending (finals_of election kept added) ≡ true
finals-ascend election kept added fits =
    all_ascend election (is_blank_sheet added.sheet) (decided_of kept added.key) added.sheet.contests 0 (sheet-ascends election added.sheet fits)
