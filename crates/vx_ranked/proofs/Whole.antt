-- Sheets of which as many contests are exported as they have: none of them waits.
use Rattle.std.proofs.Common.{◌≡◌, ◌<◌, ◌≤◌, ◌==◌, ◌&&◌, ℕ, zero, suc, Bool, true, false, cond, List, [], ◌∷◌, ◌++◌, length, length-append, get_or, Option, Some, None, refl, ap, ◌∙◌, arith}
use Rattle.std.specs.Prelude.{is_none, slice_get}
use Rattle.std.specs.List.{flat_map}
use Rattle.std.specs.Option.{option_or}
use Rattle.std.proofs.lemmas.List.Folds.{find-append, list_any_none}
use Rattle.vx_base.proofs.Numbers.{equal-yes}
use Rattle.vx_election_model.specs.declared.contest.Contest.{Contest}
use Rattle.vx_election_model.specs.declared.election.Election.{Election}
use Rattle.vx_rules.specs.declared.marks.ContestMarks.{ContestMarks}
use Rattle.vx_rules.specs.declared.marks.SheetMarks.{SheetMarks}
use Rattle.vx_rules.specs.Reasons.{is_blank_sheet}
use Rattle.vx_events.specs.declared.decision.Decision.{Decision}
use Rattle.vx_center.specs.declared.decided.Decided.{Decided}
use Rattle.vx_center.specs.declared.rows.Final.{Final}
use Rattle.vx_center.specs.Decisions.{decisions_on}
use Rattle.vx_center.specs.Exports.{final_in, final_if_exported, final_of, finals_by}
use Rattle.vx_center.specs.Waiting.{exports_by}
use Rattle.vx_ranked.specs.Rankings.{final_on, is_of_group, is_waiting, waits_in}

found_or : (one other : Option Final) → is_none other ≡ false → is_none (option_or one other) ≡ false
found_or None other is = is
found_or (Some final) other is = refl

-- what is found is found behind others, too
found_later : (front more : List Final) (contest : ℕ) → is_none (final_on more contest) ≡ false → is_none (final_on (front ++ more) contest) ≡ false
found_later front more contest is =
    ap is_none (find-append (λ (one : Final). one.contest == contest) front more) ∙ found_or (final_on front contest) (final_on more contest) is

and_none : (a b : Bool) → b ≡ false → a && b ≡ false
and_none true b is = is
and_none false b is = refl

module _ (election : Election) (blank : Bool) (decided : List Decided) where
  abbrev exported : ContestMarks → List Final
  exported marks = final_if_exported election blank decided marks

  -- a contest has one final at most
  few_by : (marks : ContestMarks) (decisions : List Decision) (b : Bool) (found : Option Contest) → length (cond b (final_in marks decisions found) []) ≤ 1
  few_by marks decisions true None = omega arith
  few_by marks decisions true (Some one) = omega arith
  few_by marks decisions false found = omega arith

  few : (marks : ContestMarks) → length (exported marks) ≤ 1
  few marks =
      few_by marks (decisions_on marks.contest decided) (exports_by election blank decided marks) (slice_get election.contests marks.contest)

  all_few : (list : List ContestMarks) → length (flat_map exported list) ≤ length list
  all_few [] = omega arith
  all_few (marks ∷ list) = omega (arith, few marks, all_few list, length-append (exported marks) (flat_map exported list))

  -- and where it has one, that is found
  found_by : (marks : ContestMarks) (decisions : List Decision) (more : List Final) (b : Bool) (found : Option Contest)
      → length (cond b (final_in marks decisions found) []) ≡ 1 → is_none (final_on (cond b (final_in marks decisions found) [] ++ more) marks.contest) ≡ false
  found_by marks decisions more true None one = absurd (omega (arith, one))
  found_by marks decisions more true (Some contest) one =
      ap (λ (b : Bool). is_none (cond b (Some (final_of contest marks decisions)) (final_on more marks.contest))) (equal-yes marks.contest marks.contest refl)
  found_by marks decisions more false found one = absurd (omega (arith, one))

  all_found : (list : List ContestMarks) → length (flat_map exported list) ≡ length list → (k : ℕ) (d : ContestMarks) → k < length list
      → is_none (final_on (flat_map exported list) (get_or list k d).contest) ≡ false
  all_found [] full k d lt = absurd (omega (arith, lt))
  all_found (marks ∷ list) full zero d lt =
      found_by marks (decisions_on marks.contest decided) (flat_map exported list) (exports_by election blank decided marks)
      (slice_get election.contests marks.contest)
      (omega (arith, full, few marks, all_few list, length-append (exported marks) (flat_map exported list)))
  all_found (marks ∷ list) full (suc k) d lt =
      found_later (exported marks) (flat_map exported list) (get_or list k d).contest
      (all_found list (omega (arith, full, few marks, all_few list, length-append (exported marks) (flat_map exported list))) k d (omega (arith, lt)))

pub none_waits : (election : Election) (sheet : SheetMarks) (decided : List Decided) (contests : List ℕ)
    → length (finals_by election sheet decided) ≡ length sheet.contests → is_waiting contests sheet (finals_by election sheet decided) ≡ false
none_waits election sheet decided contests full =
    list_any_none (waits_in (finals_by election sheet decided) contests) sheet.contests
    (λ k d lt. and_none (is_of_group contests (get_or sheet.contests k d)) _
    (all_found election (is_blank_sheet sheet) decided sheet.contests full k d lt))
