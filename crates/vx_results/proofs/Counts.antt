-- The contests of an added sheet are those that wait and those that are exported.
use Rattle.std.proofs.Common.{◌≡◌, suc, ◌+◌, Bool, true, false, cond, List, [], ◌∷◌, ◌++◌, length, refl, sym, ap, ◌∙◌, arith}
use Rattle.std.specs.Prelude.{Option, Some, None, filter, not, slice_get}
use Rattle.std.specs.List.{flat_map}
use Rattle.vx_election_model.specs.declared.contest.Contest.{Contest}
use Rattle.vx_election_model.specs.declared.election.Election.{Election}
use Rattle.vx_rules.specs.declared.marks.ContestMarks.{ContestMarks}
use Rattle.vx_rules.specs.Reasons.{is_blank_sheet}
use Rattle.vx_events.specs.declared.event.Event.{Event}
use Rattle.vx_center.specs.declared.decided.Decided.{Decided}
use Rattle.vx_center.specs.declared.rows.Final.{Final}
use Rattle.vx_center.specs.Decisions.{decided_of, decisions_on}
use Rattle.vx_center.specs.Exports.{final_if_exported, final_in, row_of}
use Rattle.vx_center.specs.Sheets.{Added}
use Rattle.vx_center.specs.Waiting.{exports_by, exports_with}
use Rattle.vx_results.specs.Waiting.{waiting_on}

module _ (election : Election) (blank : Bool) (decided : List Decided) where
  abbrev waits : ContestMarks → Bool
  waits marks = not (exports_by election blank decided marks)

  -- each contest of a sheet waits or has a final
  one-or-other : (contests : List ContestMarks)
      → length contests ≡ length (filter waits contests) + length (flat_map (final_if_exported election blank decided) contests)
  one-or-other [] = refl
  one-or-other (marks ∷ contests) =
      by (exports_by election blank decided marks) (slice_get election.contests marks.contest) refl refl (one-or-other contests)
    where
      held : List ContestMarks
      held = filter waits contests

      finals : List Final
      finals = flat_map (final_if_exported election blank decided) contests

      by : (b : Bool) (found : Option Contest) → exports_by election blank decided marks ≡ b → slice_get election.contests marks.contest ≡ found
          → length contests ≡ length held + length finals
          → suc (length contests)
          ≡ length (cond (not b) (marks ∷ held) held)
          + length (cond b (final_in marks (decisions_on marks.contest decided) found) [] ++ finals)
      by false found is there rest = omega (arith, rest)
      by true (Some contest) is there rest = omega (arith, rest)
      by true None is there rest =
          let no : exports_with election blank (decisions_on marks.contest decided) marks.states None ≡ true =
          ap (exports_with election blank (decisions_on marks.contest decided) marks.states) (sym there) ∙ is in
          absurd cc

-- those of one sheet
pub sheet-parts : (election : Election) (kept : List Event) (added : Added)
    → length added.sheet.contests ≡ length (waiting_on election kept added) + length (row_of election kept added).finals
sheet-parts election kept added = one-or-other election (is_blank_sheet added.sheet) (decided_of kept added.key) added.sheet.contests
