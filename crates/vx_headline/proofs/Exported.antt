-- What an export writes of sheets that runs counted.
use Rattle.std.proofs.Common.{◌≡◌, ℕ, inl, inr, Bool, true, false, cond, List, [], ◌∷◌, ◌++◌, refl, sym, ap, subst, ◌∙◌}
use Rattle.std.specs.Prelude.{◌==◌, filter, Option, Some, None, Ok, slice_get}
use Rattle.vx_io.specs.Outside.{Took}
use Rattle.vx_election_model.specs.declared.contest.Contest.{Contest}
use Rattle.vx_election_model.specs.declared.election.Election.{Election}
use Rattle.vx_rules.specs.declared.marks.ContestMarks.{ContestMarks}
use Rattle.vx_rules.specs.declared.marks.SheetMarks.{SheetMarks}
use Rattle.vx_rules.specs.Reasons.{is_blank_sheet}
use Rattle.vx_events.specs.declared.event.Event.{Event}
use Rattle.vx_events.specs.declared.key.Key.{Key}
use Rattle.vx_sheet.specs.Margin.{MarkedSheet, sheet_marked}
use Rattle.vx_sheet.specs.Sheet.{contest_limit}
use Rattle.vx_center.specs.declared.rows.Final.{Final}
use Rattle.vx_center.specs.Decisions.{decided_of, decisions_on}
use Rattle.vx_center.specs.Exports.{final_in}
use Rattle.vx_center.specs.Histories.{IsHistory}
use Rattle.vx_center.specs.Sheets.{Added, sheet_in}
use Rattle.vx_center.specs.Shown.{ShowsWhatWasKept}
use Rattle.vx_center.specs.Waiting.{exports_by}
use Rattle.vx_cvr.specs.Report.{report_of}
use Rattle.vx_journal.specs.Laws.{JournalsStay}
use Rattle.vx_command_count.specs.Laws.{CountKeepsJournals}
use Rattle.vx_command_export.specs.Laws.{ExportsWriteWhatWasKept}
use Rattle.vx_journal.specs.Replay.{replay_of}
use Rattle.vx_words.specs.declared.command.Command.{Command}
use Rattle.vx_words.specs.declared.command.Command.TheVariants.{Export}
use Rattle.vx_app.specs.Journals.{AreRuns, IsDoneOf, IsFor, IsRun, Run}
use Rattle.vx_headline.specs.Counted.{AddedBy, HasSheet}
use Rattle.vx_headline.specs.Exported.{IsExport, MarkedPagesAreExported, StandsMarked, final_if}
use Rattle.vx_headline.proofs.Again.{counted}
use Rattle.vx_headline.proofs.Counted.{CountLaws, IsCounted}
use Rattle.vx_headline.proofs.Marked.{once}

-- no final
abbrev none : List Final
none = []

-- what is exported of a contest of a sheet is of that contest
none-if : (b : Bool) → cond b none none ≡ none
none-if true = refl
none-if false = refl

final-own : (election : Election) (kept : List Event) (added : Added) (marks : ContestMarks) (contest : ℕ)
    → filter (λ (final : Final). final.contest == contest) (final_if election kept added marks) ≡ cond (marks.contest == contest)
    (final_if election kept added marks) []
final-own election kept added marks contest =
    by (exports_by election (is_blank_sheet added.sheet) (decided_of kept added.key) marks) (slice_get election.contests marks.contest)
  where
    of : Option Contest → List Final
    of found = final_in marks (decisions_on marks.contest (decided_of kept added.key)) found

    by : (b : Bool) (found : Option Contest)
        → filter (λ (final : Final). final.contest == contest) (cond b (of found) []) ≡ cond (marks.contest == contest) (cond b (of found) []) []
    by true None = sym (none-if (marks.contest == contest))
    by true (Some found) = refl
    by false found = sym (none-if (marks.contest == contest))

module _ (laws : CountLaws) (election : Election) where
  module _ (kept : List Event) (history : IsHistory election kept) where
    -- a sheet whose record stands in the journal
    stands-marked : (left : List (List ℕ)) → replay_of election left ≡ Ok kept → (key : Key) (sheet : MarkedSheet) → IsCounted laws election key sheet left
        → (added : Added) × StandsMarked election kept key sheet added
    stands-marked left replays key sheet it =
        let seam = it.added kept replays in
        let only = laws.alone election seam.before seam.more key (sheet_marked sheet) kept seam.are history in
        let added : Added = record { at = _; key = key; sheet = sheet_marked sheet } in (
          added,
          record {
            keyed = refl;
            marked = refl;
            front = it.known.front;
            back = it.known.back;
            one_sheet = only;
            one_row = laws.one_row election kept key added only;
            contests = λ place marks there.
                (once (λ (final : Final). final.contest) (final_if election kept added) sheet (final-own election kept added) 0 contest_limit place marks
                there).1;
          },
        )

  -- a sheet that was there at some time is there still
  has-still : (records more left : List (List ℕ)) (kept : List Event) (key : Key) (sheet : SheetMarks) → left ≡ records ++ more
      → replay_of election left ≡ Ok kept → HasSheet election records key sheet → sheet_in kept key ≡ Some sheet
  has-still records more left kept key sheet are replays has =
      let Replays : List (List ℕ) → Type 0 = λ some. replay_of election some ≡ Ok kept in
      let first = laws.fronts election records more kept (subst Replays are replays) in
      let same : first.events_then ≡ has.events = let one = first.replays in let other : replay_of election records ≡ Ok has.events = assumption has.are_kept in cc in
      let In : List Event → Type 0 = λ events. sheet_in events key ≡ Some sheet in
      subst In (ap (λ (some : List Event). some ++ first.more) (sym same) ∙ sym first.are) (laws.stay has.events first.more key sheet (assumption has.there))

  added-still : (records : List (List ℕ)) (runs : List Run) (left : List (List ℕ)) (kept : List Event) (key : Key) (sheet : SheetMarks)
      → AreRuns election records runs left → replay_of election left ≡ Ok kept → AddedBy election records runs key sheet → sheet_in kept key ≡ Some sheet
  added-still records [] left kept key sheet are replays has =
      let adds = laws.more election records [] left are in
      has-still records adds.more left kept key sheet adds.are replays (assumption has)
  added-still records (one ∷ runs) left kept key sheet are replays (inl has) =
      let adds = laws.more election records (one ∷ runs) left are in
      has-still records adds.more left kept key sheet adds.are replays (assumption has)
  added-still records (one ∷ runs) left kept key sheet are replays (inr later) =
      added-still one.left runs left kept key sheet are.1 replays (assumption later)

  -- what the export itself wrote
  record Wrote (left : List (List ℕ)) (last : Run) (moment device : List ℕ) (own_election : Election) : Type 0 where
    pub kept : List Event
    pub are_kept : replay_of own_election left ≡ Ok kept
    pub history : IsHistory own_election kept
    pub report : Took last.taken last.taken_now (report_of own_election kept moment device)
    pub shows : ShowsWhatWasKept own_election kept

  wrote : ExportsWriteWhatWasKept → (runs : List Run) (left : List (List ℕ)) (last : Run) (moment device : List ℕ)
      → IsExport election runs left last moment device → Wrote left last moment device election
  wrote exported runs left last moment device it =
      let For : Command → Type 0 = λ command. IsFor command last.files election in
      let run : IsRun election left last = assumption it.is_run in
      let is_export : last.command ≡ Export it.name moment device = assumption it.is_export in
      let named = subst For is_export run.for_it in
      let Done : Command → Type 0 = λ command. IsDoneOf command last.files left last.taken last.taken_now (Some last.left) last.answer in
      let done = subst Done is_export run.done in
      let all = exported it.name moment device last.files left last.taken last.taken_now (Some left) (Some last.left) last.answer done (assumption it.well) in
      let same : all.election ≡ election = let one = all.is_read in cc in
      let Of : Election → Type 0 = λ some. Wrote left last moment device some in
      subst Of same (record { kept = all.events; are_kept = all.are_kept; history = all.history; report = all.report; shows = all.shows })

pub exports : CountLaws → ExportsWriteWhatWasKept → CountKeepsJournals → JournalsStay → MarkedPagesAreExported
exports laws exported keeps stays election runs left last moment device it =
    let all = wrote laws election exported runs left last moment device it in
    let are : AreRuns election [] runs left = assumption it.are_runs in
    record {
      kept = all.kept;
      are_kept = all.are_kept;
      history = all.history;
      report = all.report;
      shows = all.shows;
      rows = laws.row_added election all.kept;
      marked = λ key sheet by. stands-marked laws election all.kept all.history left all.are_kept key sheet
          (counted laws keeps stays election key sheet [] runs left are by);
      first = λ key sheet by. added-still laws election [] runs left all.kept key sheet are all.are_kept by;
    }
