-- Sheets that are counted one after another, each of which is added.
use Rattle.std.proofs.Common.{◌≡◌, ℕ, ◌+◌, ◌<◌, ◌≤◌, List, [], ◌∷◌, ◌++◌, length, None, Result, Ok, refl, sym, ap, ap₂, subst, ◌∙◌, arith, length-append}
use Rattle.std.specs.List.{flat_map}
use Rattle.vx_plane.specs.Plane.{Page}
use Rattle.vx_center.specs.Replies.{event_limit}
use Rattle.vx_center.specs.Sheets.{place_in}
use Rattle.vx_election_model.specs.declared.election.Election.{Election}
use Rattle.vx_events.specs.declared.event.Event.{Event}
use Rattle.vx_events.specs.declared.event.Event.TheVariants.{Add}
use Rattle.vx_records.specs.Records.{record_of}
use Rattle.vx_rules.specs.declared.marks.SheetMarks.{SheetMarks}
use Rattle.vx_sheet.specs.declared.came.Came.{Came}
use Rattle.vx_sheet.specs.Events.{event_of, number_limit}
use Rattle.vx_command.specs.Acts.{records_of}
use Rattle.vx_command.specs.Images.{images_in}
use Rattle.vx_command_count.specs.declared.counting.Counting.{Counting}
use Rattle.vx_command_count.specs.Added.{AreSheets, SheetsAreAdded, add_records}
use Rattle.vx_command_count.specs.Margin.{header_if_none, key_at}
use Rattle.vx_command_count.specs.Outcome.{read_next}
use Rattle.vx_command_count.specs.Sheets.{came_if, counted_with, journal_if, keep_if}
use Rattle.vx_command_count.specs.Tally.{next_image, next_number}
use Rattle.vx_command_count.proofs.Recorded.{begun, count-records, sheet_records}
use Rattle.vx_command_count.proofs.Standing.{IsAddedTo, added-to, key-of, numbered, other-key, still-new}

module _ (election : Election) (batch : List ℕ) where
  -- sheet after sheet, from a place on
  all-added : (images : List Page) (sheets : List SheetMarks) (counting : Counting) (place : ℕ) → AreSheets election images sheets
      → next_number counting.tally ≡ place + 1 → place + length sheets ≤ number_limit → length counting.journal.center.events + length sheets ≤ event_limit
      → ((other : ℕ) → place ≤ other → other < place + length sheets → place_in counting.journal.center.events (key_at batch other) ≡ None)
      → sheet_records election batch counting images ≡ add_records batch place sheets
  all-added [] [] counting place are at most room new = refl
  all-added [] (sheet ∷ sheets) counting place are at most room new = absurd are
  all-added (single ∷ []) [] counting place are at most room new = absurd are
  all-added (single ∷ []) (sheet ∷ sheets) counting place are at most room new = absurd are
  all-added (first ∷ (second ∷ images)) [] counting place are at most room new = absurd are
  all-added (first ∷ (second ∷ images)) (sheet ∷ sheets) counting place are at most room new =
      let number : ℕ = next_number counting.tally in
      let kept : List Event = counting.journal.center.events in
      let next : Result SheetMarks Came = read_next election counting first second in
      let read : next ≡ Ok sheet = are.0 (next_image counting.tally) in
      let New : ℕ → Type 0 = λ n. place_in kept (key-of batch n) ≡ None in
      let added : IsAddedTo counting.journal batch number sheet =
      added-to counting.journal batch number sheet (omega (arith, at, most)) (subst New (sym at) (new place (omega arith) (omega arith))) (omega (arith, room)) in
      let now-is : (counted_with batch counting next).journal.center.events ≡ kept ++ Add (key-of batch number) sheet ∷ [] =
      ap (λ (some : Result SheetMarks Came). (journal_if counting.journal (event_of batch number some)).center.events) read ∙ added.next in
      let first-is : flat_map records_of (keep_if counting.journal (event_of batch number next)) ≡ record_of (Add (key_at batch place) sheet) ∷ [] =
      ap (λ (some : Result SheetMarks Came). flat_map records_of (keep_if counting.journal (event_of batch number some))) read
      ∙ ap (flat_map records_of) added.acts
      ∙ ap (λ (n : ℕ). record_of (Add (key-of batch n) sheet) ∷ []) at in
      let size : length (kept ++ Add (key-of batch number) sheet ∷ []) ≡ length kept + 1 = length-append kept (Add (key-of batch number) sheet ∷ []) in
      let more : next_number (counted_with batch counting next).tally ≡ number + 1 =
      numbered counting.tally (came_if counting.journal (event_of batch number next)) in
      ap₂ (λ (a b : List (List ℕ)). a ++ b) first-is
      (all-added images sheets (counted_with batch counting next) (place + 1) are.1 (omega (arith, more, at)) (omega (arith, most))
      (omega (arith, ap length now-is, size, room))
      (λ other from less.
      let None-in : List Event → Type 0 = λ events. place_in events (key_at batch other) ≡ None in
      subst None-in (sym now-is)
      (still-new (key_at batch other) (key-of batch number) sheet (other-key batch number (other + 1) (omega (arith, at, from))) kept 0 0
      (new other (omega (arith, from)) (omega (arith, less))))))

-- the records of a count of such scans
pub all-sheets-added : SheetsAreAdded
all-sheets-added name batch scans files records election plans events sheets is planned replayed are may =
    count-records name batch scans files records election plans events is planned replayed
    ∙ ap (λ (list : List (List ℕ)). header_if_none election records ++ list)
    (all-added election batch (images_in files 4 scans) sheets (begun election records events) 0 are refl (omega (arith, may.numbers)) (omega (arith, may.room))
    (λ other from less. may.new other (omega (arith, less))))
