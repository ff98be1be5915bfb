-- A scan's sheets, one after another.
use Rattle.std.proofs.Common.{◌≡◌, ℕ, ◌+◌, ◌*◌, ◌/◌, ◌≤◌, List, [], ◌∷◌, ◌++◌, length, Result, Ok, Err, refl, sym, ap, subst, ◌∙◌, arith, append_assoc, length-append}
use Rattle.std.proofs.lemmas.List.{append-nil}
use Rattle.vx_plane.specs.Plane.{Page}
use Rattle.vx_election_model.specs.declared.election.Election.{Election}
use Rattle.vx_events.specs.declared.event.Event.{Event}
use Rattle.vx_pbm.specs.Images.{Images, with_page}
use Rattle.vx_rules.specs.declared.marks.SheetMarks.{SheetMarks}
use Rattle.vx_shared.specs.Calls.{Known}
use Rattle.vx_shared.specs.Gained.{HasMade, MakesAlso}
use Rattle.vx_shared.specs.Laws.{NothingIsMade}
use Rattle.vx_sheet.specs.declared.came.Came.{Came}
use Rattle.vx_sheet.specs.Events.{event_of}
use Rattle.vx_command_center.specs.Sheets.{event_if, events_from, events_in, events_made, lines_from, lines_in, lines_unless, read_of, sheets_from}

few_made : (made : Result Event Came) → length (events_made made) ≤ 1
few_made (Err came) = omega arith
few_made (Ok event) = omega arith

-- at most one event of a sheet
one_event : (batch : List ℕ) (number : ℕ) (read : Result SheetMarks Came) → length (event_if batch number read) ≤ 1
one_event batch number read = few_made (event_of batch number read)

-- at most one event of each two images
pub few_events : (election : Election) (batch : List ℕ) (number : ℕ) (pages : List Page)
    → 2 * length (events_from batch number (sheets_from election number pages)) ≤ length pages
few_events election batch number [] = omega arith
few_events election batch number (single ∷ []) = omega arith
few_events election batch number (first ∷ (second ∷ pages)) =
    let one = one_event batch number (read_of election number first second) in
    let rest = few_events election batch (number + 1) pages in
    let both = length-append (event_if batch number (read_of election number first second)) (events_from batch (number + 1) (sheets_from election (number + 1) pages)) in
    omega (arith, one, rest, both)

-- the sheets of the images before some are told: their events were made with a pass, and their lines stand in the text
pub record IsWalked (election : Election) (batch : List ℕ) (pass : Known) (pages : List Page) (before : List ℕ) (number : ℕ) (left : List Page) (now : Known) (text : List ℕ) : Type 0 where
  pub made_so : List Event
  pub told_so : List ℕ
  pub made : HasMade pass made_so now
  pub events : events_in election batch pages ≡ made_so ++ events_from batch number (sheets_from election number left)
  pub text_is : text ≡ before ++ told_so
  pub lines : lines_in election batch pages ≡ told_so ++ lines_from election batch number (sheets_from election number left)
  pub room : 2 * number + length left ≤ length pages + 2

pub walk_begins : NothingIsMade → (election : Election) (batch : List ℕ) (pass : Known) (pages : List Page) (before : List ℕ)
    → IsWalked election batch pass pages before 1 pages pass before
walk_begins nothing election batch pass pages before = record {
  made_so = [];
  told_so = [];
  made = nothing pass;
  events = refl;
  text_is = sym (append-nil before);
  lines = refl;
  room = omega arith;
}

-- one sheet more
pub walk_goes_on : (election : Election) (batch : List ℕ) (pass : Known) (pages : List Page) (before : List ℕ) (number : ℕ) (first second : Page) (left : List Page) (now then : Known) (text text_then : List ℕ)
    → IsWalked election batch pass pages before number (first ∷ (second ∷ left)) now text
    → MakesAlso now (event_if batch number (read_of election number first second)) then
    → text_then ≡ text ++ lines_unless election batch number (read_of election number first second)
    → IsWalked election batch pass pages before (number + 1) left then text_then
walk_goes_on election batch pass pages before number first second left now then text text_then walked also told =
    let event : List Event = event_if batch number (read_of election number first second) in
    let line : List ℕ = lines_unless election batch number (read_of election number first second) in
    let events : List Event = events_from batch (number + 1) (sheets_from election (number + 1) left) in
    let lines : List ℕ = lines_from election batch (number + 1) (sheets_from election (number + 1) left) in
    record {
      made_so = walked.made_so ++ event;
      told_so = walked.told_so ++ line;
      made = also.behind pass walked.made_so walked.made;
      events = walked.events ∙ sym (append_assoc walked.made_so event events);
      text_is = told ∙ (ap (λ (l : List ℕ). l ++ line) walked.text_is ∙ append_assoc before walked.told_so line);
      lines = walked.lines ∙ sym (append_assoc walked.told_so line lines);
      room = let r = walked.room in omega (arith, r);
    }

-- enough calls are left for the next sheet
pub walk_may : (election : Election) (batch : List ℕ) (pass : Known) (pages : List Page) (before : List ℕ) (number : ℕ) (first second : Page) (left : List Page) (now : Known) (text : List ℕ)
    → IsWalked election batch pass pages before number (first ∷ (second ∷ left)) now text → length pages / 2 ≤ pass.calls
    → length (event_if batch number (read_of election number first second)) ≤ now.calls
walk_may election batch pass pages before number first second left now text walked enough =
    let event : List Event = event_if batch number (read_of election number first second) in
    let events : List Event = events_from batch (number + 1) (sheets_from election (number + 1) left) in
    let few = few_events election batch 1 pages in
    let all = ap (λ (l : List Event). length l) walked.events in
    let one = length-append walked.made_so (event ++ events) in
    let other = length-append event events in
    let made = ap (λ (l : List Event). length l) walked.made.made in
    let calls = walked.made.gained.calls in
    omega (arith, few, all, one, other, made, calls, enough)

-- the same where a reader gave the images of the sheet
pub next_may : (election : Election) (batch : List ℕ) (pass : Known) (pages : List Page) (before : List ℕ) (number : ℕ) (first second : Page) (left later : Images) (now : Known) (text : List ℕ)
    → left ≡ with_page first (with_page second later) → IsWalked election batch pass pages before number left.pages now text → length pages / 2 ≤ pass.calls
    → length (event_if batch number (read_of election number first second)) ≤ now.calls
next_may election batch pass pages before number first second left later now text is walked enough =
    walk_may election batch pass pages before number first second later.pages now text
    (subst (λ (i : Images). IsWalked election batch pass pages before number i.pages now text) is walked) enough

pub next_goes_on : (election : Election) (batch : List ℕ) (pass : Known) (pages : List Page) (before : List ℕ) (number : ℕ) (first second : Page) (left later : Images) (now then : Known) (text text_then : List ℕ)
    → left ≡ with_page first (with_page second later) → IsWalked election batch pass pages before number left.pages now text
    → MakesAlso now (event_if batch number (read_of election number first second)) then
    → text_then ≡ text ++ lines_unless election batch number (read_of election number first second)
    → IsWalked election batch pass pages before (number + 1) later.pages then text_then
next_goes_on election batch pass pages before number first second left later now then text text_then is walked also told =
    walk_goes_on election batch pass pages before number first second later.pages now then text text_then
    (subst (λ (i : Images). IsWalked election batch pass pages before number i.pages now text) is walked) also told

-- a sheet of two images has a number that is about half of the images' count at most
pub next_few : (election : Election) (batch : List ℕ) (pass : Known) (pages : List Page) (before : List ℕ) (number : ℕ) (first second : Page) (left later : Images) (now : Known) (text : List ℕ)
    → left ≡ with_page first (with_page second later) → IsWalked election batch pass pages before number left.pages now text → 2 * number ≤ length pages
next_few election batch pass pages before number first second left later now text is walked =
    let long = ap (λ (i : Images). length i.pages) is in
    let room = walked.room in
    omega (arith, long, room)
