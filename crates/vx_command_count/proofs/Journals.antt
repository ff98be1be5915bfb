-- A journal stays one while sheets are counted into it.
use Rattle.std.proofs.Common.{◌≡◌, ℕ, ◌+◌, ◌<◌, ◌≤◌, Bool, true, false, cond, List, [], ◌∷◌, ◌++◌, Option, Some, None, Result, Ok, Err, refl, sym, ap, subst, ◌∙◌, append_assoc, arith}
use Rattle.std.specs.List.{flat_map}
use Rattle.std.proofs.lemmas.List.{append-nil}
use Rattle.vx_base.proofs.Results.{is-ok_from, ok-is}
use Rattle.vx_plane.specs.Plane.{Page}
use Rattle.vx_io.specs.Outside.{Files}
use Rattle.vx_election_model.specs.declared.election.Election.{Election}
use Rattle.vx_election_model.specs.Valid.{IsValid}
use Rattle.vx_events.specs.declared.event.Event.{Event}
use Rattle.vx_events.specs.Fits.{is_batch}
use Rattle.vx_center.specs.Laws.{RepliesAreDoneOrRefuse}
use Rattle.vx_center.specs.Replies.{is_done, reply_of}
use Rattle.vx_records.specs.Records.{header_of, record_of}
use Rattle.vx_sheet.specs.declared.came.Came.{Came}
use Rattle.vx_sheet.specs.Events.{event_of}
use Rattle.vx_sheet.specs.Lines.{lines_of}
use Rattle.vx_sheet.specs.Shows.{IsKeepable, SheetEventsAreKeepable}
use Rattle.vx_command.specs.declared.halt.Halt.{Halt}
use Rattle.vx_command.specs.Acts.{Act, Append, Write, Outcome, goes_on, input_limit, input_of, records_of}
use Rattle.vx_command.specs.Elections.{plans_in}
use Rattle.vx_command.specs.Images.{unless_faulty}
use Rattle.vx_command.specs.Laws.{TakenElectionsAreValid}
use Rattle.vx_journal.specs.declared.journal.Journal.{Journal}
use Rattle.vx_journal.specs.Keeping.{begin_acts, has_none, journal_in, journal_read}
use Rattle.vx_journal.specs.Laws.{BegunAreJournals, HeadersBeginJournals, IsBegun, IsJournal, JournalsGrow, StaysJournal}
use Rattle.vx_journal.specs.Replay.{replay_of}
use Rattle.vx_journal.specs.Steps.{once_read}
use Rattle.vx_pbm.specs.declared.fault.PbmFault.{PbmFault}
use Rattle.vx_pbm.specs.Images.{images_of}
use Rattle.vx_layout.specs.declared.plan.CardPlan.{CardPlan}
use Rattle.vx_command_count.specs.declared.counting.Counting.{Counting}
use Rattle.vx_command_count.specs.declared.tally.Tally.{Tally}
use Rattle.vx_command_count.specs.Tally.{next_image, next_number, none_counted}
use Rattle.vx_command_count.specs.Sheets.{came_if, counted_with, keep_if, journal_if}
use Rattle.vx_command_count.specs.Laws.{CountKeepsJournals}
use Rattle.vx_command_count.specs.Outcome.{end_outcome, journal_outcome, read_next, scan_outcome, scans_outcome, with_images}

-- the journal of kept events, and how far a count has come with it
abbrev journal_at : Election → Bool → List Event → Journal
journal_at election new kept = record { center = record { election = election; events = kept }; is_new = new }

abbrev count_at : Election → Bool → List Event → Tally → Counting
count_at election new kept tally = record { journal = journal_at election new kept; tally = tally }

-- an event changes the kept events alone
journal-same : (election : Election) (new : Bool) (kept : List Event) (made : Result Event Came) → journal_if (journal_at election new kept) made ≡ journal_at election new (journal_if (journal_at election new kept) made).center.events
journal-same election new kept (Err came) = refl
journal-same election new kept (Ok event) = refl

module _ (replies : RepliesAreDoneOrRefuse) (begun_is : BegunAreJournals) (grow : JournalsGrow) (election : Election) (batch : List ℕ) (batch-is : is_batch batch ≡ true) where
  -- an event is kept, or it isn't
  kept-stays : (kept : List Event) (event : Event) (records : List (List ℕ)) (more : List Act) (done : Bool) → is_done (reply_of election kept event) ≡ done → IsBegun election records kept
      → (is_done (reply_of election kept event) ≡ true → IsBegun election (records ++ record_of event ∷ []) (kept ++ event ∷ []))
      → ((now : List (List ℕ)) → IsBegun election now (cond done (kept ++ event ∷ []) kept) → StaysJournal election now more)
      → StaysJournal election records (cond done (Append (record_of event) ∷ []) [] ++ more)
  kept-stays kept event records more true is begun grown further = (begun_is election records kept begun, further (records ++ record_of event ∷ []) (grown is))
  kept-stays kept event records more false is begun grown further = further records begun

  -- a sheet, whatever it makes
  sheet-stays : (new : Bool) (kept : List Event) (made : Result Event Came) (text : List ℕ) (records : List (List ℕ)) (more : List Act) → ((event : Event) → made ≡ Ok event → IsKeepable election event) → IsBegun election records kept
      → ((now : List (List ℕ)) → IsBegun election now (journal_if (journal_at election new kept) made).center.events → StaysJournal election now more)
      → StaysJournal election records (keep_if (journal_at election new kept) made ++ Write text ∷ more)
  sheet-stays new kept (Err came) text records more keeps begun further = further records begun
  sheet-stays new kept (Ok event) text records more keeps begun further =
      let it = keeps event refl in
      kept-stays kept event records (Write text ∷ more) (is_done (reply_of election kept event)) refl begun
      (λ done. grow election records kept event begun it.fits it.held (replies.done (reply_of election kept event) done))
      further

  module _ (keepable : SheetEventsAreKeepable) (valid : IsValid election) where
    -- the sheets of images
    images-stay : (images : List Page) (new : Bool) (kept : List Event) (tally : Tally) (records : List (List ℕ)) (rest : Counting → List Page → Outcome) → IsBegun election records kept
        → ((now : List Event) (tally_now : Tally) (left : List Page) (held : List (List ℕ)) → IsBegun election held now → StaysJournal election held (rest (count_at election new now tally_now) left).acts)
        → StaysJournal election records (with_images election batch (count_at election new kept tally) images rest).acts
    images-stay [] new kept tally records rest begun further = further kept tally [] records begun
    images-stay (single ∷ []) new kept tally records rest begun further = further kept tally (single ∷ []) records begun
    images-stay (first ∷ (second ∷ images)) new kept tally records rest begun further =
        let counting = count_at election new kept tally in
        let read = read_next election counting first second in
        let number = next_number tally in
        let made = event_of batch number read in
        let text = lines_of election batch number (came_if (journal_at election new kept) made) in
        let after_it = counted_with batch counting read in
        let more = (with_images election batch after_it images rest).acts in
        let Acts : List Act → Type 0 = λ acts. StaysJournal election records acts in
        subst Acts (sym (append_assoc (keep_if (journal_at election new kept) made) (Write text ∷ []) more))
        (sheet-stays new kept made text records more
        (λ event is. keepable election batch number (next_image tally) first second event valid batch-is (omega arith) is) begun
        (λ held grown.
        let Stays : Journal → Type 0 = λ journal. StaysJournal election held (with_images election batch (record { journal = journal; tally = after_it.tally }) images rest).acts in
        subst Stays (sym (journal-same election new kept made))
        (images-stay images new (journal_if (journal_at election new kept) made).center.events after_it.tally held rest grown further)))

    end-stays : (tally : Tally) (waiting : List Page) (records : List (List ℕ)) → IsJournal election records → StaysJournal election records (end_outcome election batch tally waiting).acts
    end-stays tally [] records now = now
    end-stays tally (single ∷ images) records now = now

    unless-stays : (word : ℕ) (fault : Option PbmFault) (next : Outcome) (records : List (List ℕ)) → IsJournal election records → StaysJournal election records next.acts → StaysJournal election records (unless_faulty word fault next).acts
    unless-stays word None next records now stays = stays
    unless-stays word (Some fault) next records now stays = now

    given-stays : (given : Result (List ℕ) Halt) (rest : List ℕ → Outcome) (records : List (List ℕ)) → IsJournal election records → ((bytes : List ℕ) → StaysJournal election records (rest bytes).acts) → StaysJournal election records (goes_on given rest).acts
    given-stays (Err cause) rest records now further = now
    given-stays (Ok bytes) rest records now further = further bytes

    -- scan after scan
    scans-stay : (names : List (List ℕ)) (files : Files) (word : ℕ) (new : Bool) (kept : List Event) (tally : Tally) (waiting : List Page) (records : List (List ℕ)) → IsBegun election records kept → StaysJournal election records (scans_outcome election batch files word (count_at election new kept tally) waiting names).acts
    scans-stay [] files word new kept tally waiting records begun = end-stays tally waiting records (begun_is election records kept begun)
    scans-stay (name ∷ names) files word new kept tally waiting records begun =
        given-stays (input_of word input_limit (files name))
        (λ bytes. scan_outcome election batch word (count_at election new kept tally) waiting (images_of bytes) (λ now left. scans_outcome election batch files (word + 1) now left names))
        records (begun_is election records kept begun)
        (λ bytes. images-stay (waiting ++ (images_of bytes).pages) new kept tally records
        (λ now left. unless_faulty word (images_of bytes).fault (scans_outcome election batch files (word + 1) now left names)) begun
        (λ now tally_now left held grown. unless-stays word (images_of bytes).fault (scans_outcome election batch files (word + 1) (count_at election new now tally_now) left names) held
        (begun_is election held now grown) (scans-stay names files (word + 1) new now tally_now left held grown)))

    begin-stays : (new : Bool) (events : List Event) (more : List Act) (records : List (List ℕ)) → IsJournal election records → (IsBegun election (records ++ flat_map records_of (cond new (Append (header_of election) ∷ []) [])) events → StaysJournal election (records ++ flat_map records_of (cond new (Append (header_of election) ∷ []) [])) more) → IsBegun election (records ++ flat_map records_of (cond new (Append (header_of election) ∷ []) [])) events → StaysJournal election records (cond new (Append (header_of election) ∷ []) [] ++ more)
    begin-stays true events more records now further begun = (now, further begun)
    begin-stays false events more records now further begun =
        let Stays : List (List ℕ) → Type 0 = λ some. StaysJournal election some more in
        subst Stays (append-nil records) (further begun)

    read-stays : HeadersBeginJournals → (scans : List (List ℕ)) (files : Files) (records : List (List ℕ)) (events : List Event) → replay_of election records ≡ Ok events → StaysJournal election records (once_read election records (journal_outcome election batch scans files)).acts
    read-stays heads scans files records events is =
        let journal : Journal = journal_at election (has_none records) events in
        let read : journal_in election records ≡ Ok journal = ap (journal_read election (has_none records)) is in
        let Stays : Result Journal Halt → Type 0 = λ given. StaysJournal election records (goes_on given (journal_outcome election batch scans files)).acts in
        subst Stays (sym read)
        (begin-stays (has_none records) events (scans_outcome election batch files 4 (count_at election (has_none records) events none_counted) [] scans).acts records (is-ok_from (replay_of election records) events is)
        (λ begun. scans-stay scans files 4 (has_none records) events none_counted [] (records ++ flat_map records_of (begin_acts journal)) begun)
        (heads election records journal read))

    plans-stay : HeadersBeginJournals → (planned : Result (List CardPlan) Halt) (scans : List (List ℕ)) (files : Files) (records : List (List ℕ)) (events : List Event) → replay_of election records ≡ Ok events → StaysJournal election records (goes_on planned (λ plans. once_read election records (journal_outcome election batch scans files))).acts
    plans-stay heads (Err cause) scans files records events is = is-ok_from (replay_of election records) events is
    plans-stay heads (Ok plans) scans files records events is = read-stays heads scans files records events is

-- `count` keeps a journal
pub stays : TakenElectionsAreValid → RepliesAreDoneOrRefuse → BegunAreJournals → JournalsGrow → SheetEventsAreKeepable → HeadersBeginJournals → CountKeepsJournals
stays taken_valid replies begun_is grow keepable heads name batch scans files records election batch-is is journal =
    let read = ok-is (replay_of election records) journal in
    let valid = taken_valid (files name) election is in
    let Stays : Result Election Halt → Type 0 = λ given. StaysJournal election records (goes_on given (λ some. goes_on (plans_in some) (λ plans. once_read some records (journal_outcome some batch scans files)))).acts in
    subst Stays (sym is) (plans-stay replies begun_is grow election batch batch-is keepable valid heads (plans_in election) scans files records read.0 read.1)
