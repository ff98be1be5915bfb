-- The record of a sheet that a run counted, among those that the runs left.
use Rattle.std.proofs.Common.{◌≡◌, ℕ, zero, suc, ◌+◌, ◌*◌, ◌≤◌, inl, inr, Bool, true, false, cond, List, [], ◌∷◌, ◌++◌, length, map, refl, sym, ap, ap₂, subst, ◌∙◌, arith, append_assoc, append-nil}
use Rattle.std.specs.Prelude.{All, Some, None, Ok, Err, option_map, slice_get}
use Rattle.std.specs.List.{flat_map}
use Rattle.std.proofs.lemmas.List.{map-append}
use Rattle.std.proofs.lemmas.Option.{get_or_from_slice_get, same_Some, slice_get-map, slice_get_within}
use Rattle.vx_base.proofs.Lists.{at-seam}
use Rattle.vx_base.proofs.Numbers.{below-no}
use Rattle.vx_base.proofs.Results.{ok-is}
use Rattle.vx_election_model.specs.declared.election.Election.{Election}
use Rattle.vx_events.specs.declared.event.Event.{Event}
use Rattle.vx_events.specs.declared.event.Event.TheVariants.{Add}
use Rattle.vx_events.specs.declared.key.Key.{Key}
use Rattle.vx_records.specs.Laws.{RecordsAreRead}
use Rattle.vx_records.specs.Reading.{event_in}
use Rattle.vx_records.specs.Records.{header_of, record_of}
use Rattle.vx_scan_model.specs.Reading.{reading_of}
use Rattle.vx_sheet.specs.declared.came.Came.TheVariants.{Beyond}
use Rattle.vx_sheet.specs.Came.{sheet_read}
use Rattle.vx_sheet.specs.Events.{event_of, number_limit}
use Rattle.vx_sheet.specs.Margin.{FittingSheetsAreRead, FitsSheet, MarkedSheet, sheet_marked}
use Rattle.vx_center.specs.Replies.{event_limit}
use Rattle.vx_sheet.specs.Shows.{SheetEventsAreKeepable}
use Rattle.vx_center.specs.Laws.{AddedSheetsAreAlone, FoundSheetsStay, SameKeysAreEqual}
use Rattle.vx_center.specs.Sheets.{place_in}
use Rattle.vx_cvr.specs.Laws.{EachRowIsOfASheet, OneRowOfAKey}
use Rattle.vx_command.specs.Elections.{election_in, plans_in}
use Rattle.vx_command.specs.Images.{ScannedImagesAreWhole}
use Rattle.vx_command.specs.Acts.{Append, records_of}
use Rattle.vx_command.specs.Kept.{RecordsInOrder}
use Rattle.vx_command.specs.Laws.{TakenElectionsAreValid}
use Rattle.vx_journal.specs.declared.journal.Journal.{Journal}
use Rattle.vx_journal.specs.Keeping.{has_none, journal_in, journal_read}
use Rattle.vx_journal.specs.Laws.{FrontsAreJournals, JournalsAreHistories, RecordsAreEvents}
use Rattle.vx_journal.specs.Replay.{replay_of}
use Rattle.vx_command_count.specs.Laws.{CountsEndWell}
use Rattle.vx_command_count.specs.Margin.{FittingSheetsAreKept, MarkedSheetsSayEachMark, SaysEachMark, header_if_none, key_at}
use Rattle.vx_words.specs.declared.command.Command.{Command}
use Rattle.vx_words.specs.Words.{IsSound}
use Rattle.vx_app.specs.Journals.{IsDoneOf, IsFor, IsRun, Run, RunsAddRecords}
use Rattle.vx_plane.specs.Plane.{Page}
use Rattle.vx_count.specs.Turned.{IsWhole}
use Rattle.vx_election_model.specs.Valid.{IsValid}
use Rattle.vx_events.specs.Fits.{is_batch}
use Rattle.vx_pbm.specs.Images.{ImagesAreWhole, IsWholePage, images_of}
use Rattle.vx_shared.specs.declared.history.Entry.{Entry}
use Rattle.vx_shared.specs.Laws.{FirstAddsAreDone, InterleavingsAreWhole, IsDoneIn, events_in_all as total}
use Rattle.vx_shared.specs.Legal.{events_in}
use Rattle.vx_words.specs.declared.command.Command.TheVariants.{Center}
use Rattle.vx_words.specs.declared.command.ItemWord.TheVariants.{Scan}
use Rattle.vx_words.specs.Items.{IsItem}
use Rattle.vx_command_center.specs.declared.item.Item.{Item}
use Rattle.vx_command_center.specs.declared.item.Item.TheVariants.{Scan as Scanned}
use Rattle.vx_command_center.specs.Histories.{IsHistoryOf}
use Rattle.vx_command_center.specs.Items.{events_of}
use Rattle.vx_command_center.specs.Laws.{CentersKeepTheirHistory, ScansAreItems}
use Rattle.vx_command_center.specs.Outcome.{center_outcome, items_taken}
use Rattle.vx_app.specs.Adding.{AddsWhatFits, FittingSheetsAreInTheirItems}
use Rattle.vx_headline.specs.Counted.{AddNoOther, CameTo, Counts, HasRecord, IsItemOf, IsScanned, CenterCounts, events_in_all}

pub record CountLaws : Type 0 where
  pub valid : TakenElectionsAreValid
  pub whole : ScannedImagesAreWhole
  pub read : FittingSheetsAreRead
  pub kept : FittingSheetsAreKept
  pub says : MarkedSheetsSayEachMark
  pub keepable : SheetEventsAreKeepable
  pub records : RecordsAreRead
  pub images : ImagesAreWhole
  pub adds : FittingSheetsAreInTheirItems
  pub histories : JournalsAreHistories
  pub fronts : FrontsAreJournals
  pub events : RecordsAreEvents
  pub mixed : InterleavingsAreWhole
  pub firsts : FirstAddsAreDone
  pub leaves : RecordsInOrder
  pub history : CentersKeepTheirHistory
  pub items : ScansAreItems
  pub ends : CountsEndWell
  pub more : RunsAddRecords
  pub alone : AddedSheetsAreAlone
  pub stay : FoundSheetsStay
  pub equal_keys : SameKeysAreEqual
  pub one_row : OneRowOfAKey
  pub row_added : EachRowIsOfASheet

-- a record stands behind the first
pub record StandsBehind (left : List (List ℕ)) (body : List ℕ) : Type 0 where
  pub header : List ℕ
  pub front : List (List ℕ)
  pub behind : List (List ℕ)
  pub are : left ≡ (header ∷ front) ++ body ∷ behind

record Cut {X : Type 0} (xs : List X) (x : X) : Type 0 where
  pub front : List X
  pub behind : List X
  pub are : xs ≡ front ++ x ∷ behind

cut : {X : Type 0} (xs : List X) (n : ℕ) (x : X) → slice_get xs n ≡ Some x → Cut xs x
cut [] n x h = absurd cc
cut {X} (y ∷ xs) zero x h = record { front = []; behind = xs; are = ap (λ (one : X). one ∷ xs) (same_Some y x h) }
cut {X} (y ∷ xs) (suc n) x h =
    let rest = cut xs n x h in
    record { front = y ∷ rest.front; behind = rest.behind; are = ap (λ (some : List X). y ∷ some) rest.are }

behind-first : (left : List (List ℕ)) (n : ℕ) (body : List ℕ) → slice_get left (suc n) ≡ Some body → StandsBehind left body
behind-first [] n body h = absurd cc
behind-first (header ∷ left) n body h =
    let rest = cut left n body h in
    record { header = header; front = rest.front; behind = rest.behind; are = ap (λ (some : List (List ℕ)). header ∷ some) rest.are }

-- behind records and the header, if there was none, a list stands behind the first
begins : (election : Election) (records before behind : List (List ℕ)) (body : List ℕ)
    → StandsBehind (records ++ (header_if_none election records ++ (before ++ body ∷ behind))) body
begins election [] before behind body = record { header = header_of election; front = before; behind = behind; are = refl }
begins election (header ∷ records) before behind body = record {
  header = header;
  front = records ++ before;
  behind = behind;
  are = ap (λ (some : List (List ℕ)). header ∷ some) (sym (append_assoc records before (body ∷ behind)));
}

-- the header that a command appends
header-records : (election : Election) (b : Bool) → flat_map records_of (cond b (Append (header_of election) ∷ []) []) ≡ cond b (header_of election ∷ []) []
header-records election true = refl
header-records election false = refl

-- what holds of all holds of one
pub item-at : {X : Type 0} (P : X → Type 0) (xs : List X) → All P xs → (n : ℕ) (x : X) → slice_get xs n ≡ Some x → P x
item-at P xs all n x at = subst P (get_or_from_slice_get xs n x x at) (all n x (slice_get_within xs n x at))

-- the call of an event, and the element that was mapped
called : (history : List Entry) (n : ℕ) (event : Event) → slice_get (events_in history) n ≡ Some event
    → (place : ℕ) × (call : Entry) × ((slice_get history place ≡ Some call) × (call.event ≡ event))
called [] n event h = absurd cc
called (call ∷ history) zero event h = (0, call, (refl, same_Some call.event event h))
called (call ∷ history) (suc n) event h = let rest = called history n event h in (suc rest.0, rest.1, rest.2)

mapped : {X Y : Type 0} (f : X → Y) (xs : List X) (n : ℕ) (y : Y) → slice_get (map f xs) n ≡ Some y → (x : X) × (slice_get xs n ≡ Some x) × (f x ≡ y)
mapped f [] n y h = absurd cc
mapped f (x ∷ xs) zero y h = (x, refl, same_Some (f x) y h)
mapped f (x ∷ xs) (suc n) y h = mapped f xs n y h

all-of : (election : Election) (items : List Item) → total (map (events_of election) items) ≡ events_in_all election items
all-of election [] = refl
all-of election (item ∷ items) = ap (λ (n : ℕ). length (events_of election item) + n) (all-of election items)

pub length-map : {X Y : Type 0} (f : X → Y) (xs : List X) → length (map f xs) ≡ length xs
length-map f [] = refl
length-map f (x ∷ xs) = ap suc (length-map f xs)

module _ (laws : CountLaws) (election : Election) (key : Key) (sheet : MarkedSheet) where
  abbrev the-event : Event
  the-event = Add key (sheet_marked sheet)

  -- what is known of a sheet that was scanned: its event is read from its record, and it says each mark
  pub record IsKnown : Type 0 where
    pub read : event_in (record_of the-event) ≡ Ok the-event
    pub front : SaysEachMark (sheet_marked sheet) sheet.front_plan sheet.front_marks
    pub back : SaysEachMark (sheet_marked sheet) sheet.back_plan sheet.back_marks

  -- so of two images that fit it
  known : IsValid election → (batch : List ℕ) → is_batch batch ≡ true → (place : ℕ) → key ≡ key_at batch place → (first second : Page) → IsWhole first
      → IsWhole second → FitsSheet election first second sheet → place + 1 ≤ number_limit → IsKnown
  known valid batch in_range place key_is first second first_whole second_whole fits numbered =
      let is_read = laws.read election 0 first second sheet valid first_whole second_whole fits in
      let made : event_of batch (place + 1) (sheet_read election 0 (reading_of election first) (reading_of election second)) ≡ Ok
      (Add (key_at batch place) (sheet_marked sheet)) =
      ap (event_of batch (place + 1)) is_read
      ∙ ap (λ (b : Bool). cond b (Err Beyond) (Ok (Add (key_at batch place) (sheet_marked sheet)))) (below-no number_limit (place + 1) numbered) in
      let keepable = laws.keepable election batch (place + 1) 0 first second (Add (key_at batch place) (sheet_marked sheet)) valid in_range (omega arith)
      made in
      let back : event_in (record_of (Add (key_at batch place) (sheet_marked sheet))) ≡ Ok (Add (key_at batch place) (sheet_marked sheet)) =
      laws.records.given_back (Add (key_at batch place) (sheet_marked sheet)) keepable.held in
      let Back : Key → Type 0 = λ some. event_in (record_of (Add some (sheet_marked sheet))) ≡ Ok (Add some (sheet_marked sheet)) in
      let says = laws.says election first second sheet valid fits in
      record { read = subst Back (sym key_is) back; front = says.0; back = says.1 }

  module _ (records : List (List ℕ)) (one : Run) (run : IsRun election records one) (place : ℕ) (s : IsScanned election one key sheet place) where
    pub named : election_in (one.files s.name) ≡ Ok election
    named = let For : Command → Type 0 = λ command. IsFor command one.files election in subst For s.is_count run.for_it

    pub scanned-known : IsKnown
    scanned-known =
        let Sound : Command → Type 0 = λ command. IsSound run.spelled.device command in
        let sound = subst Sound s.is_count run.spelled.sound in
        let it = s.pictured in
        let first = (laws.whole one.files 4 s.scans (2 * place) it.first (assumption it.first_is)).whole in
        let second = (laws.whole one.files 4 s.scans (2 * place + 1) it.second (assumption it.second_is)).whole in
        known (laws.valid (one.files s.name) election named) s.batch sound.batch_in_range place (assumption it.key_is) it.first it.second first second
        (assumption it.fits) (let numbered = it.numbered in omega (arith, numbered))

  has-stands : (left : List (List ℕ)) → HasRecord left key sheet → StandsBehind left (record_of the-event)
  has-stands left has =
      let at : slice_get left (suc has.before) ≡ Some (record_of the-event) =
      (let same : suc has.before ≡ has.before + 1 = omega arith in ap (slice_get left) same) ∙ assumption has.stands in
      behind-first left has.before (record_of the-event) at

  pub one-stands : (records : List (List ℕ)) (one : Run) → IsRun election records one → Counts election records one key sheet
      → CameTo one key sheet → StandsBehind one.left (record_of the-event)
  one-stands records one run counts (inr has) = has-stands one.left (assumption has)
  one-stands records one run counts (inl unbroken) =
      let s = counts.scanned in
      let place = counts.place in
      let it = s.pictured in
      let new = counts.is_new in
      let Done : Command → Type 0 = λ command. IsDoneOf command one.files records one.taken one.taken_now (Some one.left) one.answer in
      let done = subst Done s.is_count run.done in
      let plans = ok-is (plans_in election) (assumption new.planned) in
      let key_is : key ≡ key_at s.batch place = assumption it.key_is in
      let New : Key → Type 0 = λ some. place_in counts.before some ≡ None in
      let keeps =
      laws.kept s.name s.batch s.scans one.files records one.taken one.taken_now (Some records) (Some one.left) one.answer done election plans.0 counts.before
      (named records one run place s) plans.1 (assumption new.replays) place it.first it.second sheet (assumption it.first_is) (assumption it.second_is)
      (assumption it.fits) (let numbered = it.numbered in omega (arith, numbered)) (subst New key_is (assumption new.new)) in
      let stands = keeps.stands (let room = counts.room in let few = keeps.few in omega (arith, room, few)) in
      let body = record_of (Add (key_at s.batch place) (sheet_marked sheet)) in
      let list = header_if_none election records ++ (keeps.before ++ keeps.behind) in
      let all : list ≡ keeps.kept.front = keeps.kept.are ∙ ap (λ (some : List (List ℕ)). keeps.kept.front ++ some) (keeps.kept.whole unbroken)
      ∙ append-nil keeps.kept.front in
      let left : one.left ≡ records ++ (header_if_none election records ++ (keeps.before ++ body ∷ stands.0)) =
      same_Some one.left (records ++ keeps.kept.front) keeps.kept.kept
      ∙ ap (λ (some : List (List ℕ)). records ++ some) (sym all)
      ∙ ap (λ (some : List (List ℕ)). records ++ (header_if_none election records ++ (keeps.before ++ some))) stands.1 in
      let Stands : List (List ℕ) → Type 0 = λ some. StandsBehind some body in
      let here : StandsBehind one.left body = subst Stands (sym left) (begins election records keeps.before stands.0 body) in
      let Own : Key → Type 0 = λ some. StandsBehind one.left (record_of (Add some (sheet_marked sheet))) in
      subst Own (sym key_is) here

  -- an event adds the sheet
  pub record IsAddedIn (kept : List Event) : Type 0 where
    pub before : List Event
    pub more : List Event
    pub are : kept ≡ before ++ the-event ∷ more

  pub record IsCounted (left : List (List ℕ)) : Type 0 where
    pub known : IsKnown
    pub added : (kept : List Event) → replay_of election left ≡ Ok kept → IsAddedIn kept

  -- where its record stands, it does
  from-record : (left : List (List ℕ)) → IsKnown → StandsBehind left (record_of the-event) → IsCounted left
  from-record left known stands = record {
    known = known;
    added = λ kept replays.
        (let Replays : List (List ℕ) → Type 0 = λ some. replay_of election some ≡ Ok kept in
        let seam = laws.events election stands.header stands.front (record_of the-event) stands.behind the-event kept known.read
        (subst Replays stands.are replays) in
        record { before = seam.events_then; more = seam.more; are = seam.are });
  }

  -- and with more records behind
  pub later-counted : (left more now : List (List ℕ)) → now ≡ left ++ more → IsCounted left → IsCounted now
  later-counted left more now are it = record {
    known = it.known;
    added = λ kept replays.
        (let Replays : List (List ℕ) → Type 0 = λ some. replay_of election some ≡ Ok kept in
        let first = laws.fronts election left more kept (subst Replays are replays) in
        let here = it.added first.events_then first.replays in
        record {
          before = here.before;
          more = here.more ++ first.more;
          are = first.are ∙ ap (λ (some : List Event). some ++ first.more) here.are ∙ append_assoc here.before (the-event ∷ here.more) first.more;
        });
  }

  pub one-counted : (records : List (List ℕ)) (one : Run) → IsRun election records one → Counts election records one key sheet → IsCounted one.left
  one-counted records one run counts =
      from-record one.left (scanned-known records one run counts.place counts.scanned) (one-stands records one run counts counts.came)

  -- a `center`
  module _ (records : List (List ℕ)) (one : Run) (run : IsRun election records one) (items : List Item) (s : IsItemOf election one key sheet items) where
    is-center : one.command ≡ Center s.name s.moment s.device s.words
    is-center = assumption s.is_center

    center-named : election_in (one.files s.name) ≡ Ok election
    center-named = let For : Command → Type 0 = λ command. IsFor command one.files election in subst For is-center run.for_it

    item-known : IsKnown
    item-known =
        let Sound : Command → Type 0 = λ command. IsSound run.spelled.device command in
        let sound = subst Sound is-center run.spelled.sound in
        let in_range : IsItem (Scan s.batch s.file) = item-at IsItem s.words sound.are_items.are_items s.item (Scan s.batch s.file) (assumption s.is_scan) in
        let whole : (n : ℕ) (page : Page) → slice_get (images_of s.bytes).pages n ≡ Some page → IsWholePage page =
        λ n page at. item-at IsWholePage (images_of s.bytes).pages (laws.images s.bytes) n page at in
        let it = s.pictured in
        known (laws.valid (one.files s.name) election center-named) s.batch in_range.0 s.place (assumption it.key_is) it.first it.second
        (whole (2 * s.place) it.first (assumption it.first_is)).whole (whole (2 * s.place + 1) it.second (assumption it.second_is)).whole
        (assumption it.fits) (let numbered = it.numbered in omega (arith, numbered))

    -- its event is done in the history
    item-done : (before : List Event) (history : List Entry) → IsHistoryOf election before items history → place_in before key ≡ None
        → AddNoOther election items key sheet → length before + events_in_all election items ≤ event_limit
        → IsDoneIn history the-event
    item-done before history of_items new no_other room =
        let it = s.pictured in
        let scan =
        laws.items election one.files s.words items s.item s.batch s.file s.bytes (assumption s.are_items) (assumption s.is_scan) (assumption s.is_file) in
        let adds = item-at (AddsWhatFits election) items (laws.adds s.name s.words one.files election items center-named (assumption s.are_items)) s.item
        (Scanned s.batch s.bytes scan.0) scan.1 in
        let sheets = adds s.place it.first it.second sheet (assumption it.first_is) (assumption it.second_is) (assumption it.fits)
        (let numbered = it.numbered in omega (arith, numbered)) in
        let lists = map (events_of election) items in
        let list = events_of election (Scanned s.batch s.bytes scan.0) in
        let at : slice_get lists s.item ≡ Some list = slice_get-map (events_of election) items s.item ∙ ap (option_map (events_of election)) scan.1 in
        let on : slice_get list (length sheets.before) ≡ Some the-event =
        ap (λ (some : List Event). slice_get some (length sheets.before)) sheets.are
        ∙ at-seam sheets.before (Add (key_at s.batch s.place) (sheet_marked sheet)) sheets.behind
        ∙ ap (λ (some : Key). Some (Add some (sheet_marked sheet))) (sym (let key_is : key ≡ key_at s.batch s.place = assumption it.key_is in key_is)) in
        let come = laws.mixed.come (events_in history) lists of_items.interleaved s.item list (length sheets.before) the-event at on in
        let call = called history come.0 the-event come.1 in
        let few : length history ≤ events_in_all election items =
        (let many = laws.mixed.no_more (events_in history) lists of_items.interleaved in
        let same = all-of election items in
        let size : length (events_in history) ≡ length history = length-map (λ (call : Entry). call.event) history in
        omega (arith, many, same, size)) in
        laws.firsts (record { election = election; events = before }) history key (sheet_marked sheet) call.0 call.1 of_items.legal new
        (omega (arith, few, room))
        (λ n call other there is.
        let from = laws.mixed.are_of (events_in history) lists of_items.interleaved n (Add key other)
        (slice_get-map (λ (call : Entry). call.event) history n ∙ ap (option_map (λ (call : Entry). call.event)) there ∙ ap Some is) in
        let item = mapped (events_of election) items from.place from.list from.at in
        (let none = no_other from.place from.n item.0 other item.1 (ap (λ (some : List Event). slice_get some from.n) item.2 ∙ from.on) in
        assumption none))
        call.2.0 call.2.1

  item-stands : (records : List (List ℕ)) (one : Run) → IsRun election records one → CenterCounts election records one key sheet
      → CameTo one key sheet → StandsBehind one.left (record_of the-event)
  item-stands records one run shares (inr has) = has-stands one.left (assumption has)
  item-stands records one run shares (inl unbroken) =
      let s = shares.is_item in
      let before = shares.before in
      let replays : replay_of election records ≡ Ok before = assumption shares.is_new.replays in
      let are_items : items_taken election one.files 4 0 s.words ≡ Ok shares.items = assumption s.are_items in
      let DoneOf : Command → Type 0 = λ command. IsDoneOf command one.files records one.taken one.taken_now (Some one.left) one.answer in
      let centers = subst DoneOf (is-center records one run shares.items s) run.done in
      let named = center-named records one run shares.items s in
      let plans = ok-is (plans_in election) (assumption shares.is_new.planned) in
      let of_items = centers.of_items election before shares.items named replays are_items in
      let done = item-done records one run shares.items s before centers.history of_items (assumption shares.is_new.new) shares.no_other
      (let room = shares.room in omega (arith, room)) in
      let body = record_of the-event in
      let journal : Journal = record { center = record { election = election; events = before }; is_new = has_none records } in
      let read : journal_in election records ≡ Ok journal = ap (journal_read election (has_none records)) replays in
      let outcome = center_outcome s.name s.moment s.device s.words one.files records centers.history in
      let left : one.left ≡ records ++ (header_if_none election records ++ (map record_of done.front ++ body ∷ map record_of done.back)) =
      (laws.leaves.leaves outcome one.taken one.taken_now records one.left one.answer centers.done).whole unbroken
      ∙ ap (λ (some : List (List ℕ)). records ++ some)
      (laws.history s.name s.moment s.device s.words one.files records centers.history election plans.0 journal shares.items named plans.1 read are_items
      ∙ ap₂ (λ (some more : List (List ℕ)). some ++ more) (header-records election (has_none records))
      (ap (map record_of) done.are ∙ map-append record_of done.front (the-event ∷ done.back))) in
      let Stands : List (List ℕ) → Type 0 = λ some. StandsBehind some body in
      subst Stands (sym left) (begins election records (map record_of done.front) (map record_of done.back) body)

  pub one-shared : (records : List (List ℕ)) (one : Run) → IsRun election records one → CenterCounts election records one key sheet → IsCounted one.left
  one-shared records one run shares =
      from-record one.left (item-known records one run shares.items shares.is_item) (item-stands records one run shares shares.came)
