-- Stacks of pictures have what the headline asks for.
use Rattle.std.proofs.Common.{◌≡◌, ◌<◌, ◌≤◌, ℕ, zero, suc, ◌+◌, ◌*◌, inl, inr, false, List, [], ◌∷◌, ◌++◌, length, refl, sym, ap, subst, ◌∙◌, arith, append-nil}
use Rattle.std.specs.Prelude.{All, Option, Some, None, Ok, Result, find, nat_lt, slice_get, sum_by}
use Rattle.std.specs.List.{flat_map}
use Rattle.std.proofs.lemmas.Bool.Decides.{nat_tests}
use Rattle.std.proofs.lemmas.List.Sums.{sum_by-cons}
use Rattle.std.proofs.lemmas.Option.{same_Some}
use Rattle.vx_base.proofs.Lists.{at-seam}
use Rattle.vx_plane.specs.Plane.{Page}
use Rattle.vx_io.specs.Outside.{Files}
use Rattle.vx_election_model.specs.declared.election.Election.{Election}
use Rattle.vx_pbm.specs.Images.{AreRaw, Images, IsWholePage, JoinsRawImages, ReadsBack, ended, followed_by, images_left, images_of, next_of, with_page}
use Rattle.vx_pbm.specs.Raster.{is_plain}
use Rattle.vx_pbm.specs.Raw.{p4_of}
use Rattle.vx_events.specs.declared.event.Event.{Event}
use Rattle.vx_events.specs.declared.event.Event.TheVariants.{Add}
use Rattle.vx_events.specs.declared.key.Key.{Key}
use Rattle.vx_records.specs.Records.{record_of}
use Rattle.vx_rules.specs.declared.marks.SheetMarks.{SheetMarks}
use Rattle.vx_sheet.specs.Events.{number_limit}
use Rattle.vx_sheet.specs.Margin.{MarkedSheet, sheet_marked}
use Rattle.vx_center.specs.Replies.{event_limit}
use Rattle.vx_center.specs.Sheets.{Added, has_key, sheet_of, sheets_in}
use Rattle.vx_command.specs.declared.halt.Halt.{Halt}
use Rattle.vx_command.specs.Acts.{input_limit, input_of}
use Rattle.vx_command.specs.Images.{images_and, images_in, unless_faulty_before}
use Rattle.vx_command_count.specs.Margin.{key_at}
use Rattle.vx_command_center.specs.declared.item.Item.{Item}
use Rattle.vx_command_center.specs.Items.{events_of}
use Rattle.vx_journal.specs.Laws.{AreRecordsOf, JournalsAreTheirEvents}
use Rattle.vx_words.specs.declared.command.ItemWord.TheVariants.{Scan}
use Rattle.vx_app.specs.Journals.{AreRuns, Run, RunsKeepEvents}
use Rattle.vx_headline.specs.Counted.{AddNoOther, AddedBy, CameTo, CenterCounts, CountedBy, Counts, HasRecord, HasSheet, IsItemOf, IsNew, IsPictured, IsScanned, Recounts, events_in_all}
use Rattle.vx_headline.specs.Stacks.{AddsNoOther, ArePictures, AreScansOf, CentersCountStacks, CountsStack, EndedExportsAreExports, HavePictures, IsFree, KeptOrEnded, KeptSheetsWereAdded, Pictured, StacksAreCounted, StacksAreRecounted, StandsIn, scan_of}
use Rattle.vx_headline.proofs.Again.{not-found}
use Rattle.vx_headline.proofs.Counted.{item-at, length-map}

not-plain : (page : Page) (more : List ℕ) → is_plain (p4_of page ++ more) ≡ false
unfolding p4_of
not-plain page more = refl

not-plain-alone : (page : Page) → is_plain (p4_of page) ≡ false
unfolding p4_of
not-plain-alone page = refl

no-images : images_of [] ≡ ended None
unfolding images_of images_left next_of
no-images = refl

pub taken : (word : ℕ) (bytes : List ℕ) → length bytes ≤ input_limit → input_of word input_limit (Some bytes) ≡ Ok bytes
taken word bytes short =
    let test : nat_lt input_limit (length bytes) ≡ false = grind (arith, nat_tests, short) in
    rw test refl

-- the pages of a stack, in the order of its sheets
abbrev pages-of : List Pictured → List Page
pages-of [] = []
pages-of (one ∷ stack) = one.first ∷ one.second ∷ pages-of stack

-- those of a sheet stand at twice its place
first-at : (stack : List Pictured) (more : List Page) (place : ℕ) (it : Pictured) → slice_get stack place ≡ Some it
    → slice_get (pages-of stack ++ more) (2 * place) ≡ Some it.first
first-at [] more place it h = absurd cc
first-at (one ∷ stack) more zero it h = ap (λ (some : Pictured). Some some.first) (same_Some one it h)
first-at (one ∷ stack) more (suc place) it h =
    let even : 2 * suc place ≡ suc (suc (2 * place)) = omega arith in
    ap (slice_get (pages-of (one ∷ stack) ++ more)) even ∙ first-at stack more place it h

second-at : (stack : List Pictured) (more : List Page) (place : ℕ) (it : Pictured) → slice_get stack place ≡ Some it
    → slice_get (pages-of stack ++ more) (2 * place + 1) ≡ Some it.second
second-at [] more place it h = absurd cc
second-at (one ∷ stack) more zero it h = ap (λ (some : Pictured). Some some.second) (same_Some one it h)
second-at (one ∷ stack) more (suc place) it h =
    let odd : 2 * suc place + 1 ≡ suc (suc (2 * place + 1)) = omega arith in
    ap (slice_get (pages-of (one ∷ stack) ++ more)) odd ∙ second-at stack more place it h

pictures-at : (election : Election) (stack : List Pictured) → HavePictures election stack → (place : ℕ) (it : Pictured) → slice_get stack place ≡ Some it
    → ArePictures election it
pictures-at election [] have place it h = absurd cc
pictures-at election (one ∷ stack) have zero it h = let Are : Pictured → Type 0 = ArePictures election in subst Are (same_Some one it h) have.0
pictures-at election (one ∷ stack) have (suc place) it h = pictures-at election stack have.1 place it h

have-pictures : (election : Election) (files : Files) (scans : List (List ℕ)) (stack : List Pictured) → AreScansOf election files scans stack
    → HavePictures election stack
have-pictures election files scans [] are = tt
have-pictures election files [] (one ∷ stack) are = elim are [ ]
have-pictures election files (scan ∷ scans) (one ∷ stack) are = (are.0.pictures, have-pictures election files scans stack are.1)

-- a sheet of a stack among the images that begin with its pages
is-pictured : (election : Election) (images : List Page) (batch : List ℕ) (stack : List Pictured) (more : List Page) → images ≡ pages-of stack ++ more
    → HavePictures election stack → (place : ℕ) (it : Pictured) → slice_get stack place ≡ Some it → place < number_limit
    → IsPictured election images batch place (key_at batch place) it.sheet
is-pictured election images batch stack more are have place it at less = record {
  key_is = refl;
  first = it.first;
  second = it.second;
  first_is = ap (λ (pages : List Page). slice_get pages (2 * place)) are ∙ first-at stack more place it at;
  second_is = ap (λ (pages : List Page). slice_get pages (2 * place + 1)) are ∙ second-at stack more place it at;
  fits = (pictures-at election stack have place it at).fits;
  numbered = omega (arith, less);
}

module _ (joins : JoinsRawImages) (reads : ReadsBack) where
  -- two whole pages that are written one behind the other are read as these two
  two-read : (front back : Page) → IsWholePage front → IsWholePage back
      → images_of (p4_of front ++ p4_of back) ≡ record { pages = front ∷ back ∷ []; fault = None }
  two-read front back front_whole back_whole =
      let first : images_of (p4_of front) ≡ with_page front (ended None) = reads front front_whole in
      let raw : AreRaw (p4_of front) = record { no_plain = not-plain-alone front; whole = ap (λ (images : Images). images.fault) first } in
      joins (p4_of front) (p4_of back) raw (not-plain-alone back)
      ∙ ap (λ (images : Images). followed_by images (length (p4_of front)) (images_of (p4_of back))) first
      ∙ ap (λ (images : Images). followed_by (with_page front (ended None)) (length (p4_of front)) images) (reads back back_whole)

  pub scan-read : (election : Election) (one : Pictured) → ArePictures election one
      → images_of (scan_of one) ≡ record { pages = one.first ∷ one.second ∷ []; fault = None }
  scan-read election one are = two-read one.first one.second are.first_whole are.second_whole

  rest-not-plain : (stack : List Pictured) → is_plain (flat_map scan_of stack) ≡ false
  unfolding p4_of
  rest-not-plain [] = refl
  rest-not-plain (one ∷ stack) = refl

  -- the pages of a whole stack in one file
  stack-read : (election : Election) (stack : List Pictured) → HavePictures election stack
      → images_of (flat_map scan_of stack) ≡ record { pages = pages-of stack; fault = None }
  stack-read election [] have = no-images
  stack-read election (one ∷ stack) have =
      let first = scan-read election one have.0 in
      let raw : AreRaw (scan_of one) = record {
        no_plain = not-plain one.first (p4_of one.second);
        whole = ap (λ (images : Images). images.fault) first;
      } in
      joins (scan_of one) (flat_map scan_of stack) raw (rest-not-plain stack)
      ∙ ap (λ (images : Images). followed_by images (length (scan_of one)) (images_of (flat_map scan_of stack))) first
      ∙ ap (λ (images : Images). followed_by (record { pages = one.first ∷ one.second ∷ []; fault = None }) (length (scan_of one)) images)
      (stack-read election stack have.1)

  -- the pages of scans begin with those of their stack
  scans-read : (election : Election) (files : Files) (word : ℕ) (scans : List (List ℕ)) (stack : List Pictured) → AreScansOf election files scans stack
      → (more : List Page) × (images_in files word scans ≡ pages-of stack ++ more)
  scans-read election files word scans [] are = (images_in files word scans, refl)
  scans-read election files word [] (one ∷ stack) are = elim are [ ]
  scans-read election files word (scan ∷ scans) (one ∷ stack) are =
      let rest = scans-read election files (word + 1) scans stack are.1 in
      let behind : List Page = images_in files (word + 1) scans in
      let Given : Result (List ℕ) Halt → List Page = λ given. images_and given behind in (
        rest.0,
        ap (λ (file : Option (List ℕ)). images_and (input_of word input_limit file) behind) are.0.is_file
            ∙ ap Given (taken word (scan_of one) are.0.short)
            ∙ ap (λ (images : Images). images.pages ++ unless_faulty_before images.fault behind) (scan-read election one are.0.pictures)
            ∙ ap (λ (pages : List Page). one.first ∷ one.second ∷ pages) rest.1,
      )

  is-scanned : (election : Election) (batch : List ℕ) (stack : List Pictured) (one : Run) → CountsStack election batch stack one
      → (place : ℕ) (it : Pictured) → slice_get stack place ≡ Some it → place < number_limit
      → IsScanned election one (key_at batch place) it.sheet place
  is-scanned election batch stack one counts place it at less =
      let read = scans-read election one.files 4 counts.scans stack counts.are_scans in
      record {
        name = counts.name;
        batch = batch;
        workers = counts.workers;
        scans = counts.scans;
        is_count = counts.is_count;
        pictured =
            is-pictured election (images_in one.files 4 counts.scans) batch stack read.0 read.1
            (have-pictures election one.files counts.scans stack counts.are_scans) place it at less;
      }

none-found : (found : Option Added) → sheet_of found ≡ None → found ≡ None
none-found None h = refl
none-found (Some added) h = absurd cc

is-new : (election : Election) (records : List (List ℕ)) (events : List Event) (key : Key) → IsFree election records events key
    → IsNew election records events key
is-new election records events key free = record {
  planned = free.planned;
  replays = free.replays;
  new = not-found (has_key key) 0 (sheets_in events) (none-found (find (has_key key) (sheets_in events)) free.free);
}

has-record : (left : List (List ℕ)) (key : Key) (sheet : MarkedSheet) → StandsIn left (record_of (Add key (sheet_marked sheet))) → HasRecord left key sheet
has-record [] key sheet stands = elim stands [ ]
has-record (header ∷ bodies) key sheet stands = record {
  before = stands.0;
  stands = (let same : stands.0 + 1 ≡ suc stands.0 = omega arith in ap (slice_get (header ∷ bodies)) same) ∙ stands.1;
}

came-to : (one : Run) (key : Key) (sheet : MarkedSheet) → KeptOrEnded one key sheet → CameTo one key sheet
came-to one key sheet (inl stands) = inr (has-record one.left key sheet stands)
came-to one key sheet (inr ended) = inl ended

-- what the later ones of some runs counted, they counted
behind-earlier : (election : Election) (key : Key) (sheet : MarkedSheet) (start : List (List ℕ)) (earlier : List Run) (records : List (List ℕ)) (later : List Run)
    → AreRuns election start earlier records → CountedBy election records later key sheet → CountedBy election start (earlier ++ later) key sheet
behind-earlier election key sheet start [] records later are it =
    let By : List (List ℕ) → Type 0 = λ some. CountedBy election some later key sheet in subst By are it
behind-earlier election key sheet start (one ∷ earlier) records later are it =
    inr (behind-earlier election key sheet one.left earlier records later are.1 it)

added-behind : (election : Election) (key : Key) (sheet : SheetMarks) (start : List (List ℕ)) (earlier : List Run) (records : List (List ℕ)) (later : List Run)
    → AreRuns election start earlier records → AddedBy election records later key sheet → AddedBy election start (earlier ++ later) key sheet
added-behind election key sheet start [] records later are it =
    let By : List (List ℕ) → Type 0 = λ some. AddedBy election some later key sheet in subst By are it
added-behind election key sheet start (one ∷ earlier) records later are it = inr (added-behind election key sheet one.left earlier records later are.1 it)

added-by : (election : Election) (key : Key) (sheet : SheetMarks) (records : List (List ℕ)) (later : List Run) → HasSheet election records key sheet
    → AddedBy election records later key sheet
added-by election key sheet records [] has = has
added-by election key sheet records (one ∷ later) has = inl has

pub kept-sheets-were-added : KeptSheetsWereAdded
kept-sheets-were-added election earlier records later events key sheet are replays there =
    added-behind election key sheet [] earlier records later are
    (added-by election key sheet records later (record { events = events; are_kept = replays; there = there }))

pub ended-exports-are-exports : EndedExportsAreExports
ended-exports-are-exports election runs left last name moment device are run is_export well =
    record { are_runs = are; is_run = run; name = name; is_export = is_export; well = well }

pub stacks-are-counted : JoinsRawImages → ReadsBack → StacksAreCounted
stacks-are-counted joins reads election earlier records one later events batch stack place it are counts at less free room kept =
    let counted : Counts election records one (key_at batch place) it.sheet = record {
      place = place;
      scanned = is-scanned joins reads election batch stack one counts place it at less;
      before = events;
      is_new = is-new election records events (key_at batch place) free;
      room = room;
      came = came-to one (key_at batch place) it.sheet kept;
    } in
    behind-earlier election (key_at batch place) it.sheet [] earlier records (one ∷ later) are (inl (inl (inl counted)))

-- a journal has one record more than events
room-behind : (election : Election) (left : List (List ℕ)) (after : List Event) (place : ℕ) → AreRecordsOf election after left → place < number_limit
    → length left + place ≤ event_limit → length after + place < event_limit
unfolding event_limit
room-behind election [] after place are less room = let size : length after ≡ 0 = ap length are in omega (arith, size, less)
room-behind election (header ∷ bodies) after place are less room =
    let size : length bodies ≡ length after = ap length are.1 ∙ length-map record_of after in
    omega (arith, size, room)

pub stacks-are-recounted : JoinsRawImages → ReadsBack → RunsKeepEvents → JournalsAreTheirEvents → StacksAreRecounted
stacks-are-recounted joins reads keep theirs election earlier records one again later events batch stack place it are run counts counts_again at less free room
    whole =
    let kept = keep election records (one ∷ []) one.left events free.replays (run, refl) in
    let after : List Event = events ++ kept.more in
    let recounted : Recounts election records one (again ∷ later) (key_at batch place) it.sheet = record {
      place = place;
      scanned = is-scanned joins reads election batch stack one counts place it at less;
      again = again;
      further = later;
      are = refl;
      scanned_again = is-scanned joins reads election batch stack again counts_again place it at less;
      before = events;
      is_new = is-new election records events (key_at batch place) free;
      after = after;
      replays_after = kept.keeps;
      room = room-behind election one.left after place (theirs election one.left after kept.keeps) less room;
      whole = whole;
    } in
    behind-earlier election (key_at batch place) it.sheet [] earlier records (one ∷ again ∷ later) are (inl (inr recounted))

all-events : (election : Election) (items : List Item) → sum_by (λ (item : Item). length (events_of election item)) items ≡ events_in_all election items
all-events election [] = refl
all-events election (item ∷ items) =
    sum_by-cons (λ (one : Item). length (events_of election one)) item items ∙ ap (λ (n : ℕ). length (events_of election item) + n) (all-events election items)

no-other : (election : Election) (items : List Item) (key : Key) (sheet : MarkedSheet)
    → All (λ (item : Item). All (AddsNoOther key (sheet_marked sheet)) (events_of election item)) items → AddNoOther election items key sheet
no-other election items key sheet none place n item other at on =
    let Own : Item → Type 0 = λ item. All (AddsNoOther key (sheet_marked sheet)) (events_of election item) in
    item-at (AddsNoOther key (sheet_marked sheet)) (events_of election item) (item-at Own items none place item at) n (Add key other) on refl

pub centers-count-stacks : JoinsRawImages → ReadsBack → CentersCountStacks
centers-count-stacks joins reads election earlier records one later events batch stack items place it are centers at less free none room kept =
    let bytes : List ℕ = flat_map scan_of stack in
    let read = stack-read joins reads election stack centers.pictures in
    let pages : (images_of bytes).pages ≡ pages-of stack ++ [] = ap (λ (images : Images). images.pages) read ∙ sym (append-nil (pages-of stack)) in
    let is_item : IsItemOf election one (key_at batch place) it.sheet items = record {
      name = centers.name;
      moment = centers.moment;
      device = centers.device;
      words = centers.before ++ Scan batch centers.file ∷ centers.behind;
      is_center = centers.is_center;
      are_items = centers.are_items;
      item = length centers.before;
      batch = batch;
      file = centers.file;
      bytes = bytes;
      is_scan = at-seam centers.before (Scan batch centers.file) centers.behind;
      is_file = centers.is_file;
      place = place;
      pictured = is-pictured election (images_of bytes).pages batch stack [] pages centers.pictures place it at less;
    } in
    let counted : CenterCounts election records one (key_at batch place) it.sheet = record {
      items = items;
      is_item = is_item;
      before = events;
      is_new = is-new election records events (key_at batch place) free;
      no_other = no-other election items (key_at batch place) it.sheet none;
      room = (let same = all-events election items in omega (arith, same, room));
      came = came-to one (key_at batch place) it.sheet kept;
    } in
    behind-earlier election (key_at batch place) it.sheet [] earlier records (one ∷ later) are (inl (inl (inr counted)))
