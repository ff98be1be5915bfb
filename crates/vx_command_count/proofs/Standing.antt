-- The record of a sheet stands among those that a count appends.
use Rattle.std.proofs.Common.{◌≡◌, ℕ, zero, suc, ◌+◌, ◌-◌, ◌*◌, ◌<◌, ◌≤◌, ◌==◌, Bool, true, false, cond, List, [], ◌∷◌, ◌++◌, length, get_or, Option, None, Some, Result, Ok, Err, refl, sym, ap, ap₂, subst, ◌∙◌, append_assoc, arith, length-append}
use Rattle.std.specs.Prelude.{◌&&◌, All, bytes_eq, nat_lt, slice_get}
use Rattle.std.specs.List.{flat_map, position_from}
use Rattle.std.proofs.lemmas.Bool.{cond-true, cond-false}
use Rattle.std.proofs.lemmas.List.Elements.{All-nil, All-cons, All-append}
use Rattle.std.proofs.lemmas.Option.{slice_get_within, get_or_from_slice_get}
use Rattle.vx_base.proofs.Booleans.{and-no}
use Rattle.vx_base.proofs.Numbers.{below-no, below-yes, equal-no}
use Rattle.vx_plane.specs.Plane.{Page}
use Rattle.vx_center.specs.Replies.{add_reply, event_limit, is_done}
use Rattle.vx_center.specs.Sheets.{added_from, has_key, place_in, same_key}
use Rattle.vx_election_model.specs.declared.election.Election.{Election}
use Rattle.vx_election_model.specs.Valid.{IsValid}
use Rattle.vx_events.specs.declared.event.Event.{Event}
use Rattle.vx_events.specs.declared.event.Event.TheVariants.{Add, Claim, Release, Decide}
use Rattle.vx_events.specs.declared.key.Key.{Key}
use Rattle.vx_io.specs.Outside.{Files}
use Rattle.vx_pbm.specs.Images.{IsWholePage}
use Rattle.vx_records.specs.Records.{record_of}
use Rattle.vx_refusals.specs.declared.reply.Reply.{Reply}
use Rattle.vx_refusals.specs.declared.reply.Reply.TheVariants.{Done}
use Rattle.vx_rules.specs.declared.marks.SheetMarks.{SheetMarks}
use Rattle.vx_scan_model.specs.Reading.{reading_of}
use Rattle.vx_sheet.specs.declared.came.Came.{Came}
use Rattle.vx_sheet.specs.declared.came.Came.TheVariants.{Added, Beyond, Full, Repeated, Single, Unpaired, Unread}
use Rattle.vx_sheet.specs.Came.{sheet_read}
use Rattle.vx_sheet.specs.Events.{event_of, number_limit}
use Rattle.vx_sheet.specs.Lines.{lines_of}
use Rattle.vx_sheet.specs.Margin.{FittingSheetsAreRead, sheet_marked}
use Rattle.vx_command.specs.Acts.{Act, Append, Write, records_of}
use Rattle.vx_command.specs.Images.{ScannedImagesAreWhole, images_in}
use Rattle.vx_command.specs.Laws.{TakenElectionsAreValid}
use Rattle.vx_journal.specs.declared.journal.Journal.{Journal}
use Rattle.vx_journal.specs.Keeping.{reply_in}
use Rattle.vx_command_count.specs.declared.counting.Counting.{Counting}
use Rattle.vx_command_count.specs.declared.tally.Tally.{Tally}
use Rattle.vx_command_count.specs.Margin.{BeginsWith, FittingSheetsAreAdded, FittingSheetsAreKept, IsOfEarlier, KeepsFront, header_if_none, key_at}
use Rattle.vx_command_count.specs.Outcome.{count_outcome, read_next}
use Rattle.vx_command_count.specs.Sheets.{came_by, came_if, counted_with, journal_if, keep_if, sheet_acts}
use Rattle.vx_command_count.specs.Tally.{next_image, next_number, tally_with}
use Rattle.vx_command_count.proofs.Held.{kept-records}
use Rattle.vx_command_count.proofs.Recorded.{begun, count-records, sheet_records}

-- the key of a number
abbrev pub key-of : List ℕ → ℕ → Key
key-of batch number = record { batch = batch; number = number }

-- a sheet with a new key and a number that may be is added where there is room
pub record IsAddedTo (journal : Journal) (batch : List ℕ) (number : ℕ) (sheet : SheetMarks) : Type 0 where
  pub acts : keep_if journal (event_of batch number (Ok sheet)) ≡ Append (record_of (Add (key-of batch number) sheet)) ∷ []
  pub came : came_if journal (event_of batch number (Ok sheet)) ≡ Added sheet
  pub next : (journal_if journal (event_of batch number (Ok sheet))).center.events ≡ journal.center.events ++ Add (key-of batch number) sheet ∷ []

pub added-to : (journal : Journal) (batch : List ℕ) (number : ℕ) (sheet : SheetMarks) → number ≤ number_limit
    → place_in journal.center.events (key-of batch number) ≡ None → length journal.center.events < event_limit → IsAddedTo journal batch number sheet
added-to journal batch number sheet most new room =
    let event : Event = Add (key-of batch number) sheet in
    let is : event_of batch number (Ok sheet) ≡ Ok event = cond-false (nat_lt number_limit number) (Err Beyond) (Ok event) (below-no number_limit number most) in
    let done : reply_in journal event ≡ Done =
    cond-true (nat_lt (length journal.center.events) event_limit) (add_reply (place_in journal.center.events (key-of batch number))) _ (below-yes (length journal.center.events) event_limit room)
    ∙ ap add_reply new in
    record {
      acts = ap (keep_if journal) is ∙ ap (λ (reply : Reply). cond (is_done reply) (Append (record_of event) ∷ []) []) done;
      came = ap (came_if journal) is ∙ ap (came_by event) done;
      next =
          ap (λ (made : Result Event Came). (journal_if journal made).center.events) is
          ∙ ap (λ (reply : Reply). cond (is_done reply) (journal.center.events ++ event ∷ []) journal.center.events) done;
    }

-- the acts of a sheet that fits
pub sheets-added : FittingSheetsAreRead → FittingSheetsAreAdded
sheets-added read election batch counting first second sheet valid first-whole second-whole fits most new room =
    let number = next_number counting.tally in
    let marks = sheet_marked sheet in
    let is : IsAddedTo counting.journal batch number marks = added-to counting.journal batch number marks most new room in
    ap (sheet_acts election batch counting) (read election (next_image counting.tally) first second sheet valid first-whole second-whole fits)
    ∙ ap₂ (λ (acts : List Act) (came : Came). acts ++ Write (lines_of election batch number came) ∷ []) is.acts is.came

-- a key stays new behind another key's sheet
pub other-key : (batch : List ℕ) (one other : ℕ) → one < other → same_key (key-of batch other) (key-of batch one) ≡ false
other-key batch one other less = and-no (bytes_eq batch batch) (other == one) (equal-no other one (λ e. absurd (omega (arith, e, less))))

module _ (key new : Key) (sheet : SheetMarks) (differ : same_key key new ≡ false) where
  -- a test that failed, and one that stays without an answer
  still-none : (test : Bool) (from : ℕ) (now then : Option ℕ) → (now ≡ None → then ≡ None) → cond test (Some from) now ≡ None → cond test (Some from) then ≡ None
  still-none true from now then stays none = absurd cc
  still-none false from now then stays none = stays none

  pub still-new : (kept : List Event) (from place : ℕ) → position_from (has_key key) from (added_from place kept) ≡ None
      → position_from (has_key key) from (added_from place (kept ++ Add new sheet ∷ [])) ≡ None
  still-new [] from place none = ap (λ (test : Bool). cond test (Some from) None) differ
  still-new (Add other marks ∷ events) from place none =
      still-none (same_key key other) from
      (position_from (has_key key) (from + 1) (added_from (place + 1) events))
      (position_from (has_key key) (from + 1) (added_from (place + 1) (events ++ Add new sheet ∷ [])))
      (still-new events (from + 1) (place + 1)) none
  still-new (Claim station other ∷ events) from place none = still-new events from (place + 1) none
  still-new (Release station other ∷ events) from place none = still-new events from (place + 1) none
  still-new (Decide station other contest decision ∷ events) from place none = still-new events from (place + 1) none

-- a record is of the sheet with a number
record IsNumbered (batch : List ℕ) (number : ℕ) (body : List ℕ) : Type 0 where
  sheet : SheetMarks
  is : body ≡ record_of (Add (key-of batch number) sheet)

-- what a sheet with a lower number does: it adds an event and its record, or neither, and a key stays new
record Goes (kept now : List Event) (added : List (List ℕ)) (lower : ℕ) (key : Key) : Type 0 where
  grown : length now ≡ length kept + length added
  few : length added ≤ 1
  is : All (IsNumbered key.batch lower) added
  new : place_in now key ≡ None

module _ (batch : List ℕ) (number : ℕ) where
  by-reply : (journal : Journal) (lower : ℕ) (sheet : SheetMarks) (done : Bool) → lower < number → place_in journal.center.events (key-of batch number) ≡ None
      → Goes journal.center.events
      (cond done (journal.center.events ++ Add (key-of batch lower) sheet ∷ []) journal.center.events)
      (flat_map records_of (cond done (Append (record_of (Add (key-of batch lower) sheet)) ∷ []) [])) lower (key-of batch number)
  by-reply journal lower sheet true less new = record {
    grown = length-append journal.center.events (Add (key-of batch lower) sheet ∷ []);
    few = omega arith;
    is = All-cons (IsNumbered batch lower) (record_of (Add (key-of batch lower) sheet)) [] (record { sheet = sheet; is = refl }) (All-nil (IsNumbered batch lower));
    new = still-new (key-of batch number) (key-of batch lower) sheet (other-key batch lower number less) journal.center.events 0 0 new;
  }
  by-reply journal lower sheet false less new = record { grown = omega arith; few = omega arith; is = All-nil (IsNumbered batch lower); new = new }

  by-number : (journal : Journal) (lower : ℕ) (sheet : SheetMarks) (beyond : Bool) → lower < number → place_in journal.center.events (key-of batch number) ≡ None
      → Goes journal.center.events
      (journal_if journal (cond beyond (Err Beyond) (Ok (Add (key-of batch lower) sheet)))).center.events
      (flat_map records_of (keep_if journal (cond beyond (Err Beyond) (Ok (Add (key-of batch lower) sheet))))) lower (key-of batch number)
  by-number journal lower sheet true less new = record { grown = omega arith; few = omega arith; is = All-nil (IsNumbered batch lower); new = new }
  by-number journal lower sheet false less new = by-reply journal lower sheet (is_done (reply_in journal (Add (key-of batch lower) sheet))) less new

  goes : (journal : Journal) (lower : ℕ) (read : Result SheetMarks Came) → lower < number → place_in journal.center.events (key-of batch number) ≡ None
      → Goes journal.center.events (journal_if journal (event_of batch lower read)).center.events
      (flat_map records_of (keep_if journal (event_of batch lower read))) lower (key-of batch number)
  goes journal lower (Ok sheet) less new = by-number journal lower sheet (nat_lt number_limit lower) less new
  goes journal lower (Err came) less new = record { grown = omega arith; few = omega arith; is = All-nil (IsNumbered batch lower); new = new }

-- each sheet has the next number
pub numbered : (tally : Tally) (came : Came) → next_number (tally_with tally came) ≡ next_number tally + 1
numbered tally (Added sheet) = omega arith
numbered tally Repeated = omega arith
numbered tally (Unread image fault) = omega arith
numbered tally (Unpaired fault) = omega arith
numbered tally Single = omega arith
numbered tally (Full count) = omega arith
numbered tally Beyond = omega arith

-- a record is of a sheet with a number below another
record IsLower (batch : List ℕ) (number : ℕ) (body : List ℕ) : Type 0 where
  lower : ℕ
  some : 0 < lower
  less : lower < number
  sheet : SheetMarks
  is : body ≡ record_of (Add (key-of batch lower) sheet)

-- a record stands in a list: behind few others, unless the machine was full then
record Stands (batch : List ℕ) (number : ℕ) (kept : List Event) (place : ℕ) (body : List ℕ) (records : List (List ℕ)) : Type 0 where
  before : List (List ℕ)
  behind : List (List ℕ)
  are : records ≡ before ++ behind
  few : length before ≤ place
  earlier : All (IsLower batch number) before
  stands : length kept + length before < event_limit → BeginsWith body behind

-- behind what another sheet did
stands-behind : (batch : List ℕ) (lower number : ℕ) (kept now : List Event) (added : List (List ℕ)) (place : ℕ) (body : List ℕ) (records : List (List ℕ))
    → 0 < lower → lower < number → Goes kept now added lower (key-of batch number) → Stands batch number now place body records → Stands batch number kept (suc place) body (added ++ records)
stands-behind batch lower number kept now added place body records some less goes it =
    let size : length (added ++ it.before) ≡ length added + length it.before = length-append added it.before in
    record {
      before = added ++ it.before;
      behind = it.behind;
      are = ap (λ (more : List (List ℕ)). added ++ more) it.are ∙ sym (append_assoc added it.before it.behind);
      few = omega (arith, size, it.few, goes.few);
      earlier =
          All-append (IsLower batch number) added it.before
          (λ k d within. let one = goes.is k d within in record { lower = lower; some = some; less = less; sheet = one.sheet; is = one.is })
          it.earlier;
      stands = λ room. it.stands (omega (arith, size, room, goes.grown));
    }

module _ (election : Election) (batch : List ℕ) (first second : Page) (sheet : SheetMarks) (number : ℕ) (most : number ≤ number_limit)
    (read : (image : ℕ) → sheet_read election image (reading_of election first) (reading_of election second) ≡ Ok sheet) where
  -- the sheet comes first
  first-stands : (counting : Counting) (images : List Page) → next_number counting.tally ≡ number → place_in counting.journal.center.events (key-of batch number) ≡ None
      → Stands batch number counting.journal.center.events 0 (record_of (Add (key-of batch number) sheet)) (sheet_records election batch counting (first ∷ (second ∷ images)))
  first-stands counting images is new =
      let next = read_next election counting first second in
      let more = sheet_records election batch (counted_with batch counting next) images in
      record {
        before = [];
        behind = sheet_records election batch counting (first ∷ (second ∷ images));
        are = refl;
        few = omega arith;
        earlier = All-nil (IsLower batch number);
        stands = λ room.
            let added : IsAddedTo counting.journal batch number sheet = added-to counting.journal batch number sheet most new (omega (arith, room)) in (
              more,
              ap₂ (λ (n : ℕ) (some : Result SheetMarks Came). flat_map records_of (keep_if counting.journal (event_of batch n some)) ++ more) is (read (next_image counting.tally))
                  ∙ ap (λ (acts : List Act). flat_map records_of acts ++ more) added.acts,
            );
      }

  -- the sheet in a place
  sheet-stands : (images : List Page) (place : ℕ) (counting : Counting) → slice_get images (2 * place) ≡ Some first → slice_get images (2 * place + 1) ≡ Some second
      → number ≡ next_number counting.tally + place → place_in counting.journal.center.events (key-of batch number) ≡ None
      → Stands batch number counting.journal.center.events place (record_of (Add (key-of batch number) sheet)) (sheet_records election batch counting images)
  sheet-stands [] place counting one other is new = absurd cc
  sheet-stands (single ∷ []) place counting one other is new =
      let past : 2 * place + 1 ≡ suc (2 * place) = omega arith in
      let none : None ≡ Some second = sym (ap (slice_get (single ∷ [])) past) ∙ other in
      absurd cc
  sheet-stands (front ∷ (back ∷ images)) zero counting one other is new =
      let same : front ≡ first = cc in
      let too : back ≡ second = cc in
      let Here : Page → Page → Type 0 = λ a b. Stands batch number counting.journal.center.events 0 (record_of (Add (key-of batch number) sheet)) (sheet_records election batch counting (a ∷ (b ∷ images))) in
      let At : Page → Type 0 = λ a. Here a back in
      let Behind : Page → Type 0 = λ b. Here first b in
      subst At (sym same) (subst Behind (sym too) (first-stands counting images (omega (arith, is)) new))
  sheet-stands (front ∷ (back ∷ images)) (suc place) counting one other is new =
      let next = read_next election counting front back in
      let now = counted_with batch counting next in
      let went = goes batch number counting.journal (next_number counting.tally) next (omega (arith, is)) new in
      let two : 2 * suc place ≡ suc (suc (2 * place)) = omega arith in
      let three : 2 * suc place + 1 ≡ suc (suc (2 * place + 1)) = omega arith in
      let count = numbered counting.tally (came_if counting.journal (event_of batch (next_number counting.tally) next)) in
      stands-behind batch (next_number counting.tally) number counting.journal.center.events now.journal.center.events
      (flat_map records_of (keep_if counting.journal (event_of batch (next_number counting.tally) next))) place
      (record_of (Add (key-of batch number) sheet)) (sheet_records election batch now images) (omega arith) (omega (arith, is)) went
      (sheet-stands images place now
      (sym (ap (slice_get (front ∷ (back ∷ images))) two) ∙ one) (sym (ap (slice_get (front ∷ (back ∷ images))) three) ∙ other)
      (omega (arith, is, count)) went.new)

-- sheets are numbered from 1, places from 0
earlier-of : (batch : List ℕ) (place : ℕ) (body : List ℕ) → IsLower batch (place + 1) body → IsOfEarlier batch place body
earlier-of batch place body it =
    let number : it.lower ≡ it.lower - 1 + 1 = omega (arith, it.some) in
    record {
      earlier = it.lower - 1;
      less = omega (arith, it.some, it.less);
      sheet = it.sheet;
      is = it.is ∙ ap (λ (n : ℕ). record_of (Add (key-of batch n) it.sheet)) number;
    }

-- whatever stands of the acts of `count`, it keeps what fits
pub keeps : TakenElectionsAreValid → ScannedImagesAreWhole → FittingSheetsAreRead → FittingSheetsAreKept
keeps taken_valid scanned fitting name batch scans files records taken taken_now held held_now answer done election plans events is planned replayed place first second sheet one other fits most new =
    let images : List Page = images_in files 4 scans in
    let valid : IsValid election = taken_valid (files name) election is in
    let first-whole : IsWholePage first = scanned files 4 scans (2 * place) first one in
    let second-whole : IsWholePage second = scanned files 4 scans (2 * place + 1) second other in
    let it : Stands batch (place + 1) events place (record_of (Add (key_at batch place) (sheet_marked sheet))) (sheet_records election batch (begun election records events) images) =
    sheet-stands election batch first second (sheet_marked sheet) (place + 1) (omega (arith, most))
    (λ image. fitting election image first second sheet valid first-whole.whole second-whole.whole fits)
    images place (begun election records events) one other (omega arith) new in
    let Kept : List (List ℕ) → Type 0 = λ list. KeepsFront list held held_now answer in
    record {
      before = it.before;
      behind = it.behind;
      few = it.few;
      earlier = λ k d within. earlier-of batch place (get_or it.before k d) (it.earlier k d within);
      stands = λ room. it.stands (omega (arith, room));
      kept =
          subst Kept
          (count-records name batch scans files records election plans events is planned replayed
          ∙ ap (λ (list : List (List ℕ)). header_if_none election records ++ list) it.are)
          (kept-records (count_outcome name batch scans files records) taken taken_now held held_now answer done);
    }
