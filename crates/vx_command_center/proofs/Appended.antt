-- What a `center` appends, and the item of a scan that one of its words names.
use Rattle.std.proofs.Common.{◌≡◌, ◌⊎◌, inl, inr, ℕ, zero, suc, ◌+◌, ◌/◌, Bool, true, false, cond, List, [], ◌∷◌, ◌++◌, map, Option, Some, None, Result, Ok, Err, refl, sym, ap, ap₂, subst, ◌∙◌, append-nil}
use Rattle.std.specs.Prelude.{slice_get, nat_lt, length}
use Rattle.std.specs.List.{flat_map}
use Rattle.std.proofs.lemmas.Grind.{flat_map-append}
use Rattle.std.proofs.lemmas.Option.{same_Some}
use Rattle.vx_base.specs.Results.{◌>>=◌}
use Rattle.vx_base.proofs.Booleans.{chosen-unless}
use Rattle.vx_base.proofs.Results.{bind_ok}
use Rattle.vx_io.specs.Outside.{Files}
use Rattle.vx_election_model.specs.declared.election.Election.{Election}
use Rattle.vx_events.specs.declared.event.Event.{Event}
use Rattle.vx_layout.specs.declared.plan.CardPlan.{CardPlan}
use Rattle.vx_pbm.specs.declared.fault.PbmFault.{PbmFault}
use Rattle.vx_pbm.specs.Images.{images_of}
use Rattle.vx_plane.specs.Plane.{Page}
use Rattle.vx_records.specs.Records.{record_of}
use Rattle.vx_shared.specs.declared.history.Entry.{Entry}
use Rattle.vx_shared.specs.Legal.{done_events}
use Rattle.vx_words.specs.declared.command.ItemWord.{ItemWord}
use Rattle.vx_words.specs.declared.command.ItemWord.TheVariants.{Scan as ScanWord}
use Rattle.vx_command.specs.declared.halt.Halt.{Halt}
use Rattle.vx_command.specs.declared.halt.Halt.TheVariants.{TooManyEvents, TooLong, ReadFault, WriteFault, KeeperFault, NoMemory}
use Rattle.vx_command.specs.Acts.{Act, Append, Answer, Outcome, goes_on, input_limit, input_of, records_of, work}
use Rattle.vx_command.specs.Elections.{election_in, once_planned, plans_in}
use Rattle.vx_journal.specs.declared.journal.Journal.{Journal}
use Rattle.vx_journal.specs.Keeping.{begin_acts}
use Rattle.vx_journal.specs.Steps.{once_read}
use Rattle.vx_command_center.specs.declared.item.Item.{Item}
use Rattle.vx_command_center.specs.declared.item.Item.TheVariants.{Scan}
use Rattle.vx_command_center.specs.Laws.{CentersKeepTheirHistory, ScansAreItems}
use Rattle.vx_command_center.specs.Items.{lines_of_item, possible_of}
use Rattle.vx_command_center.specs.Outcome.{append_acts, center_outcome, end_acts, event_limit, history_acts, item_in, items_outcome, items_taken, journal_outcome, name_in, scan_unless, taken_item, within_limit, written_acts}

appended : (events : List Event) → flat_map records_of (append_acts events) ≡ map record_of events
appended [] = refl
appended (event ∷ events) = ap (λ (some : List (List ℕ)). record_of event ∷ some) (appended events)

lines-none : (place : ℕ) (history : List Entry) (more : List Act) → flat_map records_of (history_acts place history ++ more) ≡ flat_map records_of more
lines-none place [] more = refl
lines-none place (call ∷ history) more = lines-none (place + 1) history more

module _ (election : Election) (files : Files) where
  given-records : (given : Result Item Halt) (taken : Item) (rest : Item → Outcome) → given ≡ Ok taken
      → flat_map records_of (goes_on given rest).acts ≡ flat_map records_of (rest taken).acts
  given-records given taken rest is = ap (λ (some : Result Item Halt). flat_map records_of (goes_on some rest).acts) is

  items-records : (words : List ItemWord) (word before : ℕ) (items : List Item) (rest : List Item → Outcome)
      → items_taken election files word before words ≡ Ok items
      → flat_map records_of (items_outcome election files word before words rest).acts ≡ flat_map records_of (rest items).acts
  items-records [] word before items rest is = let same : [] ≡ items = cc in ap (λ (some : List Item). flat_map records_of (rest some).acts) same
  items-records (item ∷ words) word before items rest is =
      let one = bind_ok (taken_item election word before item (files (name_in item)))
      (λ taken. items_taken election files (word + 1) (before + possible_of taken) words >>= (λ others. Ok (taken ∷ others))) items is in
      let others = bind_ok (items_taken election files (word + 1) (before + possible_of one.0) words) (λ others. Ok (one.0 ∷ others)) items one.2 in
      let same : one.0 ∷ others.0 ≡ items = let made = others.2 in cc in
      given-records (taken_item election word before item (files (name_in item))) one.0
      (λ taken. items_outcome election files (word + 1) (before + possible_of taken) words (λ others. rest (taken ∷ others))) one.1
      ∙ items-records words (word + 1) (before + possible_of one.0) others.0 (λ others. rest (one.0 ∷ others)) others.1
      ∙ ap (λ (some : List Item). flat_map records_of (rest some).acts) same

  -- the item of a word of a scan
  scan-of : (word : ℕ) (batch bytes : List ℕ) (pages : List Page) (fault : Option PbmFault) (item : Item)
      → scan_unless word batch bytes pages fault ≡ Ok item → (sheets : ℕ) × (item ≡ Scan batch bytes sheets)
  scan-of word batch bytes pages None item is = (length pages / 2, let same : Scan batch bytes (length pages / 2) ≡ item = cc in sym same)
  scan-of word batch bytes pages (Some fault) item is = absurd cc

  one-scan : (word before : ℕ) (batch file bytes : List ℕ) (item : Item) → files file ≡ Some bytes
      → taken_item election word before (ScanWord batch file) (files file) ≡ Ok item → (sheets : ℕ) × (item ≡ Scan batch bytes sheets)
  one-scan word before batch file bytes item is taken =
      let two = bind_ok (input_of word input_limit (files file) >>= item_in election word (ScanWord batch file)) (within_limit word before) item taken in
      let one = bind_ok (input_of word input_limit (files file)) (item_in election word (ScanWord batch file)) two.0 two.1 in
      let had : input_of word input_limit (Some bytes) ≡ Ok one.0 = ap (input_of word input_limit) (sym is) ∙ one.1 in
      let own = chosen-unless (nat_lt input_limit (length bytes)) (Ok bytes) (TooLong word (length bytes)) one.0 had in
      let same : bytes ≡ one.0 = let given = own.1 in cc in
      let made = scan-of word batch one.0 (images_of one.0).pages (images_of one.0).fault two.0 one.2 in
      let kept = chosen-unless (nat_lt event_limit (before + possible_of two.0)) (Ok two.0) (TooManyEvents word (before + possible_of two.0)) item two.2 in
      let it : two.0 ≡ item = let given = kept.1 in cc in
      (made.0, sym it ∙ made.1 ∙ ap (λ (some : List ℕ). Scan batch some made.0) (sym same))

  scan-there : (words : List ItemWord) (word before n : ℕ) (items : List Item) (batch file bytes : List ℕ)
      → items_taken election files word before words ≡ Ok items → slice_get words n ≡ Some (ScanWord batch file) → files file ≡ Some bytes
      → (sheets : ℕ) × (slice_get items n ≡ Some (Scan batch bytes sheets))
  scan-there [] word before n items batch file bytes is at there = absurd cc
  scan-there (item ∷ words) word before n items batch file bytes is at there =
      let one = bind_ok (taken_item election word before item (files (name_in item)))
      (λ taken. items_taken election files (word + 1) (before + possible_of taken) words >>= (λ others. Ok (taken ∷ others))) items is in
      let others = bind_ok (items_taken election files (word + 1) (before + possible_of one.0) words) (λ others. Ok (one.0 ∷ others)) items one.2 in
      let same : one.0 ∷ others.0 ≡ items = let made = others.2 in cc in
      let Has : List Item → Type 0 = λ some. (sheets : ℕ) × (slice_get some n ≡ Some (Scan batch bytes sheets)) in
      subst Has same (by n at one.0 one.1 others.0
      (λ n at. scan-there words (word + 1) (before + possible_of one.0) n others.0 batch file bytes others.1 at there))
    where
      by : (n : ℕ) → slice_get (item ∷ words) n ≡ Some (ScanWord batch file) → (first : Item)
          → taken_item election word before item (files (name_in item)) ≡ Ok first → (others : List Item)
          → ((n : ℕ) → slice_get words n ≡ Some (ScanWord batch file) → (sheets : ℕ) × (slice_get others n ≡ Some (Scan batch bytes sheets)))
          → (sheets : ℕ) × (slice_get (first ∷ others) n ≡ Some (Scan batch bytes sheets))
      by zero at first taken others go =
          let Taken : ItemWord → Type 0 = λ some. taken_item election word before some (files (name_in some)) ≡ Ok first in
          let made = one-scan word before batch file bytes first there (subst Taken (same_Some item (ScanWord batch file) at) taken) in
          (made.0, ap Some made.1)
      by (suc n) at first taken others go = go n at

-- all records of a `center`, by its history
pub center-records : CentersKeepTheirHistory
center-records name moment device words files records history election plans journal items is planned read are =
    let events = journal.center.events in
    let written = written_acts journal.center.election (events ++ done_events history) history
    (flat_map (lines_of_item journal.center.election) items) moment device in
    ap (λ (given : Result Election Halt). flat_map records_of
    (goes_on given (λ some. once_planned some (once_read some records (journal_outcome some moment device words files history)))).acts) is
    ∙ ap (λ (given : Result (List CardPlan) Halt). flat_map records_of
    (goes_on given (λ some. once_read election records (journal_outcome election moment device words files history))).acts) planned
    ∙ ap (λ (given : Result Journal Halt). flat_map records_of (goes_on given (journal_outcome election moment device words files history)).acts) read
    ∙ items-records election files words 4 0 items (λ items. work (end_acts election journal moment device items history)) are
    ∙ flat_map-append records_of (begin_acts journal) (append_acts (done_events history) ++ _)
    ∙ ap (λ (more : List (List ℕ)). flat_map records_of (begin_acts journal) ++ more)
    (flat_map-append records_of (append_acts (done_events history)) _
    ∙ ap₂ (λ (some more : List (List ℕ)). some ++ more) (appended (done_events history)) (lines-none 0 history _)
    ∙ append-nil (map record_of (done_events history)))

pub scans-there : ScansAreItems
scans-there election files words items n batch file bytes are at is = scan-there election files words 4 0 n items batch file bytes are at is
