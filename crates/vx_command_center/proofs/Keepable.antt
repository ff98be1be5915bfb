-- The events of items fit the election, and have records.
use Rattle.std.proofs.Common.{◌≡◌, ℕ, zero, suc, ◌+◌, ◌/◌, ◌<◌, ◌≤◌, Bool, true, false, cond, List, [], ◌∷◌, ◌++◌, map, Option, None, Some, Result, Ok, Err, refl, subst, arith}
use Rattle.std.specs.Prelude.{◌-◌, ◌*◌, All, length, nat_lt, slice_get, slice_set}
use Rattle.vx_base.proofs.Results.{bind_ok}
use Rattle.vx_base.specs.Results.{◌>>=◌}
use Rattle.vx_plane.specs.Plane.{Page}
use Rattle.vx_io.specs.Outside.{Files}
use Rattle.vx_pbm.specs.declared.fault.PbmFault.{PbmFault}
use Rattle.vx_pbm.specs.Images.{images_of}
use Rattle.vx_election_model.specs.declared.election.Election.{Election}
use Rattle.vx_election_model.specs.Valid.{IsValid}
use Rattle.vx_events.specs.declared.event.Event.{Event}
use Rattle.vx_events.specs.Fits.{is_batch}
use Rattle.vx_script.specs.Laws.{SaidEventsAreHeld}
use Rattle.vx_script.specs.Script.{event_in, lines_of}
use Rattle.vx_sheet.specs.declared.came.Came.{Came}
use Rattle.vx_sheet.specs.Events.{event_of}
use Rattle.vx_sheet.specs.Shows.{IsKeepable, SheetEventsAreKeepable}
use Rattle.vx_shared.specs.Interleaving.{Interleaving}
use Rattle.vx_words.specs.declared.command.ItemWord.{ItemWord}
use Rattle.vx_words.specs.declared.command.ItemWord.TheVariants as word
use Rattle.vx_words.specs.Items.{IsItem}
use Rattle.vx_command.specs.declared.halt.Halt.TheVariants.{TooManyEvents}
use Rattle.vx_command.specs.Acts.{input_of}
use Rattle.vx_command_center.specs.declared.item.Item.{Item}
use Rattle.vx_command_center.specs.declared.item.Item.TheVariants.{Script, Scan}
use Rattle.vx_command_center.specs.Items.{events_of, possible_of}
use Rattle.vx_command_center.specs.Outcome.{event_limit, events_in_line, events_in_lines, item_in, items_taken, limit_of, name_in, said_by, scan_unless, taken_item, within_limit}
use Rattle.vx_command_center.specs.Sheets.{event_if, events_from, events_made, read_of, sheets_from}

-- each event of a list, of lists, fits the election and has a record
abbrev pub Each : Election → List Event → Type 0
Each election [] = Unit {0}
Each election (event ∷ events) = IsKeepable election event × Each election events

abbrev pub EachOf : Election → List (List Event) → Type 0
EachOf election [] = Unit {0}
EachOf election (list ∷ lists) = Each election list × EachOf election lists

module _ (election : Election) where
  each_both : (events others : List Event) → Each election events → Each election others → Each election (events ++ others)
  each_both [] others each more = more
  each_both (event ∷ events) others each more = (each.0, each_both events others each.1 more)

  -- a list among others, and the others where it is shortened
  each_at : (lists : List (List Event)) (place : ℕ) (list : List Event) → slice_get lists place ≡ Some list → EachOf election lists → Each election list
  each_at [] place list is each = absurd cc
  each_at (one ∷ lists) zero list is each = let same : one ≡ list = cc in subst (Each election) same each.0
  each_at (one ∷ lists) (suc place) list is each = each_at lists place list is each.1

  each_set : (lists : List (List Event)) (place : ℕ) (list : List Event) → Each election list → EachOf election lists → EachOf election (slice_set lists place list)
  each_set [] place list one each = tt
  each_set (other ∷ lists) zero list one each = (one, each.1)
  each_set (other ∷ lists) (suc place) list one each = (each.0, each_set lists place list one each.1)

  -- what interleaves lists
  pub each_mixed : (events : List Event) (lists : List (List Event)) → Interleaving lists events → EachOf election lists → Each election events
  each_mixed [] lists mixed each = tt
  each_mixed (event ∷ events) lists mixed each =
      let list : Each election (event ∷ mixed.1) = each_at lists mixed.0 (event ∷ mixed.1) mixed.2.0 each in
      (list.0, each_mixed events (slice_set lists mixed.0 mixed.1) mixed.2.1 (each_set lists mixed.0 mixed.1 list.1 each))

  module _ (held : SaidEventsAreHeld) where
    -- the event of a line
    said_each : (number : ℕ) (line : List ℕ) (found : Option Event) → event_in election line ≡ found → (said : List Event) → said_by number found ≡ Ok said → Each election said
    said_each number line None is said says = absurd cc
    said_each number line (Some event) is said says =
        let has = held election line event is in
        let same : event ∷ [] ≡ said = cc in
        subst (Each election) same (record { fits = has.1; held = has.0 }, tt)

    line_each : (number : ℕ) (line : List ℕ) (said : List Event) → events_in_line election number line ≡ Ok said → Each election said
    line_each number [] said says = let same : [] ≡ said = cc in subst (Each election) same tt
    line_each number (b ∷ line) said says = said_each number (b ∷ line) (event_in election (b ∷ line)) refl said says

    lines_each : (lines : List (List ℕ)) (number : ℕ) (events : List Event) → events_in_lines election number lines ≡ Ok events → Each election events
    lines_each [] number events is = let same : [] ≡ events = cc in subst (Each election) same tt
    lines_each (line ∷ lines) number events is =
        let first = bind_ok (events_in_line election number line) (λ said. events_in_lines election (number + 1) lines >>= (λ more. Ok (said ++ more))) events is in
        let second = bind_ok (events_in_lines election (number + 1) lines) (λ more. Ok (first.0 ++ more)) events first.2 in
        let same : first.0 ++ second.0 ≡ events = let made = second.2 in cc in
        subst (Each election) same (each_both first.0 second.0 (line_each number line first.0 first.1) (lines_each lines (number + 1) second.0 second.1))

    module _ (keepable : SheetEventsAreKeepable) (valid : IsValid election) where
      -- the event of a sheet
      module _ (batch : List ℕ) (batch_is : is_batch batch ≡ true) where
        made_each : (made : Result Event Came) → ((event : Event) → made ≡ Ok event → IsKeepable election event) → Each election (events_made made)
        made_each (Err came) keeps = tt
        made_each (Ok event) keeps = (keeps event refl, tt)

        sheets_each : (pages : List Page) (number : ℕ) → 0 < number → Each election (events_from batch number (sheets_from election number pages))
        sheets_each [] number some = tt
        sheets_each (single ∷ []) number some = tt
        sheets_each (first ∷ (second ∷ pages)) number some =
            each_both (event_if batch number (read_of election number first second)) (events_from batch (number + 1) (sheets_from election (number + 1) pages))
            (made_each (event_of batch number (read_of election number first second)) (λ event is. keepable election batch number (2 * number - 1) first second event valid batch_is some is))
            (sheets_each pages (number + 1) (omega arith))

      -- the events of an item by its bytes
      scan_each : (at : ℕ) (batch bytes : List ℕ) (pages : List Page) (fault : Option PbmFault) (item : Item) → is_batch batch ≡ true → scan_unless at batch bytes pages fault ≡ Ok item → Each election (events_of election item)
      scan_each at batch bytes pages (Some fault) item batch_is is = absurd cc
      scan_each at batch bytes pages None item batch_is is =
          let same : Scan batch bytes (length pages / 2) ≡ item = cc in
          subst (λ (i : Item). Each election (events_of election i)) same (sheets_each batch batch_is (images_of bytes).pages 1 (omega arith))

      item_each : (at : ℕ) (item : ItemWord) (bytes : List ℕ) (given : Item) → IsItem item → item_in election at item bytes ≡ Ok given → Each election (events_of election given)
      item_each at (word.Script name) bytes given one is =
          let step = bind_ok (events_in_lines election 1 (lines_of bytes)) (λ (events : List Event). Ok (Script events)) given is in
          let same : Script step.0 ≡ given = let made = step.2 in cc in
          subst (λ (i : Item). Each election (events_of election i)) same (lines_each (lines_of bytes) 1 step.0 step.1)
      item_each at (word.Scan batch name) bytes given one is = scan_each at batch bytes (images_of bytes).pages (images_of bytes).fault given one.0 is

      -- an item within the limit is the one that was given
      limited : (at before : ℕ) (given taken : Item) (high : Bool) → cond high (Err (TooManyEvents at (before + possible_of given))) (Ok given) ≡ Ok taken → given ≡ taken
      limited at before given taken true is = absurd cc
      limited at before given taken false is = cc

      taken_each : (at before : ℕ) (item : ItemWord) (file : Option (List ℕ)) (taken : Item) → IsItem item → taken_item election at before item file ≡ Ok taken → Each election (events_of election taken)
      taken_each at before item file taken one is =
          let all = bind_ok (input_of at (limit_of item) file >>= item_in election at item) (within_limit at before) taken is in
          let read = bind_ok (input_of at (limit_of item) file) (item_in election at item) all.0 all.1 in
          let same : all.0 ≡ taken = limited at before all.0 taken (nat_lt event_limit (before + possible_of all.0)) all.2 in
          subst (λ (i : Item). Each election (events_of election i)) same (item_each at item read.0 all.0 one read.2)

      -- the events of all items
      pub items_each : (words : List ItemWord) (files : Files) (at before : ℕ) (items : List Item) → All IsItem words → items_taken election files at before words ≡ Ok items → EachOf election (map (events_of election) items)
      items_each [] files at before items all is = let same : [] ≡ items = cc in subst (λ (some : List Item). EachOf election (map (events_of election) some)) same tt
      items_each (item ∷ words) files at before items all is =
          let first = bind_ok (taken_item election at before item (files (name_in item))) (λ taken. items_taken election files (at + 1) (before + possible_of taken) words >>= (λ others. Ok (taken ∷ others))) items is in
          let second = bind_ok (items_taken election files (at + 1) (before + possible_of first.0) words) (λ (others : List Item). Ok (first.0 ∷ others)) items first.2 in
          let same : first.0 ∷ second.0 ≡ items = let made = second.2 in cc in
          subst (λ (some : List Item). EachOf election (map (events_of election) some)) same (
            taken_each at before item (files (name_in item)) first.0 (all 0 item (omega arith)) first.1,
            items_each words files (at + 1) (before + possible_of first.0) second.0 (λ k d within. all (suc k) d (omega (arith, within))) second.1,
          )
