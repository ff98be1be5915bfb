-- The prints of a sheet are counted by a `center` of their scan alone.
use Rattle.std.proofs.Common.{◌≡◌, ◌≤◌, ℕ, ◌+◌, inr, List, [], ◌∷◌, ◌++◌, length, refl, sym, ap, subst, ◌∙◌, arith, append-nil}
use Rattle.std.specs.Prelude.{All, Option, Some, None, Ok, Result, sum_by}
use Rattle.std.proofs.lemmas.List.Elements.{All-cons, All-nil}
use Rattle.std.proofs.lemmas.List.Sums.{sum_by-cons}
use Rattle.vx_base.specs.Results.{◌>>=◌}
use Rattle.vx_io.specs.Outside.{Files}
use Rattle.vx_election_model.specs.declared.election.Election.{Election}
use Rattle.vx_election_model.specs.Valid.{IsValid}
use Rattle.vx_events.specs.declared.event.Event.{Event}
use Rattle.vx_events.specs.declared.event.Event.TheVariants.{Add}
use Rattle.vx_pbm.specs.Images.{Images, JoinsRawImages, ReadsBack, images_of}
use Rattle.vx_rules.specs.declared.marks.SheetMarks.{SheetMarks}
use Rattle.vx_scan_model.specs.Fits.{CleanPrintsFit}
use Rattle.vx_sheet.specs.declared.came.Came.{Came}
use Rattle.vx_sheet.specs.Margin.{FittingSheetsAreRead, sheet_marked}
use Rattle.vx_center.specs.Replies.{event_limit}
use Rattle.vx_command.specs.declared.halt.Halt.{Halt}
use Rattle.vx_command.specs.Acts.{input_limit}
use Rattle.vx_command.specs.Texts.{broke_off}
use Rattle.vx_command_count.specs.Margin.{key_at}
use Rattle.vx_command_center.specs.declared.item.Item.{Item}
use Rattle.vx_command_center.specs.declared.item.Item.TheVariants.{Scan as Scanned}
use Rattle.vx_command_center.specs.Items.{events_of}
use Rattle.vx_command_center.specs.Sheets.{event_if, events_in}
use Rattle.vx_command_center.specs.Outcome.{item_in, items_taken, scan_unless, taken_item, within_limit}
use Rattle.vx_words.specs.declared.command.ItemWord.TheVariants.{Scan}
use Rattle.vx_headline.specs.Day.{CentersCountPrints}
use Rattle.vx_headline.specs.Stacks.{AddsNoOther, ArePictures, CentersCountStacks, Pictured, scan_of}
use Rattle.vx_headline.proofs.Day.{are-pictures, has-number, printed-twice}
use Rattle.vx_headline.proofs.Stacks.{scan-read, taken}

one-event : 1 ≤ event_limit
unfolding event_limit
one-event = omega arith

module _ (election : Election) (batch : List ℕ) (it : Pictured)
    (images : images_of (scan_of it) ≡ record { pages = it.first ∷ it.second ∷ []; fault = None }) where
  abbrev the-item : Item
  the-item = Scanned batch (scan_of it) 1

  abbrev no-others : Result (List Item) Halt
  no-others = Ok []

  abbrev then-others : Result Item Halt → Result (List Item) Halt
  then-others found = found >>= (λ item. no-others >>= (λ others. Ok (item ∷ others)))

  -- a word that names the scan is taken as it
  is-taken : (files : Files) (scan : List ℕ) → files scan ≡ Some (scan_of it) → length (scan_of it) ≤ input_limit
      → items_taken election files 4 0 (Scan batch scan ∷ []) ≡ Ok (the-item ∷ [])
  is-taken files scan is_file short =
      let Given : Result (List ℕ) Halt → Result (List Item) Halt =
      λ given. then-others (given >>= item_in election 4 (Scan batch scan) >>= within_limit 4 0) in
      ap (λ (file : Option (List ℕ)). then-others (taken_item election 4 0 (Scan batch scan) file)) is_file
      ∙ ap Given (taken 4 (scan_of it) short)
      ∙ ap (λ (some : Images). then-others (scan_unless 4 batch (scan_of it) some.pages some.fault >>= within_limit 4 0)) images

  -- its only event adds the sheet
  its-event : FittingSheetsAreRead → IsValid election → ArePictures election it
      → events_of election the-item ≡ Add (key_at batch 0) (sheet_marked it.sheet) ∷ []
  its-event reads valid are =
      ap (λ (some : Images). events_in election batch some.pages) images
      ∙ ap (λ (read : Result SheetMarks Came). event_if batch 1 read ++ [])
      (reads election 1 it.first it.second it.sheet valid are.first_whole.whole are.second_whole.whole are.fits)

pub centers-count-prints : CleanPrintsFit → FittingSheetsAreRead → JoinsRawImages → ReadsBack → CentersCountStacks → CentersCountPrints
centers-count-prints clean reads joins back stacks election sheet batch one printed centers =
    let it : Pictured = printed-twice election sheet in
    let are : ArePictures election it = are-pictures clean election sheet printed in
    let images = scan-read joins back election it are in
    let item : Item = Scanned batch (scan_of it) 1 in
    let event : Event = Add (key_at batch 0) (sheet_marked sheet) in
    let is : events_of election item ≡ event ∷ [] = its-event election batch it images reads printed.valid are in
    let Own : Event → Type 0 = AddsNoOther (key_at batch 0) (sheet_marked sheet) in
    let Each : Item → Type 0 = λ some. All Own (events_of election some) in
    let AllOwn : List Event → Type 0 = All Own in
    let each : Each item = subst AllOwn (sym is) (All-cons Own event [] (λ same. refl) (All-nil Own)) in
    let number : Item → ℕ = λ some. length (events_of election some) in
    let size : sum_by number (item ∷ []) ≡ 1 = sum_by-cons number item [] ∙ ap (λ (some : List Event). length some + 0) is in
    stacks election [] [] one [] [] batch (it ∷ []) (item ∷ []) 0 it refl
    (record {
      name = centers.name;
      moment = centers.moment;
      device = centers.device;
      before = [];
      file = centers.scan;
      behind = [];
      is_center = centers.is_center;
      are_items = is-taken election batch it images one.files centers.scan centers.is_file centers.short;
      is_file = centers.is_file ∙ ap (λ (bytes : List ℕ). Some bytes) (sym (append-nil (scan_of it)));
      pictures = (are, tt);
    })
    refl has-number (record { planned = printed.planned; replays = refl; free = refl })
    (All-cons Each item [] each (All-nil Each))
    (let enough = one-event in omega (arith, size, enough)) (inr (ap broke_off centers.well))
