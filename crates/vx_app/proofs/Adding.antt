-- The Add of a sheet that fits, among the events of its scan.
use Rattle.std.proofs.Common.{◌≡◌, ℕ, zero, suc, ◌+◌, ◌-◌, ◌*◌, ◌<◌, ◌≤◌, Bool, true, false, cond, List, [], ◌∷◌, ◌++◌, Option, Some, Result, Ok, Err, refl, sym, ap, subst, ◌∙◌, append_assoc, arith}
use Rattle.std.specs.Prelude.{All, nat_lt, slice_get}
use Rattle.std.proofs.lemmas.Bool.{cond-false}
use Rattle.std.proofs.lemmas.List.Elements.{All-nil, All-cons, All-append}
use Rattle.std.proofs.lemmas.Option.{none-some, same_Some, slice_get_within, get_or_from_slice_get}
use Rattle.vx_base.proofs.Numbers.{below-no}
use Rattle.vx_plane.specs.Plane.{Page}
use Rattle.vx_election_model.specs.declared.election.Election.{Election}
use Rattle.vx_election_model.specs.Valid.{IsValid}
use Rattle.vx_events.specs.declared.event.Event.{Event}
use Rattle.vx_events.specs.declared.event.Event.TheVariants.{Add}
use Rattle.vx_io.specs.Outside.{Files}
use Rattle.vx_words.specs.declared.command.ItemWord.{ItemWord}
use Rattle.vx_pbm.specs.Images.{ImagesAreWhole, IsWholePage, images_of}
use Rattle.vx_rules.specs.declared.marks.SheetMarks.{SheetMarks}
use Rattle.vx_sheet.specs.declared.came.Came.{Came}
use Rattle.vx_sheet.specs.declared.came.Came.TheVariants.{Beyond}
use Rattle.vx_sheet.specs.Events.{number_limit}
use Rattle.vx_sheet.specs.Margin.{FittingSheetsAreRead, FitsSheet, MarkedSheet, sheet_marked}
use Rattle.vx_command.specs.Laws.{TakenElectionsAreValid}
use Rattle.vx_command_count.specs.Margin.{key_at}
use Rattle.vx_command_center.specs.declared.item.Item.{Item}
use Rattle.vx_command_center.specs.declared.item.Item.TheVariants.{Script, Scan}
use Rattle.vx_command_center.specs.Items.{events_of}
use Rattle.vx_command_center.specs.Sheets.{event_if, events_from, events_made, read_of, sheets_from}
use Rattle.vx_app.specs.Adding.{AddsEarlier, AddsLater, AddsSheet, AddsWhatFits, CenterAddsWhatFits}

module _ (batch : List ℕ) where
  later-if : (place n : ℕ) (sheet : SheetMarks) (beyond : Bool) → place < n → All (AddsLater batch place) (events_made (cond beyond (Err Beyond) (Ok (Add (record { batch = batch; number = n + 1 }) sheet))))
  later-if place n sheet true more = All-nil (AddsLater batch place)
  later-if place n sheet false more =
      All-cons (AddsLater batch place) (Add (record { batch = batch; number = n + 1 }) sheet) [] (record { later = n; more = more; sheet = sheet; is = refl }) (All-nil (AddsLater batch place))

  -- the sheets from a number on come later than a place before it
  all-later : (place n : ℕ) → place < n → (reads : List (Result SheetMarks Came)) → All (AddsLater batch place) (events_from batch (n + 1) reads)
  all-later place n more [] = All-nil (AddsLater batch place)
  all-later place n more (Err came ∷ reads) = all-later place (n + 1) (omega (arith, more)) reads
  all-later place n more (Ok sheet ∷ reads) =
      All-append (AddsLater batch place) (event_if batch (n + 1) (Ok sheet)) (events_from batch (n + 1 + 1) reads)
      (later-if place n sheet (nat_lt number_limit (n + 1)) more) (all-later place (n + 1) (omega (arith, more)) reads)

  earlier-if : (place n : ℕ) (sheet : SheetMarks) (beyond : Bool) → n < place → All (AddsEarlier batch place) (events_made (cond beyond (Err Beyond) (Ok (Add (record { batch = batch; number = n + 1 }) sheet))))
  earlier-if place n sheet true less = All-nil (AddsEarlier batch place)
  earlier-if place n sheet false less =
      All-cons (AddsEarlier batch place) (Add (record { batch = batch; number = n + 1 }) sheet) [] (record { earlier = n; less = less; sheet = sheet; is = refl }) (All-nil (AddsEarlier batch place))

  one-earlier : (place n : ℕ) → n < place → (read : Result SheetMarks Came) → All (AddsEarlier batch place) (event_if batch (n + 1) read)
  one-earlier place n less (Err came) = All-nil (AddsEarlier batch place)
  one-earlier place n less (Ok sheet) = earlier-if place n sheet (nat_lt number_limit (n + 1)) less

  module _ (election : Election) where
    abbrev Stands : ℕ → SheetMarks → ℕ → List Page → Type 0
    Stands place sheet n pages = AddsSheet batch place sheet (events_from batch (n + 1) (sheets_from election (n + 1) pages))

    -- the sheet of the first two images
    stands-first : (place : ℕ) (sheet : SheetMarks) (first second : Page) (pages : List Page)
        → read_of election (place + 1) first second ≡ Ok sheet → place + 1 ≤ number_limit → Stands place sheet place (first ∷ second ∷ pages)
    stands-first place sheet first second pages is most =
        let behind : List Event = events_from batch (place + 1 + 1) (sheets_from election (place + 1 + 1) pages) in
        let event : Event = Add (key_at batch place) sheet in
        record {
          before = [];
          behind = behind;
          earlier = All-nil (AddsEarlier batch place);
          later = all-later place (place + 1) (omega arith) (sheets_from election (place + 1 + 1) pages);
          are =
              ap (λ (events : List Event). events ++ behind)
              (ap (event_if batch (place + 1)) is
              ∙ ap events_made (cond-false (nat_lt number_limit (place + 1)) (Err Beyond) (Ok event) (below-no number_limit (place + 1) most)));
        }

    -- behind two images more
    stands-next : (place n : ℕ) (sheet : SheetMarks) (one other : Page) (pages : List Page)
        → n < place → Stands place sheet (n + 1) pages → Stands place sheet n (one ∷ other ∷ pages)
    stands-next place n sheet one other pages less there =
        let front : List Event = event_if batch (n + 1) (read_of election (n + 1) one other) in
        record {
          before = front ++ there.before;
          behind = there.behind;
          earlier = All-append (AddsEarlier batch place) front there.before (one-earlier place n less (read_of election (n + 1) one other)) there.earlier;
          later = there.later;
          are = ap (λ (events : List Event). front ++ events) there.are ∙ sym (append_assoc front there.before (Add (key_at batch place) sheet ∷ there.behind));
        }

    -- the sheet of two images in their places
    stands-at : (place n k l : ℕ) (sheet : SheetMarks) (first second : Page) (pages : List Page)
        → n ≤ place → k + 2 * n ≡ 2 * place → l ≡ k + 1 → slice_get pages k ≡ Some first → slice_get pages l ≡ Some second
        → read_of election (place + 1) first second ≡ Ok sheet → place + 1 ≤ number_limit → Stands place sheet n pages
    stands-at place n k l sheet first second [] within here next at behind is most = absurd (none-some first at)
    stands-at place n k zero sheet first second (one ∷ pages) within here next at behind is most = absurd (omega (arith, next))
    stands-at place n k (suc l) sheet first second (one ∷ []) within here next at behind is most = absurd (none-some second behind)
    stands-at place n zero (suc zero) sheet first second (one ∷ other ∷ pages) within here next at behind is most =
        let same : place ≡ n = omega (arith, here) in
        subst (λ (m : ℕ). Stands place sheet m (one ∷ other ∷ pages)) same
        (stands-first place sheet one other pages
        (ap (λ (page : Page). read_of election (place + 1) page other) (same_Some one first at) ∙ ap (read_of election (place + 1) first) (same_Some other second behind) ∙ is) most)
    stands-at place n zero (suc (suc l)) sheet first second (one ∷ other ∷ pages) within here next at behind is most = absurd (omega (arith, next))
    stands-at place n (suc zero) (suc l) sheet first second (one ∷ other ∷ pages) within here next at behind is most = absurd (omega (arith, here))
    stands-at place n (suc (suc k)) (suc zero) sheet first second (one ∷ other ∷ pages) within here next at behind is most = absurd (omega (arith, next))
    stands-at place n (suc (suc k)) (suc (suc l)) sheet first second (one ∷ other ∷ pages) within here next at behind is most =
        stands-next place n sheet one other pages (omega (arith, here))
        (stands-at place (n + 1) k l sheet first second pages (omega (arith, here)) (omega (arith, here)) (omega (arith, next)) at behind is most)

whole-at : (images : List Page) (place : ℕ) (image : Page) → All IsWholePage images → slice_get images place ≡ Some image → IsWholePage image
whole-at images place image all at =
    subst IsWholePage (get_or_from_slice_get images place image image at) (all place image (slice_get_within images place image at))

module _ (whole : ImagesAreWhole) (fitting : FittingSheetsAreRead) (election : Election) (valid : IsValid election) where
  -- each sheet of a scan that fits is added
  scan-adds : (batch bytes : List ℕ) (sheets place : ℕ) (first second : Page) (sheet : MarkedSheet)
      → slice_get (images_of bytes).pages (2 * place) ≡ Some first → slice_get (images_of bytes).pages (2 * place + 1) ≡ Some second
      → FitsSheet election first second sheet → place + 1 ≤ number_limit
      → AddsSheet batch place (sheet_marked sheet) (events_of election (Scan batch bytes sheets))
  scan-adds batch bytes sheets place first second sheet one other fits most =
      let images : List Page = (images_of bytes).pages in
      stands-at batch election place 0 (2 * place) (2 * place + 1) (sheet_marked sheet) first second images (omega arith) (omega arith) refl one other
      (fitting election (2 * (place + 1) - 1) first second sheet valid (whole-at images (2 * place) first (whole bytes) one).whole (whole-at images (2 * place + 1) second (whole bytes) other).whole fits)
      most

  adds : (item : Item) → AddsWhatFits election item
  adds (Script events) = tt
  adds (Scan batch bytes sheets) = scan-adds batch bytes sheets

  all-add : (items : List Item) → All (AddsWhatFits election) items
  all-add [] = All-nil (AddsWhatFits election)
  all-add (item ∷ items) = All-cons (AddsWhatFits election) item items (adds item) (all-add items)

-- each item of a `center` adds what fits
pub adds-what-fits : TakenElectionsAreValid → ImagesAreWhole → FittingSheetsAreRead → (name : List ℕ) (words : List ItemWord) (files : Files) → CenterAddsWhatFits name words files
adds-what-fits taken_valid whole fitting name words files election items is taken =
    all-add whole fitting election (taken_valid (files name) election is) items
