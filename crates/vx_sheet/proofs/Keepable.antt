-- The event of two images that are read fits the election, and has a record.
use Rattle.std.proofs.Common.{◌≡◌, ℕ, ◌<◌, ◌≤◌, Bool, true, false, cond, List, Result, Ok, Err, refl, ap, subst, ◌∙◌}
use Rattle.std.specs.Prelude.{◌&&◌, IfOk, nat_le, nat_lt}
use Rattle.std.proofs.lemmas.List.{length-map}
use Rattle.vx_base.proofs.Booleans.{and-both, chosen-if}
use Rattle.vx_base.proofs.Numbers.{at_most-yes, below-from_no}
use Rattle.vx_base.proofs.Results.{bind_ok}
use Rattle.vx_plane.specs.Plane.{Page}
use Rattle.vx_count.specs.Turned.{turned_page}
use Rattle.vx_code.specs.declared.code.PageCode.{PageCode}
use Rattle.vx_code.specs.declared.code.CodeFault.{CodeFault}
use Rattle.vx_mark_model.specs.declared.fault.BorderFault.{BorderFault}
use Rattle.vx_grid.specs.Borders.{MarkPlaces}
use Rattle.vx_election_model.specs.declared.election.Election.{Election}
use Rattle.vx_election_model.specs.Valid.{IsValid}
use Rattle.vx_events.specs.declared.event.Event.{Event}
use Rattle.vx_events.specs.declared.event.Event.TheVariants.{Add}
use Rattle.vx_events.specs.declared.key.Key.{Key}
use Rattle.vx_events.specs.Fits.{is_batch, is_key, is_sheet}
use Rattle.vx_layout.specs.declared.pages.PagePlan.{PagePlan}
use Rattle.vx_layout.specs.Plans.{PlansShowEachOption}
use Rattle.vx_rules.specs.declared.marks.SheetMarks.{SheetMarks}
use Rattle.vx_scan_model.specs.declared.fault.PageFault.{PageFault}
use Rattle.vx_scan_model.specs.declared.fault.PageFault.TheVariants.{FrameSize}
use Rattle.vx_scan_model.specs.declared.reading.PageReading.{PageReading}
use Rattle.vx_scan_model.specs.Border.{border_of}
use Rattle.vx_scan_model.specs.Named.{named_plan}
use Rattle.vx_scan_model.specs.Reading.{code_read, either_way, is_allowed, reading_of, reading_of_border, reading_of_code, reading_on, scores_of, bubble_score, upright_reading_of}
use Rattle.vx_score.specs.Score.{state_of}
use Rattle.vx_sheet.specs.declared.came.Came.{Came}
use Rattle.vx_sheet.specs.declared.came.Came.TheVariants.{Beyond}
use Rattle.vx_sheet.specs.Came.{sheet_read}
use Rattle.vx_sheet.specs.Events.{event_of, number_limit}
use Rattle.vx_sheet.specs.Shows.{CanBeAdded, IsKeepable, IsOfPage, PairedCanBeAdded, PlansShowOptions, SheetEventsAreKeepable}

-- what a page is read as is of a planned page
of-code : (election : Election) (page : Page) (border : MarkPlaces) (read : Result PageCode CodeFault) (reading : PageReading) → reading_of_code election page border read ≡ Ok reading → IsOfPage election reading
of-code election page border (Err fault) reading is = absurd cc
of-code election page border (Ok code) reading is =
    let step = bind_ok (named_plan election code) (λ (plan : PagePlan). Ok (reading_on election page border code plan)) reading is in
    let same : reading_on election page border code step.0 ≡ reading = let made = step.2 in cc in
    let Of : PageReading → Type 0 = λ made. IsOfPage election made in
    subst Of same
    (record {
      plan = step.0;
      named = step.1;
      states = length-map (scores_of page border step.0.bubbles) (λ score. state_of score election.thresholds) ∙ length-map step.0.bubbles (bubble_score page border);
    })

of-border : (election : Election) (page : Page) (found : Result MarkPlaces BorderFault) (reading : PageReading) → reading_of_border election page found ≡ Ok reading → IsOfPage election reading
of-border election page (Err fault) reading is = absurd cc
of-border election page (Ok border) reading is = of-code election page border (code_read page border) reading is

of-upright : (election : Election) (page : Page) (reading : PageReading) → upright_reading_of election page ≡ Ok reading → IsOfPage election reading
unfolding upright_reading_of
of-upright election page reading is =
    let chosen = chosen-if (is_allowed election.paper page) (reading_of_border election page (border_of election.paper page)) (FrameSize page.width page.height) reading is in
    of-border election page (border_of election.paper page) reading chosen.1

of-either : (election : Election) (upright turned : Result PageReading PageFault) (reading : PageReading) → ((made : PageReading) → upright ≡ Ok made → IsOfPage election made) → ((made : PageReading) → turned ≡ Ok made → IsOfPage election made) → either_way upright turned ≡ Ok reading → IsOfPage election reading
of-either election (Ok made) turned reading one other is = one reading is
of-either election (Err fault) (Ok made) reading one other is =
    let of = other made refl in
    let same : record { code = made.code; border = made.border; scores = made.scores; states = made.states; turned = true } ≡ reading = cc in
    let Of : PageReading → Type 0 = λ told. IsOfPage election told in
    subst Of same (record { plan = of.plan; named = of.named; states = of.states })
of-either election (Err fault) (Err second) reading one other is = absurd cc

of-reading : (election : Election) (page : Page) (reading : PageReading) → reading_of election page ≡ Ok reading → IsOfPage election reading
unfolding reading_of
of-reading election page reading is =
    of-either election (upright_reading_of election page) (upright_reading_of election (turned_page page)) reading
    (of-upright election page) (of-upright election (turned_page page)) is

if-read : (election : Election) (read : Result PageReading PageFault) → ((made : PageReading) → read ≡ Ok made → IsOfPage election made) → IfOk read (IsOfPage election)
if-read election (Ok made) of = of made refl
if-read election (Err fault) of = tt

module _ (election : Election) (batch : List ℕ) (batch-is : is_batch batch ≡ true) (number : ℕ) (some : 0 < number) where
  abbrev key : Key
  key = record { batch = batch; number = number }

  key-is : number ≤ number_limit → is_key key ≡ true
  key-is most =
      and-both (is_batch batch) (nat_le 1 number && nat_le number number_limit) batch-is
      (and-both (nat_le 1 number) (nat_le number number_limit) (at_most-yes 1 number some) (at_most-yes number number_limit most))

  -- the event of a sheet that can be added
  sheet-keepable : (sheet : SheetMarks) (event : Event) → CanBeAdded election sheet → event_of batch number (Ok sheet) ≡ Ok event → IsKeepable election event
  sheet-keepable sheet event added is = by (nat_lt number_limit number) refl is
    where
      by : (b : Bool) → nat_lt number_limit number ≡ b → cond b (Err Beyond) (Ok (Add key sheet)) ≡ Ok event → IsKeepable election event
      by true high is = absurd cc
      by false low is =
          let fine = key-is (below-from_no number_limit number low) in
          let same : Add key sheet ≡ event = cc in
          subst (IsKeepable election) same (record { fits = and-both (is_key key) (is_sheet election sheet) fine added.fits; held = added.held key fine })

  read-keepable : (read : Result SheetMarks Came) (event : Event) → ((sheet : SheetMarks) → read ≡ Ok sheet → CanBeAdded election sheet) → event_of batch number read ≡ Ok event → IsKeepable election event
  read-keepable (Err came) event added is = absurd cc
  read-keepable (Ok sheet) event added is = sheet-keepable sheet event (added sheet refl) is

pub events-keepable : PairedCanBeAdded → PlansShowEachOption → SheetEventsAreKeepable
events-keepable paired shows election batch number image first second event valid batch-is some is =
    let shown : PlansShowOptions election = λ card plan planned. let each = shows election card plan valid planned in record { options = each.0; pages = each.1 } in
    read-keepable election batch batch-is number some (sheet_read election image (reading_of election first) (reading_of election second)) event
    (λ sheet made. paired election image (reading_of election first) (reading_of election second) sheet valid shown
    (if-read election (reading_of election first) (of-reading election first)) (if-read election (reading_of election second) (of-reading election second)) made)
    is
