-- The readings that `read` wrote of images, tested image after image.
use Rattle.std.proofs.Common.{◌≡◌, ◌+◌, ◌^◌, ◌<◌, ◌≤◌, ℕ, zero, suc, Bool, true, cond, List, [], ◌∷◌, ◌++◌, map, length, arith, refl, ap, ◌∙◌}
use Rattle.std.specs.Prelude.{Some, None, Result, Ok, Err}
use Rattle.vx_base.specs.Results.{◌>>=◌}
use Rattle.vx_base.proofs.Numbers.{equal-yes}
use Rattle.vx_plane.specs.Plane.{Page}
use Rattle.vx_code.specs.Code.{tag_of}
use Rattle.vx_election_model.specs.declared.election.Election.{Election}
use Rattle.vx_election_model.specs.Valid.{IsValid}
use Rattle.vx_layout.specs.declared.bubbles.Bubble.{Bubble}
use Rattle.vx_scan_model.specs.declared.fault.PageFault.{PageFault}
use Rattle.vx_scan_model.specs.declared.reading.PageReading.{PageReading}
use Rattle.vx_scan_model.specs.FaultTexts.{fault_text}
use Rattle.vx_scan_model.specs.Reading.{named_plan, reading_of}
use Rattle.vx_scan_model.specs.Certificate.{ReadingsAreCertificates}
use Rattle.vx_check.specs.Tests.{tested}
use Rattle.vx_readings.specs.declared.said.SaidReading.{SaidReading}
use Rattle.vx_readings.specs.declared.said.SaidPage.{SaidPage}
use Rattle.vx_readings.specs.declared.said.SaidPage.TheVariants.{NoReading, Reading}
use Rattle.vx_readings.specs.Laws.{name_of, text_left, WrittenIsReadBack}
use Rattle.vx_readings.specs.Parts.{lines_of}
use Rattle.vx_readings.specs.ReadingText.{bubbles_on, reading_text, image_text}
use Rattle.vx_readings.specs.Readings.{Unread, next_of, onwards, readings_within}
use Rattle.vx_command.specs.declared.halt.Halt.{Halt}
use Rattle.vx_command.specs.Acts.{Write, Outcome, work, after, goes_on}
use Rattle.vx_command_read.specs.Margin.{texts_of_images}
use Rattle.vx_command_check.specs.Answers.{certified_line, is_named, other_name, reading_halt, name_halt, names_checked, reading_checked, page_answer}
use Rattle.vx_command_check.specs.Outcome.{readings_outcome}
use Rattle.vx_check.specs.Accepted.{CertificatesAreAccepted}
use Rattle.vx_certified.specs.Sayable.{ReadingsAreSayable, FaultsAreOneLine}
use Rattle.vx_certified.specs.Certified.{line_of_reading, line_acts}

-- the lines of a page's own bubbles name them
own-name : (bubble : Bubble) (bubbles : List Bubble) → is_named (name_of bubble) (bubble ∷ bubbles) ≡ true
own-name bubble bubbles = rw (equal-yes bubble.contest bubble.contest refl, equal-yes bubble.option bubble.option refl) refl

own-names : (line : ℕ) (bubbles : List Bubble) → other_name line (map name_of bubbles) bubbles ≡ None
own-names line [] = refl
own-names line (bubble ∷ bubbles) =
    ap (λ (same : Bool). cond same (other_name (line + 1) (map name_of bubbles) bubbles) (Some line)) (own-name bubble bubbles)
    ∙ own-names (line + 1) bubbles

-- the laws that this stands on
pub record AreWritten : Type 0 where
  pub back : WrittenIsReadBack
  pub certificates : ReadingsAreCertificates
  pub accepted : CertificatesAreAccepted
  pub sayable : ReadingsAreSayable
  pub one_line : FaultsAreOneLine

module _ (laws : AreWritten) (election : Election) (valid : IsValid election) where
  -- what is left of the readings of images, of which some are done
  abbrev left_at : ℕ → ℕ → List ℕ → Unread
  left_at done number text = text_left election.paper (tag_of election.digest) done number text

  -- a reading of these bubbles is accepted, with the names of its lines
  accepted-said : (number : ℕ) (image : Page) (said : SaidReading) → tested election image said.reading ≡ Ok tt
      → said.names ≡ map name_of (bubbles_on (named_plan election said.reading.code)) → reading_checked election number image said ≡ Ok tt
  unfolding reading_checked
  accepted-said number image said passes names =
      let bubbles : List Bubble = bubbles_on (named_plan election said.reading.code) in
      ap (λ t. reading_halt number t >>= (λ _. names_checked election said)) passes
      ∙ (ap (λ ns. name_halt (other_name said.first_bubble ns bubbles)) names
      ∙ ap name_halt (own-names said.first_bubble bubbles))

  -- what is written of an image is read back, and accepted of it
  record IsTold (done number : ℕ) (image : Page) (rest text line : List ℕ) : Type 0 where
    page : SaidPage
    next : ℕ
    step : next_of (left_at done number (text ++ rest)) ≡ Ok (Some (page, left_at (done + 1) next rest))
    answer : page_answer election (done + 1) image page ≡ Ok line

  told-reading : (done number : ℕ) (image : Page) (rest : List ℕ) (read : Result PageReading PageFault) → done + 1 < 2 ^ 32 → reading_of election image ≡ read
      → IsTold done number image rest (reading_text election (done + 1) read) (line_of_reading (done + 1) read)
  told-reading done number image rest (Ok reading) small is =
      let bubbles : List Bubble = bubbles_on (named_plan election reading.code) in
      let said : SaidReading = record { first_bubble = number + 2; names = map name_of bubbles; reading = reading } in
      let passes : tested election image reading ≡ Ok tt = laws.accepted election image reading valid (laws.certificates election image reading valid is) in
      record {
        page = Reading said;
        next = number + 3 + length bubbles;
        step = laws.back.block election.paper (tag_of election.digest) done number bubbles reading rest small (laws.sayable election image reading valid is);
        answer = ap (λ (c : Result (Unit {0}) Halt). c >>= (λ _. Ok (certified_line (done + 1)))) (accepted-said (done + 1) image said passes refl);
      }
  told-reading done number image rest (Err fault) small is = record {
    page = NoReading;
    next = number + 1;
    step = laws.back.fault election.paper (tag_of election.digest) done number (fault_text fault) rest small (laws.one_line fault);
    answer = refl;
  }

  told-image : (done number : ℕ) (image : Page) (rest : List ℕ) → done + 1 < 2 ^ 32
      → IsTold done number image rest (image_text election (done + 1) image) (line_of_reading (done + 1) (reading_of election image))
  unfolding image_text
  told-image done number image rest small = told-reading done number image rest (reading_of election image) small refl

  -- all that was written of images is accepted of them
  abbrev outcome_at : ℕ → ℕ → List Page → ℕ → Outcome
  outcome_at done number images steps =
      readings_outcome election done images (readings_within steps (left_at done number (texts_of_images election (done + 1) images)))

  none-left : (done number steps : ℕ) → outcome_at done number [] steps ≡ work []
  unfolding next_of lines_of
  none-left done number zero = refl
  none-left done number (suc steps) = refl

  pub images-accepted : (images : List Page) (done number steps : ℕ) → length images ≤ steps → done + length images < 2 ^ 32
      → outcome_at done number images steps ≡ work (line_acts election (done + 1) images)
  images-accepted [] done number steps enough small = none-left done number steps
  images-accepted (image ∷ images) done number zero enough small = absurd (omega (arith, enough))
  images-accepted (image ∷ images) done number (suc steps) enough small =
      let rest : List ℕ = texts_of_images election (done + 1 + 1) images in
      let told = told-image done number image rest (omega (arith, small)) in
      let others = images-accepted images (done + 1) told.next steps (omega (arith, enough)) (omega (arith, small)) in
      ap (λ found. readings_outcome election done (image ∷ images) (onwards (readings_within steps) found)) told.step
      ∙ (ap (λ line. goes_on line (λ (l : List ℕ). after (Write l ∷ []) (outcome_at (done + 1) told.next images steps))) told.answer
      ∙ ap (λ o. after (Write (line_of_reading (done + 1) (reading_of election image)) ∷ []) o) others)
