-- Pages that are certified, and what is said of them.
use Rattle.std.proofs.Common.{◌≡◌, ◌+◌, ℕ, zero, suc, List, [], ◌∷◌, ◌++◌, length, drop, codes, get_or, Option, Some, None, Result, Ok, Err, arith, refl, sym, ap, subst, ◌∙◌}
use Rattle.std.specs.Prelude.{All, slice_get}
use Rattle.std.specs.List.{flat_map}
use Rattle.std.specs.Fmt.{decimal}
use Rattle.std.proofs.lemmas.List.Elements.{All-nil}
use Rattle.std.proofs.lemmas.Option.{slice_get_within, get_or_from_slice_get}
use Rattle.vx_base.specs.Results.{◌>>=◌}
use Rattle.vx_base.proofs.Lists.{drop-front}
use Rattle.vx_base.proofs.Results.{bind_ok}
use Rattle.vx_plane.specs.Plane.{Page as Bitmap}
use Rattle.vx_election_model.specs.declared.election.Election.{Election}
use Rattle.vx_election_model.specs.Valid.{IsValid}
use Rattle.vx_io.specs.Outside.{Files}
use Rattle.vx_layout.specs.declared.plan.CardPlan.{CardPlan}
use Rattle.vx_pbm.specs.declared.fault.PbmFault.{PbmFault}
use Rattle.vx_pbm.specs.Images.{images_of, IsWholePage, ImagesAreWhole}
use Rattle.vx_scan_model.specs.Certificate.{CertificatesSayWhatFits}
use Rattle.vx_check.specs.Tests.{Tested, tested}
use Rattle.vx_readings.specs.declared.fault.ReadingsFault.{ReadingsFault}
use Rattle.vx_readings.specs.declared.said.SaidReading.{SaidReading}
use Rattle.vx_readings.specs.declared.said.SaidPage.{SaidPage}
use Rattle.vx_readings.specs.declared.said.SaidPage.TheVariants.{NoReading, Reading}
use Rattle.vx_readings.specs.ReadingText.{line_of}
use Rattle.vx_command.specs.declared.halt.Halt.{Halt}
use Rattle.vx_command.specs.Acts.{Answer, Outcome, Write, after, goes_on, taking, input_of, input_limit}
use Rattle.vx_command.specs.Elections.{election_in, plans_in, once_planned}
use Rattle.vx_command.specs.Images.{unless_faulty_before}
use Rattle.vx_command.specs.Laws.{TakenElectionsAreValid}
use Rattle.vx_command.specs.Texts.{Wrote, texts_of, TextsInOrder}
use Rattle.vx_command_check.specs.Answers.{certified_line, no_reading_line, reading_halt, names_checked, reading_checked, page_answer}
use Rattle.vx_command_check.specs.Outcome.{counted_unless, pages_outcome, readings_outcome, readings_for, text_outcome, bytes_outcome, scans_outcome, check_outcome}
use Rattle.vx_check.specs.Accepted.{AcceptedAreCertificates}
use Rattle.vx_command_check.specs.Margin.{line_and, lines_checked, images_taken, images_in, said_taken, said_in, CertifiedPagesSayWhatFits}

-- lines, one after another
abbrev all_lines : List (List ℕ) → List ℕ
all_lines lines = flat_map (λ (line : List ℕ). line) lines

line-texts : (answer : Result (List ℕ) Halt) (next : Outcome) (lines : List (List ℕ)) → texts_of next ≡ all_lines lines
    → texts_of (goes_on answer (λ (line : List ℕ). after (Write line ∷ []) next)) ≡ all_lines (line_and answer lines)
line-texts (Err cause) next lines is = refl
line-texts (Ok line) next lines is = ap (λ (text : List ℕ). line ++ text) is

-- the acts of pages write their lines
pages-texts : (election : Election) (done : ℕ) (images : List Bitmap) (said : List SaidPage) (fault : Option ReadingsFault)
    → texts_of (pages_outcome election done images said fault) ≡ all_lines (lines_checked election done images said)
pages-texts election done [] said fault = refl
pages-texts election done (image ∷ images) [] fault = refl
pages-texts election done (image ∷ images) (said ∷ more) fault =
    line-texts (page_answer election (done + 1) image said) (pages_outcome election (done + 1) images more fault) (lines_checked election (done + 1) images more)
    (pages-texts election (done + 1) images more fault)

-- no readings, no lines
lines-none : (election : Election) (done : ℕ) (images : List Bitmap) → lines_checked election done images [] ≡ []
lines-none election done [] = refl
lines-none election done (image ∷ images) = refl

said-texts : (election : Election) (images : List Bitmap) (given : Result (List ℕ) Halt)
    → texts_of (goes_on given (λ (text : List ℕ). readings_outcome election 0 images (readings_for election text)))
    ≡ all_lines (lines_checked election 0 images (said_taken election given))
said-texts election images (Err cause) = ap all_lines (sym (lines-none election 0 images))
said-texts election images (Ok text) = pages-texts election 0 images (readings_for election text).pages (readings_for election text).fault

counted-texts : (election : Election) (fault : Option PbmFault) (count : ℕ) (images : List Bitmap) (next : Outcome) (said : List SaidPage)
    → texts_of next ≡ all_lines (lines_checked election 0 images said)
    → texts_of (goes_on (counted_unless fault count) (λ (held : ℕ). next)) ≡ all_lines (lines_checked election 0 (unless_faulty_before fault images) said)
counted-texts election None count images next said is = is
counted-texts election (Some fault) count images next said is = refl

taken-texts : (election : Election) (files : Files) (readings : List ℕ) (given : Result (List ℕ) Halt)
    → texts_of (goes_on given (λ (bytes : List ℕ). bytes_outcome election bytes (files readings)))
    ≡ all_lines (lines_checked election 0 (images_taken given) (said_in election files readings))
taken-texts election files readings (Err cause) = refl
taken-texts election files readings (Ok bytes) =
    counted-texts election (images_of bytes).fault (length (images_of bytes).pages) (images_of bytes).pages
    (text_outcome election bytes (files readings)) (said_in election files readings)
    (said-texts election (images_of bytes).pages (input_of 3 input_limit (files readings)))

check-texts : (name scans readings : List ℕ) (files : Files) (election : Election) (plans : List CardPlan)
    → election_in (files name) ≡ Ok election → plans_in election ≡ Ok plans
    → texts_of (check_outcome name scans readings files) ≡ all_lines (lines_checked election 0 (images_in files scans) (said_in election files readings))
check-texts name scans readings files election plans is planned =
    ap (λ (read : Result Election Halt). texts_of (taking 1 read (λ (given : Election). once_planned given (scans_outcome given scans readings files)))) is
    ∙ ap (λ (made : Result (List CardPlan) Halt). texts_of (goes_on made (λ (cards : List CardPlan). scans_outcome election scans readings files))) planned
    ∙ taken-texts election files readings (input_of 2 input_limit (files scans))

-- `n` is no `c`
letters-differ : ◌≡◌ {A = ℕ} 110 99 → ⊥
letters-differ same = omega arith

-- a line says one thing
lines-differ : (number : ℕ) → no_reading_line number ≡ certified_line number → ⊥
lines-differ number same =
    let words = decimal number in
    let behind : drop (length words) (words ++ 32 ∷ line_of (codes "no" ∷ codes "reading" ∷ [])) ≡ drop (length words) (words ++ 32 ∷ line_of (codes "certified" ∷ [])) =
    ap (λ (line : List ℕ). drop (length words) (drop 5 line)) same in
    let rest : 32 ∷ line_of (codes "no" ∷ codes "reading" ∷ []) ≡ 32 ∷ line_of (codes "certified" ∷ []) =
    sym (drop-front words (32 ∷ line_of (codes "no" ∷ codes "reading" ∷ [])) (length words) refl) ∙ behind ∙ drop-front words (32 ∷ line_of (codes "certified" ∷ [])) (length words) refl in
    letters-differ (ap (λ (line : List ℕ). get_or line 1 0) rest)

-- a certified page was accepted
accepted-first : (election : Election) (number : ℕ) (image : Bitmap) (page : SaidPage) (lines : List (List ℕ))
    → slice_get (line_and (page_answer election number image page) lines) 0 ≡ Some (certified_line number)
    → (said : SaidReading) × (page ≡ Reading said) × (reading_checked election number image said ≡ Ok tt)
accepted-first election number image NoReading lines is = absurd (lines-differ number (let same : no_reading_line number ≡ certified_line number = cc in same))
accepted-first election number image (Reading said) lines is = accepted-so (reading_checked election number image said) refl is
  where
    accepted-so : (checked : Answer) → reading_checked election number image said ≡ checked
        → slice_get (line_and (checked >>= (λ _. Ok (certified_line number))) lines) 0 ≡ Some (certified_line number)
        → (other : SaidReading) × (Reading said ≡ Reading other) × (reading_checked election number image other ≡ Ok tt)
    accepted-so (Ok done) checked at = (said, refl, checked)
    accepted-so (Err cause) checked at = absurd cc

-- a page behind the first
behind-first : (answer : Result (List ℕ) Halt) (lines : List (List ℕ)) (place : ℕ) (line : List ℕ)
    → slice_get (line_and answer lines) (suc place) ≡ Some line → slice_get lines place ≡ Some line
behind-first (Err cause) lines place line at = absurd cc
behind-first (Ok first) lines place line at = at

-- so was each of them
accepted-at : (election : Election) (done : ℕ) (images : List Bitmap) (said : List SaidPage) (place : ℕ) (image : Bitmap)
    → slice_get images place ≡ Some image
    → slice_get (lines_checked election done images said) place ≡ Some (certified_line (done + place + 1))
    → (reading : SaidReading) × (slice_get said place ≡ Some (Reading reading)) × (reading_checked election (done + place + 1) image reading ≡ Ok tt)
accepted-at election done [] said place image there at = absurd cc
accepted-at election done (first ∷ images) [] place image there at = absurd cc
accepted-at election done (first ∷ images) (page ∷ more) zero image there at =
    let number : done + 1 ≡ done + 0 + 1 = omega arith in
    let same : first ≡ image = cc in
    let found = accepted-first election (done + 1) first page (lines_checked election (done + 1) images more)
    (at ∙ ap (λ (n : ℕ). Some (certified_line n)) (sym number)) in (
      found.0,
      ap Some found.1,
      subst (λ (n : ℕ). reading_checked election n image found.0 ≡ Ok tt) number (subst (λ (page : Bitmap). reading_checked election (done + 1) page found.0 ≡ Ok tt) same found.2),
    )
accepted-at election done (first ∷ images) (page ∷ more) (suc place) image there at =
    let number : done + suc place + 1 ≡ done + 1 + place + 1 = omega arith in
    let found = accepted-at election (done + 1) images more place image there
    (behind-first (page_answer election (done + 1) first page) (lines_checked election (done + 1) images more) place (certified_line (done + 1 + place + 1))
    (at ∙ ap (λ (n : ℕ). Some (certified_line n)) number)) in
    (found.0, found.1, subst (λ (n : ℕ). reading_checked election n image found.0 ≡ Ok tt) (sym number) found.2)

halt-accepted : (number : ℕ) (answer : Tested) → reading_halt number answer ≡ Ok tt → answer ≡ Ok tt
halt-accepted number (Ok done) is = refl
halt-accepted number (Err fault) is = absurd cc

checked-accepted : (election : Election) (number : ℕ) (image : Bitmap) (said : SaidReading) → reading_checked election number image said ≡ Ok tt
    → tested election image said.reading ≡ Ok tt
unfolding reading_checked
checked-accepted election number image said is =
    let first = bind_ok (reading_halt number (tested election image said.reading)) (λ _. names_checked election said) tt is in
    halt-accepted number (tested election image said.reading) first.1

-- all images are whole
faulty-whole : (fault : Option PbmFault) (images : List Bitmap) → All IsWholePage images → All IsWholePage (unless_faulty_before fault images)
faulty-whole None images all = all
faulty-whole (Some fault) images all = All-nil IsWholePage

taken-whole : ImagesAreWhole → (given : Result (List ℕ) Halt) → All IsWholePage (images_taken given)
taken-whole whole (Err cause) = All-nil IsWholePage
taken-whole whole (Ok bytes) = faulty-whole (images_of bytes).fault (images_of bytes).pages (whole bytes)

whole-at : (images : List Bitmap) (place : ℕ) (image : Bitmap) → All IsWholePage images → slice_get images place ≡ Some image → IsWholePage image
whole-at images place image all at =
    subst IsWholePage (get_or_from_slice_get images place image image at) (all place image (slice_get_within images place image at))

-- whatever stands of the acts of `check`, it certifies what fits
pub certifies : AcceptedAreCertificates → TextsInOrder → TakenElectionsAreValid → ImagesAreWhole → CertificatesSayWhatFits → CertifiedPagesSayWhatFits
certifies accepted texts taken_valid whole fitting name scans readings files taken taken_now held held_now answer done election plans is planned =
    let images : List Bitmap = images_in files scans in
    let said : List SaidPage = said_in election files readings in
    let valid : IsValid election = taken_valid (files name) election is in
    record {
      wrote =
          subst (λ (text : List ℕ). Wrote text taken taken_now answer) (check-texts name scans readings files election plans is planned)
          (texts (check_outcome name scans readings files) taken taken_now held held_now answer done);
      says = λ place image printed plan marks there fits at.
          let number : place + 1 ≡ 0 + place + 1 = omega arith in
          let found = accepted-at election 0 images said place image there (at ∙ ap (λ (n : ℕ). Some (certified_line n)) number) in
          let whole_image : IsWholePage image = whole-at images place image (taken-whole whole (input_of 2 input_limit (files scans))) there in
          record {
            reading = found.0;
            is_said = found.1;
            says = fitting election image found.0.reading valid whole_image.whole
                (accepted election image found.0.reading valid (checked-accepted election (0 + place + 1) image found.0 found.2))
                printed plan marks fits;
          };
    }
