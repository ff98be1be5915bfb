-- Images that fit printed pages, and their blocks among the texts of all images.
use Rattle.std.proofs.Common.{◌≡◌, ◌+◌, ◌<◌, ◌⊎◌, inl, inr, ℕ, Bool, List, [], ◌∷◌, ◌++◌, length, take, drop, codes, Option, Some, None, Result, Ok, Err, arith, refl, sym, ap, ap₂, subst, ◌∙◌, append_assoc}
use Rattle.std.specs.Prelude.{slice_get}
use Rattle.std.specs.List.{flat_map}
use Rattle.std.proofs.lemmas.Grind.{flat_map-append}
use Rattle.std.proofs.lemmas.List.{take-append-drop, drop_more, length-take-le}
use Rattle.std.proofs.lemmas.Option.{slice_get_within, get_or_from_slice_get}
use Rattle.vx_plane.specs.Plane.{Page}
use Rattle.vx_grid.specs.declared.state.State.{State}
use Rattle.vx_code.specs.declared.code.PageCode.{PageCode}
use Rattle.vx_election_model.specs.declared.election.Election.{Election}
use Rattle.vx_election_model.specs.Valid.{IsValid}
use Rattle.vx_io.specs.Outside.{Files}
use Rattle.vx_layout.specs.declared.pages.PagePlan.{PagePlan}
use Rattle.vx_layout.specs.declared.plan.CardPlan.{CardPlan}
use Rattle.vx_layout.specs.Printed.{PrintedPage, IsPlanned, code_of}
use Rattle.vx_pbm.specs.declared.fault.PbmFault.{PbmFault}
use Rattle.vx_pbm.specs.Images.{Images, images_of, IsWholePage}
use Rattle.vx_scan_model.specs.declared.reading.PageReading.{PageReading}
use Rattle.vx_scan_model.specs.declared.fault.PageFault.{PageFault}
use Rattle.vx_scan_model.specs.Named.{named_plan, CodesNamePrintedPages}
use Rattle.vx_scan_model.specs.Fits.{FitsUpright, IsReadAs, FittingScansAreRead}
use Rattle.vx_command.specs.declared.halt.Halt.{Halt}
use Rattle.vx_command.specs.Acts.{Outcome, text_of, goes_on, taking, input_of, input_limit}
use Rattle.vx_command.specs.Elections.{election_in, plans_in, once_planned}
use Rattle.vx_command.specs.Images.{ScannedImagesAreWhole, images_and, images_in, unless_faulty, unless_faulty_before}
use Rattle.vx_command.specs.Laws.{TakenElectionsAreValid}
use Rattle.vx_command.specs.Texts.{Wrote, texts_of, TextsInOrder}
use Rattle.vx_readings.specs.ReadingText.{line_of, page_line, border_line, bubble_lines, block_text, bubbles_on, reading_text, image_text}
use Rattle.vx_command_read.specs.Outcome.{image_acts, scan_outcome, scans_outcome, read_outcome}
use Rattle.vx_command_read.specs.Margin.{IsBlockOf, texts_of_images, texts_round, FittingScansAreTold}

-- the texts of images, and then those of more
texts-append : (election : Election) (number : ℕ) (first more : List Page)
    → texts_of_images election number (first ++ more) ≡ texts_of_images election number first ++ texts_of_images election (number + length first) more
texts-append election number [] more =
    let none : number ≡ number + length {A = Page} [] = omega arith in
    ap (λ (n : ℕ). texts_of_images election n more) none
texts-append election number (page ∷ pages) more =
    let count : number + 1 + length pages ≡ number + length (page ∷ pages) = omega arith in
    ap (λ (text : List ℕ). image_text election number page ++ text)
    (texts-append election (number + 1) pages more
    ∙ ap (λ (n : ℕ). texts_of_images election (number + 1) pages ++ texts_of_images election n more) count)
    ∙ sym (append_assoc (image_text election number page) (texts_of_images election (number + 1) pages) (texts_of_images election (number + length (page ∷ pages)) more))

-- the acts of images write their texts
acts-texts : (election : Election) (number : ℕ) (pages : List Page) → flat_map text_of (image_acts election number pages) ≡ texts_of_images election number pages
acts-texts election number [] = refl
acts-texts election number (page ∷ pages) =
    ap (λ (text : List ℕ). image_text election number page ++ text) (acts-texts election (number + 1) pages)

unless-texts : (election : Election) (word number : ℕ) (fault : Option PbmFault) (next : Outcome) (more : List Page)
    → texts_of next ≡ texts_of_images election number more
    → texts_of (unless_faulty word fault next) ≡ texts_of_images election number (unless_faulty_before fault more)
unless-texts election word number None next more is = is
unless-texts election word number (Some fault) next more is = refl

scan-texts : (election : Election) (word number : ℕ) (images : Images) (next : Outcome) (more : List Page)
    → texts_of next ≡ texts_of_images election (number + length images.pages) more
    → texts_of (scan_outcome election word number images next) ≡ texts_of_images election number (images.pages ++ unless_faulty_before images.fault more)
scan-texts election word number images next more is =
    flat_map-append text_of (image_acts election number images.pages) (unless_faulty word images.fault next).acts
    ∙ ap₂ (λ (a b : List ℕ). a ++ b) (acts-texts election number images.pages) (unless-texts election word (number + length images.pages) images.fault next more is)
    ∙ sym (texts-append election number images.pages (unless_faulty_before images.fault more))

given-texts : (election : Election) (number : ℕ) (given : Result (List ℕ) Halt) (rest : List ℕ → Outcome) (more : List Page)
    → ((bytes : List ℕ) → texts_of (rest bytes) ≡ texts_of_images election number ((images_of bytes).pages ++ unless_faulty_before (images_of bytes).fault more))
    → texts_of (goes_on given rest) ≡ texts_of_images election number (images_and given more)
given-texts election number (Err cause) rest more is = refl
given-texts election number (Ok bytes) rest more is = is bytes

-- the acts of scans write the texts of all their images
scans-texts : (election : Election) (files : Files) (word number : ℕ) (names : List (List ℕ))
    → texts_of (scans_outcome election files word number names) ≡ texts_of_images election number (images_in files word names)
scans-texts election files word number [] = refl
scans-texts election files word number (name ∷ names) =
    given-texts election number (input_of word input_limit (files name))
    (λ (bytes : List ℕ). scan_outcome election word number (images_of bytes) (scans_outcome election files (word + 1) (number + length (images_of bytes).pages) names))
    (images_in files (word + 1) names)
    (λ (bytes : List ℕ). scan-texts election word number (images_of bytes)
    (scans_outcome election files (word + 1) (number + length (images_of bytes).pages) names)
    (images_in files (word + 1) names)
    (scans-texts election files (word + 1) (number + length (images_of bytes).pages) names))

read-texts : (name : List ℕ) (scans : List (List ℕ)) (files : Files) (election : Election) (plans : List CardPlan)
    → election_in (files name) ≡ Ok election → plans_in election ≡ Ok plans
    → texts_of (read_outcome name scans files) ≡ texts_of_images election 1 (images_in files 2 scans)
read-texts name scans files election plans is planned =
    ap (λ (read : Result Election Halt). texts_of (taking 1 read (λ (given : Election). once_planned given (scans_outcome given files 2 1 scans)))) is
    ∙ ap (λ (made : Result (List CardPlan) Halt). texts_of (goes_on made (λ (cards : List CardPlan). scans_outcome election files 2 1 scans))) planned
    ∙ scans-texts election files 2 1 scans

-- the text of one image, between those before it and those behind it
parted : (election : Election) (images : List Page) (place : ℕ) (image : Page) → slice_get images place ≡ Some image
    → texts_of_images election 1 images ≡ texts_round election images place (image_text election (place + 1) image)
parted election images place image at =
    let within : place < length images = slice_get_within images place image at in
    let here : drop place images ≡ image ∷ drop (place + 1) images =
    drop_more images place image within ∙ ap (λ (page : Page). page ∷ drop (place + 1) images) (get_or_from_slice_get images place image image at) in
    let split : images ≡ take place images ++ (image ∷ drop (place + 1) images) =
    sym (take-append-drop place images) ∙ ap (λ (rest : List Page). take place images ++ rest) here in
    let full : length (take place images) ≡ place = length-take-le place images (omega arith) in
    let count : 1 + length (take place images) ≡ place + 1 = omega (arith, full) in
    let next : place + 1 + 1 ≡ place + 2 = omega arith in
    ap (texts_of_images election 1) split
    ∙ texts-append election 1 (take place images) (image ∷ drop (place + 1) images)
    ∙ ap (λ (n : ℕ). texts_of_images election 1 (take place images) ++ texts_of_images election n (image ∷ drop (place + 1) images)) count
    ∙ ap (λ (n : ℕ). texts_of_images election 1 (take place images) ++ (image_text election (place + 1) image ++ texts_of_images election n (drop (place + 1) images))) next

planned-of : (election : Election) (a b : Page) (printed : PrintedPage) (plan : PagePlan) (marks : List Bool)
    → FitsUpright election a printed plan marks ⊎ FitsUpright election b printed plan marks → IsPlanned election printed plan
planned-of election a b printed plan marks (inl fits) = fits.planned
planned-of election a b printed plan marks (inr fits) = fits.planned

-- the text of an image that was read as a printed page is that page's block
block-read : (election : Election) (number : ℕ) (image : Page) (printed : PrintedPage) (plan : PagePlan) (marks : List Bool)
    → named_plan election (code_of election printed) ≡ Ok plan → IsReadAs election image printed marks
    → IsBlockOf election number printed plan marks (image_text election number image)
unfolding image_text
block-read election number image printed plan marks named read =
    let reading : PageReading = read.reading in
    let plan_is : named_plan election reading.code ≡ Ok plan = ap (named_plan election) read.says.code_is ∙ named in
    record {
      turned = reading.turned;
      border = reading.border.places;
      scores = reading.scores;
      text_is =
          ap (reading_text election number) read.is_read
          ∙ ap (λ (on : Result PagePlan PageFault). block_text number (bubbles_on on) reading) plan_is
          ∙ ap₂ (λ (code : PageCode) (states : List State).
          page_line number code reading.turned ++ border_line reading.border.places
          ++ bubble_lines plan.bubbles reading.scores states ++ line_of (codes "end" ∷ []))
          read.says.code_is read.says.states_are;
    }

-- whatever stands of the acts of `read`, it tells what fits
pub tells : TextsInOrder → TakenElectionsAreValid → ScannedImagesAreWhole → CodesNamePrintedPages → FittingScansAreRead → FittingScansAreTold
tells texts taken_valid scanned names fitting name scans files taken taken_now held held_now answer done election plans is planned place image printed plan marks at fits =
    let images : List Page = images_in files 2 scans in
    let valid : IsValid election = taken_valid (files name) election is in
    let whole_image : IsWholePage image = scanned files 2 scans place image at in
    let named : named_plan election (code_of election printed) ≡ Ok plan = names.named election printed plan (planned-of election _ _ printed plan marks fits) in
    let WroteSo : List ℕ → Type 0 = λ text. Wrote text taken taken_now answer in
    record {
      block = image_text election (place + 1) image;
      is_block = block-read election (place + 1) image printed plan marks named (fitting election image printed plan marks valid whole_image.whole fits);
      wrote = subst WroteSo
          (read-texts name scans files election plans is planned ∙ parted election images place image at)
          (texts (read_outcome name scans files) taken taken_now held held_now answer done);
    }
