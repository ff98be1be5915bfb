-- `check` of what `read` wrote, as wholes.
use Rattle.std.proofs.Common.{◌≡◌, ◌+◌, ◌^◌, ◌<◌, ◌≤◌, ℕ, Bool, true, false, cond, nat_lt, List, [], ◌∷◌, length, arith, refl, ap, subst, ◌∙◌}
use Rattle.std.specs.Prelude.{Option, Some, None, Result, Ok, Err}
use Rattle.std.proofs.lemmas.Bool.Decides.{nat_tests}
use Rattle.vx_plane.specs.Plane.{Page}
use Rattle.vx_election_model.specs.declared.election.Election.{Election}
use Rattle.vx_io.specs.Outside.{Files}
use Rattle.vx_pbm.specs.declared.fault.PbmFault.{PbmFault}
use Rattle.vx_pbm.specs.Images.{images_of}
use Rattle.vx_layout.specs.declared.plan.CardPlan.{CardPlan}
use Rattle.vx_readings.specs.Parts.{lines_of}
use Rattle.vx_readings.specs.Readings.{readings_left, readings_of}
use Rattle.vx_command.specs.declared.halt.Halt.{Halt}
use Rattle.vx_command.specs.declared.halt.Halt.TheVariants.{TooLong}
use Rattle.vx_command.specs.Acts.{Take, Outcome, finished, work, after, goes_on, input_of, taking, input_limit}
use Rattle.vx_command.specs.Elections.{election_in, once_planned, plans_in}
use Rattle.vx_command.specs.Images.{unless_faulty}
use Rattle.vx_command.specs.Laws.{TakenElectionsAreValid}
use Rattle.vx_command.specs.Texts.{texts_of}
use Rattle.vx_command_read.specs.Margin.{texts_of_images}
use Rattle.vx_command_read.specs.Outcome as reading
use Rattle.vx_command_read.specs.Outcome.{image_acts, scan_outcome, read_outcome}
use Rattle.vx_command_check.specs.Outcome as checking
use Rattle.vx_command_check.specs.Outcome.{images_counted, readings_outcome, readings_for, check_outcome}
use Rattle.vx_certified.specs.Certified.{line_acts, accepting, written, HoldWritten, AcceptsWritten}
use Rattle.vx_certified.proofs.Texts.{images-bytes, images-lines, texts-acts}
use Rattle.vx_certified.proofs.Pages.{AreWritten, images-accepted}

-- what ends well was given what it goes on with
record WentOn {A : Type 0} (given : Result A Halt) (rest : A → Outcome) : Type 0 where
  value : A
  is : given ≡ Ok value
  ends : (rest value).ends ≡ Ok tt

went-on : {A : Type 0} (given : Result A Halt) (rest : A → Outcome) → (goes_on given rest).ends ≡ Ok tt → WentOn given rest
went-on (Ok value) rest h = record { value = value; is = refl; ends = h }
went-on (Err cause) rest h = absurd cc

no-fault : (word : ℕ) (fault : Option PbmFault) → (unless_faulty word fault finished).ends ≡ Ok tt → fault ≡ None
no-fault word None h = refl
no-fault word (Some fault) h = absurd cc

-- an input that was taken is what is held, and one that is held and no longer than it may be is taken
input-held : (word : ℕ) (file : Option (List ℕ)) (bytes : List ℕ) → input_of word input_limit file ≡ Ok bytes → file ≡ Some bytes
input-held word None bytes h = absurd cc
input-held word (Some held) bytes h = by_size (TooLong word (length held)) (nat_lt input_limit (length held)) h
  where
    same : (a b : List ℕ) → ◌≡◌ {A = Result (List ℕ) Halt} (Ok a) (Ok b) → a ≡ b
    same a b e = cc

    by_size : (cause : Halt) (long : Bool) → cond long (Err cause) (Ok held) ≡ Ok bytes → Some held ≡ Some bytes
    by_size cause true e = absurd cc
    by_size cause false e = ap Some (same held bytes e)

held-input : (word : ℕ) (bytes : List ℕ) → length bytes ≤ input_limit → input_of word input_limit (Some bytes) ≡ Ok bytes
held-input word bytes short =
    let test : nat_lt input_limit (length bytes) ≡ false = grind (arith, nat_tests, short) in
    rw test refl

module _ (laws : AreWritten) (valid_law : TakenElectionsAreValid) (name scans readings : List ℕ) (files later : Files) (held : HoldWritten name scans readings files later) where
  -- with what was taken
  module _ (election : Election) (plans : List CardPlan) (bytes : List ℕ) (election_is : election_in (files name) ≡ Ok election)
      (plans_are : plans_in election ≡ Ok plans) (bytes_are : input_of 2 input_limit (files scans) ≡ Ok bytes)
      (faultless : (images_of bytes).fault ≡ None) where
    abbrev images : List Page
    images = (images_of bytes).pages

    -- `read` wrote the texts of the images
    texts : written name scans files ≡ texts_of_images election 1 images
    texts =
        ap (λ (given : Result Election Halt). texts_of (taking 1 given (λ found. once_planned found (reading.scans_outcome found files 2 1 (scans ∷ []))))) election_is
        ∙ (ap (λ (given : Result (List CardPlan) Halt). texts_of (goes_on given (λ _. reading.scans_outcome election files 2 1 (scans ∷ [])))) plans_are
        ∙ (ap (λ (given : Result (List ℕ) Halt). texts_of (taking 2 given (λ taken. scan_outcome election 2 1 (images_of taken) finished))) bytes_are
        ∙ (ap (λ (fault : Option PbmFault). texts_of (after (image_acts election 1 images) (unless_faulty 2 fault finished))) faultless
        ∙ texts-acts election 1 images)))

    -- which `check` takes
    text_taken : input_of 3 input_limit (later readings) ≡ Ok (texts_of_images election 1 images)
    text_taken =
        ap (input_of 3 input_limit) (held.readings_are ∙ ap Some texts)
        ∙ held-input 3 (texts_of_images election 1 images) (subst (λ (text : List ℕ). length text ≤ input_limit) texts held.fits)

    few : 0 + length images < 2 ^ 32
    few =
        let short : length (texts_of_images election 1 images) ≤ input_limit = subst (λ (text : List ℕ). length text ≤ input_limit) texts held.fits in
        omega (arith, short, images-bytes election 1 images)

    -- and accepts
    all-accepted : readings_outcome election 0 images (readings_for election (texts_of_images election 1 images)) ≡ work (line_acts election 1 images)
    unfolding readings_of readings_left
    all-accepted =
        images-accepted laws election (valid_law (files name) election election_is) images 0 1
        (length (lines_of (texts_of_images election 1 images)) + 1) (omega (arith, images-lines election 1 images)) few

    accepts : check_outcome name scans readings later ≡ accepting election images
    accepts =
        ap (λ (given : Result Election Halt). taking 1 given (λ found. once_planned found (checking.scans_outcome found scans readings later)))
        (ap election_in held.same_election ∙ election_is)
        ∙ (ap (λ (given : Result (List CardPlan) Halt). after (Take 1 ∷ []) (goes_on given (λ _. checking.scans_outcome election scans readings later))) plans_are
        ∙ (ap (λ (given : Result (List ℕ) Halt). after (Take 1 ∷ []) (taking 2 given (λ taken. checking.bytes_outcome election taken (later readings))))
        (ap (input_of 2 input_limit) held.same_scans ∙ bytes_are)
        ∙ (ap (λ (fault : Option PbmFault). after (Take 1 ∷ []) (after (Take 2 ∷ []) (goes_on (checking.counted_unless fault (length images)) (λ _. checking.text_outcome election bytes (later readings))))) faultless
        ∙ (ap (λ (given : Result (List ℕ) Halt). after (Take 1 ∷ []) (after (Take 2 ∷ []) (taking 3 given (λ text. readings_outcome election 0 images (readings_for election text))))) text_taken
        ∙ ap (λ (o : Outcome). after (Take 1 ∷ []) (after (Take 2 ∷ []) (after (Take 3 ∷ []) o))) all-accepted))))

  pub written-accepted : (read_outcome name (scans ∷ []) files).ends ≡ Ok tt → AcceptsWritten name scans readings files later
  written-accepted well =
      let election = went-on (election_in (files name)) (λ given. once_planned given (reading.scans_outcome given files 2 1 (scans ∷ []))) well in
      let plans = went-on (plans_in election.value) (λ _. reading.scans_outcome election.value files 2 1 (scans ∷ [])) election.ends in
      let bytes = went-on (input_of 2 input_limit (files scans)) (λ taken. scan_outcome election.value 2 1 (images_of taken) finished) plans.ends in
      let faultless : (images_of bytes.value).fault ≡ None = no-fault 2 (images_of bytes.value).fault bytes.ends in
      record {
        election = election.value;
        election_is = election.is;
        bytes = bytes.value;
        scans_are = input-held 2 (files scans) bytes.value bytes.is;
        accepts = accepts election.value plans.value bytes.value election.is plans.is bytes.is faultless;
      }
