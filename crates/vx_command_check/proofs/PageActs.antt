-- Pages that are tested one after another.
use Rattle.std.proofs.Common.{◌≡◌, ◌+◌, ℕ, List, [], ◌∷◌, length, Option, Some, None, Ok, Err, true, false, arith, rules, refl, sym, ap, subst, ◌∙◌}
use Rattle.vx_base.specs.Refusals.{Gives}
use Rattle.vx_base.specs.Results.{◌>>=◌}
use Rattle.vx_plane.specs.Plane.{Page as Bitmap}
use Rattle.vx_code.specs.Code.{tag_of}
use Rattle.vx_election_model.specs.declared.election.Election.{Election}
use Rattle.vx_pbm.specs.Images.{Unread as UnreadImages, Images, whole, with_page, images_left, images_of}
use Rattle.vx_readings.specs.declared.fault.ReadingsFault.{ReadingsFault}
use Rattle.vx_readings.specs.declared.fault.ReadingsFault.TheVariants as readings
use Rattle.vx_readings.specs.declared.said.SaidPage.{SaidPage}
use Rattle.vx_readings.specs.declared.said.SaidReading.{SaidReading}
use Rattle.vx_readings.specs.Readings as said
use Rattle.vx_readings.specs.Readings.{Unread, Readings, readings_left, readings_of}
use Rattle.vx_command.specs.declared.halt.Halt.{Halt}
use Rattle.vx_command.specs.declared.halt.Halt.TheVariants.{NoMemory, NotCertified}
use Rattle.vx_io.specs.declared.outside.Sink.{Ghosts as SinkOf}
use Rattle.vx_command.specs.Devices.{TouchesSink, writes_nothing}
use Rattle.vx_refusals.specs.declared.readings.CertFault.TheVariants as cert
use Rattle.vx_check.specs.Tests.{Tested, tested}
use Rattle.vx_scan_model.specs.Named.{named_plan}
use Rattle.vx_readings.specs.declared.said.SaidPage.TheVariants as pages
use Rattle.vx_readings.specs.ReadingText.{bubbles_on}
use Rattle.vx_command.specs.Acts.{Answer, Write, Outcome, writing, after}
use Rattle.vx_command.specs.Done.{Taken, IsDone, IsWritten, WritesTo}
use Rattle.vx_command.specs.Laws.{ActLaws, StepLaws}
use Rattle.vx_command.specs.Steps.{is_no_memory}
use Rattle.vx_command_check.specs.Answers.{readings_halt, reading_halt, name_halt, names_checked, other_name, certified_line, reading_checked, page_answer}
use Rattle.vx_command_check.specs.Outcome.{page_outcome, pages_halt, ends_behind, ends_so, pages_outcome, readings_outcome, readings_for}
use Rattle.vx_command_check.specs.Walks.{ChecksPage, RestAnswers}

-- pages of scans and of readings were tested, and these are left; nothing failed
pub record CheckedTo (election : Election) (scans text : List ℕ) (held : ℕ) (images : UnreadImages) (left : Unread) (taken taken_now : Taken) : Type 0 where
  pub comes :
      WritesTo (readings_outcome election 0 (images_of scans).pages (readings_for election text))
      (readings_outcome election left.pages (images_left images).pages (readings_left left)) taken taken_now
  pub no_fault : (images_left images).fault ≡ None
  pub count : left.pages + length (images_left images).pages ≡ held

pub checked-none : (election : Election) (scans text : List ℕ) (held : ℕ) (taken : Taken) → (images_of scans).fault ≡ None → held ≡ length (images_of scans).pages
    → CheckedTo election scans text held (whole scans) (said.whole election.paper (tag_of election.digest) text) taken taken
unfolding images_of readings_of
checked-none election scans text held taken walked count = record {
  comes = λ held taken_then held_then answer done. done;
  no_fault = walked;
  count = omega (arith, count);
}

module _ (laws : ActLaws) (election : Election) (scans text : List ℕ) (held : ℕ) (images : UnreadImages) (left : Unread) (a b : Taken) (before : CheckedTo election scans text held images left a b) where
  -- memory ran out
  pub no-memory : IsWritten (readings_outcome election 0 (images_of scans).pages (readings_for election text)) a b (Err NoMemory)
  no-memory keeper =
      before.comes keeper b keeper (Err NoMemory) (laws.no_memory (readings_outcome election left.pages (images_left images).pages (readings_left left)) b keeper)

  ends-here : (answer ends : Answer) → Gives is_no_memory answer ends → IsWritten (ends_so ends) b b answer
  ends-here (Ok done) ends gives keeper =
      let Done : Answer → Type 0 = λ it. IsDone (ends_so it) b b keeper keeper (Ok tt) in
      subst Done (sym gives) (laws.ended (Ok tt) b keeper)
  ends-here (Err NoMemory) ends gives keeper = laws.no_memory (ends_so ends) b keeper
  ends-here (Err cause) ends gives keeper =
      let Done : Answer → Type 0 = λ it. IsDone (ends_so it) b b keeper keeper (Err cause) in
      subst Done (sym gives) (laws.ended (Err cause) b keeper)

  -- the scans have ended
  pub rest-checked : (images_left images).pages ≡ [] → (answer : Answer) → RestAnswers left.pages (readings_left left) answer
      → IsWritten (readings_outcome election 0 (images_of scans).pages (readings_for election text)) a b answer
  rest-checked none answer gives keeper =
      let Done : List Bitmap → Type 0 = λ pages. IsDone (pages_outcome election left.pages pages (readings_left left).pages (readings_left left).fault) b b keeper keeper answer in
      before.comes keeper b keeper answer
      (subst Done (sym none) (ends-here answer (ends_behind left.pages (readings_left left).fault (readings_left left).pages) gives keeper))

  module _ (image : Bitmap) (behind : UnreadImages) (more : images_left images ≡ with_page image (images_left behind)) where
    -- the lines of the readings leave the grammar
    pub line-halts : (fault : ReadingsFault) (new : Unread) → said.Walks left (Err fault) new
        → IsWritten (readings_outcome election 0 (images_of scans).pages (readings_for election text)) a b (Err (readings_halt fault))
    line-halts readings.OutOfMemory new walks = no-memory
    line-halts (readings.Line line) new walks = λ keeper.
        let Done : Images → Readings → Type 0 = λ pages said. IsDone (readings_outcome election left.pages pages.pages said) b b keeper keeper (Err (readings_halt (readings.Line line))) in
        before.comes keeper b keeper (Err (readings_halt (readings.Line line)))
        (subst (λ (pages : Images). Done pages (readings_left left)) (sym more)
        (subst (Done (with_page image (images_left behind))) (sym walks) (laws.ended (Err (readings_halt (readings.Line line))) b keeper)))

    -- the readings have ended
    pub said-ended : readings_left left ≡ said.ended None
        → IsWritten (readings_outcome election 0 (images_of scans).pages (readings_for election text)) a b (Err (pages_halt left.pages held))
    said-ended walks keeper =
        let Done : Images → Readings → Answer → Type 0 = λ pages said answer. IsDone (readings_outcome election left.pages pages.pages said) b b keeper keeper answer in
        let all : left.pages + length (with_page image (images_left behind)).pages ≡ held =
        ap (λ (pages : Images). left.pages + length pages.pages) (sym more) ∙ before.count in
        let cause : Answer = Err (pages_halt left.pages (left.pages + length (with_page image (images_left behind)).pages)) in
        before.comes keeper b keeper (Err (pages_halt left.pages held))
        (subst (λ (pages : Images). Done pages (readings_left left) (Err (pages_halt left.pages held))) (sym more)
        (subst (λ (said : Readings). Done (with_page image (images_left behind)) said (Err (pages_halt left.pages held))) (sym walks)
        (subst (λ (n : ℕ). IsDone (ends_so cause) b b keeper keeper (Err (pages_halt left.pages n))) all
        (laws.ended cause b keeper))))

    module _ (page : SaidPage) (new : Unread) (c : Taken) (walks : readings_left left ≡ said.with_page page (readings_left new)) (counted : new.pages ≡ left.pages + 1) where
      -- a page that halts the command
      pub page-halts : (cause : Halt) → ChecksPage election new.pages image page b c (Err cause)
          → IsWritten (readings_outcome election 0 (images_of scans).pages (readings_for election text)) a c (Err cause)
      page-halts cause checks keeper =
          let Done : Images → Readings → Type 0 = λ pages said. IsDone (readings_outcome election left.pages pages.pages said) b c keeper keeper (Err cause) in
          let next : ℕ → Outcome = λ number. pages_outcome election number (images_left behind).pages (readings_left new).pages (readings_left new).fault in
          before.comes keeper c keeper (Err cause)
          (subst (λ (pages : Images). Done pages (readings_left left)) (sym more)
          (subst (Done (with_page image (images_left behind))) (sym walks)
          (subst (λ (number : ℕ). IsDone (page_outcome election number image page (next number)) b c keeper keeper (Err cause)) counted (checks (next new.pages) keeper))))

      -- a page that is done
      pub page-done : ChecksPage election new.pages image page b c (Ok tt) → CheckedTo election scans text held behind new a c
      page-done checks =
          let next : ℕ → Outcome = λ number. pages_outcome election number (images_left behind).pages (readings_left new).pages (readings_left new).fault in
          record {
            comes = λ keeper taken_then keeper_then answer done.
                let Done : Images → Readings → Type 0 = λ pages said. IsDone (readings_outcome election left.pages pages.pages said) b taken_then keeper keeper_then answer in
                before.comes keeper taken_then keeper_then answer
                (subst (λ (pages : Images). Done pages (readings_left left)) (sym more)
                (subst (Done (with_page image (images_left behind))) (sym walks)
                (subst (λ (number : ℕ). IsDone (page_outcome election number image page (next number)) b taken_then keeper keeper_then answer) counted
                (checks (next new.pages) keeper taken_then keeper_then answer done))));
            no_fault = sym (ap (λ (pages : Images). pages.fault) more) ∙ before.no_fault;
            count =
                let all : left.pages + length (image ∷ (images_left behind).pages) ≡ held = ap (λ (pages : Images). left.pages + length pages.pages) (sym more) ∙ before.count in
                omega (arith, all, counted);
          }

-- a command that tests pages halts for want of memory, or because they aren't certified
abbrev pub IsVerdict : Halt → Type 0
IsVerdict NoMemory = Unit {0}
IsVerdict (NotCertified fault) = Unit {0}
IsVerdict cause = ⊥

reading-verdict : (number : ℕ) (tested : Tested) (cause : Halt) → reading_halt number tested ≡ Err cause → IsVerdict cause
reading-verdict number (Ok done) cause is = absurd cc
reading-verdict number (Err fault) cause is = let same : NotCertified (cert.Page number fault) ≡ cause = cc in subst IsVerdict same tt

name-verdict : (other : Option ℕ) (cause : Halt) → name_halt other ≡ Err cause → IsVerdict cause
name-verdict None cause is = absurd cc
name-verdict (Some line) cause is = let same : NotCertified (cert.Line line) ≡ cause = cc in subst IsVerdict same tt

both-verdict : (first second : Answer) (cause : Halt) → (first ≡ Err cause → IsVerdict cause) → (second ≡ Err cause → IsVerdict cause)
    → (first >>= (λ _. second)) ≡ Err cause → IsVerdict cause
both-verdict (Ok done) second cause a b is = b is
both-verdict (Err other) second cause a b is = a is

line-verdict : (checked : Answer) (line : List ℕ) (cause : Halt) → (checked ≡ Err cause → IsVerdict cause) → (checked >>= (λ _. Ok line)) ≡ Err cause → IsVerdict cause
line-verdict (Ok done) line cause a is = absurd cc
line-verdict (Err other) line cause a is = a (let same : other ≡ cause = cc in ap Err same)

page-verdict : (election : Election) (number : ℕ) (image : Bitmap) (page : SaidPage) (cause : Halt) → page_answer election number image page ≡ Err cause → IsVerdict cause
unfolding reading_checked
page-verdict election number image pages.NoReading cause is = absurd cc
page-verdict election number image (pages.Reading said) cause is =
    line-verdict (reading_checked election number image said) (certified_line number) cause
    (λ is. both-verdict (reading_halt number (tested election image said.reading)) (names_checked election said) cause
    (reading-verdict number (tested election image said.reading) cause)
    (name-verdict (other_name said.first_bubble said.names (bubbles_on (named_plan election said.reading.code))) cause) is) is

pub gives-verdict : (election : Election) (number : ℕ) (image : Bitmap) (page : SaidPage) (cause : Halt)
    → Gives {A = List ℕ} is_no_memory (Err cause) (page_answer election number image page) → IsVerdict cause
gives-verdict election number image page NoMemory gives = tt
gives-verdict election number image page cause gives = page-verdict election number image page cause gives

-- such a halt is no device's
pub verdict-sink : {S : Type 0} (s : SinkOf S) (cause : Halt) (out : S) → IsVerdict cause → TouchesSink {A = Unit {0}} s out out (Err cause)
verdict-sink s NoMemory out is = search rules
verdict-sink s (NotCertified fault) out is = search rules
verdict-sink s cause out is = absurd is

pub verdict-late : (cause : Halt) → IsVerdict cause → writes_nothing {A = Unit {0}} true (Err cause) ≡ false
verdict-late NoMemory is = refl
verdict-late (NotCertified fault) is = refl
verdict-late cause is = absurd is

-- the line of a page that is written
module _ (acts : ActLaws) (steps : StepLaws (List ℕ)) (election : Election) (number : ℕ) (image : Bitmap) (said : SaidPage) (a b : Taken) where
  pub line-missing : (cause : Halt) → Gives {A = List ℕ} is_no_memory (Err cause) (page_answer election number image said) → ChecksPage election number image said a a (Err cause)
  line-missing cause gives next = steps.not_given (page_answer election number image said) cause (λ (line : List ℕ). after (Write line ∷ []) next) a gives

  pub line-written : (line : List ℕ) → page_answer election number image said ≡ Ok line → (answer : Answer) → IsWritten (writing line) a b answer → ChecksPage election number image said a b answer
  line-written line is (Ok done) wrote = λ next keeper taken_then keeper_then answer rest.
      steps.given (page_answer election number image said) line (λ (line : List ℕ). after (Write line ∷ []) next) a is keeper taken_then keeper_then answer
      (acts.done (Write line ∷ []) next a b keeper keeper (wrote keeper) taken_then keeper_then answer rest)
  line-written line is (Err cause) wrote = λ next keeper.
      steps.given (page_answer election number image said) line (λ (line : List ℕ). after (Write line ∷ []) next) a is keeper b keeper (Err cause)
      (acts.broken (Write line ∷ []) next a b keeper keeper cause (wrote keeper))

-- a said reading that is no certificate, and one that is
module _ (election : Election) (number : ℕ) (image : Bitmap) (said : SaidReading) where
  pub checked-halt : (cause : Halt) → reading_halt number (tested election image said.reading) ≡ Err cause → reading_checked election number image said ≡ Err cause
  unfolding reading_checked
  checked-halt cause is = ap (λ (first : Answer). first >>= (λ _. names_checked election said)) is

  pub checked-on : reading_halt number (tested election image said.reading) ≡ Ok tt → reading_checked election number image said ≡ names_checked election said
  unfolding reading_checked
  checked-on is = ap (λ (first : Answer). first >>= (λ _. names_checked election said)) is
