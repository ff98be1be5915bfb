-- How a `gray` goes from act to act.
use Rattle.std.proofs.Common.{◌≡◌, ◌+◌, ℕ, Bool, true, false, cond, List, [], ◌∷◌, length, drop, nat_lt, Option, Some, None, Result, Ok, Err, inl, inr, refl, sym, ap, subst, ◌∙◌}
use Rattle.std.specs.Prelude.{slice_get}
use Rattle.std.proofs.lemmas.List.{drop_more}
use Rattle.std.proofs.lemmas.Option.{slice_get_within, get_or_from_slice_get}
use Rattle.vx_pbm.specs.Raw.{p4_of}
use Rattle.vx_gray.specs.declared.fault.PgmFault.{PgmFault}
use Rattle.vx_gray.specs.Gray.{Gray, bits_of}
use Rattle.vx_gray.specs.Images.{Unread, whole, Images, with_page, ended as ended_with, images_left, images_of}
use Rattle.vx_io.specs.Outside.{Files}
use Rattle.vx_command.specs.declared.halt.Halt.{Halt}
use Rattle.vx_command.specs.declared.halt.Halt.TheVariants as halt
use Rattle.vx_command.specs.Acts.{Act, Answer, Take, Write, Outcome, writing, after as after_command, goes_on, taking, input_of, input_limit}
use Rattle.vx_command.specs.Devices.{is_keeper_fault}
use Rattle.vx_command.specs.Done.{Taken, IsDone, IsWritten, WritesTo, BreaksAt}
use Rattle.vx_command.specs.Laws.{ActLaws, StepLaws}
use Rattle.vx_command.specs.Steps.{GivesTaking}
use Rattle.vx_command_gray.specs.declared.status.GrayStatus.{GrayStatus}
use Rattle.vx_command_gray.specs.declared.status.GrayStatus.TheVariants as gray
use Rattle.vx_command_gray.specs.Done.{IsGrayDone, Comes, WritesScan, WritesFirst}
use Rattle.vx_command_gray.specs.Outcome.{GrayOutcome, as_command, ended, scan_outcome, once_taken, scans_outcome}
use Rattle.vx_command_gray.specs.Status.{answer_of, IsStop}

-- nothing was done yet
pub comes_here : (outcome : GrayOutcome) (a : Taken) → Comes outcome outcome a a
comes_here outcome a = record { acts = λ held taken_then held_then answer done. done; ends = refl }

-- what was done, and then more
pub comes_on : (whole rest last : GrayOutcome) (a b c : Taken) → Comes whole rest a b → Comes rest last b c → Comes whole last a c
comes_on whole rest last a b c first second = record {
  acts = λ held taken_then held_then answer done.
      first.acts held taken_then held_then answer (second.acts held taken_then held_then answer done);
  ends = first.ends ∙ second.ends;
}

-- the rest is done, so the whole is
pub comes_done : (whole rest : GrayOutcome) (a b c : Taken) (status : GrayStatus) → Comes whole rest a b → IsGrayDone rest b c status
    → IsGrayDone whole a c status
comes_done whole rest a b c status comes done = record {
  acts = λ held. comes.acts held c held (answer_of status) (done.acts held);
  ends = λ e. done.ends e ∙ sym comes.ends;
}

-- the call halts at the rest, so it halts at the whole
pub comes_broken : (whole rest : GrayOutcome) (a b c : Taken) (cause : Halt) → Comes whole rest a b → IsWritten (as_command rest) b c (Err cause)
    → IsWritten (as_command whole) a c (Err cause)
comes_broken whole rest a b c cause comes done held = comes.acts held c held (Err cause) (done held)

module _ (laws : ActLaws) where
  -- a call that ends here
  pub ends_here : (status : GrayStatus) (a : Taken) → IsGrayDone (ended status) a a status
  ends_here status a = record { acts = λ held. laws.ended (answer_of status) a held; ends = λ e. refl }

  -- one image more was written
  pub page_written : (word : ℕ) (page : Gray) (images : Images) (rest : GrayOutcome) (a b : Taken)
      → IsWritten (writing (p4_of (bits_of page))) a b (Ok tt) → Comes (scan_outcome word (with_page page images) rest) (scan_outcome word images rest) a b
  page_written word page images rest a b written = record {
    acts = λ held. laws.done (Write (p4_of (bits_of page)) ∷ []) (as_command (scan_outcome word images rest)) a b held held (written held);
    ends = refl;
  }

  -- it isn't written whole
  pub page_broken : (word : ℕ) (page : Gray) (images : Images) (rest : GrayOutcome) (a b : Taken) (cause : Halt)
      → IsWritten (writing (p4_of (bits_of page))) a b (Err cause) → IsWritten (as_command (scan_outcome word (with_page page images) rest)) a b (Err cause)
  page_broken word page images rest a b cause written held =
      laws.broken (Write (p4_of (bits_of page)) ∷ []) (as_command (scan_outcome word images rest)) a b held held cause (written held)

-- the same by what is left of the images
module _ (laws : ActLaws) (word : ℕ) (bytes : List ℕ) (a b : Taken) (unread : Unread)
    (before : (rest : GrayOutcome) → Comes (scan_outcome word (images_of bytes) rest) (scan_outcome word (images_left unread) rest) a b) where
  pub one_written : (page : Gray) (new : Unread) (c : Taken) → images_left unread ≡ with_page page (images_left new)
      → IsWritten (writing (p4_of (bits_of page))) b c (Ok tt) → (rest : GrayOutcome) → Comes (scan_outcome word (images_of bytes) rest)
      (scan_outcome word (images_left new) rest) a c
  one_written page new c left written rest =
      comes_on _ (scan_outcome word (images_left unread) rest) _ a b c (before rest)
      (subst (λ (images : Images). Comes (scan_outcome word images rest) (scan_outcome word (images_left new) rest) b c) (sym left)
      (page_written laws word page (images_left new) rest b c written))

  pub one_broken : (page : Gray) (new : Unread) (c : Taken) (cause : Halt) → images_left unread ≡ with_page page (images_left new)
      → IsWritten (writing (p4_of (bits_of page))) b c (Err cause) → (rest : GrayOutcome) → IsWritten
      (as_command (scan_outcome word (images_of bytes) rest)) a c (Err cause)
  one_broken page new c cause left written rest =
      comes_broken _ (scan_outcome word (images_left unread) rest) a b c cause (before rest)
      (subst (λ (images : Images). IsWritten (as_command (scan_outcome word images rest)) b c (Err cause)) (sym left)
      (page_broken laws word page (images_left new) rest b c cause written))

  pub all_written : images_left unread ≡ ended_with None → (rest : GrayOutcome) → Comes (scan_outcome word (images_of bytes) rest) rest a b
  all_written left rest = subst (λ (images : Images). Comes (scan_outcome word (images_of bytes) rest) (scan_outcome word images rest) a b) left (before rest)

  pub fault_met : (fault : PgmFault) → images_left unread ≡ ended_with (Some fault) → (rest : GrayOutcome)
      → Comes (scan_outcome word (images_of bytes) rest) (ended (gray.Pgm word fault)) a b
  fault_met fault left rest = subst (λ (images : Images). Comes (scan_outcome word (images_of bytes) rest) (scan_outcome word images rest) a b) left
      (before rest)

-- no images are read yet
pub none_written : (word : ℕ) (bytes : List ℕ) (unread : Unread) (a : Taken) → unread ≡ whole bytes → (rest : GrayOutcome)
    → Comes (scan_outcome word (images_of bytes) rest) (scan_outcome word (images_left unread) rest) a a
unfolding images_of
none_written word bytes unread a is rest =
    subst (λ (u : Unread). Comes (scan_outcome word (images_left (whole bytes)) rest) (scan_outcome word (images_left u) rest) a a) (sym is)
    (comes_here (scan_outcome word (images_left (whole bytes)) rest) a)

taken_test : (long : Bool) (word : ℕ) (bytes : List ℕ) (rest : List ℕ → GrayOutcome)
    → as_command (cond long (ended (gray.TooLong word (length bytes))) (rest bytes)) ≡ goes_on
    (cond long (Err (halt.TooLong word (length bytes))) (Ok bytes)) (λ given. as_command (rest given))
taken_test true word bytes rest = refl
taken_test false word bytes rest = refl

-- a scan is taken as a command takes an input
as_taken : (word : ℕ) (file : Option (List ℕ)) (rest : List ℕ → GrayOutcome)
    → as_command (once_taken word file rest) ≡ taking word (input_of word input_limit file) (λ bytes. as_command (rest bytes))
as_taken word None rest = refl
as_taken word (Some bytes) rest = ap (after_command (Take word ∷ [])) (taken_test (nat_lt input_limit (length bytes)) word bytes rest)

test_ends : (long : Bool) (word : ℕ) (given bytes : List ℕ) (rest : List ℕ → GrayOutcome)
    → cond long (Err (halt.TooLong word (length given))) (Ok given) ≡ Ok bytes →
    (cond long (ended (gray.TooLong word (length given))) (rest given)).ends ≡ (rest bytes).ends
test_ends true word given bytes rest e = absurd cc
test_ends false word given bytes rest e = let is : given ≡ bytes = cc in ap (λ b. (rest b).ends) is

given_ends : (word : ℕ) (file : Option (List ℕ)) (rest : List ℕ → GrayOutcome) (bytes : List ℕ) → input_of word input_limit file ≡ Ok bytes
    → (once_taken word file rest).ends ≡ (rest bytes).ends
given_ends word None rest bytes e = absurd cc
given_ends word (Some given) rest bytes e = test_ends (nat_lt input_limit (length given)) word given bytes rest e

module _ (laws : StepLaws (List ℕ)) (files : Files) (word : ℕ) (name : List ℕ) (a b : Taken) where
  -- what comes next with a scan that was taken
  scan_rest : List (List ℕ) → List ℕ → GrayOutcome
  scan_rest names bytes = scan_outcome word (images_of bytes) (scans_outcome files (word + 1) names)

  -- a scan that wasn't taken
  pub scan_missing : (cause : Halt) → GivesTaking word (Err cause) (input_of word input_limit (files name)) → WritesFirst files word name a a (Err cause)
  unfolding scan_rest
  scan_missing cause gives names held =
      subst (λ (o : Outcome). IsDone o a a held held (Err cause)) (sym (as_taken word (files name) (scan_rest names)))
      (laws.not_taken word (input_of word input_limit (files name)) cause (λ bytes. as_command (scan_rest names bytes)) a gives held)

  taken_comes : (bytes : List ℕ) (names : List (List ℕ)) → input_of word input_limit (files name) ≡ Ok bytes
      → Comes (scans_outcome files word (name ∷ names)) (scan_rest names bytes) a a
  unfolding scan_rest
  taken_comes bytes names given = record {
    acts = subst (λ (o : Outcome). WritesTo o (as_command (scan_rest names bytes)) a a) (sym (as_taken word (files name) (scan_rest names)))
        (laws.taken word (input_of word input_limit (files name)) bytes (λ given. as_command (scan_rest names given)) a given);
    ends = given_ends word (files name) (scan_rest names) bytes given;
  }

  -- one that was taken, as far as its images were written
  pub scan_taken : (bytes : List ℕ) → input_of word input_limit (files name) ≡ Ok bytes → (result : Result (Option PgmFault) Halt)
      → WritesScan word (images_of bytes) a b result → WritesFirst files word name a b result
  unfolding scan_rest
  scan_taken bytes given (Err cause) written = λ names.
      comes_broken (scans_outcome files word (name ∷ names)) (scan_rest names bytes) a a b cause (taken_comes bytes names given)
      (written (scans_outcome files (word + 1) names))
  scan_taken bytes given (Ok None) written = λ names.
      comes_on (scans_outcome files word (name ∷ names)) (scan_rest names bytes) _ a a b (taken_comes bytes names given)
      (written (scans_outcome files (word + 1) names))
  scan_taken bytes given (Ok (Some fault)) written = λ names.
      comes_on (scans_outcome files word (name ∷ names)) (scan_rest names bytes) _ a a b (taken_comes bytes names given)
      (written (scans_outcome files (word + 1) names))

-- a cause at which writing broke off may halt a `gray`
breaks_stop : (cause : Halt) (acts : List Act) (text : List ℕ) (records : List (List ℕ)) → is_keeper_fault {A = Unit {0}} (Err cause) ≡ false
    → BreaksAt cause acts text records → IsStop cause
breaks_stop (halt.NoInput word) acts text records other breaks = tt
breaks_stop (halt.TooLong word size) acts text records other breaks = tt
breaks_stop halt.ReadFault acts text records other breaks = tt
breaks_stop halt.WriteFault acts text records other breaks = tt
breaks_stop halt.NoMemory acts text records other breaks = tt
breaks_stop halt.KeeperFault acts text records other breaks = absurd cc
breaks_stop cause acts text records other breaks = absurd breaks

pub written_stops : (text : List ℕ) (a b : Taken) (cause : Halt) → is_keeper_fault {A = Unit {0}} (Err cause) ≡ false
    → IsWritten (writing text) a b (Err cause) → IsStop cause
written_stops text a b cause other written =
    let done : IsDone (writing text) a b None None (Err cause) = written None in
    elim done.ends [
      | inl whole ↦ (let same = whole.same_answer in absurd cc)
      | inr breaks ↦ breaks_stop cause done.left done.text done.records other breaks
    ]

-- the words from one on begin with it
pub word_on : (words : List (List ℕ)) (word : ℕ) (name : List ℕ) → slice_get words word ≡ Some name → drop word words ≡ name ∷ drop (word + 1) words
word_on words word name at =
    drop_more words word name (slice_get_within words word name at)
    ∙ ap (λ (first : List ℕ). first ∷ drop (word + 1) words) (get_or_from_slice_get words word name name at)

module _ (files : Files) (words : List (List ℕ)) (word : ℕ) (name : List ℕ) (whole : GrayOutcome) (a b c : Taken)
    (at : slice_get words word ≡ Some name) (before : Comes whole (scans_outcome files word (drop word words)) a b) where
  first_left : Comes whole (scans_outcome files word (name ∷ drop (word + 1) words)) a b
  first_left = subst (λ (names : List (List ℕ)). Comes whole (scans_outcome files word names) a b) (word_on words word name at) before

  -- one scan more is written
  pub scan_written : WritesFirst files word name b c (Ok None) → Comes whole (scans_outcome files (word + 1) (drop (word + 1) words)) a c
  scan_written written = comes_on whole (scans_outcome files word (name ∷ drop (word + 1) words)) _ a b c first_left (written (drop (word + 1) words))

  -- it leaves the grammar
  pub scan_faulty : ActLaws → (fault : PgmFault) → WritesFirst files word name b c (Ok (Some fault)) → IsGrayDone whole a c (gray.Pgm word fault)
  scan_faulty laws fault written =
      comes_done whole (ended (gray.Pgm word fault)) a c c (gray.Pgm word fault)
      (comes_on whole (scans_outcome files word (name ∷ drop (word + 1) words)) _ a b c first_left (written (drop (word + 1) words)))
      (ends_here laws (gray.Pgm word fault) c)

  -- the call halts at it
  pub scan_broken : (cause : Halt) (status : GrayStatus) → answer_of status ≡ Err cause → WritesFirst files word name b c (Err cause)
      → IsGrayDone whole a c status
  scan_broken cause status is written = record {
    acts = λ held. subst (λ (answer : Answer). IsDone (as_command whole) a c held held answer) (sym is)
        (comes_broken whole (scans_outcome files word (name ∷ drop (word + 1) words)) a b c cause first_left (written (drop (word + 1) words)) held);
    ends = λ e. absurd cc;
  }
