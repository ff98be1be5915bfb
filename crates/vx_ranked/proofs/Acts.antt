-- How a `ranked` goes from act to act.
use Rattle.std.proofs.Common.{◌≡◌, ℕ, true, List, [], ◌∷◌, ◌++◌, None, Result, Ok, Err, inl, inr, refl, sym, ap, subst, ◌∙◌}
use Rattle.vx_election_model.specs.declared.election.Election.{Election}
use Rattle.vx_command.specs.declared.halt.Halt.{Halt}
use Rattle.vx_command.specs.declared.halt.Halt.TheVariants as halt
use Rattle.vx_command.specs.Acts.{Act, Take, ReadJournal, Write, Append, Outcome, after as after_command, goes_on as command_goes_on, taking as command_taking, writing as command_writing}
use Rattle.vx_command.specs.Done.{Taken, Held, IsDone, IsWritten, ComesTo, BreaksAt}
use Rattle.vx_command.specs.Laws.{StepLaws}
use Rattle.vx_command.specs.Steps.{GivesTaking, is_no_memory}
use Rattle.vx_base.specs.Refusals.{Gives}
use Rattle.vx_journal.specs.declared.journal.Journal.{Journal}
use Rattle.vx_journal.specs.Keeping.{journal_in}
use Rattle.vx_journal.specs.Laws.{ReadLaws}
use Rattle.vx_journal.specs.Steps.{GivesReading, once_read as command_once_read}
use Rattle.vx_ranked.specs.Done.{IsRankedDone, IsRankedWritten}
use Rattle.vx_ranked.specs.Outcome.{RankedOutcome, as_command, goes_on, taking, once_read, writing}
use Rattle.vx_ranked.specs.Status.{Ended, answer_of, may_have_written}

-- a `ranked` has come to the rest of its acts
pub record Comes (whole rest : RankedOutcome) (a b : Taken) (h k : Held) : Type 0 where
  pub acts : ComesTo (as_command whole) (as_command rest) a b h k
  pub ends : whole.ends ≡ rest.ends

-- the rest is done, so the whole is
pub comes_done : (whole rest : RankedOutcome) (a b c : Taken) (h k l : Held) (ended : Ended) → Comes whole rest a b h k
    → IsRankedDone rest b c k l ended → IsRankedDone whole a c h l ended
comes_done whole rest a b c h k l ended comes done = record {
  acts = comes.acts c l (answer_of ended) done.acts;
  ends = λ e. done.ends e ∙ sym comes.ends;
}

-- it halts
pub halts : (outcome : RankedOutcome) (a b : Taken) (h k : Held) (cause : Halt) → IsDone (as_command outcome) a b h k (Err cause)
    → IsRankedDone outcome a b h k (Err cause)
halts outcome a b h k cause done = record { acts = done; ends = λ e. absurd cc }

-- what goes on, or takes an input, does so as a command does
as_goes : {A : Type 0} (given : Result A Halt) (rest : A → RankedOutcome)
    → as_command (goes_on given rest) ≡ command_goes_on given (λ (x : A). as_command (rest x))
as_goes (Err cause) rest = refl
as_goes (Ok given) rest = refl

as_taking : {A : Type 0} (word : ℕ) (given : Result A Halt) (rest : A → RankedOutcome)
    → as_command (taking word given rest) ≡ command_taking word given (λ (x : A). as_command (rest x))
as_taking word given rest = ap (after_command (Take word ∷ [])) (as_goes given rest)

as_read : (election : Election) (records : List (List ℕ)) (rest : Journal → RankedOutcome)
    → as_command (once_read election records rest) ≡ command_once_read election records (λ (journal : Journal). as_command (rest journal))
as_read election records rest = ap (after_command (ReadJournal ∷ [])) (as_goes (journal_in election records) rest)

given_ends : {A : Type 0} (defined : Result A Halt) (given : A) (rest : A → RankedOutcome)
    → defined ≡ Ok given → (goes_on defined rest).ends ≡ (rest given).ends
given_ends {A} defined given rest is = ap (λ (one : Result A Halt). (goes_on one rest).ends) is

module _ {A : Type 0} (laws : StepLaws A) (defined : Result A Halt) (rest : A → RankedOutcome) (a : Taken) (h : Held) where
  abbrev as_rest : A → Outcome
  as_rest x = as_command (rest x)

  -- an input was taken, or not
  pub taken : (word : ℕ) (given : A) → defined ≡ Ok given → Comes (taking word defined rest) (rest given) a a h h
  taken word given is = record {
    acts = subst (λ (o : Outcome). ComesTo o (as_command (rest given)) a a h h) (sym (as_taking word defined rest))
        (laws.taken word defined given as_rest a is h);
    ends = given_ends defined given rest is;
  }

  pub not_taken : (word : ℕ) (cause : Halt) → GivesTaking word (Err cause) defined → IsRankedDone (taking word defined rest) a a h h (Err cause)
  not_taken word cause gives =
      halts (taking word defined rest) a a h h cause
      (subst (λ (o : Outcome). IsDone o a a h h (Err cause)) (sym (as_taking word defined rest)) (laws.not_taken word defined cause as_rest a gives h))

  -- something was given without an act, or not
  pub gone_on : (given : A) → defined ≡ Ok given → Comes (goes_on defined rest) (rest given) a a h h
  gone_on given is = record {
    acts = subst (λ (o : Outcome). ComesTo o (as_command (rest given)) a a h h) (sym (as_goes defined rest)) (laws.given defined given as_rest a is h);
    ends = given_ends defined given rest is;
  }

  pub not_given : (cause : Halt) → Gives is_no_memory (Err cause) defined → IsRankedDone (goes_on defined rest) a a h h (Err cause)
  not_given cause gives =
      halts (goes_on defined rest) a a h h cause
      (subst (λ (o : Outcome). IsDone o a a h h (Err cause)) (sym (as_goes defined rest)) (laws.not_given defined cause as_rest a gives h))

module _ (laws : ReadLaws) (election : Election) (records : List (List ℕ)) (rest : Journal → RankedOutcome) (a : Taken) (h : Held) where
  -- the journal was read, or not
  pub read : (journal : Journal) → journal_in election records ≡ Ok journal → Comes (once_read election records rest) (rest journal) a a h h
  read journal is = record {
    acts = subst (λ (o : Outcome). ComesTo o (as_command (rest journal)) a a h h) (sym (as_read election records rest))
        (laws.read election records journal (λ (one : Journal). as_command (rest one)) a h is);
    ends = given_ends (journal_in election records) journal rest is;
  }

  pub not_read : (cause : Halt) → GivesReading (Err cause) (journal_in election records)
      → IsRankedDone (once_read election records rest) a a h h (Err cause)
  not_read cause gives =
      halts (once_read election records rest) a a h h cause
      (subst (λ (o : Outcome). IsDone o a a h h (Err cause)) (sym (as_read election records rest))
      (laws.not_read election records cause (λ (one : Journal). as_command (rest one)) a h gives))

-- the text is written, or the sink failed, or memory ran out
pub written : (text : List ℕ) (a b : Taken) → IsWritten (command_writing text) a b (Ok tt) → IsRankedWritten (writing text) a b (Ok None)
written text a b done held = record { acts = done held; ends = λ e. refl }

-- the only act of a writing
only_act : (text : List ℕ) (done acts : List Act) (act : Act) → Write text ∷ [] ≡ done ++ act ∷ acts → act ≡ Write text
only_act text [] acts act is = cc
only_act text (one ∷ []) acts act is = absurd cc
only_act text (one ∷ other ∷ more) acts act is = absurd cc

no_take : (text : List ℕ) (word : ℕ) → Take word ≡ Write text → ⊥
no_take text word is = absurd cc

no_reading : (text : List ℕ) → ReadJournal ≡ Write text → ⊥
no_reading text is = absurd cc

no_append : (text body : List ℕ) → Append body ≡ Write text → ⊥
no_append text body is = absurd cc

-- whatever broke off a writing, it may have written
breaks_late : (cause : Halt) (text : List ℕ) (done left : List Act) (part : List ℕ) (records : List (List ℕ)) → BreaksAt cause left part records
    → Write text ∷ [] ≡ done ++ left → may_have_written (Err cause) ≡ true
breaks_late halt.WriteFault text done left part records breaks is = refl
breaks_late halt.NoMemory text done left part records breaks is = refl
breaks_late halt.ReadFault text done [] part records breaks is = absurd breaks
breaks_late halt.ReadFault text done (Take word ∷ acts) part records breaks is = absurd (no_take text word (only_act text done acts (Take word) is))
breaks_late halt.ReadFault text done (ReadJournal ∷ acts) part records breaks is = absurd breaks
breaks_late halt.ReadFault text done (Write whole ∷ acts) part records breaks is = absurd breaks
breaks_late halt.ReadFault text done (Append body ∷ acts) part records breaks is = absurd breaks
breaks_late halt.KeeperFault text done [] part records breaks is = absurd breaks
breaks_late halt.KeeperFault text done (Take word ∷ acts) part records breaks is = absurd breaks
breaks_late halt.KeeperFault text done (ReadJournal ∷ acts) part records breaks is = absurd (no_reading text (only_act text done acts ReadJournal is))
breaks_late halt.KeeperFault text done (Write whole ∷ acts) part records breaks is = absurd breaks
breaks_late halt.KeeperFault text done (Append body ∷ acts) part records breaks is = absurd (no_append text body (only_act text done acts (Append body) is))
breaks_late cause text done left part records breaks is = absurd breaks

pub late : (text : List ℕ) (a b : Taken) (cause : Halt) → IsWritten (command_writing text) a b (Err cause) → may_have_written (Err cause) ≡ true
late text a b cause written =
    let done : IsDone (command_writing text) a b None None (Err cause) = written None in
    elim done.ends [
      | inl whole ↦ (let same = whole.same_answer in absurd cc)
      | inr breaks ↦ breaks_late cause text done.done done.left done.text done.records breaks done.are_acts
    ]
