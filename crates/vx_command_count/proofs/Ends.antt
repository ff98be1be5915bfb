-- How a `count` ends where no device fails.
use Rattle.std.proofs.Common.{◌≡◌, ℕ, ◌+◌, Bool, true, false, cond, List, [], ◌∷◌, ◌++◌, Option, Some, None, Result, Ok, Err, length, refl, ap, ◌∙◌}
use Rattle.std.specs.Prelude.{nat_lt}
use Rattle.vx_plane.specs.Plane.{Page}
use Rattle.vx_io.specs.Outside.{Files}
use Rattle.vx_election_model.specs.declared.election.Election.{Election}
use Rattle.vx_layout.specs.declared.plan.CardPlan.{CardPlan}
use Rattle.vx_pbm.specs.declared.fault.PbmFault.{PbmFault}
use Rattle.vx_pbm.specs.Images.{images_of}
use Rattle.vx_command.specs.declared.halt.Halt.{Halt}
use Rattle.vx_command.specs.declared.halt.Halt.TheVariants.{TooLong}
use Rattle.vx_command.specs.Acts.{Outcome, goes_on, input_limit, once_taken}
use Rattle.vx_command.specs.Elections.{once_planned}
use Rattle.vx_command.specs.Images.{unless_faulty}
use Rattle.vx_command.specs.Texts.{broke_off}
use Rattle.vx_journal.specs.declared.journal.Journal.{Journal}
use Rattle.vx_journal.specs.Keeping.{has_none, journal_in, journal_read}
use Rattle.vx_journal.specs.Steps.{once_read}
use Rattle.vx_command_count.specs.Laws.{CountsEndWell}
use Rattle.vx_command_count.specs.Outcome.{journal_outcome, read_next, scans_outcome, with_images}
use Rattle.vx_command_count.specs.Sheets.{counted_with}

-- a `count` whose election can be read, whose cards can be planned and whose journal replays ends with no device's failure
module _ (election : Election) (batch : List ℕ) (files : Files) where
  taken-ends : (word limit : ℕ) (file : Option (List ℕ)) (rest : List ℕ → Outcome) → ((bytes : List ℕ) → broke_off (rest bytes).ends ≡ false)
      → broke_off (once_taken word limit file rest).ends ≡ false
  taken-ends word limit None rest h = refl
  taken-ends word limit (Some bytes) rest h = by (nat_lt limit (length bytes))
    where
      by : (b : Bool) → broke_off (goes_on (cond b (Err (TooLong word (length bytes))) (Ok bytes)) rest).ends ≡ false
      by true = refl
      by false = h bytes

  faulty-ends : (word : ℕ) (fault : Option PbmFault) (next : Outcome) → broke_off next.ends ≡ false → broke_off (unless_faulty word fault next).ends ≡ false
  faulty-ends word None next h = h
  faulty-ends word (Some fault) next h = refl

  images-end : (images : List Page) (counting : _) (rest : _ → List Page → Outcome) → ((now : _) (left : List Page) → broke_off (rest now left).ends ≡ false)
      → broke_off (with_images election batch counting images rest).ends ≡ false
  images-end [] counting rest h = h counting []
  images-end (single ∷ []) counting rest h = h counting (single ∷ [])
  images-end (first ∷ (second ∷ images)) counting rest h = images-end images (counted_with batch counting (read_next election counting first second)) rest h

  scans-end : (names : List (List ℕ)) (word : ℕ) (counting : _) (waiting : List Page)
      → broke_off (scans_outcome election batch files word counting waiting names).ends ≡ false
  scans-end [] word counting waiting = refl
  scans-end (name ∷ names) word counting waiting =
      taken-ends word input_limit (files name) _
      (λ bytes. images-end (waiting ++ (images_of bytes).pages) counting _
      (λ now left. faulty-ends word (images_of bytes).fault _ (scans-end names (word + 1) now left)))

pub count-ends : CountsEndWell
count-ends name batch scans files records election plans events is planned replays =
    let journal : Journal = record { center = record { election = election; events = events }; is_new = has_none records } in
    let read : journal_in election records ≡ Ok journal = ap (journal_read election (has_none records)) replays in
    ap (λ (given : Result Election Halt). broke_off
    (goes_on given (λ some. once_planned some (once_read some records (journal_outcome some batch scans files)))).ends) is
    ∙ ap (λ (given : Result (List CardPlan) Halt). broke_off
    (goes_on given (λ some. once_read election records (journal_outcome election batch scans files))).ends) planned
    ∙ ap (λ (given : Result Journal Halt). broke_off (goes_on given (journal_outcome election batch scans files)).ends) read
    ∙ scans-end election batch files scans 4 _ []
