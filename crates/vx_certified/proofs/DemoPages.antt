-- A page of a demo is read as it was printed and marked, and its reading is certified.
use Rattle.std.proofs.Common.{◌≡◌, ℕ, Bool, true, false, ◌&&◌, ◌==◌, List, [], ◌∷◌, map, refl, sym, ap, ◌∙◌, inl}
use Rattle.std.specs.Prelude.{is_ok}
use Rattle.std.proofs.lemmas.Bool.{and_from}
use Rattle.vx_base.proofs.Numbers.{equal-yes}
use Rattle.rand_pcg.specs.Lcg.{Lcg}
use Rattle.vx_plane.proofs.Pages.{page_of-dark_at}
use Rattle.vx_grid.specs.declared.state.State.{State}
use Rattle.vx_election_model.specs.declared.election.Election.{Election}
use Rattle.vx_election_model.specs.Valid.{IsValid}
use Rattle.vx_layout.specs.declared.pages.PagePlan.{PagePlan}
use Rattle.vx_layout.specs.Printed.{PrintedPage, IsPlanned}
use Rattle.vx_scan_model.specs.declared.reading.PageReading.{PageReading}
use Rattle.vx_scan_model.specs.Certificate.{ReadingsAreCertificates}
use Rattle.vx_scan_model.specs.Fits.{FitsUpright, FittingScansAreRead, IsReadAs, Says, state_of_mark}
use Rattle.vx_simulate.specs.Simulated.{SimulatedScansFit}
use Rattle.vx_check.specs.Accepted.{CertificatesAreAccepted}
use Rattle.vx_command_demo.specs.Trials.{Trial, printed_page, try_page}
use Rattle.vx_command_demo.specs.Sums.{are_read_so, is_accepted, is_as_truth, is_certified, of_reading, says}

-- a page is read as it was printed and marked, and its reading is certified
pub record IsTrue_ (election : Election) (trial : Trial) : Type 0 where
  pub as_truth : is_as_truth election trial ≡ true
  pub certified : is_certified election trial ≡ true

marked-so : (marks : List Bool) → are_read_so (map state_of_mark marks) marks ≡ true
marked-so [] = refl
marked-so (true ∷ marks) = marked-so marks
marked-so (false ∷ marks) = marked-so marks

says-so : (election : Election) (printed : PrintedPage) (marks : List Bool) (reading : PageReading) → Says election printed marks reading → says printed marks reading ≡ true
says-so election printed marks reading it =
    and_from (reading.code.card == printed.card && reading.code.page == printed.page) (are_read_so reading.states marks)
    (and_from (reading.code.card == printed.card) (reading.code.page == printed.page)
    (equal-yes reading.code.card printed.card (ap (λ code. code.card) it.code_is))
    (equal-yes reading.code.page printed.page (ap (λ code. code.page) it.code_is)))
    (ap (λ (states : List State). are_read_so states marks) it.states_are ∙ marked-so marks)

module _ (fit : SimulatedScansFit) (read : FittingScansAreRead) (certificates : ReadingsAreCertificates) (accepted : CertificatesAreAccepted) where
  pub page-true : (election : Election) (card : ℕ) (plan : PagePlan) (g : Lcg) → IsValid election → IsPlanned election (printed_page card plan) plan → IsTrue_ election (try_page election card plan g).0
  page-true election card plan g valid planned =
      let printed : PrintedPage = printed_page card plan in
      let trial : Trial = (try_page election card plan g).0 in
      let fits : FitsUpright election trial.scan printed plan trial.marks = fit election printed plan g valid planned in
      let it : IsReadAs election trial.scan printed trial.marks = read election trial.scan printed plan trial.marks valid (sym (page_of-dark_at _ _ _)) (inl fits) in
      record {
        as_truth = ap (of_reading false (says printed trial.marks)) it.is_read ∙ says-so election printed trial.marks it.reading it.says;
        certified =
            ap (of_reading false (is_accepted election trial.scan)) it.is_read
            ∙ ap is_ok (accepted election trial.scan it.reading valid (certificates election trial.scan it.reading valid it.is_read));
      }
