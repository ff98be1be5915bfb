-- What a demo wrote says so.
use Rattle.std.proofs.Common.{◌≡◌, ℕ, List, ◌++◌, length, Result, Ok, ap, subst, ◌∙◌, append-nil}
use Rattle.vx_election_model.specs.declared.election.Election.{Election}
use Rattle.vx_layout.specs.declared.plan.CardPlan.{CardPlan}
use Rattle.vx_command.specs.declared.halt.Halt.{Halt}
use Rattle.vx_command.specs.Acts.{Outcome, goes_on, writing}
use Rattle.vx_command.specs.Elections.{plans_in}
use Rattle.vx_command.specs.Texts.{TextsInOrder, Wrote, texts_of}
use Rattle.vx_command_demo.specs.Trials.{Trial, sheets_of}
use Rattle.vx_command_demo.specs.Sums.{page_sums, reason_sums}
use Rattle.vx_command_demo.specs.Summary.{head_line, hollow_in, other_lines, pages_in, pages_line, summary_of, summary_text}
use Rattle.vx_command_demo.specs.Outcome.{demo_outcome, election_defined, election_outcome}
use Rattle.vx_certified.specs.Truth.{AreTrue, DemoPagesAreTrue, DemoSaysSo}

goes : {A : Type 0} (given : Result A Halt) (x : A) (rest : A → Outcome) → given ≡ Ok x → goes_on given rest ≡ rest x
goes given x rest is = ap (λ r. goes_on r rest) is

-- what stands behind the line of pages, of a whole demo
abbrev more_of : Election → List CardPlan → ℕ → ℕ → List ℕ
more_of election plans seed sheets =
    let all : List (List Trial) = sheets_of election plans seed sheets in
    other_lines (page_sums election (pages_in all)) (reason_sums election all) (hollow_in plans)

-- the summary, where all pages are true
summary-is : (election : Election) (plans : List CardPlan) (seed sheets : ℕ) → AreTrue election (pages_in (sheets_of election plans seed sheets))
    → summary_of election plans seed sheets
    ≡ head_line seed sheets ++ pages_line (length (pages_in (sheets_of election plans seed sheets))) (length (pages_in (sheets_of election plans seed sheets))) (length (pages_in (sheets_of election plans seed sheets))) ++ more_of election plans seed sheets
unfolding summary_of summary_text
summary-is election plans seed sheets are =
    let pages : ℕ = length (pages_in (sheets_of election plans seed sheets)) in
    let certified : ℕ = (page_sums election (pages_in (sheets_of election plans seed sheets))).certified in
    let Line : ℕ → ℕ → List ℕ = λ as_truth accepted. head_line seed sheets ++ pages_line pages as_truth accepted ++ more_of election plans seed sheets in
    ap (λ (n : ℕ). Line n certified) are.as_truth ∙ ap (λ (n : ℕ). Line pages n) are.certified

pub says-so : DemoPagesAreTrue → TextsInOrder → DemoSaysSo
says-so all order seed sheets election plans is made taken taken_now held held_now answer done =
    let text : List ℕ = summary_of election plans seed sheets in
    let outcome : demo_outcome seed sheets ≡ writing text =
    goes election_defined election (λ (some : Election). election_outcome some seed sheets) is
    ∙ goes (plans_in election) plans (λ (some : List CardPlan). writing (summary_of election some seed sheets)) made in
    let wrote : Wrote (texts_of (demo_outcome seed sheets)) taken taken_now answer = order (demo_outcome seed sheets) taken taken_now held held_now answer done in
    let texts : texts_of (demo_outcome seed sheets) ≡ text = ap texts_of outcome ∙ append-nil text in
    record {
      pages = length (pages_in (sheets_of election plans seed sheets));
      two_a_sheet = (all seed sheets election plans is made).1;
      more = more_of election plans seed sheets;
      wrote = subst (λ (t : List ℕ). Wrote t taken taken_now answer) (texts ∙ summary-is election plans seed sheets (all seed sheets election plans is made).0) wrote;
    }
