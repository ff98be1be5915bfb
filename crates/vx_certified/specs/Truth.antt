-- What `demo` says of its pages: of N of them, N were read as they were printed and marked, and N readings were
-- certified.
use Rattle.std.specs.Prelude.{◌≡◌, ◌≤◌, ℕ, ◌*◌, ◌++◌, List, length, Ok}
use Rattle.vx_election_model.specs.declared.election.Election.{Election}
use Rattle.vx_layout.specs.declared.plan.CardPlan.{CardPlan}
use Rattle.vx_command.specs.Acts.{Answer}
use Rattle.vx_command.specs.Done.{Taken, Held, IsDone}
use Rattle.vx_command.specs.Elections.{plans_in}
use Rattle.vx_command.specs.Texts.{Wrote}
use Rattle.vx_command_demo.specs.Trials.{Trial, sheets_of}
use Rattle.vx_command_demo.specs.Sums.{page_sums}
use Rattle.vx_command_demo.specs.Summary.{head_line, pages_line, pages_in}
use Rattle.vx_command_demo.specs.Outcome.{election_defined, demo_outcome}

-- all these pages are read as they were printed and marked, and the checker accepts what each is read as
pub record AreTrue (election : Election) (trials : List Trial) : Type 0 where
  pub as_truth : (page_sums election trials).as_truth ≡ length trials
  pub certified : (page_sums election trials).certified ≡ length trials

-- so are the pages of every demo, from every seed; where there are the three cards, a sheet has two of them
abbrev pub DemoPagesAreTrue : Type 0
DemoPagesAreTrue =
    (seed sheets : ℕ) (election : Election) (plans : List CardPlan) → election_defined ≡ Ok election
    → plans_in election ≡ Ok plans
    → AreTrue election (pages_in (sheets_of election plans seed sheets))
    × (3 ≤ length plans → length (pages_in (sheets_of election plans seed sheets)) ≡ 2 * sheets)

-- what a demo of so many cards wrote says so, as its second line
pub record SaysAllTrue (plans : List CardPlan) (seed sheets : ℕ) (taken taken_now : Taken) (answer : Answer) : Type 0 where
  pub pages : ℕ
  pub two_a_sheet : 3 ≤ length plans → pages ≡ 2 * sheets
  pub more : List ℕ
  pub wrote : Wrote (head_line seed sheets ++ pages_line pages pages pages ++ more) taken taken_now answer

-- whatever stands of the acts of `demo`
abbrev pub DemoSaysSo : Type 0
DemoSaysSo =
    (seed sheets : ℕ) (election : Election) (plans : List CardPlan) → election_defined ≡ Ok election
    → plans_in election ≡ Ok plans
    → (taken taken_now : Taken) (held held_now : Held) (answer : Answer)
    → IsDone (demo_outcome seed sheets) taken taken_now held held_now answer
    → SaysAllTrue plans seed sheets taken taken_now answer

-- the election that `demo` makes is read, and its cards, of which there are three, can all be planned
pub record DemoElection : Type 0 where
  pub election : Election
  pub plans : List CardPlan
  pub is_read : election_defined ≡ Ok election
  pub are_planned : plans_in election ≡ Ok plans
  pub three : length plans ≡ 3

-- what a demo wrote says, as its second line, that of the two pages of each sheet all were read as they were printed and
-- marked, and all certified
pub record SaysSo (seed sheets : ℕ) (taken taken_now : Taken) (answer : Answer) : Type 0 where
  pub more : List ℕ
  pub wrote : Wrote (head_line seed sheets ++ pages_line (2 * sheets) (2 * sheets) (2 * sheets) ++ more) taken taken_now answer

-- so says every demo, from every seed, whatever stands of its acts
abbrev pub DemosSaySo : Type 0
DemosSaySo =
    (seed sheets : ℕ) (taken taken_now : Taken) (held held_now : Held) (answer : Answer)
    → IsDone (demo_outcome seed sheets) taken taken_now held held_now answer → SaysSo seed sheets taken taken_now answer
