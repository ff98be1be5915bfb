-- The pages of a demo: each is printed and scanned by simulation. This project's own rule.
use Rattle.std.specs.Prelude.{◌≡◌, ℕ, ◌-◌, ◌%◌, List, [], ◌∷◌, take, slice_get, Bool, false, Option, Some, None}
use Rattle.std.specs.List.{range_with_len}
use Rattle.rand_core.specs.Pcg32Seed.{pcg32_seed}
use Rattle.rand_pcg.specs.Lcg.{Lcg}
use Rattle.rand_pcg.specs.Pcg.{pcg32_of_seed}
use Rattle.vx_plane.specs.Plane.{Page}
use Rattle.vx_grid.specs.declared.kind.Kind.TheVariants.{Precinct}
use Rattle.vx_election_model.specs.declared.election.Election.{Election}
use Rattle.vx_layout.specs.declared.pages.PagePlan.{PagePlan}
use Rattle.vx_layout.specs.declared.plan.CardPlan.{CardPlan}
use Rattle.vx_code.specs.declared.code.PageCode.{PageCode}
use Rattle.vx_layout.specs.Printed.{PrintedPage, IsPlanned, code_of, print_of_page}
use Rattle.vx_simulate.specs.Draws.{draw_all}
use Rattle.vx_simulate.specs.Simulated.{draw_page, scan_of}

-- a page that was tried: which page was printed, the marks that were drawn for its bubbles, and its scan
pub record Trial : Type 0 where
  pub printed : PrintedPage
  pub plan : PagePlan
  pub marks : List Bool
  pub scan : Page

-- the printed page of a card's plan: a ballot of a precinct, and no test ballot
abbrev pub printed_page : ℕ → PagePlan → PrintedPage
printed_page card plan = record { card = card; page = plan.page; kind = Precinct; test = false }

-- its code
abbrev pub code_for : Election → ℕ → PagePlan → PageCode
code_for election card plan = code_of election (printed_page card plan)

-- a page of a card is simulated
abbrev pub try_page : Election → ℕ → PagePlan → Lcg → Trial × Lcg
try_page election card plan g =
    let drawn = draw_page election plan g in (
      record {
        printed = printed_page card plan;
        plan = plan;
        marks = drawn.0.marks;
        scan = scan_of plan (print_of_page election plan (printed_page card plan)) drawn.0;
      },
      drawn.1,
    )

-- the first sheet of a card: its pages 1 and 2
abbrev pub first_sheet : Option CardPlan → List PagePlan
first_sheet None = []
first_sheet (Some plan) = take 2 plan.pages

-- these are its pages, as they are planned and printed
pub record IsFirstSheet (election : Election) (plans : List CardPlan) (card : ℕ) (front back : PagePlan) : Type 0 where
  pub pages : first_sheet (slice_get plans card) ≡ front ∷ back ∷ []
  pub front_planned : IsPlanned election (printed_page card front) front
  pub back_planned : IsPlanned election (printed_page card back) back

-- a sheet of a card is simulated, page after page
abbrev pub try_card : Election → List CardPlan → ℕ → Lcg → List Trial × Lcg
try_card election plans card = draw_all (try_page election card) (first_sheet (slice_get plans card))

-- the sheet with a number, from 1, is of one of three cards in turn
abbrev pub try_sheet : Election → List CardPlan → ℕ → Lcg → List Trial × Lcg
try_sheet election plans sheet = try_card election plans ((sheet - 1) % 3)

-- the generator of a seed
abbrev pub generator_of : ℕ → Lcg
generator_of seed = pcg32_of_seed (pcg32_seed 16 seed)

-- all sheets of a demo in order; one generator serves them all
abbrev pub sheets_of : Election → List CardPlan → ℕ → ℕ → List (List Trial)
sheets_of election plans seed sheets =
    (draw_all (try_sheet election plans) (range_with_len 1 sheets) (generator_of seed)).0
