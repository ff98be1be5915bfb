-- What `print` does: it takes its election, and writes page after page of one card.
use Rattle.std.specs.Prelude.{ℕ, List, map, Result, Ok, Err}
use Rattle.vx_election_model.specs.declared.election.Election.{Election}
use Rattle.vx_layout.specs.declared.pages.PagePlan.{PagePlan}
use Rattle.vx_layout.specs.declared.plan.CardPlan.{CardPlan}
use Rattle.vx_layout.specs.declared.fault.LayoutFault.{LayoutFault}
use Rattle.vx_layout.specs.Plan.{plan_of}
use Rattle.vx_layout.specs.Printed.{PrintedPage, bitmap_of}
use Rattle.vx_io.specs.Outside.{Files}
use Rattle.vx_pbm.specs.Raw.{p4_of}
use Rattle.vx_command.specs.declared.halt.Halt.{Halt}
use Rattle.vx_command.specs.declared.halt.Halt.TheVariants.{Layout}
use Rattle.vx_command.specs.Acts.{Act, Write, Outcome, work, goes_on}
use Rattle.vx_command.specs.Elections.{once_election}
use Rattle.vx_command_print.specs.declared.ballot.Ballot.{Ballot}

-- a page of a card's plan as it is printed
abbrev pub printed_page : Ballot → PagePlan → PrintedPage
printed_page ballot plan =
    record { card = ballot.card; page = plan.page; kind = ballot.kind; test = ballot.test }

-- the text of a printed page: its raw bitmap
abbrev pub page_text : Election → Ballot → PagePlan → List ℕ
page_text election ballot plan = p4_of (bitmap_of election plan (printed_page ballot plan))

-- the pages of a card, written one after the other
abbrev pub pages_outcome : Election → Ballot → List PagePlan → Outcome
pages_outcome election ballot plans = work (map (λ plan. Write (page_text election ballot plan)) plans)

-- the card that was planned, or why `print` halts
abbrev pub card_made : ℕ → Result CardPlan LayoutFault → Result CardPlan Halt
card_made card (Ok plan) = Ok plan
card_made card (Err fault) = Err (Layout card fault)

-- `print` of a card of an election
abbrev pub card_outcome : Election → Ballot → Outcome
card_outcome election ballot =
    goes_on (card_made ballot.card (plan_of election ballot.card))
    (λ plan. pages_outcome election ballot plan.pages)

-- `print` of the election under a name
abbrev pub print_outcome : List ℕ → Ballot → Files → Outcome
print_outcome election ballot files = once_election (files election) (λ given. card_outcome given ballot)
