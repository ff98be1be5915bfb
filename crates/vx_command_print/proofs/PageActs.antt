-- Pages that are written one after another.
use Rattle.std.proofs.Common.{◌≡◌, ◌+◌, ◌<◌, ℕ, List, [], ◌∷◌, length, drop, get_or, Ok, Err, sym, ap, subst, ◌∙◌}
use Rattle.std.proofs.lemmas.List.{drop_more}
use Rattle.vx_election_model.specs.declared.election.Election.{Election}
use Rattle.vx_layout.specs.declared.pages.PagePlan.{PagePlan}
use Rattle.vx_command.specs.declared.halt.Halt.{Halt}
use Rattle.vx_command.specs.Acts.{Write, Outcome, writing}
use Rattle.vx_command.specs.Done.{Taken, IsDone, IsWritten, WritesTo}
use Rattle.vx_command.specs.Laws.{ActLaws}
use Rattle.vx_command_print.specs.declared.ballot.Ballot.{Ballot}
use Rattle.vx_command_print.specs.Outcome.{page_text, pages_outcome}

module _ (laws : ActLaws) (election : Election) (ballot : Ballot) (plans : List PagePlan) (i : ℕ) where
  -- the pages from one on are that page and those behind it
  from_here : (plan : PagePlan) → i < length plans → plan ≡ get_or plans i plan → pages_outcome election ballot (drop i plans) ≡ pages_outcome election ballot (plan ∷ drop (i + 1) plans)
  from_here plan inside is =
      ap (pages_outcome election ballot) (drop_more plans i plan inside ∙ ap (λ (p : PagePlan). p ∷ drop (i + 1) plans) (sym is))

  -- one page more is written
  pub page_written : (plan : PagePlan) (a b c : Taken) → i < length plans → plan ≡ get_or plans i plan → WritesTo (pages_outcome election ballot plans) (pages_outcome election ballot (drop i plans)) a b → IsWritten (writing (page_text election ballot plan)) b c (Ok tt) → WritesTo (pages_outcome election ballot plans) (pages_outcome election ballot (drop (i + 1) plans)) a c
  page_written plan a b c inside is before written held taken_then held_then answer done =
      let Done : Outcome → Type 0 = λ outcome. IsDone outcome b taken_then held held_then answer in
      before held taken_then held_then answer
      (subst Done (sym (from_here plan inside is))
      (laws.done (Write (page_text election ballot plan) ∷ []) (pages_outcome election ballot (drop (i + 1) plans)) b c held held (written held) taken_then held_then answer done))

  -- a page isn't written whole
  pub page_broke_off : (plan : PagePlan) (a b c : Taken) (cause : Halt) → i < length plans → plan ≡ get_or plans i plan → WritesTo (pages_outcome election ballot plans) (pages_outcome election ballot (drop i plans)) a b → IsWritten (writing (page_text election ballot plan)) b c (Err cause) → IsWritten (pages_outcome election ballot plans) a c (Err cause)
  page_broke_off plan a b c cause inside is before written held =
      let Done : Outcome → Type 0 = λ outcome. IsDone outcome b c held held (Err cause) in
      before held c held (Err cause)
      (subst Done (sym (from_here plan inside is))
      (laws.broken (Write (page_text election ballot plan) ∷ []) (pages_outcome election ballot (drop (i + 1) plans)) b c held held cause (written held)))
