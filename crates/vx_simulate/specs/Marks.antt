-- Which bubbles of a page are marked: drawn contest by contest. This project's own rule.
use Rattle.std.specs.Prelude.{ℕ, ◌+◌, ◌==◌, ◌&&◌, List, map, filter, length, Bool}
use Rattle.std.specs.List.{list_any, range_with_len}
use Rattle.rand_pcg.specs.Lcg.{Lcg}
use Rattle.vx_election_model.specs.declared.election.Election.{Election}
use Rattle.vx_election_model.specs.declared.contest.Contest.{Contest}
use Rattle.vx_election_model.specs.Options.{options_of}
use Rattle.vx_layout.specs.Flow.{contest_at}
use Rattle.vx_layout.specs.declared.bubbles.Bubble.{Bubble}
use Rattle.vx_layout.specs.declared.pages.PagePlan.{PagePlan}
use Rattle.vx_simulate.specs.declared.marks.Drawn.{Drawn}
use Rattle.vx_simulate.specs.Draws.{draw, draws, draw_all}

-- a contest, by its place in the election's list, has a bubble on the page
abbrev pub has_bubble : PagePlan → ℕ → Bool
has_bubble plan contest = list_any (λ (bubble : Bubble). bubble.contest == contest) plan.bubbles

-- the contests that have a bubble on the page, in order
abbrev pub contests_on : Election → PagePlan → List ℕ
contests_on election plan = filter (has_bubble plan) (range_with_len 0 (length election.contests))

-- what is drawn for a contest: how many options, up to its seats, and then as many of its options
abbrev pub draw_options : Election → ℕ → Lcg → Drawn × Lcg
draw_options election contest g =
    let of_it : Contest = contest_at election.contests contest in
    let many : ℕ × Lcg = draw (of_it.seats + 1) g in
    let some : List ℕ × Lcg = draws many.0 (options_of of_it) many.1 in
    (record { contest = contest; options = some.0 }, some.1)

-- what is drawn for all contests of a page
abbrev pub draw_marks : Election → PagePlan → Lcg → List Drawn × Lcg
draw_marks election plan = draw_all (draw_options election) (contests_on election plan)

-- a bubble is marked where its option was drawn
abbrev pub is_marked : List Drawn → Bubble → Bool
is_marked drawn bubble =
    list_any (λ (one : Drawn). one.contest == bubble.contest && list_any (λ option. option == bubble.option) one.options) drawn

-- the marks of a page, bubble by bubble
abbrev pub marks_of : List Drawn → PagePlan → List Bool
marks_of drawn plan = map (is_marked drawn) plan.bubbles
