-- Results and queues count the same contests.
use Rattle.std.proofs.Common.{◌≡◌, ℕ, suc, List, [], ◌∷◌, length, map, refl, sym, ap, ◌∙◌, arith, length-append}
use Rattle.std.specs.Prelude.{Option, Some}
use Rattle.std.specs.List.{flat_map}
use Rattle.vx_election_model.specs.declared.election.Election.{Election}
use Rattle.vx_rules.specs.declared.marks.ContestMarks.{ContestMarks}
use Rattle.vx_events.specs.declared.event.Event.{Event}
use Rattle.vx_center.specs.Sheets.{Added, sheets_in}
use Rattle.vx_command_queue.specs.Laws as queue
use Rattle.vx_command_queue.specs.Queue.{count_line, queue_lines}
use Rattle.vx_results.specs.Waiting.{waiting_on}
use Rattle.vx_results_are_totals.specs.Laws.{ResultsWaitAsQueuesDo}

length-map : {X Y : Type 0} (f : X → Y) (xs : List X) → length (map f xs) ≡ length xs
length-map f [] = refl
length-map f (x ∷ xs) = ap (λ (n : ℕ). suc n) (length-map f xs)

abbrev of-sheet : Added → ContestMarks → queue.OfSheet
of-sheet added marks = record { added = added; marks = marks }

-- of each sheet as many wait
sheets-same : (election : Election) (kept : List Event) (sheets : List Added)
    → length (flat_map (queue.waiting_on election kept) sheets) ≡ length (flat_map (waiting_on election kept) sheets)
sheets-same election kept [] = refl
sheets-same election kept (added ∷ sheets) =
    omega (
      arith,
      length-append (queue.waiting_on election kept added) (flat_map (queue.waiting_on election kept) sheets),
      length-append (waiting_on election kept added) (flat_map (waiting_on election kept) sheets),
      length-map (of-sheet added) (waiting_on election kept added),
      sheets-same election kept sheets,
    )

pub wait-same : queue.QueuesListWhatWaits → ResultsWaitAsQueuesDo
wait-same law election kept history =
    let lines : length (queue_lines election kept) ≡ length (queue.waiting_in election kept) =
    sym (length-map Some (queue_lines election kept))
    ∙ ap (λ (xs : List (Option (List ℕ))). length xs) (law election kept history).lines
    ∙ length-map (queue.line_of_waiting election kept) (queue.waiting_in election kept) in
    ap count_line (sym (lines ∙ sheets-same election kept (sheets_in kept)))
