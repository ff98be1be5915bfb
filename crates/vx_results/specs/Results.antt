-- The results of a count: the totals of what its report says, and then how many contests wait.
use Rattle.std.specs.Prelude.{ℕ, List, [], ◌∷◌, ◌++◌, length, codes}
use Rattle.std.specs.Fmt.{decimal}
use Rattle.vx_election_model.specs.declared.election.Election.{Election}
use Rattle.vx_events.specs.declared.event.Event.{Event}
use Rattle.vx_audit.specs.Totals.{totals_text}
use Rattle.vx_results.specs.Report.{report_of_events}
use Rattle.vx_results.specs.Waiting.{waiting_in}

-- `waiting K`
abbrev pub waiting_line : ℕ → List ℕ
waiting_line count = codes "waiting " ++ decimal count ++ 10 ∷ []

-- the whole text
unfoldable pub results_text : Election → List Event → List ℕ
results_text election kept =
    totals_text (report_of_events election kept) ++ waiting_line (length (waiting_in election kept))
