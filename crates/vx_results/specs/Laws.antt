-- What the rows of a history have.
use Rattle.std.specs.Prelude.{◌≤◌, List, length}
use Rattle.std.specs.List.{AllByRecursion}
use Rattle.vx_election_model.specs.declared.election.Election.{Election}
use Rattle.vx_election_model.specs.Valid.{IsValid}
use Rattle.vx_events.specs.declared.event.Event.{Event}
use Rattle.vx_center.specs.Histories.{IsHistory}
use Rattle.vx_cvr.specs.Rows.{rows_of}
use Rattle.vx_results.specs.Fitting.{IsRow}

-- the rows of a history: each fits, and no more than so many are there
pub record AreRows (election : Election) (kept : List Event) : Type 0 where
  pub each : AllByRecursion (IsRow election) (rows_of election kept)
  pub few : length (rows_of election kept) ≤ 1000000

abbrev pub RowsFit : Type 0
RowsFit = (election : Election) (kept : List Event) → IsValid election → IsHistory election kept → AreRows election kept
