-- The ballots of a report, without anything of their marks, and those that a seed draws.
use Rattle.std.specs.Prelude.{ℕ, List, [], length, map, slice_index_or}
use Rattle.vx_election_model.specs.declared.election.Election.{Election}
use Rattle.vx_events.specs.declared.event.Event.{Event}
use Rattle.vx_events.specs.declared.key.Key.{Key}
use Rattle.vx_center.specs.declared.rows.ExportSheet.{ExportSheet}
use Rattle.vx_center.specs.Sheets.{Added}
use Rattle.vx_cvr.specs.Rows.{rows_of}
use Rattle.vx_audit.specs.Sample.{sample_of}

-- a ballot: the batch and the number that it is kept under, and its card
pub record Ballot : Type 0 where
  pub key : Key
  pub card : ℕ

-- the ballot of a row of the report
abbrev pub ballot_of : ExportSheet → Ballot
ballot_of row = record { key = row.key; card = row.card }

-- the ballot of a sheet that was added
abbrev pub added_ballot : Added → Ballot
added_ballot added = record { key = added.key; card = added.sheet.card }

-- the ballots in the report's order, which is that of boxes: by the batch's bytes, and then by the number
abbrev pub ballots_of : Election → List Event → List Ballot
ballots_of election kept = map ballot_of (rows_of election kept)

-- no ballot, which stands past the end of a list of them
abbrev pub no_ballot : Ballot
no_ballot = record { key = record { batch = []; number = 0 }; card = 0 }

-- the ballot at a place
abbrev pub ballot_at : List Ballot → ℕ → Ballot
ballot_at ballots place = slice_index_or ballots place no_ballot

-- the places of those that the first words of the generator draw, each once and ascending
abbrev pub drawn_of : List ℕ → ℕ → List Ballot → List ℕ
drawn_of seed size ballots = sample_of seed size (length ballots)
