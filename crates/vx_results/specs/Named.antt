-- Names that were given in words to write-in slots, with the votes of the slots' options.
use Rattle.std.specs.Prelude.{ℕ, ◌==◌, if◌then◌else◌, List, [], ◌∷◌, Option, Some, None}
use Rattle.std.specs.List.{flat_map}
use Rattle.vx_election_model.specs.declared.contest.Contest.{Contest}
use Rattle.vx_election_model.specs.declared.election.Election.{Election}
use Rattle.vx_events.specs.declared.decision.WriteInName.{WriteInName}
use Rattle.vx_events.specs.declared.decision.WriteInName.TheVariants.{Words, Candidate}
use Rattle.vx_center.specs.declared.rows.ExportSheet.{ExportSheet}
use Rattle.vx_center.specs.declared.rows.Final.{Final}
use Rattle.vx_cvr.specs.Votes.{name_of, votes_of}
use Rattle.vx_results.specs.Firsts.{Numbered}
use Rattle.vx_results.specs.Report.{contest_at}

-- the words of a name, if it is given in words
abbrev pub words_in : Option WriteInName → Option (List ℕ)
words_in None = None
words_in (Some (Words words)) = Some words
words_in (Some (Candidate number)) = None

-- words with votes
abbrev pub with_votes : Option (List ℕ) → ℕ → List Numbered
with_votes None votes = []
with_votes (Some words) votes = (words, votes) ∷ []

-- the words that a selected option was given, if it is a slot with some, with the votes of the option
abbrev pub named_by : Contest → Final → ℕ → List Numbered
named_by contest final option = with_votes (words_in (name_of contest final option)) (votes_of contest final option)

-- those of an exported contest of a sheet, if it is that contest
abbrev pub named_in : Election → ℕ → Final → List Numbered
named_in election contest final =
    if contest == final.contest then flat_map (named_by (contest_at election final) final) final.selected else []

-- those of a contest on a sheet
abbrev pub named_on : Election → ℕ → ExportSheet → List Numbered
named_on election contest row = flat_map (named_in election contest) row.finals
