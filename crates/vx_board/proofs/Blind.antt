-- The page sees nothing of marks and decisions: the ballots in the report's order are those of the sheets that were added.
use Rattle.std.proofs.Common.{◌≡◌, ℕ, List, [], ◌∷◌, map, refl, sym, ap, ◌∙◌}
use Rattle.std.specs.Prelude.{Ok, Result}
use Rattle.std.specs.Ordering.{match_ordering}
use Rattle.std.specs.declared.cmp.Ordering.{Ordering}
use Rattle.std.specs.declared.cmp.Ordering.TheVariants.{Less, Equal, Greater}
use Rattle.vx_election_model.specs.declared.election.Election.{Election}
use Rattle.vx_events.specs.declared.event.Event.{Event}
use Rattle.vx_center.specs.declared.rows.ExportSheet.{ExportSheet}
use Rattle.vx_center.specs.Exports.{key_order, row_of}
use Rattle.vx_center.specs.Sheets.{Added, sheets_in}
use Rattle.vx_command.specs.Acts.{Outcome, ReadJournal, Take, after, goes_on, taking, writing}
use Rattle.vx_command.specs.Elections.{election_in}
use Rattle.vx_command.specs.declared.halt.Halt.{Halt}
use Rattle.vx_io.specs.Outside.{Files}
use Rattle.vx_journal.specs.declared.journal.Journal.{Journal}
use Rattle.vx_journal.specs.Keeping.{journal_in}
use Rattle.vx_journal.specs.Steps.{once_read}
use Rattle.vx_cvr.specs.Rows.{in_order, placed}
use Rattle.vx_board.specs.Ballots.{Ballot, added_ballot, ballot_of, ballots_of}
use Rattle.vx_board.specs.Data.{board_text, page_text}
use Rattle.vx_board.specs.Laws.{BoardIsBlind, HaveSameBallots}
use Rattle.vx_board.specs.Outcome.{board_outcome}

-- a ballot among ballots in order: before the first whose key isn't less
abbrev put : Ballot → List Ballot → List Ballot
put ballot [] = ballot ∷ []
put ballot (other ∷ others) =
    match_ordering (key_order other.key ballot.key) (other ∷ put ballot others) (ballot ∷ other ∷ others) (ballot ∷ other ∷ others)

-- ballots in order
abbrev put_all : List Ballot → List Ballot
put_all [] = []
put_all (ballot ∷ ballots) = put ballot (put_all ballots)

put_row : (row : ExportSheet) (rows : List ExportSheet) → map ballot_of (placed row rows) ≡ put (ballot_of row) (map ballot_of rows)
put_row row [] = refl
put_row row (other ∷ others) = by (key_order other.key row.key) (put_row row others)
  where
    by : (order : Ordering) → map ballot_of (placed row others) ≡ put (ballot_of row) (map ballot_of others)
        → map ballot_of (match_ordering order (other ∷ placed row others) (row ∷ other ∷ others) (row ∷ other ∷ others))
        ≡ match_ordering order (ballot_of other ∷ put (ballot_of row) (map ballot_of others)) (ballot_of row ∷ ballot_of other ∷ map ballot_of others)
        (ballot_of row ∷ ballot_of other ∷ map ballot_of others)
    by Less rest = ap (λ (ballots : List Ballot). ballot_of other ∷ ballots) rest
    by Equal rest = refl
    by Greater rest = refl

put_rows : (rows : List ExportSheet) → map ballot_of (in_order rows) ≡ put_all (map ballot_of rows)
put_rows [] = refl
put_rows (row ∷ rows) = put_row row (in_order rows) ∙ ap (put (ballot_of row)) (put_rows rows)

of_sheets : (election : Election) (kept : List Event) (sheets : List Added) → map ballot_of (map (row_of election kept) sheets) ≡ map added_ballot sheets
of_sheets election kept [] = refl
of_sheets election kept (added ∷ sheets) = ap (λ (ballots : List Ballot). added_ballot added ∷ ballots) (of_sheets election kept sheets)

ballots_are : (election : Election) (kept : List Event) → ballots_of election kept ≡ put_all (map added_ballot (sheets_in kept))
ballots_are election kept = put_rows (map (row_of election kept) (sheets_in kept)) ∙ ap put_all (of_sheets election kept (sheets_in kept))

pages : (election : Election) (kept other : List Event) (seed : List ℕ) (size : ℕ) → HaveSameBallots kept other
    → board_text election kept seed size ≡ board_text election other seed size
pages election kept other seed size same =
    ap (λ (ballots : List Ballot). page_text election ballots seed size)
    (ballots_are election kept ∙ ap put_all same ∙ sym (ballots_are election other))

-- what `board` does once its election is read and its journal
abbrev done_for : Election → List ℕ → ℕ → Result Journal Halt → Outcome
done_for election seed size journal =
    after (ReadJournal ∷ []) (goes_on journal (λ kept. writing (board_text election kept.center.events seed size)))

runs : (election : Election) (name seed : List ℕ) (size : ℕ) (files : Files) (records others : List (List ℕ)) (one other : Journal)
    → election_in (files name) ≡ Ok election → journal_in election records ≡ Ok one → journal_in election others ≡ Ok other
    → HaveSameBallots one.center.events other.center.events
    → board_outcome name seed size files records ≡ board_outcome name seed size files others
runs election name seed size files records others one other read is_one is_other same =
    let rest : List (List ℕ) → Election → Outcome =
    λ kept given. once_read given kept (λ journal. writing (board_text given journal.center.events seed size)) in
    ap (λ (given : Result Election Halt). taking 1 given (rest records)) read
    ∙ ap (after (Take 1 ∷ []))
    (ap (done_for election seed size) is_one
    ∙ ap (λ (text : List ℕ). after (ReadJournal ∷ []) (writing text)) (pages election one.center.events other.center.events seed size same)
    ∙ sym (ap (done_for election seed size) is_other))
    ∙ sym (ap (λ (given : Result Election Halt). taking 1 given (rest others)) read)

pub blind : BoardIsBlind
blind = record { pages = pages; runs = runs }
