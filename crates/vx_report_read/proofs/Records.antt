-- What the sheets of a report are read as.
use Rattle.std.proofs.Common.{◌≡◌, ℕ, zero, suc, ◌+◌, ◌-◌, ◌<◌, ◌≤◌, Bool, true, false, cond, List, [], ◌∷◌, ◌++◌, length, map, refl, ap, subst, ◌∙◌, arith}
use Rattle.std.specs.Prelude.{Option, Some, None, Ok, codes, bytes_eq, slice_get, slice_index_or}
use Rattle.std.specs.List.{AllByRecursion, IsDistinct}
use Rattle.std.proofs.lemmas.Option.{slice_get-get_or, same_Some}
use Rattle.serde_json.specs.Find.{get_member}
use Rattle.vx_base.proofs.Lists.{map-map}
use Rattle.vx_json.specs.Paths.{member_path, element_path}
use Rattle.vx_election_model.specs.declared.contest.Contest.{Contest}
use Rattle.vx_election_model.specs.declared.election.Election.{Election}
use Rattle.vx_election_model.specs.Options.{options_of}
use Rattle.vx_election_model.specs.Valid.{IsValid}
use Rattle.vx_styles.specs.Cards.{cards_of, card_at}
use Rattle.vx_events.specs.declared.decision.WriteInName.{WriteInName}
use Rattle.vx_events.specs.declared.decision.WriteInName.TheVariants.{Words, Candidate}
use Rattle.vx_events.specs.Ascending.{ascends_from}
use Rattle.vx_center.specs.declared.rows.ExportSheet.{ExportSheet}
use Rattle.vx_center.specs.declared.rows.Final.{Final}
use Rattle.vx_cvr.specs.Json.{text, whole, members}
use Rattle.vx_cvr.specs.Names.{precinct_name, contest_name, selection_name, sheet_name}
use Rattle.vx_cvr.specs.Votes.{is_overvoted, is_repeated, overvotes, undervotes, name_of, candidate_of, votes_of, indication_of, allocable}
use Rattle.vx_cvr.specs.Report as spec
use Rattle.vx_tally.specs.declared.report.CvrRecord.{CvrRecord}
use Rattle.vx_tally.specs.declared.report.ReportContest.{ReportContest}
use Rattle.vx_tally.specs.declared.report.RecordContest.{RecordContest}
use Rattle.vx_tally.specs.Names as names
use Rattle.vx_tally.specs.Names.{ballot_style_unit_id, cvr_snapshot, cvr_contest, undervotes as undervotes_word, cvr_contest_selection, contest_selection_id, selection_position, number_votes}
use Rattle.vx_tally.specs.Ids.{place_in, is_among}
use Rattle.vx_tally.specs.Members.{list_limit, record_limit, vote_limit, votes_member}
use Rattle.vx_tally.specs.Contests.{contest_ids, own_selections}
use Rattle.vx_tally.specs.Records as tally
use Rattle.vx_tally.specs.Records.{votes_in, row_at, rows_in, counted_at, counted_list_in, snapshot_in, record_at, record_list_in, records_in}
use Rattle.vx_results.specs.Report.{units_of, selections_of, contest_of, vote_of, contest_at, counted_in, unit_of, record_of}
use Rattle.vx_report_read.proofs.Each.{length-mapped}
use Rattle.vx_report_read.proofs.Contests.{IsGiven, given-options, selection-place, contest-place, unit-place}
use Rattle.vx_results.specs.Fitting.{final_number, IsFinalAt, IsRow}
use Rattle.vx_report_read.proofs.Fitting.{among-none, contest-valid, voted-below}
use Rattle.vx_report_read.proofs.Members.{bind-ok, id-member, reference-member, new-reference-member, votes-member, list-member, first-member, walk}
use Rattle.vx_report_read.proofs.Names.{precinct-id, contest-id, selection-id, sheet-id}
use Rattle.vx_report_read.proofs.Places.{new-place, each-seam, new-name}

-- ---- selected options

-- the selection that an option's votes are for
abbrev voted_for_of : Contest → Final → ℕ → ℕ
voted_for_of contest final option = spec.voted_for option (candidate_of contest final option)

votes-few : (contest : Contest) (final : Final) (option : ℕ) → votes_of contest final option ≤ vote_limit
votes-few contest final option = by (is_overvoted contest final) (is_repeated contest final option (candidate_of contest final option))
  where
    by : (a b : Bool) → cond a 0 (cond b 0 1) ≤ 50
    by true b = omega arith
    by false true = omega arith
    by false false = omega arith

position-votes : (contest : Contest) (final : Final) (option : ℕ) (path : List ℕ)
    → votes_member (spec.position contest final option) path names.number_votes ≡ Ok (votes_of contest final option)
unfolding number_votes
position-votes contest final option path = votes-member _ path (codes "NumberVotes") (votes_of contest final option) (by (name_of contest final option))
    (votes-few contest final option)
  where
    by : (name : Option WriteInName) → get_member (codes "NumberVotes") (members (spec.class (codes "SelectionPosition") ∷ spec.write_in contest name
        ++ (codes "HasIndication", text (indication_of final option))
        ∷ (codes "IsAllocable", text (allocable contest final option))
        ∷ (codes "NumberVotes", whole (votes_of contest final option)) ∷ [])) ≡ Some (whole (votes_of contest final option))
    by None = refl
    by (Some (Words words)) = refl
    by (Some (Candidate number)) = refl

votes-read : (contest : Contest) (final : Final) (option : ℕ) (path : List ℕ)
    → votes_in (spec.selected contest final option) path ≡ Ok (votes_of contest final option)
unfolding votes_in selection_position
votes-read contest final option path =
    bind-ok _ _ (spec.position contest final option) _ (first-member _ path (codes "SelectionPosition") (spec.position contest final option) refl)
    (position-votes contest final option (element_path (member_path path (codes "SelectionPosition")) 0))

row-read : (contest : Contest) (final : Final) (option : ℕ) (path : List ℕ) → IsGiven contest → voted_for_of contest final option < options_of contest
    → row_at (selections_of contest) path (spec.selected contest final option) ≡ Ok (vote_of contest final option)
unfolding row_at contest_selection_id
row-read contest final option path given below =
    let voted = voted_for_of contest final option in
    bind-ok _ _ voted _
    (reference-member _ path (codes "ContestSelectionId") (selections_of contest) (selection_name contest.id voted) voted refl
    (selection-id contest.id voted given.2.id (omega (arith, below, given-options contest given))) (selection-place contest voted given below))
    (bind-ok _ _ (votes_of contest final option) _ (votes-read contest final option path) refl)

row-list-read : (contest : Contest) (final : Final) (path : List ℕ) → IsGiven contest
    → AllByRecursion (λ (option : ℕ). voted_for_of contest final option < options_of contest) final.selected
    → rows_in (selections_of contest) path (map (spec.selected contest final) final.selected) ≡ Ok (map (vote_of contest final) final.selected)
unfolding rows_in
row-list-read contest final path given all =
    walk (tally.row_in (selections_of contest) path) (spec.selected contest final) (vote_of contest final) final.selected
    (λ before option back e. row-read contest final option (element_path path (length (map (vote_of contest final) before))) given
    (each-seam (λ (option : ℕ). voted_for_of contest final option < options_of contest) before option back
    (subst (λ (options : List ℕ). AllByRecursion (λ (option : ℕ). voted_for_of contest final option < options_of contest) options) e all)))

-- ---- exported contests

either-few : (b : Bool) (m n : ℕ) → m ≤ 50 → n ≤ 50 → cond b m n ≤ vote_limit
either-few true m n few many = few
either-few false m n few many = many

all-voted : (contest : Contest) (final : Final) (options : List ℕ)
    → ((option : ℕ) → option < options_of contest → voted_for_of contest final option < options_of contest)
    → AllByRecursion (λ (option : ℕ). option < options_of contest) options
    → AllByRecursion (λ (option : ℕ). voted_for_of contest final option < options_of contest) options
all-voted contest final [] to all = tt
all-voted contest final (option ∷ options) to all = (to option all.0, all-voted contest final options to all.1)

final-given : (election : Election) (final : Final) → IsValid election → IsFinalAt election final → IsGiven (contest_at election final)
final-given election final valid is = (length election.parties, length election.districts, contest-valid election final valid is)

-- the selections of the contest at its place
selections-there : (election : Election) (final : Final) → IsFinalAt election final
    → tally.selections_at (own_selections (map contest_of election.contests)) final.contest ≡ selections_of (contest_at election final)
selections-there election final is =
    ap (λ (all : List (List (List ℕ))). slice_index_or all final.contest []) (map-map (λ (one : ReportContest). one.selections) contest_of election.contests)
    ∙ at election.contests final.contest (contest_at election final) is.there
  where
    at : (contests : List Contest) (number : ℕ) (contest : Contest) → slice_get contests number ≡ Some contest
        → slice_index_or (map selections_of contests) number [] ≡ selections_of contest
    at [] number contest there = absurd cc
    at (one ∷ contests) zero contest there = ap selections_of (same_Some one contest there)
    at (one ∷ contests) (suc number) contest there = at contests number contest there

counted-read : (election : Election) (final : Final) (path : List ℕ) (found : List ℕ) → IsValid election → IsFinalAt election final
    → is_among final.contest found ≡ false
    → counted_at (contest_ids (map contest_of election.contests)) (own_selections (map contest_of election.contests)) path found
    (spec.counted_in election final) ≡ Ok (counted_in election final)
unfolding counted_at undervotes_word cvr_contest_selection
counted-read election final path found valid is new =
    bind-ok _ _ final.contest _
    (new-reference-member _ path (codes "ContestId") (contest_ids (map contest_of election.contests)) found (contest_name contest.id) final.contest refl
    (contest-id contest.id given.2.id) (contest-place election final.contest contest valid is.there) new)
    (bind-ok _ _ (overvotes contest final) _
    (votes-member _ path (codes "Overvotes") (overvotes contest final) refl (either-few (is_overvoted contest final) contest.seats 0 seats (omega arith)))
    (bind-ok _ _ (undervotes contest final) _
    (votes-member _ path (codes "Undervotes") (undervotes contest final) refl
    (either-few (is_overvoted contest final) 0 (contest.seats - length final.selected) (omega arith) (omega (arith, seats))))
    (bind-ok _ _ (map (spec.selected contest final) final.selected) _
    (list-member _ path (codes "CVRContestSelection") record_limit (map (spec.selected contest final) final.selected) refl few)
    (bind-ok _ _ (map (vote_of contest final) final.selected) _
    (ap (λ (selections : List (List ℕ)). rows_in selections (member_path path (codes "CVRContestSelection"))
    (map (spec.selected contest final) final.selected)) (selections-there election final is)
    ∙ row-list-read contest final (member_path path (codes "CVRContestSelection")) given
    (all-voted contest final final.selected (λ option below. voted-below contest final option is.names below) is.options.each)) refl))))
  where
    contest : Contest
    contest = contest_at election final

    given : IsGiven contest
    given = final-given election final valid is

    seats : contest.seats ≤ 50
    seats = given.2.seats.1

    few : length (map (spec.selected contest final) final.selected) ≤ record_limit
    few = omega (arith, length-mapped (spec.selected contest final) final.selected, is.options.few, given-options contest given, seats)

counted-places : (election : Election) (finals : List Final) → tally.counted_places (map (counted_in election) finals) ≡ map final_number finals
counted-places election finals = map-map (λ (one : RecordContest). one.contest) (counted_in election) finals

counted-list-read : (election : Election) (row : ExportSheet) (path : List ℕ) → IsValid election → IsRow election row
    → counted_list_in (contest_ids (map contest_of election.contests)) (own_selections (map contest_of election.contests)) path
    (map (spec.counted_in election) row.finals)
    ≡ Ok (map (counted_in election) row.finals)
unfolding counted_list_in
counted-list-read election row path valid is =
    walk (tally.counted_in (contest_ids (map contest_of election.contests)) (own_selections (map contest_of election.contests)) path)
    (spec.counted_in election) (counted_in election) row.finals
    (λ before final back e.
    let at = each-seam (IsFinalAt election) before final back (subst (λ (finals : List Final). AllByRecursion (IsFinalAt election) finals) e is.finals) in
    let new = among-none final_number 0 before final back (subst (λ (finals : List Final). ascends_from 0 (map final_number finals) ≡ true) e is.ascend) in
    counted-read election final (element_path path (length (map (counted_in election) before)))
    (tally.counted_places (map (counted_in election) before)) valid at
    (ap (is_among final.contest) (counted-places election before) ∙ new))

-- ---- sheets

snapshot-read : (election : Election) (row : ExportSheet) (path : List ℕ) → IsValid election → IsRow election row
    → snapshot_in (contest_ids (map contest_of election.contests)) (own_selections (map contest_of election.contests)) (spec.sheet election row) path
    ≡ Ok (map (counted_in election) row.finals)
unfolding snapshot_in cvr_snapshot cvr_contest
snapshot-read election row path valid is =
    bind-ok _ _ (spec.snapshot election row) _ (first-member _ path (codes "CVRSnapshot") (spec.snapshot election row) refl)
    (bind-ok _ _ (map (spec.counted_in election) row.finals) _
    (list-member _ (element_path (member_path path (codes "CVRSnapshot")) 0) (codes "CVRContest") record_limit (map (spec.counted_in election) row.finals) refl
    (omega (arith, length-mapped (spec.counted_in election) row.finals, is.few)))
    (counted-list-read election row (member_path (element_path (member_path path (codes "CVRSnapshot")) 0) (codes "CVRContest")) valid is))

-- the precinct of each card is there
abbrev pub PrecinctsAreThere : Type 0
PrecinctsAreThere = (election : Election) (card : ℕ) → IsValid election → card < length (cards_of election)
    → (card_at election card).precinct < length election.precincts

unit-there : (election : Election) (row : ExportSheet) → PrecinctsAreThere → IsValid election → IsRow election row
    → place_in (precinct_name (spec.precinct_at election row.card).id) (units_of election) ≡ Some (unit_of election row)
unit-there election row law valid is =
    let number = (card_at election row.card).precinct in
    unit-place election number (spec.precinct_at election row.card) valid
    (slice_get-get_or election.precincts number spec.no_precinct (law election row.card valid is.card))
    ∙ ap Some (same number)
  where
    same : (n : ℕ) → suc n ≡ n + 1
    same n = omega arith

record-read : (election : Election) (row : ExportSheet) (path : List ℕ) (uniques : List (List ℕ)) → PrecinctsAreThere → IsValid election → IsRow election row
    → place_in (sheet_name row.key) uniques ≡ None
    → record_at (units_of election) (contest_ids (map contest_of election.contests)) (own_selections (map contest_of election.contests)) path uniques
    (spec.sheet election row)
    ≡ Ok (record_of election row)
unfolding record_at ballot_style_unit_id
record-read election row path uniques law valid is none =
    bind-ok _ _ (sheet_name row.key) _ (id-member _ path (codes "UniqueId") uniques (sheet_name row.key) refl (sheet-id row.key is.key) none)
    (bind-ok _ _ (unit_of election row) _
    (reference-member _ path (codes "BallotStyleUnitId") (units_of election) (precinct_name (spec.precinct_at election row.card).id)
    (unit_of election row) refl
    (precinct-id (spec.precinct_at election row.card).id
    (valid.precincts.each (card_at election row.card).precinct spec.no_precinct (law election row.card valid is.card)).id)
    (unit-there election row law valid is))
    (bind-ok _ _ (map (counted_in election) row.finals) _ (snapshot-read election row path valid is) refl))

pub record-list-read : (election : Election) (rows : List ExportSheet) (path : List ℕ) → PrecinctsAreThere → IsValid election
    → AllByRecursion (IsRow election) rows
    → IsDistinct bytes_eq (map (λ (row : ExportSheet). sheet_name row.key) rows)
    → record_list_in (units_of election) (contest_ids (map contest_of election.contests)) (own_selections (map contest_of election.contests)) path
    (map (spec.sheet election) rows)
    ≡ Ok (map (record_of election) rows)
unfolding record_list_in
record-list-read election rows path law valid are distinct =
    walk (tally.record_in (units_of election) (contest_ids (map contest_of election.contests)) (own_selections (map contest_of election.contests)) path)
    (spec.sheet election) (record_of election) rows
    (λ before row back e.
    let is = each-seam (IsRow election) before row back (subst (λ (rows : List ExportSheet). AllByRecursion (IsRow election) rows) e are) in
    let new = new-place (sheet_name row.key) (map (λ (row : ExportSheet). sheet_name row.key) before)
    (new-name (λ (row : ExportSheet). sheet_name row.key) before row back
    (subst (λ (rows : List ExportSheet). IsDistinct bytes_eq (map (λ (row : ExportSheet). sheet_name row.key) rows)) e distinct)) in
    record-read election row (element_path path (length (map (record_of election) before))) (tally.unique_ids (map (record_of election) before)) law valid is
    (ap (place_in (sheet_name row.key)) (map-map (λ (one : CvrRecord). one.unique) (record_of election) before) ∙ new))

pub records-read : (election : Election) (rows : List ExportSheet) (moment id : List ℕ) → PrecinctsAreThere → IsValid election
    → AllByRecursion (IsRow election) rows
    → length rows ≤ 1000000 → IsDistinct bytes_eq (map (λ (row : ExportSheet). sheet_name row.key) rows)
    → records_in (units_of election) (map contest_of election.contests) (spec.report_over election rows moment id) ≡ Ok (map (record_of election) rows)
unfolding records_in
records-read election rows moment id law valid are few distinct =
    bind-ok _ _ (map (spec.sheet election) rows) _
    (list-member _ [] (codes "CVR") list_limit (map (spec.sheet election) rows) refl (omega (arith, length-mapped (spec.sheet election) rows, few)))
    (record-list-read election rows (codes "CVR") law valid are distinct)
