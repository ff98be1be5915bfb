-- What the units and the contests of a report are read as.
use Rattle.std.proofs.Common.{◌≡◌, ℕ, zero, suc, ◌+◌, ◌<◌, ◌≤◌, ◌^◌, Bool, true, false, cond, List, [], ◌∷◌, ◌++◌, length, map, refl, sym, ap, subst, ◌∙◌, arith}
use Rattle.std.specs.Prelude.{⊤, Some, None, Ok, codes, bytes_eq, slice_get, option_map}
use Rattle.std.specs.List.{AllByRecursion, IsDistinct, range_with_len}
use Rattle.std.proofs.lemmas.Option.{slice_get-map}
use Rattle.serde_json.specs.Data.{Data}
use Rattle.vx_base.proofs.Lists.{map-map}
use Rattle.vx_json.specs.Paths.{member_path, element_path}
use Rattle.vx_election_model.specs.declared.contest.Contest.{Contest}
use Rattle.vx_election_model.specs.declared.election.Election.{Election}
use Rattle.vx_election_model.specs.declared.named.Named.{Named}
use Rattle.vx_election_model.specs.Options.{options_of}
use Rattle.vx_election_model.specs.Valid.{IsNamed, IsContest, IsValid}
use Rattle.vx_center.specs.declared.rows.ExportSheet.{ExportSheet}
use Rattle.vx_cvr.specs.Names.{precinct_name, contest_name, selection_name}
use Rattle.vx_cvr.specs.Report as spec
use Rattle.vx_tally.specs.declared.report.ReportContest.{ReportContest}
use Rattle.vx_tally.specs.Names.{contest_selection}
use Rattle.vx_tally.specs.Ids.{place_in}
use Rattle.vx_tally.specs.Members.{list_limit, id_member}
use Rattle.vx_tally.specs.Contests.{contest_ids, selection_ids, own_id_in, own_ids_in, units_in, election_path, contest_at, contest_in, contest_list_in, contests_in}
use Rattle.vx_results.specs.Report.{units_of, selections_of, contest_of}
use Rattle.vx_report_read.proofs.Each.{length-mapped, each-all, each-weaker, each-append}
use Rattle.vx_report_read.proofs.Members.{bind-ok, id-member, list-member, first-member, walk}
use Rattle.vx_report_read.proofs.Names.{scope-id, precinct-id, contest-id, selection-id, precinct-same, contest-same, selection-same}
use Rattle.vx_report_read.proofs.Places.{IsNew, bytes-other, other-bytes, new-place, got-place, each-seam, each-front, new-name, told-apart}
use Rattle.vx_report_read.proofs.RowsOf.{few-choices}

length-range : (a n : ℕ) → length (range_with_len a n) ≡ n
length-range a zero = refl
length-range a (suc n) = ap (λ (m : ℕ). suc m) (length-range (a + 1) n)

-- ---- selections

-- numbers from one on and below another
range-from : (a n : ℕ) → AllByRecursion (λ (m : ℕ). (a ≤ m) × (m < a + n)) (range_with_len a n)
range-from a zero = tt
range-from a (suc n) = (
  (omega arith, omega arith),
  each-weaker (λ (m : ℕ). (a + 1 ≤ m) × (m < (a + 1) + n)) (λ (m : ℕ). (a ≤ m) × (m < a + suc n)) (range_with_len (a + 1) n)
      (λ m is. (omega (arith, is.0), omega (arith, is.1))) (range-from (a + 1) n),
)

selections-distinct : (id : List ℕ) (a n : ℕ) → a + n < 2 ^ 64 → IsDistinct bytes_eq (map (selection_name id) (range_with_len a n))
unfolding IsDistinct
selections-distinct id a zero small = tt
selections-distinct id a (suc n) small =
    (others (range_with_len (a + 1) n) (range-from (a + 1) n), selections-distinct id (a + 1) n (omega (arith, small)))
  where
    others : (numbers : List ℕ) → AllByRecursion (λ (m : ℕ). (a + 1 ≤ m) × (m < (a + 1) + n)) numbers
        → AllByRecursion (λ (name : List ℕ). bytes_eq (selection_name id a) name ≡ false) (map (selection_name id) numbers)
    others [] all = tt
    others (m ∷ numbers) all = (
      bytes-other (selection_name id a) (selection_name id m)
          (λ same. omega (arith, (selection-same id id a m (omega (arith, small)) (omega (arith, all.0.1, small)) same).1, all.0.0)),
      others numbers all.1,
    )

range-got : (a n k : ℕ) → k < n → slice_get (range_with_len a n) k ≡ Some (a + k)
range-got a zero k below = absurd (omega (arith, below))
range-got a (suc n) zero below = ap Some (same a)
  where
    same : (a : ℕ) → a ≡ a + 0
    same a = omega arith
range-got a (suc n) (suc k) below = range-got (a + 1) n k (omega (arith, below)) ∙ ap Some (same a k)
  where
    same : (a k : ℕ) → (a + 1) + k ≡ a + suc k
    same a k = omega arith

-- a valid contest
abbrev pub IsGiven : Contest → Type 0
IsGiven contest = (parties : ℕ) × (districts : ℕ) × IsContest parties districts contest

pub given-options : (contest : Contest) → IsGiven contest → options_of contest ≤ 150
given-options contest given = omega (arith, few-choices contest.is_yes_no contest given.2.choices, seats contest.write_ins given.2.seats.1)
  where
    seats : (b : Bool) → contest.seats ≤ 50 → cond b contest.seats 0 ≤ 50
    seats true few = few
    seats false few = omega arith

-- the selection at its own place
pub selection-place : (contest : Contest) (option : ℕ) → IsGiven contest → option < options_of contest
    → place_in (selection_name contest.id option) (selections_of contest) ≡ Some option
selection-place contest option given below =
    got-place (selections_of contest) option (selection_name contest.id option)
    (selections-distinct contest.id 0 (options_of contest) (omega (arith, given-options contest given)))
    (slice_get-map (selection_name contest.id) (range_with_len 0 (options_of contest)) option
    ∙ ap (option_map (selection_name contest.id)) (range-got 0 (options_of contest) option below ∙ ap Some (same option)))
  where
    same : (n : ℕ) → 0 + n ≡ n
    same n = omega arith

-- selections of other contests have other names
others-new : (contest : Contest) (option : ℕ) (before : List Contest) → IsGiven contest → AllByRecursion IsGiven before → option < 2 ^ 64
    → IsNew contest.id (map (λ (one : Contest). one.id) before) → IsNew (selection_name contest.id option) (selection_ids (map contest_of before))
others-new contest option [] given all small new = tt
others-new contest option (other ∷ before) given all small new =
    each-append (λ (name : List ℕ). bytes_eq (selection_name contest.id option) name ≡ false) (selections_of other) (selection_ids (map contest_of before))
    (own (range_with_len 0 (options_of other)) (range-from 0 (options_of other)))
    (others-new contest option before given all.1 small new.1)
  where
    own : (numbers : List ℕ) → AllByRecursion (λ (m : ℕ). (0 ≤ m) × (m < 0 + options_of other)) numbers
        → AllByRecursion (λ (name : List ℕ). bytes_eq (selection_name contest.id option) name ≡ false) (map (selection_name other.id) numbers)
    own [] are = tt
    own (m ∷ numbers) are = (
      bytes-other (selection_name contest.id option) (selection_name other.id m)
          (λ same. other-bytes contest.id other.id new.0
          (selection-same contest.id other.id option m small (omega (arith, are.0.1, given-options other all.0)) same).0),
      own numbers are.1,
    )

-- the selections of a contest, behind those of the contests before it
own-selections : (make : ℕ → Data) (contest : Contest) (before : List Contest) (path : List ℕ) → IsGiven contest → AllByRecursion IsGiven before
    → IsNew contest.id (map (λ (one : Contest). one.id) before)
    → ((option : ℕ) (where_it_is : List ℕ) (ids : List (List ℕ)) → option < options_of contest → place_in (selection_name contest.id option) ids ≡ None
    → id_member (make option) where_it_is (codes "@id") ids ≡ Ok (selection_name contest.id option))
    → own_ids_in path (selection_ids (map contest_of before)) (map make (range_with_len 0 (options_of contest))) ≡ Ok (selections_of contest)
unfolding own_ids_in
own-selections make contest before path given all new reads =
    walk (own_id_in path (selection_ids (map contest_of before))) make (selection_name contest.id) (range_with_len 0 (options_of contest))
    (λ front option back e. one front option back e)
  where
    small : options_of contest ≤ 150
    small = given-options contest given

    one : (front : List ℕ) (option : ℕ) (back : List ℕ) → range_with_len 0 (options_of contest) ≡ front ++ option ∷ back
        → own_id_in path (selection_ids (map contest_of before)) (map (selection_name contest.id) front) (make option) ≡ Ok (selection_name contest.id option)
    one front option back e =
        let inside : (0 ≤ option) × (option < 0 + options_of contest) =
        each-seam (λ (m : ℕ). (0 ≤ m) × (m < 0 + options_of contest)) front option back
        (subst (λ (numbers : List ℕ). AllByRecursion (λ (m : ℕ). (0 ≤ m) × (m < 0 + options_of contest)) numbers) e (range-from 0 (options_of contest))) in
        let below : option < options_of contest = omega (arith, inside.1) in
        let distinct = subst (λ (numbers : List ℕ). IsDistinct bytes_eq (map (selection_name contest.id) numbers)) e
        (selections-distinct contest.id 0 (options_of contest) (omega (arith, small))) in
        let ids = selection_ids (map contest_of before) ++ map (selection_name contest.id) front in
        reads option (element_path path (length (map (selection_name contest.id) front))) ids below
        (new-place (selection_name contest.id option) ids
        (each-append (λ (name : List ℕ). bytes_eq (selection_name contest.id option) name ≡ false) (selection_ids (map contest_of before))
        (map (selection_name contest.id) front)
        (others-new contest option before given all (omega (arith, below, small)) new)
        (new-name (selection_name contest.id) front option back distinct)))

candidate-read : (contest : Contest) (option : ℕ) (path : List ℕ) (ids : List (List ℕ)) → IsGiven contest → option < options_of contest
    → place_in (selection_name contest.id option) ids ≡ None
    → id_member (spec.candidate_selection contest option) path (codes "@id") ids ≡ Ok (selection_name contest.id option)
candidate-read contest option path ids given below none =
    id-member _ path (codes "@id") ids (selection_name contest.id option) refl
    (selection-id contest.id option given.2.id (omega (arith, below, given-options contest given))) none

answer-read : (contest : Contest) (option : ℕ) (path : List ℕ) (ids : List (List ℕ)) → IsGiven contest → option < options_of contest
    → place_in (selection_name contest.id option) ids ≡ None
    → id_member (spec.answer contest option) path (codes "@id") ids ≡ Ok (selection_name contest.id option)
answer-read contest option path ids given below none =
    id-member _ path (codes "@id") ids (selection_name contest.id option) refl
    (selection-id contest.id option given.2.id (omega (arith, below, given-options contest given))) none

-- ---- contests

contest-new : (contest : Contest) (before : List Contest) → IsNew contest.id (map (λ (one : Contest). one.id) before)
    → IsNew (contest_name contest.id) (contest_ids (map contest_of before))
contest-new contest [] new = tt
contest-new contest (other ∷ before) new = (
  bytes-other (contest_name contest.id) (contest_name other.id) (λ same. other-bytes contest.id other.id new.0 (contest-same contest.id other.id same)),
  contest-new contest before new.1,
)

contest-read : (contest : Contest) (before : List Contest) (path : List ℕ) → IsGiven contest → AllByRecursion IsGiven before
    → IsNew contest.id (map (λ (one : Contest). one.id) before) → contest_in path (map contest_of before) (spec.contest contest) ≡ Ok (contest_of contest)
unfolding contest_at contest_selection
contest-read contest before path given all new = by contest.is_yes_no
  where
    at : List ℕ
    at = element_path path (length (map contest_of before))

    own : List ℕ
    own = member_path at (codes "ContestSelection")

    none : place_in (contest_name contest.id) (contest_ids (map contest_of before)) ≡ None
    none = new-place (contest_name contest.id) (contest_ids (map contest_of before)) (contest-new contest before new)

    few : (make : ℕ → Data) → length (map make (range_with_len 0 (options_of contest))) ≤ list_limit
    few make = omega (arith, length-mapped make (range_with_len 0 (options_of contest)), length-range 0 (options_of contest), given-options contest given)

    by : (b : Bool) → contest_at at (contest_ids (map contest_of before)) (selection_ids (map contest_of before))
        (cond b (spec.measure contest) (spec.candidate_contest contest)) ≡ Ok (contest_of contest)
    by true =
        bind-ok _ _ (contest_name contest.id) _
        (id-member _ at (codes "@id") (contest_ids (map contest_of before)) (contest_name contest.id) refl (contest-id contest.id given.2.id) none)
        (bind-ok _ _ (map (spec.answer contest) (range_with_len 0 (options_of contest))) _
        (list-member _ at (codes "ContestSelection") list_limit (map (spec.answer contest) (range_with_len 0 (options_of contest))) refl
        (few (spec.answer contest)))
        (bind-ok _ _ (selections_of contest) _
        (own-selections (spec.answer contest) contest before own given all new
        (λ option path ids below none. answer-read contest option path ids given below none)) refl))
    by false =
        bind-ok _ _ (contest_name contest.id) _
        (id-member _ at (codes "@id") (contest_ids (map contest_of before)) (contest_name contest.id) refl (contest-id contest.id given.2.id) none)
        (bind-ok _ _ (map (spec.candidate_selection contest) (range_with_len 0 (options_of contest))) _
        (list-member _ at (codes "ContestSelection") list_limit (map (spec.candidate_selection contest) (range_with_len 0 (options_of contest))) refl
        (few (spec.candidate_selection contest)))
        (bind-ok _ _ (selections_of contest) _
        (own-selections (spec.candidate_selection contest) contest before own given all new
        (λ option path ids below none. candidate-read contest option path ids given below none)) refl))

pub contests-given : (election : Election) → IsValid election → AllByRecursion IsGiven election.contests
contests-given election valid =
    each-weaker (IsContest (length election.parties) (length election.districts)) IsGiven election.contests
    (λ contest is. (length election.parties, length election.districts, is))
    (each-all (IsContest (length election.parties) (length election.districts)) election.contests valid.contests.each)

contest-list-read : (election : Election) (path : List ℕ) → IsValid election
    → contest_list_in path (map spec.contest election.contests) ≡ Ok (map contest_of election.contests)
unfolding contest_list_in
contest-list-read election path valid =
    walk (contest_in path) spec.contest contest_of election.contests
    (λ before contest back e.
    let all = subst (λ (contests : List Contest). AllByRecursion IsGiven contests) e (contests-given election valid) in
    let distinct = subst (λ (contests : List Contest). IsDistinct bytes_eq (map (λ (one : Contest). one.id) contests)) e valid.contests.distinct in
    contest-read contest before path (each-seam IsGiven before contest back all) (each-front IsGiven before (contest ∷ back) all)
    (new-name (λ (one : Contest). one.id) before contest back distinct))

pub contests-read : (election : Election) (rows : List ExportSheet) (moment id : List ℕ) → IsValid election
    → contests_in (spec.report_over election rows moment id) ≡ Ok (map contest_of election.contests)
unfolding contests_in
contests-read election rows moment id valid =
    bind-ok _ _ (spec.election_object election) _ (first-member _ [] (codes "Election") (spec.election_object election) refl)
    (bind-ok _ _ (map spec.contest election.contests) _
    (list-member _ election_path (codes "Contest") list_limit (map spec.contest election.contests) refl
    (omega (arith, length-mapped spec.contest election.contests, valid.contests.few)))
    (contest-list-read election (member_path election_path (codes "Contest")) valid))

-- the contest at its own place
pub contest-place : (election : Election) (number : ℕ) (contest : Contest) → IsValid election → slice_get election.contests number ≡ Some contest
    → place_in (contest_name contest.id) (contest_ids (map contest_of election.contests)) ≡ Some number
contest-place election number contest valid there =
    ap (place_in (contest_name contest.id)) (map-map (λ (one : ReportContest). one.id) contest_of election.contests)
    ∙ got-place (map (λ (one : Contest). contest_name one.id) election.contests) number (contest_name contest.id)
    (told-apart (λ (one : Contest). one.id) (λ (one : Contest). contest_name one.id)
    (λ one other same. contest-same one.id other.id same) election.contests valid.contests.distinct)
    (slice_get-map (λ (one : Contest). contest_name one.id) election.contests number ∙ ap (option_map (λ (one : Contest). contest_name one.id)) there)

-- ---- units

precincts-distinct : (election : Election) → IsValid election → IsDistinct bytes_eq (map (λ (one : Named). precinct_name one.id) election.precincts)
precincts-distinct election valid =
    told-apart (λ (one : Named). one.id) (λ (one : Named). precinct_name one.id)
    (λ one other same. precinct-same one.id other.id same) election.precincts valid.precincts.distinct

scope-new : (precincts : List Named) → IsNew (codes "scope") (map (λ (one : Named). precinct_name one.id) precincts)
scope-new [] = tt
scope-new (one ∷ precincts) = (refl, scope-new precincts)

units-distinct : (election : Election) → IsValid election → IsDistinct bytes_eq (units_of election)
unfolding IsDistinct
units-distinct election valid = (scope-new election.precincts, precincts-distinct election valid)

pub unit-place : (election : Election) (number : ℕ) (named : Named) → IsValid election → slice_get election.precincts number ≡ Some named
    → place_in (precinct_name named.id) (units_of election) ≡ Some (suc number)
unit-place election number named valid there =
    got-place (units_of election) (suc number) (precinct_name named.id) (units-distinct election valid)
    (slice_get-map (λ (one : Named). precinct_name one.id) election.precincts number ∙ ap (option_map (λ (one : Named). precinct_name one.id)) there)

-- a unit, by its name: none is all of the election
data Unit_of : Type 0 where
  scope : Unit_of
  named_unit : Named → Unit_of

abbrev unit_name : Unit_of → List ℕ
unit_name scope = codes "scope"
unit_name (named_unit named) = precinct_name named.id

abbrev unit_object : Election → Unit_of → Data
unit_object election scope = spec.place (codes "scope") election.title (codes "other")
unit_object election (named_unit named) = spec.precinct named

abbrev IsUnit : Unit_of → Type 0
IsUnit scope = ⊤
IsUnit (named_unit named) = IsNamed named

unit-read : (election : Election) (unit : Unit_of) (path : List ℕ) (ids : List (List ℕ)) → IsUnit unit → place_in (unit_name unit) ids ≡ None
    → id_member (unit_object election unit) path (codes "@id") ids ≡ Ok (unit_name unit)
unit-read election scope path ids is none = id-member _ path (codes "@id") ids (codes "scope") refl scope-id none
unit-read election (named_unit named) path ids is none = id-member _ path (codes "@id") ids (precinct_name named.id) refl (precinct-id named.id is.id) none

named-units : (named : List Named) → AllByRecursion IsNamed named → AllByRecursion IsUnit (map named_unit named)
named-units [] all = tt
named-units (one ∷ named) all = (all.0, named-units named all.1)

unit-list-read : (election : Election) (units : List Unit_of) (path : List ℕ) → AllByRecursion IsUnit units → IsDistinct bytes_eq (map unit_name units)
    → own_ids_in path [] (map (unit_object election) units) ≡ Ok (map unit_name units)
unfolding own_ids_in
unit-list-read election units path all distinct =
    walk (own_id_in path []) (unit_object election) unit_name units
    (λ before unit back e.
    let is = each-seam IsUnit before unit back (subst (λ (units : List Unit_of). AllByRecursion IsUnit units) e all) in
    let apart = subst (λ (units : List Unit_of). IsDistinct bytes_eq (map unit_name units)) e distinct in
    unit-read election unit (element_path path (length (map unit_name before))) (map unit_name before) is
    (new-place (unit_name unit) (map unit_name before) (new-name unit_name before unit back apart)))

pub units-read : (election : Election) (rows : List ExportSheet) (moment id : List ℕ) → IsValid election
    → units_in (spec.report_over election rows moment id) ≡ Ok (units_of election)
unfolding units_in
units-read election rows moment id valid =
    bind-ok _ _ (spec.places election) _
    (list-member _ [] (codes "GpUnit") list_limit (spec.places election) refl
    (omega (arith, length-mapped spec.precinct election.precincts, valid.precincts.few)))
    (ap (own_ids_in (codes "GpUnit") []) (sym objects) ∙ unit-list-read election (scope ∷ map named_unit election.precincts) (codes "GpUnit")
    (tt, named-units election.precincts (each-all IsNamed election.precincts valid.precincts.each))
    (subst (IsDistinct bytes_eq) (sym names) (units-distinct election valid)) ∙ ap Ok names)
  where
    objects : map (unit_object election) (scope ∷ map named_unit election.precincts) ≡ spec.places election
    objects = ap (λ (ds : List Data). spec.place (codes "scope") election.title (codes "other") ∷ ds)
        (map-map (unit_object election) named_unit election.precincts)

    names : map unit_name (scope ∷ map named_unit election.precincts) ≡ units_of election
    names = ap (λ (ids : List (List ℕ)). codes "scope" ∷ ids) (map-map unit_name named_unit election.precincts)
