-- What a reading gives, where it has no fault: records that can be added.
use Rattle.std.proofs.Common.{◌≡◌, ℕ, suc, ◌+◌, ◌*◌, ◌≤◌, true, All, List, [], ◌∷◌, length, Result, Ok, Err, arith, length-append}
use Rattle.std.specs.Prelude.{ok_or, option_and_then, nat_le, sum_by, codes, IfOk}
use Rattle.std.proofs.lemmas.Bool.Decides.{nat_tests}
use Rattle.std.proofs.lemmas.List.Elements.{All-head, All-tail, All-nil, All-push, All-weaker}
use Rattle.serde_json.specs.Data.{Data}
use Rattle.serde_json.specs.Find.{as_u64, as_number}
use Rattle.vx_base.proofs.Numbers.{at_most-from_yes}
use Rattle.vx_base.proofs.Results.{Holds, given, weaker, then, after, where_true}
use Rattle.vx_json.specs.Paths.{member_path, element_path}
use Rattle.vx_json.specs.declared.fault.JsonFault.{JsonFault}
use Rattle.vx_json.specs.Reading.{need_in, list_in, is_within}
use Rattle.vx_tally.specs.declared.fault.ReportFault.{ReportFault}
use Rattle.vx_tally.specs.declared.report.RecordContest.{RecordContest}
use Rattle.vx_tally.specs.declared.report.ReportContest.{ReportContest}
use Rattle.vx_tally.specs.declared.report.Report.{Report}
use Rattle.vx_tally.specs.declared.report.VoteRow.{VoteRow}
use Rattle.vx_tally.specs.Names as names
use Rattle.vx_tally.specs.Faults.{of_json}
use Rattle.vx_tally.specs.Members.{list_limit, record_limit, vote_limit, reference_member, new_reference_member, id_member, votes_member, list_member, first_member, with_next, each_of}
use Rattle.vx_tally.specs.Contests.{contest_ids, own_selections, units_in, contests_in}
use Rattle.vx_tally.specs.Records.{votes_in, row_at, row_in, rows_in, selections_at, counted_at, counted_in, counted_list_in, snapshot_in, record_at, record_in, record_list_in, records_in}
use Rattle.vx_tally.specs.Reading.{report_behind, report_in}
use Rattle.vx_tally.specs.Totals.{IsSmall, IsCountable, AreCountable}
use Rattle.vx_tally.proofs.Summed.{sum-cons}

read : {A : Type 0} (P : A → Type 0) (r : Result A JsonFault) → IfOk r P → IfOk (of_json r) P
read P (Ok x) holds = holds
read P (Err fault) holds = tt

of_json_holds : {A : Type 0} {P : A → Type 0} {r : Result A JsonFault} → Holds P r → Holds P (of_json r)
of_json_holds {P = P} {r = r} holds = record { is = read P r holds.is }

within : (n : ℕ) → is_within 0 vote_limit n ≡ true → n ≤ vote_limit
within n e = grind (arith, nat_tests)

votes_member_holds : (value : Data) (path name : List ℕ) → Holds (λ (n : ℕ). n ≤ vote_limit) (votes_member value path name)
unfolding votes_member
votes_member_holds value path name =
    after (of_json (need_in value path name)) (λ member. of_json_holds
    (after (ok_or (option_and_then as_u64 (as_number member)) _) (λ n. where_true (is_within 0 vote_limit n) n _ (within n))))

list_member_holds : (value : Data) (path name : List ℕ) (limit : ℕ) → Holds (λ (list : List Data). length list ≤ limit) (list_member value path name limit)
unfolding list_member
list_member_holds value path name limit =
    after (of_json (need_in value path name)) (λ member. after (of_json (list_in member (member_path path name)))
    (λ list. where_true (nat_le (length list) limit) list _ (at_most-from_yes (length list) limit)))

-- what each element gives holds of all, and as many are given as are read
each_holds : {A : Type 0} (read : List A → Data → Result A ReportFault) (P : A → Type 0) → ((found : List A) (value : Data) → Holds P (read found value))
    → (values : List Data) (found : List A) → All P found
    → Holds (λ (list : List A). All P list × (length list ≡ length found + length values)) (each_of read found values)
each_holds read P step [] found holds = given (holds, omega arith)
each_holds {A} read P step (value ∷ values) found holds =
    let one : Holds (λ (more : List A). All P more × (length more ≡ suc (length found))) (with_next read found value) =
    then (step found value) (λ one is. given (All-push P found one holds is, omega (arith, length-append found (one ∷ [])))) in
    then one (λ more is. weaker (each_holds read P step values more is.0) (λ list all. (all.0, omega (arith, all.1, is.1))))

row_holds : (selections : List (List ℕ)) (path : List ℕ) (value : Data) → Holds (λ (row : VoteRow). row.votes ≤ vote_limit) (row_at selections path value)
unfolding row_at votes_in
row_holds selections path value =
    after (reference_member value path names.contest_selection_id selections) (λ selection.
    then (after (first_member value path names.selection_position)
    (λ position. votes_member_holds position (element_path (member_path path names.selection_position) 0) names.number_votes))
    (λ votes few. given few))

-- a contest of a record with few rows, each with few votes
abbrev IsModest : RecordContest → Type 0
IsModest counted = IsSmall counted × (length counted.votes ≤ record_limit)

counted_holds : (ids : List (List ℕ)) (selections : List (List (List ℕ))) (path : List ℕ) (found : List ℕ) (value : Data)
    → Holds IsModest (counted_at ids selections path found value)
unfolding counted_at rows_in
counted_holds ids selections path found value =
    after (new_reference_member value path (codes "ContestId") ids found) (λ contest.
    then (votes_member_holds value path (codes "Overvotes")) (λ over few_over.
    then (votes_member_holds value path names.undervotes) (λ under few_under.
    then (list_member_holds value path names.cvr_contest_selection record_limit) (λ list few.
    then (each_holds (row_in (selections_at selections contest) (member_path path names.cvr_contest_selection))
    (λ (row : VoteRow). row.votes ≤ vote_limit)
    (λ rows one. row_holds (selections_at selections contest)
    (element_path (member_path path names.cvr_contest_selection) (length rows)) one) list [] (All-nil
    (λ (row : VoteRow). row.votes ≤ vote_limit)))
    (λ votes all. given ((few_over, few_under, all.0), omega (arith, all.1, few)))))))

snapshot_holds : (ids : List (List ℕ)) (selections : List (List (List ℕ))) (value : Data) (path : List ℕ)
    → Holds (λ (all : List RecordContest). All IsModest all × (length all ≤ record_limit)) (snapshot_in ids selections value path)
unfolding snapshot_in counted_list_in
snapshot_holds ids selections value path =
    let at = element_path (member_path path names.cvr_snapshot) 0 in
    after (first_member value path names.cvr_snapshot) (λ snapshot.
    then (list_member_holds snapshot at names.cvr_contest record_limit) (λ list few.
    weaker (each_holds (counted_in ids selections (member_path at names.cvr_contest)) IsModest
    (λ found one. counted_holds ids selections (element_path (member_path at names.cvr_contest) (length found)) _ one) list [] (All-nil IsModest))
    (λ all is. (is.0, omega (arith, is.1, few)))))

sizes-most : (contests : List RecordContest) → All IsModest contests
    → sum_by (λ (counted : RecordContest). 1 + length counted.votes) contests ≤ 1001 * length contests
sizes-most [] modest = omega arith
sizes-most (counted ∷ contests) modest =
    omega (
      arith,
      sum-cons (λ (counted : RecordContest). 1 + length counted.votes) counted contests,
      (All-head IsModest counted contests modest).1,
      sizes-most contests (All-tail IsModest counted contests modest),
    )

record_holds : (units ids : List (List ℕ)) (selections : List (List (List ℕ))) (path : List ℕ) (uniques : List (List ℕ)) (value : Data)
    → Holds IsCountable (record_at units ids selections path uniques value)
unfolding record_at
record_holds units ids selections path uniques value =
    after (id_member value path (codes "UniqueId") uniques) (λ unique.
    after (reference_member value path names.ballot_style_unit_id units) (λ unit.
    then (snapshot_holds ids selections value path) (λ contests is. given (record {
      size = omega (arith, is.1, sizes-most contests is.0);
      small = All-weaker IsModest IsSmall (λ counted modest. modest.0) contests is.0;
    }))))

pub records_holds : (units : List (List ℕ)) (contests : List ReportContest) (value : Data) → Holds AreCountable (records_in units contests value)
unfolding records_in record_list_in
records_holds units contests value =
    then (list_member_holds value [] (codes "CVR") list_limit) (λ list few.
    weaker (each_holds (record_in units (contest_ids contests) (own_selections contests) (codes "CVR")) IsCountable
    (λ found one. record_holds units (contest_ids contests) (own_selections contests) (element_path (codes "CVR") (length found)) _ one) list []
    (All-nil IsCountable))
    (λ all is. record { few = omega (arith, is.1, few); each = is.0 }))

-- the records of a report can be added
pub report_holds : (value : Data) → Holds (λ (report : Report). AreCountable report.records) (report_in value)
unfolding report_in report_behind
report_holds value =
    after (units_in value) (λ units. after (contests_in value) (λ contests. then (records_holds units contests value) (λ records are. given are)))
