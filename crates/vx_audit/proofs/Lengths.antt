-- How long the lists are of a report that was read: no longer than its reader admits.
use Rattle.std.proofs.Common.{◌≡◌, ℕ, suc, ◌+◌, ◌≤◌, All, List, [], ◌∷◌, length, Result, Ok, Err, arith, length-append}
use Rattle.std.specs.Prelude.{nat_le, codes}
use Rattle.std.proofs.lemmas.List.Elements.{All-nil, All-push}
use Rattle.serde_json.specs.Data.{Data}
use Rattle.vx_base.proofs.Numbers.{at_most-from_yes}
use Rattle.vx_base.proofs.Results.{Holds, given, weaker, then, after, where_true}
use Rattle.vx_json.specs.Paths.{member_path, element_path}
use Rattle.vx_json.specs.Reading.{need_in, list_in}
use Rattle.vx_tally.specs.declared.fault.ReportFault.{ReportFault}
use Rattle.vx_tally.specs.declared.report.ReportContest.{ReportContest}
use Rattle.vx_tally.specs.declared.report.Report.{Report}
use Rattle.vx_tally.specs.Names as names
use Rattle.vx_tally.specs.Faults.{of_json}
use Rattle.vx_tally.specs.Members.{list_limit, id_member, list_member, first_member, with_next, each_of}
use Rattle.vx_tally.specs.Contests.{contest_ids, selection_ids, own_id_in, own_ids_in, contest_at, contest_in, contest_list_in, election_path, units_in, contests_in}
use Rattle.vx_tally.specs.Records.{records_in}
use Rattle.vx_tally.specs.Reading.{report_behind, report_in, report_in_bytes, value_in}
use Rattle.vx_audit.specs.Sized.{HasFew}

few_elements : (value : Data) (path name : List ℕ) (limit : ℕ) → Holds (λ (list : List Data). length list ≤ limit) (list_member value path name limit)
unfolding list_member
few_elements value path name limit =
    after (of_json (need_in value path name)) (λ member. after (of_json (list_in member (member_path path name)))
    (λ list. where_true (nat_le (length list) limit) list _ (at_most-from_yes (length list) limit)))

-- what each element gives holds of all, and as many are given as are read
each_holds : {A : Type 0} (read : List A → Data → Result A ReportFault) (P : A → Type 0) → ((found : List A) (value : Data) → Holds P (read found value))
    → (values : List Data) (found : List A) → All P found
    → Holds (λ (list : List A). All P list × (length list ≡ length found + length values)) (each_of read found values)
each_holds read P step [] found holds = given (holds, omega arith)
each_holds {A} read P step (value ∷ values) found holds =
    let one : Holds (λ (more : List A). All P more × (length more ≡ suc (length found))) (with_next read found value) =
    then (step found value) (λ one is. given (All-push P found one holds is, omega (arith, length-append found (one ∷ [])))) in
    then one (λ more is. weaker (each_holds read P step values more is.0) (λ list all. (all.0, omega (arith, all.1, is.1))))

nothing : {A : Type 0} (r : Result A ReportFault) → Holds (λ (x : A). Unit {0}) r
nothing (Ok x) = given tt
nothing (Err fault) = record { is = tt }

few_ids : (path : List ℕ) (before : List (List ℕ)) (list : List Data) → Holds (λ (ids : List (List ℕ)). length ids ≡ length list) (own_ids_in path before list)
unfolding own_ids_in
few_ids path before list =
    weaker (each_holds (own_id_in path before) (λ (id : List ℕ). Unit {0}) (λ found value. nothing (own_id_in path before found value)) list []
    (All-nil (λ (id : List ℕ). Unit {0})))
    (λ ids is. omega (arith, is.1))

few_units : (value : Data) → Holds (λ (units : List (List ℕ)). length units ≤ list_limit) (units_in value)
unfolding units_in
few_units value =
    then (few_elements value [] (codes "GpUnit") list_limit) (λ list few.
    weaker (few_ids (codes "GpUnit") [] list) (λ ids is. omega (arith, few, is)))

few_selections : (path : List ℕ) (ids before : List (List ℕ)) (value : Data) → Holds HasFew (contest_at path ids before value)
unfolding contest_at
few_selections path ids before value =
    after (id_member value path (codes "@id") ids) (λ id.
    then (few_elements value path names.contest_selection list_limit) (λ list few.
    then (few_ids (member_path path names.contest_selection) before list) (λ selections is. given (omega (arith, few, is)))))

few_contests : (value : Data) → Holds (λ (contests : List ReportContest). All HasFew contests × (length contests ≤ list_limit)) (contests_in value)
unfolding contests_in contest_list_in
few_contests value =
    after (first_member value [] (codes "Election")) (λ election.
    then (few_elements election election_path (codes "Contest") list_limit) (λ list few.
    weaker (each_holds (contest_in (member_path election_path (codes "Contest"))) HasFew
    (λ found one. few_selections (element_path (member_path election_path (codes "Contest")) (length found)) (contest_ids found) (selection_ids found) one)
    list [] (All-nil HasFew))
    (λ all is. (is.0, omega (arith, is.1, few)))))

-- the lists of a report but its records
pub record HasShortLists (report : Report) : Type 0 where
  pub units : length report.units ≤ list_limit
  pub contests : length report.contests ≤ list_limit
  pub selections : All HasFew report.contests

pub report_short : (bytes : List ℕ) → Holds HasShortLists (report_in_bytes bytes)
unfolding report_in_bytes report_in report_behind
report_short bytes =
    after (value_in bytes) (λ value.
    then (few_units value) (λ units few.
    then (few_contests value) (λ contests is.
    after (records_in units contests value) (λ records.
    given (record { units = few; contests = is.1; selections = is.0 })))))
