-- What a reading gives, where it has no fault.
use Rattle.std.proofs.Common.{◌≡◌, ℕ, suc, ◌+◌, ◌<◌, ◌≤◌, Bool, true, false, cond, List, [], ◌∷◌, ◌++◌, length, Option, Some, None, Result, Ok, Err, refl, arith, ◌⊎◌, inl, inr, length-append}
use Rattle.std.specs.Prelude.{ok_or, option_map, option_and_then, bytes_eq, chars, codes, is_some, nat_le, IfSome, IfOk}
use Rattle.std.proofs.lemmas.Bool.Decides.{nat_tests}
use Rattle.serde_json.specs.Data.{Data}
use Rattle.serde_json.specs.Find.{get, as_u64, as_number}
use Rattle.vx_base.proofs.Numbers.{at_most-from_yes}
use Rattle.vx_base.proofs.Results.{Holds, given, weaker, then, after, where_true, where_false, where_found}
use Rattle.vx_json.specs.Paths.{member_path}
use Rattle.vx_json.specs.declared.fault.JsonFault.{JsonFault}
use Rattle.vx_json.specs.Reading.{need_in, string_in, text_in, whole_in, list_in, is_within}
use Rattle.vx_election.specs.declared.fault.ElectionFault.{ElectionFault}
use Rattle.vx_election.specs.declared.fault.ElectionFault.TheVariants.{UnknownId}
use Rattle.vx_election.specs.Faults.{of_json}
use Rattle.vx_election_model.specs.Ids.{is_id}
use Rattle.vx_election.specs.Ids.{place_in, is_among, id_in, new_id_in, reference_in, new_reference_in}
use Rattle.vx_election.specs.Members.{optional, text_member, optional_text, whole_member, id_member, reference_member, optional_reference, list_up_to, list_member, optional_list, each_of}
use Rattle.vx_election_model.specs.Valid.{IsText}

-- of a value of JSON
read : {A : Type 0} (P : A → Type 0) (r : Result A JsonFault) → IfOk r P → IfOk (of_json r) P
read P (Ok x) holds = holds
read P (Err fault) holds = tt

of_json_holds : {A : Type 0} {P : A → Type 0} {r : Result A JsonFault} → Holds P r → Holds P (of_json r)
of_json_holds {P = P} {r = r} holds = record { is = read P r holds.is }

-- of an optional member, and of what stands for one that isn't there
pub optional_holds : {A : Type 0} {P : A → Type 0} (found : Option Data) (read : Data → Result A ElectionFault) (otherwise : A) → P otherwise → ((member : Data) → Holds P (read member)) → Holds P (optional found read otherwise)
optional_holds None read otherwise fits holds = given fits
optional_holds (Some member) read otherwise fits holds = holds member

within : (low high n : ℕ) → is_within low high n ≡ true → (low ≤ n) × (n ≤ high)
within low high n e = (grind (arith, nat_tests), grind (arith, nat_tests))

text_in_holds : (value : Data) (path : List ℕ) (low high : ℕ) → Holds (IsText low high) (text_in value path low high)
text_in_holds value path low high =
    after (string_in value path) (λ text. where_true (is_within low high (length (chars text))) text _ (within low high (length (chars text))))

pub text_member_holds : (value : Data) (path name : List ℕ) (low high : ℕ) → Holds (IsText low high) (text_member value path name low high)
unfolding text_member
text_member_holds value path name low high =
    after (of_json (need_in value path name)) (λ member. of_json_holds (text_in_holds member (member_path path name) low high))

pub optional_text_holds : (value : Data) (path name : List ℕ) (low high : ℕ) (otherwise : List ℕ) → IsText low high otherwise → Holds (IsText low high) (optional_text value path name low high otherwise)
unfolding optional_text
optional_text_holds value path name low high otherwise fits =
    optional_holds (get name value) _ otherwise fits (λ member. of_json_holds (text_in_holds member (member_path path name) low high))

-- a number in the range
abbrev pub IsWithin : ℕ → ℕ → ℕ → Type 0
IsWithin low high number = (low ≤ number) × (number ≤ high)

whole_in_holds : (value : Data) (path : List ℕ) (low high : ℕ) → Holds (IsWithin low high) (whole_in value path low high)
whole_in_holds value path low high =
    after (ok_or (option_and_then as_u64 (as_number value)) _) (λ number. where_true (is_within low high number) number _ (within low high number))

pub whole_member_holds : (value : Data) (path name : List ℕ) (low high : ℕ) → Holds (IsWithin low high) (whole_member value path name low high)
unfolding whole_member
whole_member_holds value path name low high =
    after (of_json (need_in value path name)) (λ member. of_json_holds (whole_in_holds member (member_path path name) low high))

id_in_holds : (value : Data) (path : List ℕ) → Holds (λ id. is_id id ≡ true) (id_in value path)
unfolding id_in
id_in_holds value path = after (of_json (string_in value path)) (λ text. where_true (is_id text) text _ (λ is. is))

none_from_test : {A : Type 0} (o : Option A) → is_some o ≡ false → o ≡ None
none_from_test None e = refl
none_from_test (Some x) e = absurd cc

-- an id that none of those has
abbrev pub IsNew : List (List ℕ) → List ℕ → Type 0
IsNew ids id = (is_id id ≡ true) × (place_in id ids ≡ None)

new_id_holds : (value : Data) (path : List ℕ) (ids : List (List ℕ)) → Holds (IsNew ids) (new_id_in value path ids)
unfolding new_id_in
new_id_holds value path ids =
    then (id_in_holds value path) (λ id is. where_false (is_some (place_in id ids)) id _ (λ e. (is, none_from_test (place_in id ids) e)))

pub id_member_holds : (value : Data) (path : List ℕ) (ids : List (List ℕ)) → Holds (IsNew ids) (id_member value path ids)
unfolding id_member
id_member_holds value path ids =
    after (of_json (need_in value path (codes "id"))) (λ member. new_id_holds member (member_path path (codes "id")) ids)

suc_some : (o : Option ℕ) (k : ℕ) → option_map (λ n. suc n) o ≡ Some k → (n : ℕ) × (o ≡ Some n) × (k ≡ suc n)
suc_some (Some n) k e = (n, refl, cc)
suc_some None k e = absurd cc

place_cases : (b : Bool) (o : Option ℕ) (k : ℕ) → cond b (Some 0) (option_map (λ n. suc n) o) ≡ Some k → (k ≡ 0) ⊎ ((n : ℕ) × (o ≡ Some n) × (k ≡ suc n))
place_cases true o k e = inl cc
place_cases false o k e = inr (suc_some o k e)

place_below : (id : List ℕ) (ids : List (List ℕ)) (k : ℕ) → place_in id ids ≡ Some k → k < length ids
place_below id [] k e = absurd cc
place_below id (first ∷ ids) k e =
    elim (place_cases (bytes_eq id first) (place_in id ids) k e) [
      | inl zeroth ↦ omega (arith, zeroth)
      | inr later ↦ omega (arith, later.2, place_below id ids later.0 later.1)
    ]

-- a place in a list of so many
abbrev pub IsPlace : ℕ → ℕ → Type 0
IsPlace count place = place < count

reference_in_holds : (value : Data) (path : List ℕ) (ids : List (List ℕ)) → Holds (IsPlace (length ids)) (reference_in value path ids)
unfolding reference_in
reference_in_holds value path ids = after (id_in value path) (λ id. where_found (place_in id ids) _ (place_below id ids))

pub reference_member_holds : (value : Data) (path name : List ℕ) (ids : List (List ℕ)) → Holds (IsPlace (length ids)) (reference_member value path name ids)
unfolding reference_member
reference_member_holds value path name ids =
    after (of_json (need_in value path name)) (λ member. reference_in_holds member (member_path path name) ids)

pub optional_reference_holds : (value : Data) (path name : List ℕ) (ids : List (List ℕ)) → Holds (λ found. IfSome found (IsPlace (length ids))) (optional_reference value path name ids)
unfolding optional_reference
optional_reference_holds value path name ids =
    optional_holds (get name value) _ None tt (λ member. then (reference_in_holds member (member_path path name) ids) (λ place below. given below))

pub new_reference_in_holds : (value : Data) (path : List ℕ) (ids : List (List ℕ)) (found : List ℕ) → Holds (λ place. IsPlace (length ids) place × (is_among place found ≡ false)) (new_reference_in value path ids found)
unfolding new_reference_in
new_reference_in_holds value path ids found =
    after (id_in value path) (λ id. then (where_found {P = IsPlace (length ids)} (place_in id ids) (UnknownId path id) (place_below id ids)) (λ place below. where_false (is_among place found) place _ (λ e. (below, e))))

-- a list of at most so many
abbrev pub AreFew : ℕ → List Data → Type 0
AreFew limit list = length list ≤ limit

list_up_to_holds : (value : Data) (path : List ℕ) (limit : ℕ) → Holds (AreFew limit) (list_up_to value path limit)
unfolding list_up_to
list_up_to_holds value path limit =
    after (of_json (list_in value path)) (λ list. where_true (nat_le (length list) limit) list _ (at_most-from_yes (length list) limit))

pub list_member_holds : (value : Data) (path name : List ℕ) (limit : ℕ) → Holds (AreFew limit) (list_member value path name limit)
unfolding list_member
list_member_holds value path name limit =
    after (of_json (need_in value path name)) (λ member. list_up_to_holds member (member_path path name) limit)

pub optional_list_holds : (value : Data) (path name : List ℕ) (limit : ℕ) → Holds (AreFew limit) (optional_list value path name limit)
unfolding optional_list
optional_list_holds value path name limit =
    optional_holds (get name value) _ [] (omega arith) (λ member. list_up_to_holds member (member_path path name) limit)

-- what holds of no elements, and of one more after each reading, holds of all; and as many are read as there are
pub each_holds : {A : Type 0} (read : List A → Data → Result A ElectionFault) (P : List A → Type 0) → ((found : List A) (value : Data) → P found → Holds (λ one. P (found ++ one ∷ [])) (read found value)) → (values : List Data) (found : List A) → P found → Holds (λ list. P list × (length list ≡ length found + length values)) (each_of read found values)
each_holds read P step [] found holds = given (holds, omega arith)
each_holds read P step (value ∷ values) found holds =
    then (step found value holds) (λ one more. weaker (each_holds read P step values (found ++ one ∷ []) more) (λ list all. (all.0, omega (arith, all.1, length-append found (one ∷ [])))))
