-- The texts of an election that a definition gives are UTF-8.
use Rattle.std.proofs.Common.{◌≡◌, ℕ, suc, zero, Bool, true, false, cond, List, [], ◌∷◌, ◌++◌, length, refl, subst, arith, IsUtf8}
use Rattle.std.specs.Prelude.{Option, Some, None, Result, Ok, Err, IfSome, IfOk, ok_or, is_some, option_map, chars, codes, nat_le}
use Rattle.std.specs.List.{All, AllByRecursion}
use Rattle.std.specs.Str.{is_utf8}
use Rattle.std.specs.Cmp.Lexicographic.{slice_cmp}
use Rattle.std.specs.Ordering.{nat_cmp, match_ordering}
use Rattle.std.specs.declared.cmp.Ordering.{Ordering}
use Rattle.std.specs.declared.cmp.Ordering.TheVariants.{Less, Equal, Greater}
use Rattle.std.proofs.lemmas.Str.{IsUtf8-append, IsUtf8-from_is_utf8, IsUtf8-nil}
use Rattle.json.proofs.Printed.Utf8.{IsUtf8-are_ascii}
use Rattle.sha2.specs.Sha256.{sha256}
use Rattle.serde_json.specs.Data.{Data, null, boolean, number, string, array, object, Items, no_items, item, Members, no_members, member}
use Rattle.serde_json.specs.Find.{get, get_member, as_array, as_object, as_str}
use Rattle.serde_json.specs.Read.{read}
use Rattle.vx_base.proofs.Results.{Holds, bind_ok, given, then, after, where_true}
use Rattle.vx_json_trip.specs.Strings.{IsUtf8Value, AreUtf8Items, AreUtf8Members, StringsAreUtf8}
use Rattle.vx_json.specs.declared.fault.JsonFault.{JsonFault}
use Rattle.vx_json.specs.declared.fault.JsonFault.TheVariants as fault
use Rattle.vx_json.specs.Paths.{member_path, element_path}
use Rattle.vx_json.specs.Reading.{elements, is_within, list_in, need_in, text_in}
use Rattle.vx_election_model.specs.declared.choice.Choice.{Choice}
use Rattle.vx_election_model.specs.declared.contest.Contest.{Contest}
use Rattle.vx_election_model.specs.declared.election.Election.{Election}
use Rattle.vx_election_model.specs.declared.named.Named.{Named}
use Rattle.vx_election_model.specs.Labels.{label_limit}
use Rattle.vx_election_model.specs.Lists.{choice_ids, contest_ids, named_ids}
use Rattle.vx_election.specs.declared.fault.ElectionFault.{ElectionFault}
use Rattle.vx_election.specs.declared.fault.ElectionFault.TheVariants.{NotJson, WrongKind}
use Rattle.vx_election.specs.Contests.{affiliations_in, answer_in, answer_label_in, answers_in, candidate_at, candidate_in, candidate_list_in, candidates_in, contest_at, contest_in, contests_in, heading_in, kind_in, label_in, label_of, leave_in, name_at, question_in, voting_in, with_parties}
use Rattle.vx_election.specs.Faults.{of_json}
use Rattle.vx_election.specs.Members.{each_of, id_member, list_member, list_up_to, optional, optional_list, optional_text, reference_member, text_member, whole_member}
use Rattle.vx_election.specs.Names as names
use Rattle.vx_election.specs.Parts.{named_at, named_in, named_list_in}
use Rattle.vx_election.specs.Reading.{contests_member, date_member, directories_in, election_in, election_of, named_member, opening_in, parties_in, rules_in, styles_member, value_of}
use Rattle.vx_command.specs.Acts.{input_limit, input_of}
use Rattle.vx_command.specs.Elections.{election_read}
use Rattle.vx_command.specs.Elections as command
use Rattle.vx_report_read.specs.Texts.{IsUtf8Choice, IsUtf8Contest, IsUtf8Election}

-- ---- values

str-utf8 : (value : Data) → IsUtf8Value value → IfSome (as_str value) IsUtf8
str-utf8 null is = tt
str-utf8 (boolean b) is = tt
str-utf8 (number n) is = tt
str-utf8 (string s) is = is
str-utf8 (array ds) is = tt
str-utf8 (object ms) is = tt

member-utf8 : (name : List ℕ) (ms : Members) → AreUtf8Members ms → IfSome (get_member name ms) IsUtf8Value
member-utf8 name no_members are = tt
member-utf8 name (member k d ms) are = by (slice_cmp nat_cmp name k) (member-utf8 name ms are.2)
  where
    by : (o : Ordering) → IfSome (get_member name ms) IsUtf8Value → IfSome (match_ordering o (get_member name ms) (Some d) (get_member name ms)) IsUtf8Value
    by Less rest = rest
    by Equal rest = are.1
    by Greater rest = rest

get-utf8 : (name : List ℕ) (value : Data) → IsUtf8Value value → IfSome (get name value) IsUtf8Value
get-utf8 name null is = tt
get-utf8 name (boolean b) is = tt
get-utf8 name (number n) is = tt
get-utf8 name (string s) is = tt
get-utf8 name (array ds) is = tt
get-utf8 name (object ms) is = member-utf8 name ms is

elements-utf8 : (ds : Items) → AreUtf8Items ds → AllByRecursion IsUtf8Value (elements ds)
elements-utf8 no_items are = tt
elements-utf8 (item d ds) are = (are.0, elements-utf8 ds are.1)

array-utf8 : (value : Data) → IsUtf8Value value → IfSome (option_map elements (as_array value)) (λ list. AllByRecursion IsUtf8Value list)
array-utf8 null is = tt
array-utf8 (boolean b) is = tt
array-utf8 (number n) is = tt
array-utf8 (string s) is = tt
array-utf8 (array ds) is = elements-utf8 ds is
array-utf8 (object ms) is = tt

-- ---- readings

ok_or-holds : {A F : Type 0} {P : A → Type 0} (o : Option A) (refused : F) → IfSome o P → Holds P (ok_or o refused)
ok_or-holds (Some x) refused is = record { is = is }
ok_or-holds None refused is = record { is = tt }

of_json-holds : {A : Type 0} {P : A → Type 0} (r : Result A JsonFault) → Holds P r → Holds P (of_json r)
of_json-holds (Ok x) holds = record { is = holds.is }
of_json-holds (Err refused) holds = record { is = tt }

optional-holds : {A : Type 0} {P : A → Type 0} (found : Option Data) (reading : Data → Result A ElectionFault) (otherwise : A) → P otherwise
    → ((one : Data) → IsUtf8Value one → Holds P (reading one)) → IfSome found IsUtf8Value → Holds P (optional found reading otherwise)
optional-holds None reading otherwise fits holds is = given fits
optional-holds (Some one) reading otherwise fits holds is = holds one is

need-holds : (value : Data) (path name : List ℕ) → IsUtf8Value value → Holds IsUtf8Value (need_in value path name)
need-holds value path name is = by (is_some (as_object value))
  where
    by : (b : Bool) → Holds IsUtf8Value (cond b (ok_or (get name value) (fault.Missing (member_path path name))) (Err (fault.WrongKind path)))
    by true = ok_or-holds (get name value) _ (get-utf8 name value is)
    by false = record { is = tt }

text-holds : (value : Data) (path : List ℕ) (low high : ℕ) → IsUtf8Value value → Holds IsUtf8 (text_in value path low high)
text-holds value path low high is =
    then (ok_or-holds {P = IsUtf8} (as_str value) _ (str-utf8 value is)) (λ text utf8. where_true (is_within low high (length (chars text))) text _ (λ within. utf8))

text_member-holds : (value : Data) (path name : List ℕ) (low high : ℕ) → IsUtf8Value value → Holds IsUtf8 (text_member value path name low high)
unfolding text_member
text_member-holds value path name low high is =
    then (of_json-holds (need_in value path name) (need-holds value path name is))
    (λ one utf8. of_json-holds (text_in one (member_path path name) low high) (text-holds one (member_path path name) low high utf8))

optional_text-holds : (value : Data) (path name : List ℕ) (low high : ℕ) (otherwise : List ℕ) → IsUtf8 otherwise → IsUtf8Value value
    → Holds IsUtf8 (optional_text value path name low high otherwise)
unfolding optional_text
optional_text-holds value path name low high otherwise fits is =
    optional-holds (get name value) _ otherwise fits
    (λ one utf8. of_json-holds (text_in one (member_path path name) low high) (text-holds one (member_path path name) low high utf8)) (get-utf8 name value is)

abbrev AreUtf8 : List Data → Type 0
AreUtf8 list = AllByRecursion IsUtf8Value list

list-holds : (value : Data) (path : List ℕ) (limit : ℕ) → IsUtf8Value value → Holds AreUtf8 (list_up_to value path limit)
unfolding list_up_to
list-holds value path limit is =
    then (of_json-holds (list_in value path) (ok_or-holds {P = AreUtf8} (option_map elements (as_array value)) _ (array-utf8 value is)))
    (λ list are. where_true (nat_le (length list) limit) list _ (λ few. are))

list_member-holds : (value : Data) (path name : List ℕ) (limit : ℕ) → IsUtf8Value value → Holds AreUtf8 (list_member value path name limit)
unfolding list_member
list_member-holds value path name limit is =
    then (of_json-holds (need_in value path name) (need-holds value path name is)) (λ one utf8. list-holds one (member_path path name) limit utf8)

optional_list-holds : (value : Data) (path name : List ℕ) (limit : ℕ) → IsUtf8Value value → Holds AreUtf8 (optional_list value path name limit)
unfolding optional_list
optional_list-holds value path name limit is =
    optional-holds (get name value) _ [] tt (λ one utf8. list-holds one (member_path path name) limit utf8) (get-utf8 name value is)

pushed : {A : Type 0} (P : A → Type 0) (xs : List A) (x : A) → AllByRecursion P xs → P x → AllByRecursion P (xs ++ x ∷ [])
pushed P [] x all is = (is, tt)
pushed P (y ∷ xs) x all is = (all.0, pushed P xs x all.1 is)

each-holds : {A : Type 0} (P : A → Type 0) (reading : List A → Data → Result A ElectionFault)
    → ((found : List A) (value : Data) → IsUtf8Value value → Holds P (reading found value))
    → (values : List Data) (found : List A) → AllByRecursion IsUtf8Value values → AllByRecursion P found → Holds (AllByRecursion P) (each_of reading found values)
each-holds P reading holds [] found are all = given all
each-holds P reading holds (value ∷ values) found are all =
    then (holds found value are.0) (λ one is. each-holds P reading holds values (found ++ one ∷ []) are.1 (pushed P found one all is))

-- ---- parties and precincts

abbrev IsUtf8Named : Named → Type 0
IsUtf8Named named = IsUtf8 named.name

abbrev AreUtf8Named : List Named → Type 0
AreUtf8Named list = AllByRecursion IsUtf8Named list

named-holds : (path : List ℕ) (ids : List (List ℕ)) (value : Data) → IsUtf8Value value → Holds IsUtf8Named (named_at path ids value)
unfolding named_at
named-holds path ids value is =
    after (id_member value path ids) (λ id. then (text_member-holds value path (codes "name") 1 256 is) (λ name utf8. given utf8))

named_list-holds : (path : List ℕ) (values : List Data) → AreUtf8 values → Holds AreUtf8Named (named_list_in path values)
unfolding named_list_in
named_list-holds path values are =
    each-holds IsUtf8Named (named_in path) (λ found value is. named-holds (element_path path (length found)) (named_ids found) value is) values [] are tt

-- ---- contests

name_at-utf8 : (parties : List Named) (place : ℕ) → AreUtf8Named parties → IsUtf8 (name_at parties place)
name_at-utf8 [] place are = IsUtf8-nil
name_at-utf8 (named ∷ parties) zero are = are.0
name_at-utf8 (named ∷ parties) (suc place) are = name_at-utf8 parties place are.1

with_parties-utf8 : (parties : List Named) (name places : List ℕ) → AreUtf8Named parties → IsUtf8 name → IsUtf8 (with_parties parties name places)
with_parties-utf8 parties name [] are utf8 = utf8
with_parties-utf8 parties name (place ∷ places) are utf8 =
    with_parties-utf8 parties (name ++ 44 ∷ 32 ∷ name_at parties place) places are
    (IsUtf8-append name (44 ∷ 32 ∷ name_at parties place) utf8
    (IsUtf8-append (44 ∷ 32 ∷ []) (name_at parties place) (IsUtf8-are_ascii (44 ∷ 32 ∷ []) refl) (name_at-utf8 parties place are)))

label-utf8 : (parties : List Named) (name places : List ℕ) → AreUtf8Named parties → IsUtf8 name → IsUtf8 (label_of parties name places)
unfolding label_of
label-utf8 parties name places are utf8 = by (nat_le (length (chars (with_parties parties name places))) label_limit)
  where
    by : (b : Bool) → IsUtf8 (cond b (with_parties parties name places) name)
    by true = with_parties-utf8 parties name places are utf8
    by false = utf8

candidate-holds : (parties : List Named) (path : List ℕ) (ids : List (List ℕ)) (value : Data) → AreUtf8Named parties → IsUtf8Value value
    → Holds IsUtf8Choice (candidate_at parties path ids value)
unfolding candidate_at
candidate-holds parties path ids value are is =
    after (id_member value path ids) (λ id. then (text_member-holds value path (codes "name") 1 256 is) (λ name utf8.
    after (affiliations_in parties value path) (λ places. given (utf8, label-utf8 parties name places are utf8))))

abbrev AreUtf8Choices : List Choice → Type 0
AreUtf8Choices choices = AllByRecursion IsUtf8Choice choices

candidates-holds : (parties : List Named) (value : Data) (path : List ℕ) → AreUtf8Named parties → IsUtf8Value value → Holds AreUtf8Choices (candidates_in parties value path)
unfolding candidates_in candidate_list_in
candidates-holds parties value path are is =
    let at = member_path path (codes "candidates") in
    then (list_member-holds value path (codes "candidates") 100 is) (λ values all.
    each-holds IsUtf8Choice (candidate_in parties at) (λ found element utf8. candidate-holds parties (element_path at (length found)) (choice_ids found) element are utf8) values [] all tt)

voting-holds : (parties : List Named) (value : Data) (path : List ℕ) → AreUtf8Named parties → IsUtf8Value value
    → Holds (λ voting. AreUtf8Choices voting.choices) (voting_in parties value path)
unfolding voting_in
voting-holds parties value path are is =
    after (whole_member value path (codes "seats") 1 50) (λ seats. then (candidates-holds parties value path are is) (λ choices all.
    after (leave_in parties value path) (λ leave. given all)))

heading-holds : (districts : List Named) (ids : List (List ℕ)) (value : Data) (path : List ℕ) → IsUtf8Value value
    → Holds (λ heading. IsUtf8 heading.title) (heading_in districts ids value path)
unfolding heading_in
heading-holds districts ids value path is =
    after (id_member value path ids) (λ id. after (kind_in value path) (λ kind.
    after (reference_member value path (codes "districtId") (named_ids districts)) (λ district.
    then (text_member-holds value path (codes "title") 1 256 is) (λ title utf8. given utf8))))

label_in-holds : (otherwise : List ℕ) (value : Data) (path : List ℕ) → IsUtf8 otherwise → IsUtf8Value value → Holds IsUtf8 (label_in otherwise value path)
unfolding label_in
label_in-holds otherwise value path fits is = by (is_some (as_object value))
  where
    by : (b : Bool) → Holds IsUtf8 (cond b (optional_text value path (codes "label") 1 256 otherwise) (Err (WrongKind path)))
    by true = optional_text-holds value path (codes "label") 1 256 otherwise fits is
    by false = record { is = tt }

answer-holds : (value : Data) (path name id otherwise : List ℕ) → IsUtf8 otherwise → IsUtf8Value value → Holds IsUtf8Choice (answer_in value path name id otherwise)
unfolding answer_in answer_label_in
answer-holds value path name id otherwise fits is =
    then (optional-holds {P = IsUtf8} (get name value) _ otherwise fits (λ one utf8. label_in-holds otherwise one (member_path path name) fits utf8) (get-utf8 name value is))
    (λ label utf8. given (utf8, utf8))

answers-holds : (value : Data) (path : List ℕ) → IsUtf8Value value → Holds AreUtf8Choices (answers_in value path)
unfolding answers_in
answers-holds value path is =
    then (answer-holds value path (codes "yesOption") (codes "yes") (codes "Yes") (IsUtf8-are_ascii _ refl) is) (λ first one.
    then (answer-holds value path (codes "noOption") (codes "no") (codes "No") (IsUtf8-are_ascii _ refl) is) (λ second other. given (one, (other, tt))))

question-holds : (value : Data) (path : List ℕ) → IsUtf8Value value → Holds (λ question. AreUtf8Choices question.answers) (question_in value path)
unfolding question_in
question-holds value path is =
    after (optional_text value path names.description 0 10000 []) (λ description. then (answers-holds value path is) (λ answers all. given all))

either-holds : {A F : Type 0} {P : A → Type 0} {x y : Result A F} (b : Bool) → Holds P x → Holds P y → Holds P (cond b x y)
either-holds true first second = first
either-holds false first second = second

-- a contest with its choices, by recursion
abbrev IsRead : Contest → Type 0
IsRead contest = IsUtf8 contest.title × AreUtf8Choices contest.choices

contest-holds : (parties districts : List Named) (path : List ℕ) (ids : List (List ℕ)) (value : Data) → AreUtf8Named parties → IsUtf8Value value
    → Holds IsRead (contest_at parties districts path ids value)
unfolding contest_at
contest-holds parties districts path ids value are is =
    then (heading-holds districts ids value path is) (λ heading title.
    either-holds heading.is_yes_no (then (question-holds value path is) (λ question all. given (title, all))) (then (voting-holds parties value path are is) (λ voting all. given (title, all))))

contests-holds : (parties districts : List Named) (value : Data) → AreUtf8Named parties → IsUtf8Value value
    → Holds (AllByRecursion IsRead) (contests_member parties districts value)
unfolding contests_member contests_in
contests-holds parties districts value are is =
    then (list_member-holds value [] (codes "contests") 500 is) (λ values all.
    each-holds IsRead (contest_in parties districts (codes "contests"))
    (λ found element utf8. contest-holds parties districts (element_path (codes "contests") (length found)) (contest_ids found) element are utf8) values [] all tt)

-- ---- the whole election

opening-holds : (value : Data) → IsUtf8Value value → Holds (λ opening. IsUtf8 opening.title) (opening_in value)
unfolding opening_in
opening-holds value is =
    then (text_member-holds value [] (codes "title") 1 256 is) (λ title utf8. after (date_member value) (λ date.
    after (optional_text value [] (codes "state") 0 256 []) (λ state. given utf8)))

named_member-holds : (value : Data) (name : List ℕ) → IsUtf8Value value → Holds AreUtf8Named (named_member value name)
unfolding named_member
named_member-holds value name is = then (list_member-holds value [] name 2000 is) (λ list all. named_list-holds name list all)

parties-holds : (value : Data) → IsUtf8Value value → Holds AreUtf8Named (parties_in value)
unfolding parties_in
parties-holds value is = then (optional_list-holds value [] (codes "parties") 200 is) (λ list all. named_list-holds (codes "parties") list all)

directories-holds : (value : Data) → IsUtf8Value value → Holds (λ lists. AreUtf8Named lists.parties × AreUtf8Named lists.precincts) (directories_in value)
unfolding directories_in
directories-holds value is =
    then (parties-holds value is) (λ parties are. after (named_member value (codes "districts")) (λ districts.
    then (named_member-holds value (codes "precincts") is) (λ precincts all. given (are, all))))

-- what holds by recursion holds of each
all-each : {X : Type 0} (P : X → Type 0) (xs : List X) → AllByRecursion P xs → All P xs
all-each P [] all k d below = absurd (omega arith)
all-each P (x ∷ xs) all zero d below = all.0
all-each P (x ∷ xs) all (suc k) d below = all-each P xs all.1 k d (omega (arith, below))

all-contests : (contests : List Contest) → AllByRecursion IsRead contests → AllByRecursion IsUtf8Contest contests
all-contests [] all = tt
all-contests (contest ∷ contests) all = ((all.0.0, all-each IsUtf8Choice contest.choices all.0.1), all-contests contests all.1)

election-holds : (digest : List ℕ) (value : Data) → IsUtf8Value value → Holds IsUtf8Election (election_in digest value)
unfolding election_in
election-holds digest value is =
    then (opening-holds value is) (λ opening title. then (directories-holds value is) (λ lists are.
    then (contests-holds lists.parties lists.districts value are.0 is) (λ contests all.
    after (styles_member lists.parties lists.districts lists.precincts value) (λ styles. after (rules_in value) (λ rules.
    given (record {
      title = title;
      precincts = all-each IsUtf8Named lists.precincts are.1;
      contests = all-each IsUtf8Contest contests (all-contests contests all);
    }))))))

value-holds : (bytes : List ℕ) → StringsAreUtf8 → Holds IsUtf8Value (value_of bytes)
unfolding value_of
value-holds bytes law = by (is_utf8 bytes) (IsUtf8-from_is_utf8 bytes)
  where
    inside : (o : Option Data) → ((d : Data) → o ≡ Some d → IsUtf8Value d) → Holds IsUtf8Value (ok_or o NotJson)
    inside None all = record { is = tt }
    inside (Some d) all = record { is = all d refl }

    by : (b : Bool) → (b ≡ true → IsUtf8 bytes) → Holds IsUtf8Value (cond b (ok_or (read bytes) NotJson) (Err NotJson))
    by true utf8 = inside (read bytes) (λ d is. law bytes d (utf8 refl) is)
    by false utf8 = record { is = tt }

pub defined-utf8 : StringsAreUtf8 → (bytes : List ℕ) (election : Election) → election_of bytes ≡ Ok election → IsUtf8Election election
unfolding election_of
defined-utf8 law bytes election is =
    let Is : Result Election ElectionFault → Type 0 = λ some. IfOk some IsUtf8Election in
    let all : Holds IsUtf8Election (election_of bytes) = then (value-holds bytes law) (λ value utf8. election-holds (sha256 bytes) value utf8) in
    subst Is is all.is

-- the definition of an election that a command takes
pub taken-defined : (file : Option (List ℕ)) (election : Election) → command.election_in file ≡ Ok election → (bytes : List ℕ) × (election_of bytes ≡ Ok election)
taken-defined file election is =
    let step = bind_ok (input_of 1 input_limit file) (λ (bytes : List ℕ). election_read (election_of bytes)) election is in
    (step.0, by (election_of step.0) step.2)
  where
    by : (r : Result Election ElectionFault) → election_read r ≡ Ok election → r ≡ Ok election
    by (Ok one) same = cc
    by (Err refused) same = absurd cc
