-- What is read of groups: how many contests each has, and that the first has a candidate.
use Rattle.std.proofs.Common.{◌≡◌, ◌+◌, ◌<◌, ◌≤◌, ◌&&◌, ◌||◌, ℕ, Bool, true, false, cond, List, [], ◌∷◌, ◌++◌, length, Option, Some, None, Result, Ok, Err, nat_lt, refl, sym, ap, subst, arith, length-append}
use Rattle.std.specs.Prelude.{All, slice_get, codes, ok_or}
use Rattle.std.specs.Option.{option_map_or}
use Rattle.std.proofs.lemmas.List.Elements.{All-nil, All-push}
use Rattle.serde_json.specs.Data.{Data}
use Rattle.vx_base.specs.Results.{◌>>=◌}
use Rattle.vx_base.proofs.Numbers.{at_most-from_yes, below-from_yes}
use Rattle.vx_base.proofs.Results.{bind_ok}
use Rattle.vx_json.specs.Paths.{member_path, element_path}
use Rattle.vx_json.specs.Reading.{need_in, list_in, is_within}
use Rattle.vx_election_model.specs.declared.contest.Contest.{Contest}
use Rattle.vx_election_model.specs.declared.election.Election.{Election}
use Rattle.vx_ranked.specs.declared.fault.RankedFault.{RankedFault}
use Rattle.vx_ranked.specs.declared.fault.RankedFault.TheVariants.{OutOfRange, RepeatedId, UnknownId, Unlike}
use Rattle.vx_ranked.specs.declared.groups.Group.{Group}
use Rattle.vx_ranked.specs.Alike.{can_be_ranked, fits_group, is_like_first, place_of}
use Rattle.vx_ranked.specs.Faults.{of_json}
use Rattle.vx_ranked.specs.Groups.{IsGroup, ReadGroupsAreGroups}
use Rattle.vx_ranked.specs.Members.{id_in, is_among, is_named, list_member}
use Rattle.vx_ranked.specs.Reading.{contest_at, contest_in, contests_in, each_of, group_at, group_in, groups_in, groups_in_bytes, new_id_member, value_in, with_next}
use Rattle.vx_ranked.specs.Splits.{cards_checked}
use Rattle.vx_ranked.specs.Texts.{choices_in, choices_of}

-- what holds of the elements so far, and still behind one more, holds of all
module _ {A : Type 0} (read_one : List A → Data → Result A RankedFault) (P : List A → Type 0)
    (more : (found : List A) (value : Data) (one : A) → P found → read_one found value ≡ Ok one → P (found ++ one ∷ [])) where
  each-holds : (found : List A) (values : List Data) (all : List A) → P found → each_of read_one found values ≡ Ok all → P all
  each-holds found [] all so_far is = subst P (same found all is) so_far
    where
      same : (a b : List A) → ◌≡◌ {A = Result (List A) RankedFault} (Ok a) (Ok b) → a ≡ b
      same a b e = cc
  each-holds found (value ∷ values) all so_far is =
      let next = bind_ok (with_next read_one found value) (λ further. each_of read_one further values) all is in
      let one = bind_ok (read_one found value) (λ one. Ok (found ++ one ∷ [])) next.0 next.1 in
      let behind : found ++ one.0 ∷ [] ≡ next.0 = same (found ++ one.0 ∷ []) next.0 one.2 in
      each-holds next.0 values all (subst P behind (more found value one.0 so_far one.1)) next.2
    where
      same : (a b : List A) → ◌≡◌ {A = Result (List A) RankedFault} (Ok a) (Ok b) → a ≡ b
      same a b e = cc

-- as many as were read
each-length : {A : Type 0} (read_one : List A → Data → Result A RankedFault) (found : List A) (values : List Data) (all : List A)
    → each_of read_one found values ≡ Ok all → length all ≡ length found + length values
each-length {A} read_one found [] all is = omega (arith, ap length (same found all is))
  where
    same : (a b : List A) → ◌≡◌ {A = Result (List A) RankedFault} (Ok a) (Ok b) → a ≡ b
    same a b e = cc
each-length {A} read_one found (value ∷ values) all is =
    let next = bind_ok (with_next read_one found value) (λ further. each_of read_one further values) all is in
    let one = bind_ok (read_one found value) (λ one. Ok (found ++ one ∷ [])) next.0 next.1 in
    let behind : found ++ one.0 ∷ [] ≡ next.0 = same (found ++ one.0 ∷ []) next.0 one.2 in
    omega (arith, ap length behind, length-append found (one.0 ∷ []), each-length read_one next.0 values all next.2)
  where
    same : (a b : List A) → ◌≡◌ {A = Result (List A) RankedFault} (Ok a) (Ok b) → a ≡ b
    same a b e = cc

left_is : (a b : Bool) → a && b ≡ true → a ≡ true
left_is true b is = refl
left_is false b is = absurd cc

right_is : (a b : Bool) → a && b ≡ true → b ≡ true
right_is true b is = is
right_is false b is = absurd cc

-- a contest that can be ranked has a candidate
rankable : (contest : Contest) → can_be_ranked contest ≡ true → 0 < length contest.choices
rankable contest is = below-from_yes 0 (length contest.choices) (right_is _ (nat_lt 0 (length contest.choices)) is)

fitting : (contests : List Contest) (found : List ℕ) (place : ℕ) (contest : Option Contest) → slice_get contests place ≡ contest
    → option_map_or (λ contest. can_be_ranked contest && is_like_first contests (slice_get found 0) contest) contest false ≡ true
    → 0 < length (choices_in (slice_get contests place))
fitting contests found place None at is = absurd cc
fitting contests found place (Some contest) at is =
    subst (λ (one : Option Contest). 0 < length (choices_in one)) (sym at)
    (rankable contest (left_is (can_be_ranked contest) (is_like_first contests (slice_get found 0) contest) is))

-- a contest that is read fits its group
chosen : (named fits : Bool) (place given : ℕ) (repeated unlike : RankedFault)
    → cond named (Err repeated) (cond fits (Ok place) (Err unlike)) ≡ Ok given → (fits ≡ true) × (place ≡ given)
chosen true fits place given repeated unlike is = absurd cc
chosen false true place given repeated unlike is = (refl, cc)
chosen false false place given repeated unlike is = absurd cc

read_fits : (election : Election) (groups : List Group) (found : List ℕ) (path : List ℕ) (value : Data) (given : ℕ)
    → contest_at election groups found path value ≡ Ok given → fits_group election.contests found given ≡ true
unfolding contest_at
read_fits election groups found path value given is =
    let id = bind_ok (id_in value path) (λ id. ok_or (place_of election.contests id) (UnknownId path id) >>= λ place.
    cond (is_named groups place || is_among place found) (Err (RepeatedId path id))
    (cond (fits_group election.contests found place) (Ok place) (Err (Unlike path))))
    given is in
    let place = bind_ok (ok_or (place_of election.contests id.0) (UnknownId path id.0)) (λ place.
    cond (is_named groups place || is_among place found) (Err (RepeatedId path id.0))
    (cond (fits_group election.contests found place) (Ok place) (Err (Unlike path))))
    given id.2 in
    let told = chosen (is_named groups place.0 || is_among place.0 found) (fits_group election.contests found place.0) place.0 given
    (RepeatedId path id.0) (Unlike path) place.2 in
    subst (λ (at : ℕ). fits_group election.contests found at ≡ true) told.1 told.0

-- the first contest of those so far, if there is one, has a candidate
HasFirst : Election → List ℕ → Type 0
HasFirst election [] = Unit {0}
HasFirst election (first ∷ further) = 0 < length (choices_in (slice_get election.contests first))

first_stays : (election : Election) (found : List ℕ) (place : ℕ) → HasFirst election found → fits_group election.contests found place ≡ true
    → HasFirst election (found ++ place ∷ [])
unfolding HasFirst
first_stays election [] place has fits = fitting election.contests [] place (slice_get election.contests place) refl fits
first_stays election (first ∷ further) place has fits = has

has_first : (election : Election) (contests : List ℕ) → 1 ≤ length contests → HasFirst election contests → 0 < length (choices_of election contests)
unfolding HasFirst
has_first election [] some has = absurd (omega (arith, some))
has_first election (first ∷ further) some has = has

-- a list has so many elements
within : (is : Bool) (list given : List Data) (fault : RankedFault) → cond is (Ok list) (Err fault) ≡ Ok given → (is ≡ true) × (list ≡ given)
within true list given fault e = (refl, cc)
within false list given fault e = absurd cc

listed_within : (value : Data) (path name : List ℕ) (low high : ℕ) (given : List Data) → list_member value path name low high ≡ Ok given
    → (low ≤ length given) × (length given ≤ high)
unfolding list_member
listed_within value path name low high given is =
    let member = bind_ok (of_json (need_in value path name)) (λ member. of_json (list_in member (member_path path name)) >>= λ list.
    cond (is_within low high (length list)) (Ok list) (Err (OutOfRange (member_path path name)))) given is in
    let list = bind_ok (of_json (list_in member.0 (member_path path name))) (λ list.
    cond (is_within low high (length list)) (Ok list) (Err (OutOfRange (member_path path name)))) given member.2 in
    let told = within (is_within low high (length list.0)) list.0 given (OutOfRange (member_path path name)) list.2 in
    subst (λ (some : List Data). (low ≤ length some) × (length some ≤ high)) told.1
    (at_most-from_yes low (length list.0) (left_is _ _ told.0), at_most-from_yes (length list.0) high (right_is _ _ told.0))

-- a group that is read
read_group : (election : Election) (path : List ℕ) (groups : List Group) (value : Data) (group : Group)
    → group_at election path groups value ≡ Ok group → IsGroup election group
unfolding group_at contests_in HasFirst
read_group election path groups value group is =
    let id = bind_ok (new_id_member value path groups) (λ id. list_member value path (codes "contests") 1 10 >>= λ list.
    contests_in election groups (member_path path (codes "contests")) list >>= λ contests.
    Ok (record { id = id; contests = contests })) group is in
    let list = bind_ok (list_member value path (codes "contests") 1 10) (λ list.
    contests_in election groups (member_path path (codes "contests")) list >>= λ contests.
    Ok (record { id = id.0; contests = contests })) group id.2 in
    let contests = bind_ok (contests_in election groups (member_path path (codes "contests")) list.0) (λ contests.
    Ok (record { id = id.0; contests = contests })) group list.2 in
    let many = listed_within value path (codes "contests") 1 10 list.0 list.1 in
    let as_many = each-length (contest_in election groups (member_path path (codes "contests"))) [] list.0 contests.0 contests.1 in
    let first = each-holds (contest_in election groups (member_path path (codes "contests"))) (HasFirst election)
    (λ found value place has read. first_stays election found place has
    (read_fits election groups found (element_path (member_path path (codes "contests")) (length found)) value place read))
    [] list.0 contests.0 tt contests.1 in
    made id.0 contests.0 group contests.2 (omega (arith, many.0, as_many)) (omega (arith, many.1, as_many)) first
  where
    made : (id : List ℕ) (contests : List ℕ) (group : Group) → ◌≡◌ {A = Result Group RankedFault} (Ok (record { id = id; contests = contests })) (Ok group)
        → 1 ≤ length contests → length contests ≤ 10 → HasFirst election contests → IsGroup election group
    made id contests group same some few first =
        let one : Group = record { id = id; contests = contests } in
        let equal : one ≡ group = cc in
        subst (IsGroup election) equal (record { some = some; few = few; candidates = has_first election contests some first })

-- so is each of those that bytes give
pub read-groups : ReadGroupsAreGroups
unfolding groups_in_bytes groups_in
read-groups election plans bytes groups is =
    let value = bind_ok (value_in bytes) (λ value. groups_in election value >>= λ groups. cards_checked groups plans >>= λ _. Ok groups) groups is in
    let read = bind_ok (groups_in election value.0) (λ groups. cards_checked groups plans >>= λ _. Ok groups) groups value.2 in
    let checked = bind_ok (cards_checked read.0 plans) (λ _. Ok read.0) groups read.2 in
    let list = bind_ok (list_member value.0 [] (codes "ranked") 0 100) (λ list. each_of (group_in election (codes "ranked")) [] list) read.0 read.1 in
    let all = each-holds (group_in election (codes "ranked")) (All (IsGroup election))
    (λ found value group each one. All-push (IsGroup election) found group each
    (read_group election (element_path (codes "ranked") (length found)) found value group one))
    [] list.0 read.0 (All-nil (IsGroup election)) list.2 in
    subst (All (IsGroup election)) (same read.0 groups checked.2) all
  where
    same : (a b : List Group) → ◌≡◌ {A = Result (List Group) RankedFault} (Ok a) (Ok b) → a ≡ b
    same a b e = cc
