-- An election that was read is valid, part by part.
use Rattle.std.proofs.Common.{◌≡◌, ℕ, ◌<◌, ◌≤◌, Bool, true, false, cond, List, [], ◌∷◌, ◌++◌, length, map, Option, None, Result, Ok, Err, refl, arith, ◌⊎◌, inl, inr, lit≤}
use Rattle.std.specs.Prelude.{bytes_eq, nat_eq, nat_le, chars, codes, is_some, IfSome}
use Rattle.std.specs.Str.{chars as characters}
use Rattle.std.specs.List.{All, IsDistinct, list_any}
use Rattle.std.proofs.lemmas.Bool.Decides.{nat_tests}
use Rattle.std.proofs.lemmas.Cmp.{nat_eq_equiv, nat_list_eq_equiv}
use Rattle.std.proofs.lemmas.List.{length-map}
use Rattle.std.proofs.lemmas.List.Elements.{All-nil, All-push}
use Rattle.std.proofs.lemmas.Map.Keys.{IsDistinct-push, IsDistinct-from_apart}
use Rattle.serde_json.specs.Data.{Data}
use Rattle.serde_json.specs.Find.{get, as_object}
use Rattle.vx_base.specs.Results.{◌>>=◌}
use Rattle.vx_base.proofs.Lists.{map-push}
use Rattle.vx_base.proofs.Numbers.{at_most-from_yes}
use Rattle.vx_base.proofs.Results.{Holds, given, weaker, then, after, where_true}
use Rattle.vx_json.specs.Paths.{member_path, element_path}
use Rattle.vx_grid.specs.Sizes.{inner_pixels}
use Rattle.vx_json.specs.Reading.{need_in, string_in}
use Rattle.vx_election.specs.declared.fault.ElectionFault.{ElectionFault}
use Rattle.vx_election.specs.declared.fault.ElectionFault.TheVariants.{WrongKind}
use Rattle.vx_election_model.specs.declared.named.Named.{Named}
use Rattle.vx_election_model.specs.declared.choice.Choice.{Choice}
use Rattle.vx_election_model.specs.declared.contest.Contest.{Contest}
use Rattle.vx_election.specs.declared.contests.Heading.{Heading}
use Rattle.vx_election.specs.declared.contests.Voting.{Voting}
use Rattle.vx_election.specs.declared.contests.Question.{Question}
use Rattle.vx_election_model.specs.declared.style.Style.{Style}
use Rattle.vx_election_model.specs.declared.reason.Reason.TheVariants.{MarginalMark}
use Rattle.vx_election.specs.Names as names
use Rattle.vx_election_model.specs.Ids.{is_id}
use Rattle.vx_election.specs.Ids.{place_in, is_among}
use Rattle.vx_election_model.specs.Dates.{is_date}
use Rattle.vx_election.specs.Dates.{date_in}
use Rattle.vx_election.specs.Faults.{of_json}
use Rattle.vx_election.specs.Members.{optional_text, optional_flag, whole_member, list_up_to, each_of}
use Rattle.vx_election_model.specs.Lists.{named_ids}
use Rattle.vx_election.specs.Parts.{named_at, named_in, named_list_in, next_new_reference_in, new_references_in}
use Rattle.vx_election.specs.Contests.{with_parties, label_of, candidate_at, candidate_in, candidate_list_in, candidates_in, affiliations_in, kind_in, heading_in, leave_in, voting_in, candidate_contest, label_in, answer_label_in, answer_in, answers_in, question_in, yes_no_contest, contest_at, contest_in, contests_in}
use Rattle.vx_election_model.specs.Labels.{label_limit, answer_of}
use Rattle.vx_election_model.specs.Lists.{choice_ids, contest_ids}
use Rattle.vx_election_model.specs.Lists.{style_ids, card_count}
use Rattle.vx_election.specs.Styles.{style_places_in, style_at, style_in, styles_in}
use Rattle.vx_election.specs.Settings.{pixels_of, are_in_order, default_thresholds, stated_thresholds_in, thresholds_in, default_reasons, reason_list_in, stated_reasons_in, reasons_in}
use Rattle.vx_election_model.specs.Reasons.{has_reason}
use Rattle.vx_election.specs.Papers.{paper_in}
use Rattle.vx_election.specs.declared.reading.Opening.{Opening}
use Rattle.vx_election.specs.declared.reading.Directories.{Directories}
use Rattle.vx_election.specs.declared.reading.Rules.{Rules}
use Rattle.vx_election.specs.Reading.{date_member, parties_in, named_member, contests_member, styles_member, opening_in, directories_in, rules_in, election_in}
use Rattle.vx_election_model.specs.Valid.{IsText, AreDistinct, IsNamed, AreNamed, IsCandidate, IsContest, ArePlaces, IsStyle, AreThresholds, AreContests, AreStyles, IsValid}
use Rattle.vx_election.proofs.Places.{none-parts}
use Rattle.vx_election.proofs.Readings.{optional_holds, text_member_holds, optional_text_holds, whole_member_holds, id_member_holds, reference_member_holds, optional_reference_holds, new_reference_in_holds, list_member_holds, optional_list_holds, each_holds}

apart_from_none : (new : List ℕ) (ids : List (List ℕ)) → place_in new ids ≡ None → list_any (bytes_eq new) ids ≡ false
apart_from_none new [] e = refl
apart_from_none new (first ∷ ids) e =
    let parts = none-parts (bytes_eq new first) (place_in new ids) e in
    rw (parts.0, apart_from_none new ids parts.1) refl

none_distinct : {K : Type 0} (eq : K → K → Bool) → IsDistinct eq []
none_distinct eq = IsDistinct-from_apart eq [] (λ i j d lt below. absurd (omega arith))

-- ids that differ, of elements that each are as they should be
record AreKept {A : Type 0} (id_of : A → List ℕ) (Is : A → Type 0) (list : List A) : Type 0 where
  distinct : AreDistinct (map id_of list)
  each : All Is list

-- an element with a new id
abbrev IsOneMore : {A : Type 0} → (A → List ℕ) → (A → Type 0) → List (List ℕ) → A → Type 0
IsOneMore id_of Is ids one = Is one × (place_in (id_of one) ids ≡ None)

one_more : {A : Type 0} (id_of : A → List ℕ) (Is : A → Type 0) (found : List A) (one : A) → AreKept id_of Is found → IsOneMore id_of Is (map id_of found) one → AreKept id_of Is (found ++ one ∷ [])
one_more id_of Is found one kept is = record {
  distinct = rw (map-push id_of found one) (IsDistinct-push nat_list_eq_equiv (map id_of found) (id_of one) kept.distinct (apart_from_none (id_of one) (map id_of found) is.1));
  each = All-push Is found one kept.each is.0;
}

-- all elements that are read have ids that differ, and are as they should be
all_kept : {A : Type 0} (id_of : A → List ℕ) (Is : A → Type 0) (read : List A → Data → Result A ElectionFault) → ((found : List A) (value : Data) → Holds (IsOneMore id_of Is (map id_of found)) (read found value)) → (limit : ℕ) (values : List Data) → length values ≤ limit → Holds (λ list. (length list ≤ limit) × AreKept id_of Is list) (each_of read [] values)
all_kept id_of Is read each limit values few =
    let none : AreKept id_of Is [] = record { distinct = none_distinct bytes_eq; each = All-nil Is } in
    weaker
    (each_holds read (AreKept id_of Is) (λ found value kept. weaker (each found value) (λ one is. one_more id_of Is found one kept is)) values [] none)
    (λ list all. (omega (arith, all.1, few), all.0))

named_valid : (path : List ℕ) (ids : List (List ℕ)) (value : Data) → Holds (IsOneMore (λ (one : Named). one.id) IsNamed ids) (named_at path ids value)
unfolding named_at
named_valid path ids value =
    then (id_member_holds value path ids) (λ id new. then (text_member_holds value path (codes "name") 1 256) (λ name text. given (record { id = new.0; name = text }, new.1)))

named_list_valid : (limit : ℕ) (path : List ℕ) (values : List Data) → length values ≤ limit → Holds (AreNamed limit) (named_list_in path values)
unfolding named_list_in
named_list_valid limit path values few =
    weaker
    (all_kept (λ (one : Named). one.id) IsNamed (named_in path) (λ found value. named_valid (element_path path (length found)) (named_ids found) value) limit values few)
    (λ list all. record { few = all.0; distinct = all.1.distinct; each = all.1.each })

-- a label is short, or the name
abbrev IsLabel : List ℕ → List ℕ → Type 0
IsLabel name label = (length (chars label) ≤ label_limit) ⊎ (label ≡ name)

label_cases : (b : Bool) (whole name : List ℕ) → (b ≡ true → length (chars whole) ≤ label_limit) → IsLabel name (cond b whole name)
label_cases true whole name fits = inl (fits refl)
label_cases false whole name fits = inr refl

label_valid : (parties : List Named) (name places : List ℕ) → IsLabel name (label_of parties name places)
unfolding label_of
label_valid parties name places =
    label_cases _ (with_parties parties name places) name (at_most-from_yes (length (chars (with_parties parties name places))) label_limit)

candidate_valid : (parties : List Named) (path : List ℕ) (ids : List (List ℕ)) (value : Data) → Holds (IsOneMore (λ (one : Choice). one.id) IsCandidate ids) (candidate_at parties path ids value)
unfolding candidate_at
candidate_valid parties path ids value =
    then (id_member_holds value path ids) (λ id new. then (text_member_holds value path (codes "name") 1 256) (λ name text.
    after (affiliations_in parties value path) (λ places. given (record { id = new.0; name = text; label = label_valid parties name places }, new.1))))

-- the choices of a contest of candidates
record AreCandidates (choices : List Choice) : Type 0 where
  few : length choices ≤ 100
  distinct : AreDistinct (choice_ids choices)
  each : All IsCandidate choices

candidates_valid : (parties : List Named) (value : Data) (path : List ℕ) → Holds AreCandidates (candidates_in parties value path)
unfolding candidates_in candidate_list_in
candidates_valid parties value path =
    let at = member_path path (codes "candidates") in
    then (list_member_holds value path (codes "candidates") 100) (λ values few.
    weaker
    (all_kept (λ (one : Choice). one.id) IsCandidate (candidate_in parties at) (λ found element. candidate_valid parties (element_path at (length found)) (choice_ids found) element) 100 values few)
    (λ list all. record { few = all.0; distinct = all.1.distinct; each = all.1.each }))

-- a reference to one of a list, where there is one
abbrev IsPlaceOf : List Named → Option ℕ → Type 0
IsPlaceOf list found = IfSome found (λ place. place < length list)

party_valid : (parties : List Named) (value : Data) (path : List ℕ) → Holds (λ leave. IsPlaceOf parties leave.party) (leave_in parties value path)
unfolding leave_in
party_valid parties value path =
    after (optional_flag value path names.allow_write_ins) (λ write_ins.
    then (optional_reference_holds value path (codes "partyId") (named_ids parties)) (λ party is. given (rw (length-map parties (λ (one : Named). one.id)) at is)))

-- what a contest of candidates goes on with
record IsVoting (parties : List Named) (voting : Voting) : Type 0 where
  seats : (1 ≤ voting.seats) × (voting.seats ≤ 50)
  choices : AreCandidates voting.choices
  party : IsPlaceOf parties voting.leave.party

voting_valid : (parties : List Named) (value : Data) (path : List ℕ) → Holds (IsVoting parties) (voting_in parties value path)
unfolding voting_in
voting_valid parties value path =
    then (whole_member_holds value path (codes "seats") 1 50) (λ seats few.
    then (candidates_valid parties value path) (λ choices are.
    then (party_valid parties value path) (λ leave is. given (record { seats = few; choices = are; party = is }))))

-- what each contest begins with
record IsHeading (districts : List Named) (heading : Heading) : Type 0 where
  id : is_id heading.id ≡ true
  district : heading.district < length districts
  title : IsText 1 256 heading.title

-- the same, with a new id
abbrev IsNewHeading : List Named → List (List ℕ) → Heading → Type 0
IsNewHeading districts ids heading = IsHeading districts heading × (place_in heading.id ids ≡ None)

heading_valid : (districts : List Named) (ids : List (List ℕ)) (value : Data) (path : List ℕ) → Holds (IsNewHeading districts ids) (heading_in districts ids value path)
unfolding heading_in
heading_valid districts ids value path =
    then (id_member_holds value path ids) (λ id new. after (kind_in value path) (λ kind.
    then (reference_member_holds value path (codes "districtId") (named_ids districts)) (λ district is.
    then (text_member_holds value path (codes "title") 1 256) (λ title text.
    given (record { id = new.0; district = rw (length-map districts (λ (one : Named). one.id)) at is; title = text }, new.1)))))

-- an answer's label
abbrev IsAnswerLabel : List ℕ → Type 0
IsAnswerLabel label = IsText 1 256 label

label_in_valid : (b : Bool) (otherwise : List ℕ) (value : Data) (path : List ℕ) → IsAnswerLabel otherwise → Holds IsAnswerLabel (cond b (optional_text value path (codes "label") 1 256 otherwise) (Err (WrongKind path)))
label_in_valid true otherwise value path fits = optional_text_holds value path (codes "label") 1 256 otherwise fits
label_in_valid false otherwise value path fits = record { is = tt }

-- an answer of that id, with some label
abbrev IsAnswer : List ℕ → Choice → Type 0
IsAnswer id choice = (label : List ℕ) × (choice ≡ answer_of id label) × IsAnswerLabel label

answer_label_valid : (value : Data) (path name otherwise : List ℕ) → IsAnswerLabel otherwise → Holds IsAnswerLabel (answer_label_in value path name otherwise)
unfolding answer_label_in label_in
answer_label_valid value path name otherwise fits =
    optional_holds (get name value) _ otherwise fits (λ member. label_in_valid (is_some (as_object member)) otherwise member (member_path path name) fits)

answer_valid : (value : Data) (path name id otherwise : List ℕ) → IsAnswerLabel otherwise → Holds (IsAnswer id) (answer_in value path name id otherwise)
unfolding answer_in
answer_valid value path name id otherwise fits =
    then (answer_label_valid value path name otherwise fits) (λ label is. given (label, refl, is))

length_yes : length (chars (codes "Yes")) ≡ 3
unfolding characters
length_yes = refl

length_no : length (chars (codes "No")) ≡ 2
unfolding characters
length_no = refl

length_nothing : length (chars []) ≡ 0
unfolding characters
length_nothing = refl

-- the two answers, yes before no
abbrev AreAnswers : List Choice → Type 0
AreAnswers answers = (yes_label : List ℕ) × (no_label : List ℕ) × (answers ≡ answer_of (codes "yes") yes_label ∷ answer_of (codes "no") no_label ∷ []) × IsText 1 256 yes_label × IsText 1 256 no_label

two_answers : (first second : Choice) → IsAnswer (codes "yes") first → IsAnswer (codes "no") second → AreAnswers (first ∷ second ∷ [])
two_answers first second one other = (one.0, other.0, cc, one.2, other.2)

answers_valid : (value : Data) (path : List ℕ) → Holds AreAnswers (answers_in value path)
unfolding answers_in
answers_valid value path =
    then (answer_valid value path (codes "yesOption") (codes "yes") (codes "Yes") (omega (arith, length_yes), omega (arith, length_yes))) (λ first one.
    then (answer_valid value path (codes "noOption") (codes "no") (codes "No") (omega (arith, length_no), omega (arith, length_no))) (λ second other. given (two_answers first second one other)))

-- what a yes/no contest goes on with
record IsQuestion (question : Question) : Type 0 where
  description : IsText 0 10000 question.description
  answers : AreAnswers question.answers

question_valid : (value : Data) (path : List ℕ) → Holds IsQuestion (question_in value path)
unfolding question_in
question_valid value path =
    then (optional_text_holds value path names.description 0 10000 [] (omega (arith, length_nothing), omega (arith, length_nothing))) (λ description text.
    then (answers_valid value path) (λ answers are. given (record { description = text; answers = are })))

-- a contest with a new id
abbrev IsNewContest : List Named → List Named → List (List ℕ) → Contest → Type 0
IsNewContest parties districts ids contest = IsOneMore (λ (one : Contest). one.id) (IsContest (length parties) (length districts)) ids contest

yes_no_valid : (parties districts : List Named) (ids : List (List ℕ)) (heading : Heading) (question : Question) → IsNewHeading districts ids heading → IsQuestion question → IsNewContest parties districts ids (yes_no_contest heading question)
yes_no_valid parties districts ids heading question new is =
    (record { id = new.0.id; title = new.0.title; district = new.0.district; party = tt; seats = (omega arith, omega arith); choices = record { description = is.description; party = refl; seats = refl; write_ins = refl; answers = is.answers } }, new.1)

candidates_contest_valid : (parties districts : List Named) (ids : List (List ℕ)) (heading : Heading) (voting : Voting) → IsNewHeading districts ids heading → IsVoting parties voting → IsNewContest parties districts ids (candidate_contest heading voting)
candidates_contest_valid parties districts ids heading voting new is =
    (record { id = new.0.id; title = new.0.title; district = new.0.district; party = is.party; seats = is.seats; choices = record { description = refl; few = is.choices.few; distinct = is.choices.distinct; each = is.choices.each } }, new.1)

contest_cases : (b : Bool) (parties districts : List Named) (ids : List (List ℕ)) (heading : Heading) (value : Data) (path : List ℕ) → IsNewHeading districts ids heading → Holds (IsNewContest parties districts ids) (cond b (question_in value path >>= λ question. Ok (yes_no_contest heading question)) (voting_in parties value path >>= λ voting. Ok (candidate_contest heading voting)))
contest_cases true parties districts ids heading value path new =
    then (question_valid value path) (λ question is. given (yes_no_valid parties districts ids heading question new is))
contest_cases false parties districts ids heading value path new =
    then (voting_valid parties value path) (λ voting is. given (candidates_contest_valid parties districts ids heading voting new is))

contest_valid : (parties districts : List Named) (path : List ℕ) (ids : List (List ℕ)) (value : Data) → Holds (IsNewContest parties districts ids) (contest_at parties districts path ids value)
unfolding contest_at
contest_valid parties districts path ids value =
    then (heading_valid districts ids value path) (λ heading new. contest_cases heading.is_yes_no parties districts ids heading value path new)

-- places below a count, each once
abbrev AreOnce : ℕ → List ℕ → Type 0
AreOnce count places = IsDistinct nat_eq places × All (λ place. place < count) places

once_more : (count : ℕ) (found : List ℕ) (place : ℕ) → AreOnce count found → (place < count) × (is_among place found ≡ false) → AreOnce count (found ++ place ∷ [])
once_more count found place once is = (IsDistinct-push nat_eq_equiv found place once.0 is.1, All-push (λ place. place < count) found place once.1 is.0)

places_valid : (path : List ℕ) (ids : List (List ℕ)) (values : List Data) → length values ≤ 2000 → Holds (ArePlaces (length ids)) (new_references_in path ids values)
unfolding new_references_in
places_valid path ids values few =
    weaker
    (each_holds (next_new_reference_in path ids) (AreOnce (length ids)) (λ found value once. weaker (new_reference_in_holds value (element_path path (length found)) ids found) (λ place is. once_more (length ids) found place once is)) values [] (none_distinct nat_eq, All-nil (λ place. place < length ids)))
    (λ places all. record { few = omega (arith, all.1, few); distinct = all.0.0; each = all.0.1 })

style_places_valid : (named : List Named) (value : Data) (path name : List ℕ) → Holds (ArePlaces (length named)) (style_places_in named value path name)
unfolding style_places_in
style_places_valid named value path name =
    then (list_member_holds value path name 2000) (λ values few. rw (length-map named (λ (one : Named). one.id)) at (places_valid (member_path path name) (named_ids named) values few))

style_valid : (parties districts precincts : List Named) (path : List ℕ) (ids : List (List ℕ)) (value : Data) → Holds (IsOneMore (λ (one : Style). one.id) (IsStyle (length parties) (length districts) (length precincts)) ids) (style_at parties districts precincts path ids value)
unfolding style_at
style_valid parties districts precincts path ids value =
    then (id_member_holds value path ids) (λ id new.
    then (style_places_valid precincts value path (codes "precincts")) (λ its_precincts are.
    then (style_places_valid districts value path (codes "districts")) (λ its_districts others.
    then (optional_reference_holds value path (codes "partyId") (named_ids parties)) (λ party is.
    given (record { id = new.0; precincts = are; districts = others; party = rw (length-map parties (λ (one : Named). one.id)) at is }, new.1)))))

in_order : (marg def : ℕ) → are_in_order marg def ≡ true → (13 ≤ marg) × (marg < def)
in_order marg def e = (grind (arith, nat_tests), grind (arith, nat_tests))

pixels_at_most : (thousandths : ℕ) → thousandths ≤ 1000 → pixels_of thousandths ≤ inner_pixels
pixels_at_most thousandths h = omega (arith, h)

stated_thresholds_valid : (value : Data) (path : List ℕ) → Holds AreThresholds (stated_thresholds_in value path)
unfolding stated_thresholds_in
stated_thresholds_valid value path =
    then (whole_member_holds value path (codes "definite") 1 1000) (λ definite within. after (whole_member value path (codes "marginal") 1 1000) (λ marginal.
    where_true (are_in_order (pixels_of marginal) (pixels_of definite)) _ _ (λ e. let order = in_order (pixels_of marginal) (pixels_of definite) e in record { low = order.0; order = order.1; high = pixels_at_most definite within.1 })))

thresholds_valid : (value : Data) → Holds AreThresholds (thresholds_in value)
unfolding thresholds_in
thresholds_valid value =
    optional_holds (get names.mark_thousandths value) _ default_thresholds (record { low = lit≤ tt; order = lit≤ tt; high = lit≤ tt }) (λ member. stated_thresholds_valid member names.mark_thousandths)

-- a set of reasons with MarginalMark
stated_reasons_valid : (value : Data) (path : List ℕ) → Holds (λ reasons. has_reason reasons MarginalMark ≡ true) (stated_reasons_in value path)
unfolding stated_reasons_in
stated_reasons_valid value path = after (list_up_to value path 5) (λ list. after (reason_list_in path list) (λ reasons. given refl))

reasons_valid : (value : Data) → Holds (λ reasons. has_reason reasons MarginalMark ≡ true) (reasons_in value)
unfolding reasons_in
reasons_valid value =
    optional_holds (get (codes "vxReasons") value) _ default_reasons refl (λ member. stated_reasons_valid member (codes "vxReasons"))

date_in_valid : (value : Data) (path : List ℕ) → Holds (λ date. is_date date ≡ true) (date_in value path)
unfolding date_in
date_in_valid value path = after (of_json (string_in value path)) (λ text. where_true (is_date text) text _ (λ is. is))

date_valid : (value : Data) → Holds (λ date. is_date date ≡ true) (date_member value)
unfolding date_member
date_valid value = after (of_json (need_in value [] (codes "date"))) (λ member. date_in_valid member (codes "date"))

parties_valid : (value : Data) → Holds (AreNamed 200) (parties_in value)
unfolding parties_in
parties_valid value =
    then (optional_list_holds value [] (codes "parties") 200) (λ values few. named_list_valid 200 (codes "parties") values few)

named_member_valid : (value : Data) (name : List ℕ) → Holds (AreNamed 2000) (named_member value name)
unfolding named_member
named_member_valid value name =
    then (list_member_holds value [] name 2000) (λ values few. named_list_valid 2000 name values few)

contests_valid : (parties districts : List Named) (value : Data) → Holds (AreContests (length parties) (length districts)) (contests_member parties districts value)
unfolding contests_member contests_in
contests_valid parties districts value =
    let at = codes "contests" in
    then (list_member_holds value [] at 500) (λ values few.
    weaker
    (all_kept (λ (one : Contest). one.id) (IsContest (length parties) (length districts)) (contest_in parties districts at) (λ found element. contest_valid parties districts (element_path at (length found)) (contest_ids found) element) 500 values few)
    (λ list all. record { few = all.0; distinct = all.1.distinct; each = all.1.each }))

styles_valid : (parties districts precincts : List Named) (value : Data) → Holds (AreStyles (length parties) (length districts) (length precincts)) (styles_member parties districts precincts value)
unfolding styles_member styles_in
styles_valid parties districts precincts value =
    let at = names.ballot_styles in
    let Is : Style → Type 0 = IsStyle (length parties) (length districts) (length precincts) in
    then (list_member_holds value [] at 1000) (λ values few.
    then (all_kept (λ (one : Style). one.id) Is (style_in parties districts precincts at) (λ found element. style_valid parties districts precincts (element_path at (length found)) (style_ids found) element) 1000 values few) (λ styles all.
    where_true (nat_le (card_count styles) 1024) styles _ (λ e. record { few = all.0; distinct = all.1.distinct; each = all.1.each; cards = at_most-from_yes (card_count styles) 1024 e })))

-- a title and a day
record IsOpening (opening : Opening) : Type 0 where
  title : IsText 1 256 opening.title
  date : is_date opening.date ≡ true

opening_valid : (value : Data) → Holds IsOpening (opening_in value)
unfolding opening_in
opening_valid value =
    then (text_member_holds value [] (codes "title") 1 256) (λ title is_title.
    then (date_valid value) (λ date is_day. after (optional_text value [] (codes "state") 0 256 []) (λ state.
    given (record { title = is_title; date = is_day }))))

-- lists that others refer to
record AreDirectories (lists : Directories) : Type 0 where
  parties : AreNamed 200 lists.parties
  districts : AreNamed 2000 lists.districts
  precincts : AreNamed 2000 lists.precincts

directories_valid : (value : Data) → Holds AreDirectories (directories_in value)
unfolding directories_in
directories_valid value =
    then (parties_valid value) (λ parties are_parties.
    then (named_member_valid value (codes "districts")) (λ districts are_districts.
    then (named_member_valid value (codes "precincts")) (λ precincts are_precincts.
    given (record { parties = are_parties; districts = are_districts; precincts = are_precincts }))))

-- rules of reading
record AreRules (rules : Rules) : Type 0 where
  thresholds : AreThresholds rules.thresholds
  reasons : has_reason rules.reasons MarginalMark ≡ true

rules_valid : (value : Data) → Holds AreRules (rules_in value)
unfolding rules_in
rules_valid value =
    then (thresholds_valid value) (λ thresholds are_thresholds.
    then (reasons_valid value) (λ reasons are_reasons. after (paper_in value) (λ paper.
    given (record { thresholds = are_thresholds; reasons = are_reasons }))))

-- an election that was read is valid
pub election_valid : (digest : List ℕ) (value : Data) → Holds IsValid (election_in digest value)
unfolding election_in
election_valid digest value =
    then (opening_valid value) (λ opening is_opening.
    then (directories_valid value) (λ lists are_lists.
    then (contests_valid lists.parties lists.districts value) (λ contests are_contests.
    then (styles_valid lists.parties lists.districts lists.precincts value) (λ styles are_styles.
    then (rules_valid value) (λ rules are_rules.
    given (record {
      title = is_opening.title;
      date = is_opening.date;
      parties = are_lists.parties;
      districts = are_lists.districts;
      precincts = are_lists.precincts;
      contests = are_contests;
      styles = are_styles;
      thresholds = are_rules.thresholds;
      reasons = are_rules.reasons;
    }))))))
