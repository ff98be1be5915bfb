-- Contests and their candidates.
use Rattle.std.specs.Prelude.{ℕ, Bool, true, false, List, [], ◌∷◌, ◌++◌, length, map, nat_le, slice_index_or, chars, bytes_eq, if◌then◌else◌, Option, Some, None, Result, Ok, Err, codes, is_some, ok_or}
use Rattle.serde_json.specs.Data.{Data}
use Rattle.serde_json.specs.Find.{get, as_object}
use Rattle.vx_json.specs.Paths.{member_path, element_path}
use Rattle.vx_base.specs.Results.{◌>>=◌}
use Rattle.vx_json.specs.Reading.{need_in, string_in}
use Rattle.vx_election.specs.declared.fault.ElectionFault.{ElectionFault}
use Rattle.vx_election.specs.declared.fault.ElectionFault.TheVariants.{WrongKind, OutOfRange}
use Rattle.vx_election_model.specs.declared.named.Named.{Named}
use Rattle.vx_election_model.specs.declared.choice.Choice.{Choice}
use Rattle.vx_election_model.specs.declared.contest.Contest.{Contest}
use Rattle.vx_election.specs.declared.contests.Heading.{Heading}
use Rattle.vx_election.specs.declared.contests.Leave.{Leave}
use Rattle.vx_election.specs.declared.contests.Voting.{Voting}
use Rattle.vx_election.specs.declared.contests.Question.{Question}
use Rattle.vx_election.specs.Names as names
use Rattle.vx_election.specs.Faults.{of_json}
use Rattle.vx_election.specs.Members.{optional, id_member, text_member, whole_member, reference_member, optional_text, optional_flag, optional_reference, list_member, optional_list, each_of}
use Rattle.vx_election_model.specs.Lists.{named_ids}
use Rattle.vx_election.specs.Parts.{references_in}
use Rattle.vx_election_model.specs.Lists.{choice_ids, contest_ids}
use Rattle.vx_election_model.specs.Labels.{label_limit, answer_of}

-- the name of the party at a place
abbrev pub name_at : List Named → ℕ → List ℕ
name_at parties place = (slice_index_or parties place (record { id = []; name = [] })).name

-- a name followed, for each of its parties in order, by a comma, a blank and the party's name
abbrev pub with_parties : List Named → List ℕ → List ℕ → List ℕ
with_parties parties name [] = name
with_parties parties name (place ∷ places) = with_parties parties (name ++ 44 ∷ 32 ∷ name_at parties place) places

-- a candidate's label: the name with its parties where that has at most 58 characters, else the name alone
unfoldable pub label_of : List Named → List ℕ → List ℕ → List ℕ
label_of parties name places = if nat_le (length (chars (with_parties parties name places))) label_limit then with_parties parties name places else name

-- the parties of a candidate
unfoldable pub affiliations_in : List Named → Data → List ℕ → Result (List ℕ) ElectionFault
affiliations_in parties value path = do
  list ← optional_list value path (codes "partyIds") 10
  references_in (member_path path (codes "partyIds")) (named_ids parties) list

-- a candidate with an id that none of those has
unfoldable pub candidate_at : List Named → List ℕ → List (List ℕ) → Data → Result Choice ElectionFault
candidate_at parties path ids value = do
  id ← id_member value path ids
  name ← text_member value path (codes "name") 1 256
  places ← affiliations_in parties value path
  Ok (record { id = id; label = label_of parties name places; name = name })

-- the same, after those before it in its contest
abbrev pub candidate_in : List Named → List ℕ → List Choice → Data → Result Choice ElectionFault
candidate_in parties path found value = candidate_at parties (element_path path (length found)) (choice_ids found) value

-- the elements of a list of candidates
unfoldable pub candidate_list_in : List Named → List ℕ → List Data → Result (List Choice) ElectionFault
candidate_list_in parties path list = each_of (candidate_in parties path) [] list

-- the candidates of a contest
unfoldable pub candidates_in : List Named → Data → List ℕ → Result (List Choice) ElectionFault
candidates_in parties value path = do
  list ← list_member value path (codes "candidates") 100
  candidate_list_in parties (member_path path (codes "candidates")) list

-- whether a contest is answered by yes or no, by its type
abbrev pub kind_of : List ℕ → Option Bool
kind_of text = if bytes_eq text (codes "candidate") then Some false else if bytes_eq text (codes "yesno") then Some true else None

-- the type of a contest
unfoldable pub kind_in : Data → List ℕ → Result Bool ElectionFault
kind_in value path = do
  member ← of_json (need_in value path (codes "type"))
  text ← of_json (string_in member (member_path path (codes "type")))
  ok_or (kind_of text) (OutOfRange (member_path path (codes "type")))

-- the members that each contest begins with
unfoldable pub heading_in : List Named → List (List ℕ) → Data → List ℕ → Result Heading ElectionFault
heading_in districts ids value path = do
  id ← id_member value path ids
  kind ← kind_in value path
  district ← reference_member value path (codes "districtId") (named_ids districts)
  title ← text_member value path (codes "title") 1 256
  Ok (record { id = id; is_yes_no = kind; district = district; title = title })

-- whether write-ins are allowed, and the party of a contest of candidates
unfoldable pub leave_in : List Named → Data → List ℕ → Result Leave ElectionFault
leave_in parties value path = do
  write_ins ← optional_flag value path names.allow_write_ins
  party ← optional_reference value path (codes "partyId") (named_ids parties)
  Ok (record { write_ins = write_ins; party = party })

-- the members that a contest of candidates goes on with
unfoldable pub voting_in : List Named → Data → List ℕ → Result Voting ElectionFault
voting_in parties value path = do
  seats ← whole_member value path (codes "seats") 1 50
  choices ← candidates_in parties value path
  leave ← leave_in parties value path
  Ok (record { seats = seats; choices = choices; leave = leave })

-- a contest of candidates
abbrev pub candidate_contest : Heading → Voting → Contest
candidate_contest heading voting = record { id = heading.id; title = heading.title; description = []; district = heading.district; party = voting.leave.party; seats = voting.seats; choices = voting.choices; write_ins = voting.leave.write_ins; is_yes_no = false }

-- the label in an object
unfoldable pub label_in : List ℕ → Data → List ℕ → Result (List ℕ) ElectionFault
label_in otherwise value path = if is_some (as_object value) then optional_text value path (codes "label") 1 256 otherwise else Err (WrongKind path)

-- the label of an answer
unfoldable pub answer_label_in : Data → List ℕ → List ℕ → List ℕ → Result (List ℕ) ElectionFault
answer_label_in value path name otherwise = optional (get name value) (λ member. label_in otherwise member (member_path path name)) otherwise

-- an answer under its member
unfoldable pub answer_in : Data → List ℕ → List ℕ → List ℕ → List ℕ → Result Choice ElectionFault
answer_in value path name id otherwise = do
  label ← answer_label_in value path name otherwise
  Ok (answer_of id label)

-- the two answers, yes before no
unfoldable pub answers_in : Data → List ℕ → Result (List Choice) ElectionFault
answers_in value path = do
  first ← answer_in value path (codes "yesOption") (codes "yes") (codes "Yes")
  second ← answer_in value path (codes "noOption") (codes "no") (codes "No")
  Ok (first ∷ second ∷ [])

-- the members that a yes/no contest goes on with
unfoldable pub question_in : Data → List ℕ → Result Question ElectionFault
question_in value path = do
  description ← optional_text value path names.description 0 10000 []
  answers ← answers_in value path
  Ok (record { description = description; answers = answers })

-- a contest that is answered by yes or no
abbrev pub yes_no_contest : Heading → Question → Contest
yes_no_contest heading question = record { id = heading.id; title = heading.title; description = question.description; district = heading.district; party = None; seats = 1; choices = question.answers; write_ins = false; is_yes_no = true }

-- a contest with an id that none of those has
unfoldable pub contest_at : List Named → List Named → List ℕ → List (List ℕ) → Data → Result Contest ElectionFault
contest_at parties districts path ids value = do
  heading ← heading_in districts ids value path
  if heading.is_yes_no then (question_in value path >>= λ question. Ok (yes_no_contest heading question)) else (voting_in parties value path >>= λ voting. Ok (candidate_contest heading voting))

-- the same, after those before it
abbrev pub contest_in : List Named → List Named → List ℕ → List Contest → Data → Result Contest ElectionFault
contest_in parties districts path found value = contest_at parties districts (element_path path (length found)) (contest_ids found) value

-- the contests
unfoldable pub contests_in : List Named → List Named → List ℕ → List Data → Result (List Contest) ElectionFault
contests_in parties districts path list = each_of (contest_in parties districts path) [] list
