-- What a record is read as: its event; or how long the longest front of it is that begins a record.
-- The same of headers.
use Rattle.std.specs.Prelude.{ℕ, zero, suc, ◌+◌, ◌-◌, ◌*◌, ◌==◌, ◌&&◌, ◌||◌, Bool, true, false, List, [], ◌∷◌, length, map, min, nat_le, nat_lt, codes, if◌then◌else◌, Result, Ok, Err}
use Rattle.vx_base.specs.Results.{◌>>=◌}
use Rattle.vx_json.specs.Reading.{is_within}
use Rattle.vx_grid.specs.Kinds.{kind_word}
use Rattle.vx_grid.specs.declared.kind.Kind.{Kind}
use Rattle.vx_grid.specs.declared.kind.Kind.TheVariants.{Precinct, Absentee, Provisional, Other}
use Rattle.vx_grid.specs.declared.state.State.{State}
use Rattle.vx_grid.specs.declared.state.State.TheVariants.{Marked, Marginal, Clear}
use Rattle.vx_rules.specs.declared.marks.ContestMarks.{ContestMarks}
use Rattle.vx_events.specs.declared.decision.Decision.{Decision}
use Rattle.vx_events.specs.declared.decision.Decision.TheVariants.{Selections, RuledOvervote, AcceptRead, NameWriteIn}
use Rattle.vx_events.specs.declared.decision.WriteInName.{WriteInName}
use Rattle.vx_events.specs.declared.decision.WriteInName.TheVariants.{Words, Candidate}
use Rattle.vx_events.specs.declared.event.Event.{Event}
use Rattle.vx_events.specs.declared.event.Event.TheVariants.{Add, Claim, Release, Decide}
use Rattle.vx_events.specs.declared.key.Key.{Key}
use Rattle.vx_events.specs.Fits.{is_batch_character}
use Rattle.vx_records.specs.declared.acts.Act.{Act}
use Rattle.vx_records.specs.declared.acts.Act.TheVariants.{AddSheet, ClaimSheet, ReleaseSheet, DecideContest}
use Rattle.vx_records.specs.declared.acts.Ruling.{Ruling}
use Rattle.vx_records.specs.declared.acts.Ruling.TheVariants.{Select, Overvote, Accept, Name}
use Rattle.vx_records.specs.declared.numbers.Numbers.{Numbers}
use Rattle.vx_records.specs.declared.numbers.Numbers.TheVariants.{Between, Fronts}
use Rattle.vx_records.specs.declared.sheets.Head.{Head}
use Rattle.vx_records.specs.declared.sheets.Room.{Room}
use Rattle.vx_records.specs.Letters.{is_hex, is_state_letter}
use Rattle.vx_records.specs.Parts.{Found, Read, found, stop, word_in, choice_in, first_is, followed_by, ended_at, ended, letters_in, each_in}
use Rattle.vx_records.specs.Numbers.{number_in}
use Rattle.vx_records.specs.Characters.{words_in}

-- how a record of each kind begins
abbrev pub act_word : Act → List ℕ
act_word AddSheet = codes "1 add "
act_word ClaimSheet = codes "1 claim "
act_word ReleaseSheet = codes "1 release "
act_word (DecideContest Select) = codes "1 select "
act_word (DecideContest Overvote) = codes "1 overvote "
act_word (DecideContest Accept) = codes "1 accept "
act_word (DecideContest Name) = codes "1 name "

abbrev pub acts : List Act
acts =
    AddSheet ∷ ClaimSheet ∷ ReleaseSheet
    ∷ DecideContest Select ∷ DecideContest Overvote ∷ DecideContest Accept ∷ DecideContest Name ∷ []

-- S, B and N with a blank behind each
unfoldable pub station_in : List ℕ → Read ℕ
station_in text = followed_by 32 (number_in (Between 1 9999) text)

unfoldable pub batch_in : List ℕ → Read (List ℕ)
batch_in text = followed_by 32 (letters_in is_batch_character 1 32 text)

unfoldable pub key_in : List ℕ → Read Key
key_in text = do
  batch ← batch_in text
  number ← number_in (Between 1 999999) batch.rest
  found (record { batch = batch.value; number = number.value }) number.rest

-- `S B N` and nothing more
unfoldable pub claim_in : List ℕ → Read (ℕ × Key)
claim_in text = do
  station ← station_in text
  key ← ended (key_in station.rest)
  found (station.value, key.value) key.rest

-- an option from `least` on, behind a comma
unfoldable pub option_in : ℕ → List ℕ → Read ℕ
option_in least text =
    if nat_lt least 1000
    then (word_in (44 ∷ []) text >>= λ comma. number_in (Between least 999) comma.rest)
    else stop text

abbrev pub next_option : ℕ → ℕ → ℕ → ℕ
next_option least option spent = option + 1

-- options that ascend, with commas between
unfoldable pub some_options_in : List ℕ → Read (List ℕ)
some_options_in text = do
  first ← number_in (Between 0 999) text
  more ← each_in option_in next_option 1000 (first.value + 1) first.rest
  found (first.value ∷ more.value) more.rest

unfoldable pub no_options_in : List ℕ → Read (List ℕ)
no_options_in text = word_in (45 ∷ []) text >>= λ none. ended_at [] none.rest

-- OPTIONS, or `-` for none
unfoldable pub options_in : List ℕ → Read (List ℕ)
options_in text = if first_is 45 text then no_options_in text else some_options_in text

unfoldable pub select_in : List ℕ → Read Decision
select_in text = do
  blank ← word_in (32 ∷ []) text
  options ← options_in blank.rest
  found (Selections options.value) options.rest

-- `text WORDS`, `candidate O`
unfoldable pub text_name_in : List ℕ → Read WriteInName
text_name_in text = do
  word ← word_in (codes "text ") text
  words ← words_in word.rest
  found (Words words.value) words.rest

unfoldable pub candidate_in : List ℕ → Read WriteInName
candidate_in text = do
  word ← word_in (codes "candidate ") text
  number ← ended (number_in (Between 0 999) word.rest)
  found (Candidate number.value) number.rest

unfoldable pub written_in : List ℕ → Read WriteInName
written_in text = if first_is 116 text then text_name_in text else candidate_in text

unfoldable pub name_in : List ℕ → Read Decision
name_in text = do
  blank ← word_in (32 ∷ []) text
  slot ← followed_by 32 (number_in (Between 0 999) blank.rest)
  name ← written_in slot.rest
  found (NameWriteIn slot.value name.value) name.rest

-- what stands behind the contest
abbrev pub decision_in : Ruling → List ℕ → Read Decision
decision_in Select text = select_in text
decision_in Overvote text = ended_at RuledOvervote text
decision_in Accept text = ended_at AcceptRead text
decision_in Name text = name_in text

-- `S B N C`, and what is decided of the contest
unfoldable pub decide_in : Ruling → List ℕ → Read Event
decide_in ruling text = do
  station ← station_in text
  key ← followed_by 32 (key_in station.rest)
  contest ← number_in (Between 0 499) key.rest
  decision ← decision_in ruling contest.rest
  found (Decide station.value key.value contest.value decision.value) decision.rest

-- kinds of ballots
abbrev pub kinds : List (Kind × Bool)
kinds =
    (Precinct, false) ∷ (Absentee, false) ∷ (Provisional, false) ∷ (Other, false)
    ∷ (Precinct, true) ∷ (Absentee, true) ∷ (Provisional, true) ∷ (Other, true) ∷ []

abbrev pub kind_text : Kind × Bool → List ℕ
kind_text kind = kind_word kind.0 kind.1

abbrev pub made_head : Key → ℕ → ℕ → Kind × Bool → Head
made_head key card front kind = record { key = key; card = card; front = front; kind = kind.0; test = kind.1 }

-- B, N, CARD, FRONT and KIND
unfoldable pub head_in : List ℕ → Read Head
head_in text = do
  key ← followed_by 32 (key_in text)
  card ← followed_by 32 (number_in (Between 0 1023) key.rest)
  front ← followed_by 32 (number_in Fronts card.rest)
  kind ← choice_in kind_text kinds front.rest
  found (made_head key.value card.value front.value kind.value) kind.rest

-- what a letter says
abbrev pub state_of : ℕ → State
state_of b = if b == 109 then Marked else if b == 103 then Marginal else Clear

-- the greatest contest that there is room for, with a blank, a colon and a state
abbrev pub most_contest : ℕ → ℕ
most_contest room = if room == 4 then 9 else if room == 5 then 99 else 499

-- the letters of a contest's states in at most `room` bytes
unfoldable pub states_in : ℕ → List ℕ → Read (List State)
states_in room text =
    letters_in is_state_letter 1 (min room 150) text >>= λ letters.
    found (map state_of letters.value) letters.rest

-- a contest from `least` on, behind a blank, in at most `room` bytes
unfoldable pub contest_in : Room → List ℕ → Read ContestMarks
contest_in place text =
    if nat_le 4 place.room && nat_le place.least (most_contest place.room) then (do
      blank ← word_in (32 ∷ []) text
      contest ← followed_by 58 (number_in (Between place.least (most_contest place.room)) blank.rest)
      states ← states_in (place.room - 1 - (length blank.rest - length contest.rest)) contest.rest
      found (record { contest = contest.value; states = states.value }) states.rest)
    else stop text

abbrev pub next_room : Room → ContestMarks → ℕ → Room
next_room place marks spent = record { least = marks.contest + 1; room = place.room - spent }

-- the room for contests where a sheet's front part took so many bytes: of the 16,384 bytes of a
-- record its first word has taken 6
abbrev pub room_of : ℕ → Room
room_of spent = record { least = 0; room = 16378 - spent }

abbrev pub made_add : Head → List ContestMarks → Event
made_add head contests =
    Add head.key (record { card = head.card; front = head.front; kind = head.kind; test = head.test; contests = contests })

-- an added sheet
unfoldable pub add_in : List ℕ → Read Event
add_in text = do
  head ← head_in text
  contests ← each_in contest_in next_room 500 (room_of (length text - length head.rest)) head.rest
  found (made_add head.value contests.value) contests.rest

-- what stands behind a record's first word
abbrev pub act_in : Act → List ℕ → Read Event
act_in AddSheet text = add_in text
act_in ClaimSheet text = claim_in text >>= λ x. found (Claim x.value.0 x.value.1) x.rest
act_in ReleaseSheet text = claim_in text >>= λ x. found (Release x.value.0 x.value.1) x.rest
act_in (DecideContest ruling) text = decide_in ruling text

unfoldable pub record_in : List ℕ → Read Event
record_in body = choice_in act_word acts body >>= λ act. act_in act.value act.rest

-- what pairs of hex digits say
abbrev pub hex_value : ℕ → ℕ
hex_value b = if nat_le b 57 then b - 48 else b - 87

unfoldable pub bytes_of : List ℕ → List ℕ
bytes_of [] = []
bytes_of (high ∷ []) = []
bytes_of (high ∷ low ∷ hex) = (hex_value high * 16 + hex_value low) ∷ bytes_of hex

-- how a header begins
unfoldable pub header_word : List ℕ
header_word = codes "1 election "

unfoldable pub header_in : List ℕ → Read (List ℕ)
header_in body = do
  word ← word_in header_word body
  hex ← ended (letters_in is_hex 64 64 word.rest)
  found (bytes_of hex.value) hex.rest

-- the value; or how many bytes begin what is looked for
abbrev pub value_in : {A : Type 0} → List ℕ → Read A → Result A ℕ
value_in body (Ok x) = Ok x.value
value_in body (Err left) = Err (length body - left)

-- the event of a record that isn't the journal's first
unfoldable pub event_in : List ℕ → Result Event ℕ
event_in body = value_in body (record_in body)

-- the digest that the journal's first record names
unfoldable pub digest_in : List ℕ → Result (List ℕ) ℕ
digest_in body = value_in body (header_in body)
