-- What a line says has a record: it is no Add, its words are UTF-8, and the record is short.
use Rattle.std.proofs.Common.{◌≡◌, ◌<◌, ◌≤◌, ◌+◌, ◌^◌, ℕ, suc, Bool, true, false, cond, List, [], ◌∷◌, ◌++◌, length, drop, get_or, Option, Some, None, refl, sym, ap, subst, ◌∙◌, arith, add-one, length-append, ◌*◌, lit<, lit≤}
use Rattle.std.specs.Prelude.{◌&&◌, bytes_eq, codes, nat_le, nat_lt}
use Rattle.std.specs.List.{flat_map, join_with_byte, list_all}
use Rattle.std.specs.Fmt.{decimal}
use Rattle.std.specs.Str.{IsUtf8, is_utf8}
use Rattle.std.proofs.lemmas.Bool.{leb-true, ltb-true, and_parts}
use Rattle.std.proofs.lemmas.Fmt.{length-decimal-le}
use Rattle.std.proofs.lemmas.List.Splits.{join_with_byte-slice_split}
use Rattle.std.proofs.lemmas.Str.{IsUtf8-nil, IsUtf8-drop, IsUtf8-from_is_utf8, IsCharBoundary-after_ascii}
use Rattle.vx_json.specs.Reading.{is_within}
use Rattle.vx_election_model.specs.declared.election.Election.{Election}
use Rattle.vx_events.specs.declared.decision.Decision.{Decision}
use Rattle.vx_events.specs.declared.decision.Decision.TheVariants.{Selections, RuledOvervote, AcceptRead, NameWriteIn}
use Rattle.vx_events.specs.declared.decision.WriteInName.{WriteInName}
use Rattle.vx_events.specs.declared.decision.WriteInName.TheVariants.{Words, Candidate}
use Rattle.vx_events.specs.declared.event.Event.{Event}
use Rattle.vx_events.specs.declared.event.Event.TheVariants.{Add, Claim, Release, Decide}
use Rattle.vx_events.specs.declared.key.Key.{Key}
use Rattle.vx_events.specs.Ascending.{ascends_from, is_ascending}
use Rattle.vx_events.specs.Fits.{Fits, fits, is_batch, is_batch_character, is_decision, is_key, is_name, is_name_byte, is_station}
use Rattle.vx_records.specs.Held.{DecidesWords, HasWords, IsHeld, IsWritten, is_in_range}
use Rattle.vx_records.specs.Records.{decision_name, decision_words, name_words, options_word, record_of, spaced, words_of as record_words}
use Rattle.vx_script.specs.declared.verbs.Verb.{Verb}
use Rattle.vx_script.specs.declared.verbs.Verb.TheVariants as verb
use Rattle.vx_script.specs.Options.{and_then, number_in, options_in}
use Rattle.vx_script.specs.Script.{asked_in, contest_in, deciding_in, decision_in, ended, event_in, first_read, first_word, in_range, name_of, naming_in, said_in, verb_in, words_of}

-- what was done with something that is there
bound : {A B : Type 0} (o : Option A) (f : A → Option B) (y : B) → and_then o f ≡ Some y → (x : A) × (o ≡ Some x) × (f x ≡ Some y)
bound None f y is = absurd cc
bound (Some x) f y is = (x, refl, is)

-- words that are UTF-8 together
IsText : List (List ℕ) → Type 0
IsText words = IsUtf8 (join_with_byte 32 words)

seam : (a b : List ℕ) → (get_or (a ++ 32 ∷ b) (length a) 0 ≡ 32) × (drop (suc (length a)) (a ++ 32 ∷ b) ≡ b) × (length a < length (a ++ 32 ∷ b))
seam [] b = (refl, refl, omega arith)
seam (x ∷ a) b = let further = seam a b in (further.0, further.1, omega (arith, further.2))

behind_blank : (a b : List ℕ) → IsUtf8 (a ++ 32 ∷ b) → IsUtf8 b
behind_blank a b text =
    let at = seam a b in
    let Utf8 : List ℕ → Type 0 = λ some. IsUtf8 some in
    subst Utf8 (ap (λ (n : ℕ). drop n (a ++ 32 ∷ b)) (add-one (length a)) ∙ at.1)
    (IsUtf8-drop (a ++ 32 ∷ b) (length a + 1) text (IsCharBoundary-after_ascii (a ++ 32 ∷ b) (length a) text at.2 (omega (arith, at.0))))

behind_word : (word : List ℕ) (words : List (List ℕ)) → IsText (word ∷ words) → IsText words
unfolding IsText
behind_word word [] text = IsUtf8-nil
behind_word word (other ∷ words) text = behind_blank word (join_with_byte 32 (other ∷ words)) text

first_is : (words : List (List ℕ)) (first : List ℕ × List (List ℕ)) → first_word words ≡ Some first → IsText words → IsText first.1
first_is [] first is text = absurd cc
first_is (word ∷ words) first is text =
    let Text : List ℕ × List (List ℕ) → Type 0 = λ some. IsText some.1 in
    let same : (word, words) ≡ first = cc in
    subst Text same (behind_word word words text)

read_is : {A : Type 0} (read : List ℕ → Option A) (words : List (List ℕ)) (first : A × List (List ℕ)) → first_read read words ≡ Some first → IsText words → IsText first.1
read_is {A} read words first is text =
    let one = bound (first_word words) (λ word. and_then (read word.0) (λ said. Some (said, word.1))) first is in
    let two = bound (read one.0.0) (λ said. Some (said, one.0.1)) first one.2 in
    let Text : A × List (List ℕ) → Type 0 = λ some. IsText some.1 in
    let same : (two.0, one.0.1) ≡ first = cc in
    subst Text same (first_is words one.0 one.1 text)

ended_is : {A : Type 0} (words : List (List ℕ)) (x y : A) → ended words x ≡ Some y → x ≡ y
ended_is [] x y is = cc
ended_is (word ∷ words) x y is = absurd cc

-- what an event is that a line says
abbrev IsSaid : Event → Type 0
IsSaid (Add key sheet) = ⊥
IsSaid (Claim station key) = Unit {0}
IsSaid (Release station key) = Unit {0}
IsSaid (Decide station key contest decision) = DecidesWords decision

name_said : (form_is_text form_is_candidate : Bool) (words : List (List ℕ)) (name : WriteInName) → cond form_is_text (Some (Words (join_with_byte 32 words))) (cond form_is_candidate (and_then (first_read (number_in 999) words) (λ number. ended number.1 (Candidate number.0))) None) ≡ Some name → IsText words → HasWords name
unfolding IsText
name_said true form_is_candidate words name is text =
    let same : Words (join_with_byte 32 words) ≡ name = cc in
    subst HasWords same text
name_said false true words name is text =
    let one = bound (first_read (number_in 999) words) (λ number. ended number.1 (Candidate number.0)) name is in
    subst HasWords (ended_is one.0.1 (Candidate one.0.0) name one.2) tt
name_said false false words name is text = absurd cc

naming_said : (words : List (List ℕ)) (decision : Decision) → naming_in words ≡ Some decision → IsText words → DecidesWords decision
naming_said words decision is text =
    let slot = bound (first_read (number_in 999) words) (λ slot. and_then (first_word slot.1) (λ form. and_then (name_of form.0 form.1) (λ name. Some (NameWriteIn slot.0 name)))) decision is in
    let form = bound (first_word slot.0.1) (λ form. and_then (name_of form.0 form.1) (λ name. Some (NameWriteIn slot.0.0 name))) decision slot.2 in
    let name = bound (name_of form.0.0 form.0.1) (λ name. Some (NameWriteIn slot.0.0 name)) decision form.2 in
    let same : NameWriteIn slot.0.0 name.0 ≡ decision = cc in
    subst DecidesWords same
    (name_said (bytes_eq form.0.0 (codes "text")) (bytes_eq form.0.0 (codes "candidate")) form.0.1 name.0 name.1
    (first_is slot.0.1 form.0 form.1 (read_is (number_in 999) words slot.0 slot.1 text)))

decision_said : (act : Verb) (words : List (List ℕ)) (decision : Decision) → decision_in act words ≡ Some decision → IsText words → DecidesWords decision
decision_said verb.Claim words decision is text = absurd cc
decision_said verb.Release words decision is text = absurd cc
decision_said verb.Select words decision is text =
    let options = bound (options_in words) (λ options. Some (Selections options)) decision is in
    let same : Selections options.0 ≡ decision = cc in
    subst DecidesWords same tt
decision_said verb.Overvote words decision is text = subst DecidesWords (ended_is words RuledOvervote decision is) tt
decision_said verb.Accept words decision is text = subst DecidesWords (ended_is words AcceptRead decision is) tt
decision_said verb.Name words decision is text = naming_said words decision is text

deciding_said : (election : Election) (act : Verb) (station : ℕ) (key : Key) (words : List (List ℕ)) (event : Event) → deciding_in election act station key words ≡ Some event → IsText words → IsSaid event
deciding_said election act station key words event is text =
    let contest = bound (first_read (contest_in election) words) (λ contest. and_then (decision_in act contest.1) (λ decision. Some (Decide station key contest.0 decision))) event is in
    let decision = bound (decision_in act contest.0.1) (λ decision. Some (Decide station key contest.0.0 decision)) event contest.2 in
    let same : Decide station key contest.0.0 decision.0 ≡ event = cc in
    subst IsSaid same (decision_said act contest.0.1 decision.0 decision.1 (read_is (contest_in election) words contest.0 contest.1 text))

asked_said : (election : Election) (act : Verb) (station : ℕ) (key : Key) (words : List (List ℕ)) (event : Event) → asked_in election act station key words ≡ Some event → IsText words → IsSaid event
asked_said election verb.Claim station key words event is text = subst IsSaid (ended_is words (Claim station key) event is) tt
asked_said election verb.Release station key words event is text = subst IsSaid (ended_is words (Release station key) event is) tt
asked_said election verb.Select station key words event is text = deciding_said election verb.Select station key words event is text
asked_said election verb.Overvote station key words event is text = deciding_said election verb.Overvote station key words event is text
asked_said election verb.Accept station key words event is text = deciding_said election verb.Accept station key words event is text
asked_said election verb.Name station key words event is text = deciding_said election verb.Name station key words event is text

words_said : (election : Election) (words : List (List ℕ)) (event : Event) → said_in election words ≡ Some event → IsText words → IsSaid event
words_said election words event is text =
    let keyed = λ (act : Verb) (station : ℕ) (batch : List ℕ) (number : ℕ × List (List ℕ)). asked_in election act station (record { batch = batch; number = number.0 }) number.1 in
    let act = bound (first_read verb_in words) (λ act. and_then (first_read (number_in 9999) act.1) (λ station. and_then (first_word station.1) (λ batch. and_then (first_read (number_in 999999) batch.1) (λ number. keyed act.0 station.0 batch.0 number)))) event is in
    let station = bound (first_read (number_in 9999) act.0.1) (λ station. and_then (first_word station.1) (λ batch. and_then (first_read (number_in 999999) batch.1) (λ number. keyed act.0.0 station.0 batch.0 number))) event act.2 in
    let batch = bound (first_word station.0.1) (λ batch. and_then (first_read (number_in 999999) batch.1) (λ number. keyed act.0.0 station.0.0 batch.0 number)) event station.2 in
    let number = bound (first_read (number_in 999999) batch.0.1) (λ number. keyed act.0.0 station.0.0 batch.0.0 number) event batch.2 in
    let one = read_is verb_in words act.0 act.1 text in
    let two = read_is (number_in 9999) act.0.1 station.0 station.1 one in
    let three = first_is station.0.1 batch.0 batch.1 two in
    let four = read_is (number_in 999999) batch.0.1 number.0 number.1 three in
    asked_said election act.0.0 station.0.0 (record { batch = batch.0.0; number = number.0.0 }) number.0.1 event number.2 four

line_text : (line : List ℕ) → is_utf8 line ≡ true → IsText (words_of line)
unfolding IsText
line_text line text =
    let Utf8 : List ℕ → Type 0 = λ some. IsUtf8 some in
    subst Utf8 (sym (join_with_byte-slice_split 32 line)) (IsUtf8-from_is_utf8 line text)

range_said : (election : Election) (found : Event) (fit : Bool) (event : Event) → fits election found ≡ fit → cond fit (Some found) None ≡ Some event → (found ≡ event) × Fits election event
range_said election found true event fit is =
    let same : found ≡ event = cc in
    let Fit : Event → Type 0 = λ some. Fits election some in
    (same, subst Fit same fit)
range_said election found false event fit is = absurd cc

line_said : (election : Election) (line : List ℕ) (text : Bool) (event : Event) → is_utf8 line ≡ text → cond text (and_then (said_in election (words_of line)) (in_range election)) None ≡ Some event → IsSaid event × Fits election event
line_said election line true event text is =
    let found = bound (said_in election (words_of line)) (in_range election) event is in
    let ranged = range_said election found.0 (fits election found.0) event refl found.2 in
    (subst IsSaid ranged.0 (words_said election (words_of line) found.0 found.1 (line_text line text)), ranged.1)
line_said election line false event text is = absurd cc

event_said : (election : Election) (line : List ℕ) (event : Event) → event_in election line ≡ Some event → IsSaid event × Fits election event
unfolding event_in
event_said election line event is = line_said election line (is_utf8 line) event refl is

-- bounds of words
short_number : (k n low high : ℕ) → 0 < k → is_within low high n ≡ true → high < 10 ^ k → high < 2 ^ 64 → length (decimal n) ≤ k
short_number k n low high some within below fits =
    let both = and_parts (nat_le low n) (nat_le n high) within in
    let most : n ≤ high = leb-true n high both.1 in
    length-decimal-le k n some (omega arith) (omega arith)

short_below : (k n limit : ℕ) → 0 < k → nat_lt n limit ≡ true → limit ≤ 10 ^ k → limit < 2 ^ 64 → length (decimal n) ≤ k
short_below k n limit some below within fits =
    let less : n < limit = ltb-true n limit below in
    length-decimal-le k n some (omega arith) (omega arith)

spaced_more : (word : List ℕ) (words : List (List ℕ)) (n m : ℕ) → length word ≤ n → length (spaced words) ≤ m → length (spaced (word ∷ words)) ≤ n + 1 + m
spaced_more word words n m one more = omega (arith, one, more, length-append (32 ∷ word) (spaced words))

-- options that ascend below a limit are no more than that
few_from : (least limit : ℕ) (options : List ℕ) → least ≤ limit → ascends_from least options ≡ true → list_all (λ option. nat_lt option limit) options ≡ true → least + length options ≤ limit
few_from least limit [] low ascend below = omega arith
few_from least limit (option ∷ options) low ascend below =
    let above = and_parts (nat_le least option) (ascends_from (option + 1) options) ascend in
    let within = and_parts (nat_lt option limit) (list_all (λ other. nat_lt other limit) options) below in
    let low' : least ≤ option = leb-true least option above.0 in
    let high' : option < limit = ltb-true option limit within.0 in
    let more = few_from (option + 1) limit options (omega arith) above.1 within.1 in
    omega (arith, more)

commas : (options : List ℕ) → list_all (λ option. nat_lt option 1000) options ≡ true → length (flat_map (λ other. 44 ∷ decimal other) options) ≤ 4 * length options
commas [] below = omega arith
commas (option ∷ options) below =
    let within = and_parts (nat_lt option 1000) (list_all (λ other. nat_lt other 1000) options) below in
    omega (arith, short_below 3 option 1000 (lit< tt) within.0 (lit≤ tt) (lit< tt), commas options within.1, length-append (44 ∷ decimal option) (flat_map (λ other. 44 ∷ decimal other) options))

short_options : (options : List ℕ) → is_ascending options ≡ true → list_all (λ option. nat_lt option 1000) options ≡ true → length (options_word options) ≤ 4000
short_options [] ascend below = lit≤ tt
short_options (option ∷ options) ascend below =
    let within = and_parts (nat_lt option 1000) (list_all (λ other. nat_lt other 1000) options) below in
    omega (arith, few_from 0 1000 (option ∷ options) (omega arith) ascend below, short_below 3 option 1000 (lit< tt) within.0 (lit≤ tt) (lit< tt), commas options within.1, length-append (decimal option) (flat_map (λ other. 44 ∷ decimal other) options))

short_name : (name : WriteInName) → is_name name ≡ true → length (spaced (name_words name)) ≤ 300
short_name (Words words) is =
    let within = and_parts (is_within 1 256 (length words)) (list_all is_name_byte words) is in
    let both = and_parts (nat_le 1 (length words)) (nat_le (length words) 256) within.0 in
    let few : length words ≤ 256 = leb-true (length words) 256 both.1 in
    omega (arith, spaced_more (codes "text") (words ∷ []) 4 257 (lit≤ tt) (omega (arith, spaced_more words [] 256 0 few (omega arith))))
short_name (Candidate number) is =
    omega (arith, spaced_more (codes "candidate") (decimal number ∷ []) 9 4 (lit≤ tt) (omega (arith, spaced_more (decimal number) [] 3 0 (short_below 3 number 1000 (lit< tt) is (lit≤ tt) (lit< tt)) (omega arith))))

short_decision : (decision : Decision) → is_decision decision ≡ true → length (spaced (decision_words decision)) ≤ 4001
short_decision (Selections options) is =
    let both = and_parts (is_ascending options) (list_all (λ option. nat_lt option 1000) options) is in
    omega (arith, spaced_more (options_word options) [] 4000 0 (short_options options both.0 both.1) (omega arith))
short_decision RuledOvervote is = omega arith
short_decision AcceptRead is = omega arith
short_decision (NameWriteIn slot name) is =
    let both = and_parts (nat_lt slot 1000) (is_name name) is in
    omega (arith, spaced_more (decimal slot) (name_words name) 3 300 (short_below 3 slot 1000 (lit< tt) both.0 (lit≤ tt) (lit< tt)) (short_name name both.1))

short_key : (key : Key) → is_key key ≡ true → (length key.batch ≤ 32) × (length (decimal key.number) ≤ 6)
short_key key is =
    let both = and_parts (is_batch key.batch) (is_within 1 999999 key.number) is in
    let batch = and_parts (is_within 1 32 (length key.batch)) (list_all is_batch_character key.batch) both.0 in
    let most = and_parts (nat_le 1 (length key.batch)) (nat_le (length key.batch) 32) batch.0 in
    (leb-true (length key.batch) 32 most.1, short_number 6 key.number 1 999999 (lit< tt) both.1 (lit< tt) (lit< tt))

decision_word : (decision : Decision) → length (decision_name decision) ≤ 8
decision_word (Selections options) = lit≤ tt
decision_word RuledOvervote = lit≤ tt
decision_word AcceptRead = lit≤ tt
decision_word (NameWriteIn slot name) = lit≤ tt

-- the record of what a line says is short
in_range_said : (election : Election) (event : Event) → IsSaid event → Fits election event → is_in_range event ≡ true
in_range_said election (Add key sheet) said fit = absurd said
in_range_said election (Claim station key) said fit = fit
in_range_said election (Release station key) said fit = fit
in_range_said election (Decide station key contest decision) said fit = fit

written_said : (event : Event) → IsSaid event → IsWritten event
written_said (Add key sheet) said = absurd said
written_said (Claim station key) said = tt
written_said (Release station key) said = tt
written_said (Decide station key contest decision) said = said

short_head : (name : List ℕ) (station : ℕ) (key : Key) (more : List (List ℕ)) (m : ℕ) → length name ≤ 8 → is_station station ≡ true → is_key key ≡ true → length (spaced more) ≤ m → length (spaced (name ∷ decimal station ∷ key.batch ∷ decimal key.number ∷ more)) ≤ 54 + m
short_head name station key more m named stationed keyed rest =
    let sizes = short_key key keyed in
    let one = spaced_more (decimal key.number) more 6 m sizes.1 rest in
    let two = spaced_more key.batch (decimal key.number ∷ more) 32 (6 + 1 + m) sizes.0 one in
    let three = spaced_more (decimal station) (key.batch ∷ decimal key.number ∷ more) 4 (32 + 1 + (6 + 1 + m)) (short_number 4 station 1 9999 (lit< tt) stationed (lit< tt) (lit< tt)) two in
    let four = spaced_more name (decimal station ∷ key.batch ∷ decimal key.number ∷ more) 8 (4 + 1 + (32 + 1 + (6 + 1 + m))) named three in
    omega (arith, four)

short_words : (election : Election) (event : Event) → IsSaid event → Fits election event → length (spaced (record_words event)) ≤ 4059
short_words election (Add key sheet) said fit = absurd said
short_words election (Claim station key) said fit =
    let both = and_parts (is_station station) (is_key key) fit in
    omega (arith, short_head (codes "claim") station key [] 0 (lit≤ tt) both.0 both.1 (omega arith))
short_words election (Release station key) said fit =
    let both = and_parts (is_station station) (is_key key) fit in
    omega (arith, short_head (codes "release") station key [] 0 (lit≤ tt) both.0 both.1 (omega arith))
short_words election (Decide station key contest decision) said fit =
    let all = and_parts (is_station station && is_key key && nat_lt contest 500) (is_decision decision) fit in
    let three = and_parts (is_station station && is_key key) (nat_lt contest 500) all.0 in
    let two = and_parts (is_station station) (is_key key) three.0 in
    let rest = spaced_more (decimal contest) (decision_words decision) 3 4001 (short_below 3 contest 500 (lit< tt) three.1 (lit≤ tt) (lit< tt)) (short_decision decision all.1) in
    omega (arith, short_head (decision_name decision) station key (decimal contest ∷ decision_words decision) 4005 (decision_word decision) two.0 two.1 rest)

-- what a line says has a record
pub said_held : (election : Election) (line : List ℕ) (event : Event) → event_in election line ≡ Some event → IsHeld event × Fits election event
said_held election line event is =
    let all = event_said election line event is in
    let few = short_words election event all.0 all.1 in
    let short : length (record_of event) ≤ 16384 = omega (arith, few) in
    (record { in_range = in_range_said election event all.0 all.1; written = written_said event all.0; short = short }, all.1)
