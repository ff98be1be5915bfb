-- Records as a part of a text: what is read is exactly the records of held events.
use Rattle.std.proofs.Common.{◌≡◌, ℕ, zero, suc, ◌+◌, ◌-◌, ◌*◌, ◌%◌, ◌^◌, ◌≤◌, ◌<◌, Bool, true, false, cond, List, [], ◌∷◌, ◌++◌, length, map, refl, ap, sym, subst, ◌∙◌, inl, inr, arith, length-append, append-nil, append_assoc}
use Rattle.std.specs.Prelude.{Result, Ok, Err, ◌&&◌, ◌==◌, ◌⊎◌, codes, nat_lt, nat_le}
use Rattle.std.specs.Fmt.{decimal}
use Rattle.std.specs.List.{list_all, flat_map}
use Rattle.std.proofs.lemmas.Fmt.{length-decimal-le}
use Rattle.std.proofs.lemmas.Bool.{ltb-true, lt-ltb, leb-true, le-leb}
use Rattle.vx_base.specs.Results.{◌>>=◌}
use Rattle.vx_base.proofs.Booleans.{and-left, and-right, and-both}
use Rattle.vx_json.specs.Reading.{is_within}
use Rattle.vx_grid.specs.Kinds.{kind_word}
use Rattle.vx_rules.specs.declared.marks.ContestMarks.{ContestMarks}
use Rattle.vx_rules.specs.declared.marks.SheetMarks.{SheetMarks}
use Rattle.vx_events.specs.declared.decision.Decision.{Decision}
use Rattle.vx_events.specs.declared.decision.Decision.TheVariants.{Selections, RuledOvervote, AcceptRead, NameWriteIn}
use Rattle.vx_events.specs.declared.decision.WriteInName.{WriteInName}
use Rattle.vx_events.specs.declared.decision.WriteInName.TheVariants.{Words, Candidate}
use Rattle.vx_events.specs.declared.event.Event.{Event}
use Rattle.vx_events.specs.declared.event.Event.TheVariants.{Add, Claim, Release, Decide}
use Rattle.vx_events.specs.declared.key.Key.{Key}
use Rattle.vx_events.specs.Ascending.{ascends_from, is_ascending}
use Rattle.vx_events.specs.Fits.{is_key, is_station, is_decision, is_name, is_name_byte, contests_of}
use Rattle.vx_records.specs.declared.acts.Act.{Act}
use Rattle.vx_records.specs.declared.acts.Act.TheVariants.{AddSheet, ClaimSheet, ReleaseSheet, DecideContest}
use Rattle.vx_records.specs.declared.acts.Ruling.{Ruling}
use Rattle.vx_records.specs.declared.acts.Ruling.TheVariants.{Select, Overvote, Accept, Name}
use Rattle.vx_records.specs.declared.numbers.Numbers.TheVariants.{Fronts}
use Rattle.vx_records.specs.declared.sheets.Head.{Head}
use Rattle.vx_records.specs.Records.{record_of, spaced, decision_name, decision_words, options_word, marks_word}
use Rattle.vx_records.specs.Held.{IsHeld, is_in_range, is_held_sheet, is_marked, HasWords, DecidesWords}
use Rattle.vx_records.specs.Numbers.{takes}
use Rattle.vx_records.specs.Parts.{Found, Read, found, choice_in}
use Rattle.vx_records.specs.Reading.{acts, act_word, act_in, record_in, claim_in, made_add}
use Rattle.vx_records.proofs.Grammar.{Part, Both, Some_text, StopsAt, StopsAt-any, any, none, then_in, then_part}
use Rattle.vx_records.proofs.Steps.{Spelled, Mapped, map_in, map_part, same_texts}
use Rattle.vx_records.proofs.Choice.{Among, Chosen, choice_part}
use Rattle.vx_records.proofs.Range.{within, within_low, within_high, front_odd, front_few, front_is}
use Rattle.vx_records.proofs.OptionParts.{Options, commas}
use Rattle.vx_records.proofs.WordsPart.{AreWords}
use Rattle.vx_records.proofs.KeyParts.{Claims, claim_text, claim_part, some_claim, some_mapped, key_text}
use Rattle.vx_records.proofs.ContestParts.{marks_text, Listed}
use Rattle.vx_records.proofs.DecisionParts.{Named, by_words, by_number, name_text, Ruled, selects, overvotes, accepts, names, decision_text, Deciding, deciding_part, some_deciding}
use Rattle.vx_records.proofs.SheetParts.{IsHead, head_text, Adding, adding_part, some_adding, key_short, head_short}

abbrev made_claim : ℕ × Key → Event
made_claim x = Claim x.0 x.1

abbrev made_release : ℕ × Key → Event
made_release x = Release x.0 x.1

-- what stands behind a record's first word
abbrev pub Acted : Act → Event → List ℕ → Type 0
Acted AddSheet = Adding
Acted ClaimSheet = Mapped made_claim (Spelled Claims claim_text)
Acted ReleaseSheet = Mapped made_release (Spelled Claims claim_text)
Acted (DecideContest ruling) = Deciding ruling

acted_part : (act : Act) → Part (Acted act) none (act_in act)
acted_part AddSheet = adding_part
acted_part ClaimSheet = map_part made_claim claim_part
acted_part ReleaseSheet = map_part made_release claim_part
acted_part (DecideContest ruling) = deciding_part ruling

some_acted : (act : Act) → Some_text (Acted act)
some_acted AddSheet = some_adding
some_acted ClaimSheet = some_mapped made_claim some_claim
some_acted ReleaseSheet = some_mapped made_release some_claim
some_acted (DecideContest ruling) = some_deciding ruling

act_among : (act : Act) → Among act acts
act_among AddSheet = inl refl
act_among ClaimSheet = inr (inl refl)
act_among ReleaseSheet = inr (inr (inl refl))
act_among (DecideContest Select) = inr (inr (inr (inl refl)))
act_among (DecideContest Overvote) = inr (inr (inr (inr (inl refl))))
act_among (DecideContest Accept) = inr (inr (inr (inr (inr (inl refl)))))
act_among (DecideContest Name) = inr (inr (inr (inr (inr (inr (inl refl))))))

acts_part : Part (Chosen act_word acts) any (choice_in act_word acts)
acts_part = choice_part act_word acts refl

abbrev Acting : Act → ℕ → Event → List ℕ → Type 0
Acting act n = Acted act

record_both : Part (Both (Chosen act_word acts) Acting) none record_in
unfolding record_in
record_both = then_part (Chosen act_word acts) any (choice_in act_word acts) Acting none (λ act n. act_in act)
    acts_part (λ act n. acted_part act) (λ act u h. some_acted act) (λ act n e w x h k. StopsAt-any (w ++ x))

-- the texts are those of the events' records
claim_record : (s b n : List ℕ) → codes "1 claim " ++ ((s ++ 32 ∷ []) ++ ((b ++ 32 ∷ []) ++ n)) ≡ 49 ∷ spaced (codes "claim" ∷ s ∷ b ∷ n ∷ [])
claim_record s b n = simp (append_assoc, append-nil)

release_record : (s b n : List ℕ) → codes "1 release " ++ ((s ++ 32 ∷ []) ++ ((b ++ 32 ∷ []) ++ n)) ≡ 49 ∷ spaced (codes "release" ∷ s ∷ b ∷ n ∷ [])
release_record s b n = simp (append_assoc, append-nil)

add_record : (b n c f k m : List ℕ) → codes "1 add " ++ ((((b ++ 32 ∷ []) ++ n) ++ 32 ∷ []) ++ ((c ++ 32 ∷ []) ++ ((f ++ 32 ∷ []) ++ k)) ++ m) ≡ 49 ∷ ((32 ∷ codes "add") ++ ((32 ∷ b) ++ ((32 ∷ n) ++ ((32 ∷ c) ++ ((32 ∷ f) ++ ((32 ∷ k) ++ m))))))
add_record b n c f k m = simp append_assoc

abbrev decide_text : List ℕ → List ℕ → List ℕ → List ℕ → List ℕ → List ℕ
decide_text s b n c d = (s ++ 32 ∷ []) ++ ((((b ++ 32 ∷ []) ++ n) ++ 32 ∷ []) ++ (c ++ d))

decide_record : (word s b n c d : List ℕ) → 49 ∷ ((32 ∷ word) ++ (32 ∷ decide_text s b n c d)) ≡ 49 ∷ ((32 ∷ word) ++ ((32 ∷ s) ++ ((32 ∷ b) ++ ((32 ∷ n) ++ ((32 ∷ c) ++ d)))))
decide_record word s b n c d = simp append_assoc

decision_words_text : (d : Decision) → decision_text d ≡ spaced (decision_words d)
decision_words_text (Selections options) = ap (λ (t : List ℕ). 32 ∷ t) (sym (append-nil (options_word options)))
decision_words_text RuledOvervote = refl
decision_words_text AcceptRead = refl
decision_words_text (NameWriteIn slot (Words words)) = simp (append_assoc, append-nil)
decision_words_text (NameWriteIn slot (Candidate n)) = simp (append_assoc, append-nil)

-- how long they are
decimal_4 : (n : ℕ) → n ≤ 9999 → length (decimal n) ≤ 4
decimal_4 n h = length-decimal-le 4 n (omega arith) (omega arith) (omega arith)

decimal_3 : (n : ℕ) → n ≤ 999 → length (decimal n) ≤ 3
decimal_3 n h = length-decimal-le 3 n (omega arith) (omega arith) (omega arith)

commas_short : (least : ℕ) (xs : List ℕ) → ascends_from least xs ≡ true → list_all (λ option. nat_lt option 1000) xs ≡ true → least ≤ 1000 → length (commas xs) + 4 * least ≤ 4000
commas_short least [] a b h = omega arith
commas_short least (x ∷ xs) a b h =
    let low = leb-true least x (and-left (nat_le least x) (ascends_from (x + 1) xs) a) in
    let high = ltb-true x 1000 (and-left (nat_lt x 1000) (list_all (λ option. nat_lt option 1000) xs) b) in
    let rest = commas_short (x + 1) xs (and-right (nat_le least x) (ascends_from (x + 1) xs) a) (and-right (nat_lt x 1000) (list_all (λ option. nat_lt option 1000) xs) b) (omega (arith, high)) in
    omega (arith, low, high, rest, decimal_3 x (omega (arith, high)), length-append (44 ∷ decimal x) (commas xs))

options_short : (xs : List ℕ) → Options xs → length (options_word xs) ≤ 4003
options_short [] h = omega arith
options_short (x ∷ xs) h =
    let high = ltb-true x 1000 (and-left (nat_lt x 1000) (list_all (λ option. nat_lt option 1000) xs) h.below) in
    let rest = commas_short (x + 1) xs (and-right (nat_le 0 x) (ascends_from (x + 1) xs) h.ascends) (and-right (nat_lt x 1000) (list_all (λ option. nat_lt option 1000) xs) h.below) (omega (arith, high)) in
    omega (arith, high, rest, decimal_3 x (omega (arith, high)), length-append (decimal x) (commas xs))

name_short : (name : WriteInName) → Named name → length (name_text name) ≤ 300
name_short (Words words) (by_words h) = omega (arith, h.high, length-append (codes "text ") words)
name_short (Candidate n) (by_number h) = omega (arith, decimal_3 n (within_high 0 999 n h), length-append (codes "candidate ") (decimal n))

decision_short : (ruling : Ruling) (d : Decision) → Ruled ruling d → length (decision_text d) ≤ 4004
decision_short Select (Selections options) (selects h) = omega (arith, options_short options h)
decision_short Overvote RuledOvervote overvotes = omega arith
decision_short Accept AcceptRead accepts = omega arith
decision_short Name (NameWriteIn slot name) (names h k) =
    omega (arith, name_short name k, decimal_3 slot (within_high 0 999 slot h), length-append (decimal slot ++ 32 ∷ []) (name_text name), length-append (decimal slot) (32 ∷ []))
decision_short Select RuledOvervote h = elim h [ ]
decision_short Select AcceptRead h = elim h [ ]
decision_short Select (NameWriteIn slot name) h = elim h [ ]
decision_short Overvote (Selections options) h = elim h [ ]
decision_short Overvote AcceptRead h = elim h [ ]
decision_short Overvote (NameWriteIn slot name) h = elim h [ ]
decision_short Accept (Selections options) h = elim h [ ]
decision_short Accept RuledOvervote h = elim h [ ]
decision_short Accept (NameWriteIn slot name) h = elim h [ ]
decision_short Name (Selections options) h = elim h [ ]
decision_short Name RuledOvervote h = elim h [ ]
decision_short Name AcceptRead h = elim h [ ]

-- claims and releases
claims_short : (x : ℕ × Key) → Claims x → length (claim_text x) ≤ 60
claims_short x h =
    let a = decimal x.0 in
    omega (arith, decimal_4 x.0 (within_high 1 9999 x.0 h.station), key_short x.1 h.key, length-append (a ++ 32 ∷ []) (key_text x.1), length-append a (32 ∷ []))

claim_text_is : (x : ℕ × Key) → codes "1 claim " ++ claim_text x ≡ record_of (made_claim x)
claim_text_is x = claim_record (decimal x.0) x.1.batch (decimal x.1.number)

release_text_is : (x : ℕ × Key) → codes "1 release " ++ claim_text x ≡ record_of (made_release x)
release_text_is x = release_record (decimal x.0) x.1.batch (decimal x.1.number)

held_claim : (x : ℕ × Key) → Claims x → IsHeld (made_claim x)
held_claim x h = record {
  in_range = and-both (is_station x.0) (is_key x.1) h.station h.key;
  written = tt;
  short = omega (arith, claims_short x h, ap (length {A = ℕ}) (claim_text_is x), length-append (codes "1 claim ") (claim_text x));
}

held_release : (x : ℕ × Key) → Claims x → IsHeld (made_release x)
held_release x h = record {
  in_range = and-both (is_station x.0) (is_key x.1) h.station h.key;
  written = tt;
  short = omega (arith, claims_short x h, ap (length {A = ℕ}) (release_text_is x), length-append (codes "1 release ") (claim_text x));
}

-- added sheets
add_text_is : (head : Head) (list : List ContestMarks) → codes "1 add " ++ (head_text head ++ marks_text list) ≡ record_of (made_add head list)
add_text_is head list = add_record head.key.batch (decimal head.key.number) (decimal head.card) (decimal head.front) (kind_word head.kind head.test) (marks_text list)

abbrev sheet_of : Head → List ContestMarks → SheetMarks
sheet_of head list = record { card = head.card; front = head.front; kind = head.kind; test = head.test; contests = list }

held_add : (head : Head) (list : List ContestMarks) (n : ℕ) → IsHead head → n ≡ length (head_text head) → Listed (record { least = 0; room = 16378 - n }) list → IsHeld (made_add head list)
held_add head list n h e l =
    let card : nat_lt head.card 1024 ≡ true = lt-ltb head.card 1024 (omega (arith, within_high 0 1023 head.card h.card)) in
    let odd : (head.front % 2 == 1) ≡ true = and-left (head.front % 2 == 1) (nat_lt head.front 64) h.front in
    let few : nat_lt head.front 64 ≡ true = and-right (head.front % 2 == 1) (nat_lt head.front 64) h.front in
    let one = and-both (nat_lt head.card 1024) (head.front % 2 == 1) card odd in
    let two = and-both (nat_lt head.card 1024 && (head.front % 2 == 1)) (nat_lt head.front 64) one few in
    let three = and-both (nat_lt head.card 1024 && (head.front % 2 == 1) && nat_lt head.front 64) (is_ascending (contests_of list)) two l.ascends in
    let four = and-both (nat_lt head.card 1024 && (head.front % 2 == 1) && nat_lt head.front 64 && is_ascending (contests_of list)) (list_all is_marked list) three l.marked in
    record {
      in_range = and-both (is_key head.key) (is_held_sheet (sheet_of head list)) h.key four;
      written = tt;
      short = omega (arith, head_short head h, l.short, e, ap (length {A = ℕ}) (add_text_is head list), length-append (codes "1 add ") (head_text head ++ marks_text list), length-append (head_text head) (marks_text list));
    }

abbrev head_of : Key → SheetMarks → Head
head_of key sheet = record { key = key; card = sheet.card; front = sheet.front; kind = sheet.kind; test = sheet.test }

add_back : (key : Key) (sheet : SheetMarks) → IsHeld (Add key sheet) → Acted AddSheet (Add key sheet) (head_text (head_of key sheet) ++ marks_text sheet.contests)
add_back key sheet h =
    let head = head_of key sheet in
    let list = sheet.contests in
    let is = and-right (is_key key) (is_held_sheet sheet) h.in_range in
    let four = and-left (nat_lt sheet.card 1024 && (sheet.front % 2 == 1) && nat_lt sheet.front 64 && is_ascending (contests_of list)) (list_all is_marked list) is in
    let three = and-left (nat_lt sheet.card 1024 && (sheet.front % 2 == 1) && nat_lt sheet.front 64) (is_ascending (contests_of list)) four in
    let two = and-left (nat_lt sheet.card 1024 && (sheet.front % 2 == 1)) (nat_lt sheet.front 64) three in
    let card = ltb-true sheet.card 1024 (and-left (nat_lt sheet.card 1024) (sheet.front % 2 == 1) two) in
    let good : IsHead head = record {
      key = and-left (is_key key) (is_held_sheet sheet) h.in_range;
      card = within 0 1023 sheet.card (omega arith) (omega arith);
      front = and-both (sheet.front % 2 == 1) (nat_lt sheet.front 64) (and-right (nat_lt sheet.card 1024) (sheet.front % 2 == 1) two) (and-right (nat_lt sheet.card 1024 && (sheet.front % 2 == 1)) (nat_lt sheet.front 64) three);
    } in
    record {
      a = head;
      u = head_text head;
      w = marks_text list;
      first = record { is = good; text = refl };
      second = record {
        a = list;
        is = record {
          is = record {
            ascends = and-right (nat_lt sheet.card 1024 && (sheet.front % 2 == 1) && nat_lt sheet.front 64) (is_ascending (contests_of list)) four;
            marked = and-right (nat_lt sheet.card 1024 && (sheet.front % 2 == 1) && nat_lt sheet.front 64 && is_ascending (contests_of list)) (list_all is_marked list) is;
            short = omega (arith, h.short, ap (length {A = ℕ}) (add_text_is head list), length-append (codes "1 add ") (head_text head ++ marks_text list), length-append (head_text head) (marks_text list));
          };
          text = refl;
        };
        value = refl;
      };
      text = refl;
    }

-- decisions
record RuledFacts (ruling : Ruling) (d : Decision) : Type 0 where
  decision : is_decision d ≡ true
  written : DecidesWords d
  name : (s b n c : List ℕ) → act_word (DecideContest ruling) ++ decide_text s b n c (decision_text d) ≡ 49 ∷ ((32 ∷ decision_name d) ++ ((32 ∷ s) ++ ((32 ∷ b) ++ ((32 ∷ n) ++ ((32 ∷ c) ++ spaced (decision_words d))))))

word_is : (word s b n c : List ℕ) (d : Decision) → 49 ∷ ((32 ∷ word) ++ (32 ∷ decide_text s b n c (decision_text d))) ≡ 49 ∷ ((32 ∷ word) ++ ((32 ∷ s) ++ ((32 ∷ b) ++ ((32 ∷ n) ++ ((32 ∷ c) ++ spaced (decision_words d))))))
word_is word s b n c d =
    decide_record word s b n c (decision_text d)
    ∙ ap (λ (t : List ℕ). 49 ∷ ((32 ∷ word) ++ ((32 ∷ s) ++ ((32 ∷ b) ++ ((32 ∷ n) ++ ((32 ∷ c) ++ t)))))) (decision_words_text d)

named_is : (name : WriteInName) → Named name → is_name name ≡ true
named_is (Words words) (by_words h) = and-both (is_within 1 256 (length words)) (list_all is_name_byte words) (within 1 256 (length words) h.low h.high) h.names
named_is (Candidate n) (by_number h) = lt-ltb n 1000 (omega (arith, within_high 0 999 n h))

named_written : (name : WriteInName) → Named name → HasWords name
named_written (Words words) (by_words h) = h.utf8
named_written (Candidate n) (by_number h) = tt

ruled_facts : (ruling : Ruling) (d : Decision) → Ruled ruling d → RuledFacts ruling d
ruled_facts Select (Selections options) (selects h) = record {
  decision = and-both (is_ascending options) (list_all (λ option. nat_lt option 1000) options) h.ascends h.below;
  written = tt;
  name = λ s b n c. word_is (codes "select") s b n c (Selections options);
}
ruled_facts Overvote RuledOvervote overvotes = record { decision = refl; written = tt; name = λ s b n c. word_is (codes "overvote") s b n c RuledOvervote }
ruled_facts Accept AcceptRead accepts = record { decision = refl; written = tt; name = λ s b n c. word_is (codes "accept") s b n c AcceptRead }
ruled_facts Name (NameWriteIn slot name) (names h k) = record {
  decision = and-both (nat_lt slot 1000) (is_name name) (lt-ltb slot 1000 (omega (arith, within_high 0 999 slot h))) (named_is name k);
  written = named_written name k;
  name = λ s b n c. word_is (codes "name") s b n c (NameWriteIn slot name);
}
ruled_facts Select RuledOvervote h = elim h [ ]
ruled_facts Select AcceptRead h = elim h [ ]
ruled_facts Select (NameWriteIn slot name) h = elim h [ ]
ruled_facts Overvote (Selections options) h = elim h [ ]
ruled_facts Overvote AcceptRead h = elim h [ ]
ruled_facts Overvote (NameWriteIn slot name) h = elim h [ ]
ruled_facts Accept (Selections options) h = elim h [ ]
ruled_facts Accept RuledOvervote h = elim h [ ]
ruled_facts Accept (NameWriteIn slot name) h = elim h [ ]
ruled_facts Name (Selections options) h = elim h [ ]
ruled_facts Name RuledOvervote h = elim h [ ]
ruled_facts Name AcceptRead h = elim h [ ]

abbrev deciding_text : ℕ → Key → ℕ → Decision → List ℕ
deciding_text station key contest d = decide_text (decimal station) key.batch (decimal key.number) (decimal contest) (decision_text d)

deciding_short : (ruling : Ruling) (station : ℕ) (key : Key) (contest : ℕ) (d : Decision) → is_station station ≡ true → is_key key ≡ true → contest ≤ 499 → Ruled ruling d → length (deciding_text station key contest d) ≤ 5000
deciding_short ruling station key contest d s k c r =
    let a = decimal station in
    let b = key_text key in
    let e = decimal contest in
    omega (
      arith,
      decimal_4 station (within_high 1 9999 station s),
      key_short key k,
      decimal_3 contest (omega (arith, c)),
      decision_short ruling d r,
      length-append (a ++ 32 ∷ []) ((b ++ 32 ∷ []) ++ (e ++ decision_text d)),
      length-append a (32 ∷ []),
      length-append (b ++ 32 ∷ []) (e ++ decision_text d),
      length-append b (32 ∷ []),
      length-append e (decision_text d),
    )

act_short : (ruling : Ruling) → length (act_word (DecideContest ruling)) ≤ 20
act_short Select = omega arith
act_short Overvote = omega arith
act_short Accept = omega arith
act_short Name = omega arith

held_decide : (ruling : Ruling) (station : ℕ) (key : Key) (contest : ℕ) (d : Decision) → is_station station ≡ true → is_key key ≡ true → contest ≤ 499 → Ruled ruling d → IsHeld (Decide station key contest d)
held_decide ruling station key contest d s k c r =
    let facts = ruled_facts ruling d r in
    let text = facts.name (decimal station) key.batch (decimal key.number) (decimal contest) in
    let one = and-both (is_station station) (is_key key) s k in
    let two = and-both (is_station station && is_key key) (nat_lt contest 500) one (lt-ltb contest 500 (omega (arith, c))) in
    record {
      in_range = and-both (is_station station && is_key key && nat_lt contest 500) (is_decision d) two facts.decision;
      written = facts.written;
      short = omega (arith, deciding_short ruling station key contest d s k c r, act_short ruling, ap (length {A = ℕ}) text, length-append (act_word (DecideContest ruling)) (deciding_text station key contest d));
    }

-- which ruling a decision is
record RulingOf (d : Decision) : Type 0 where
  ruling : Ruling
  is : Ruled ruling d

named_of : (name : WriteInName) → is_name name ≡ true → HasWords name → Named name
named_of (Words words) h k =
    let size = and-left (is_within 1 256 (length words)) (list_all is_name_byte words) h in
    by_words (record { utf8 = k; names = and-right (is_within 1 256 (length words)) (list_all is_name_byte words) h; low = within_low 1 256 (length words) size; high = within_high 1 256 (length words) size })
named_of (Candidate n) h k = by_number (within 0 999 n (omega arith) (omega (arith, ltb-true n 1000 h)))

ruling_of : (d : Decision) → is_decision d ≡ true → DecidesWords d → RulingOf d
ruling_of (Selections options) h k = record {
  ruling = Select;
  is = selects (record {
    ascends = and-left (is_ascending options) (list_all (λ option. nat_lt option 1000) options) h;
    below = and-right (is_ascending options) (list_all (λ option. nat_lt option 1000) options) h;
  });
}
ruling_of RuledOvervote h k = record { ruling = Overvote; is = overvotes }
ruling_of AcceptRead h k = record { ruling = Accept; is = accepts }
ruling_of (NameWriteIn slot name) h k = record {
  ruling = Name;
  is = names
      (within 0 999 slot (omega arith) (omega (arith, ltb-true slot 1000 (and-left (nat_lt slot 1000) (is_name name) h))))
      (named_of name (and-right (nat_lt slot 1000) (is_name name) h) k);
}

-- what is read is held, and is the event's record
record Kept (act : Act) (e : Event) (w : List ℕ) : Type 0 where
  held : IsHeld e
  text : act_word act ++ w ≡ record_of e

kept_at : (act : Act) (e f : Event) (w v : List ℕ) → e ≡ f → w ≡ v → Kept act f v → Kept act e w
kept_at act e f w v a b h = subst (λ (x : Event). Kept act x w) (sym a) (subst (Kept act f) (sym b) h)

add_kept : (e : Event) (w : List ℕ) → Adding e w → Kept AddSheet e w
add_kept e w h =
    kept_at AddSheet e (made_add h.a h.second.a) w (head_text h.a ++ marks_text h.second.a) h.second.value
    (h.text ∙ ap (λ (t : List ℕ). t ++ h.w) h.first.text ∙ ap (λ (t : List ℕ). head_text h.a ++ t) h.second.is.text)
    (record { held = held_add h.a h.second.a (length h.u) h.first.is (ap (length {A = ℕ}) h.first.text) h.second.is.is; text = add_text_is h.a h.second.a })

decide_kept : (ruling : Ruling) (e : Event) (w : List ℕ) → Deciding ruling e w → Kept (DecideContest ruling) e w
decide_kept ruling e w h =
    let k = h.second in
    let c = k.second in
    let d = c.second in
    let facts = ruled_facts ruling d.a d.is.is in
    kept_at (DecideContest ruling) e (Decide h.a k.a c.a d.a) w (deciding_text h.a k.a c.a d.a) d.value
    (h.text ∙ ap (λ (t : List ℕ). t ++ h.w) h.first.text ∙ ap (λ (t : List ℕ). (decimal h.a ++ 32 ∷ []) ++ t)
    (k.text ∙ ap (λ (t : List ℕ). t ++ k.w) k.first.text ∙ ap (λ (t : List ℕ). (key_text k.a ++ 32 ∷ []) ++ t)
    (c.text ∙ ap (λ (t : List ℕ). t ++ c.w) c.first.text ∙ ap (λ (t : List ℕ). decimal c.a ++ t) d.is.text)))
    (record {
      held = held_decide ruling h.a k.a c.a d.a h.first.is k.first.is (within_high 0 499 c.a c.first.is) d.is.is;
      text = facts.name (decimal h.a) k.a.batch (decimal k.a.number) (decimal c.a);
    })

acted_kept : (act : Act) (e : Event) (w : List ℕ) → Acted act e w → Kept act e w
acted_kept AddSheet e w h = add_kept e w h
acted_kept ClaimSheet e w h = kept_at ClaimSheet e (made_claim h.a) w (claim_text h.a) h.value h.is.text (record { held = held_claim h.a h.is.is; text = claim_text_is h.a })
acted_kept ReleaseSheet e w h = kept_at ReleaseSheet e (made_release h.a) w (claim_text h.a) h.value h.is.text (record { held = held_release h.a h.is.is; text = release_text_is h.a })
acted_kept (DecideContest ruling) e w h = decide_kept ruling e w h

record_to : (e : Event) (u : List ℕ) → Both (Chosen act_word acts) Acting e u → Spelled IsHeld record_of e u
record_to e u h =
    let k = acted_kept h.a e h.w h.second in
    record { is = k.held; text = h.text ∙ ap (λ (t : List ℕ). t ++ h.w) h.first.text ∙ k.text }

-- every held event's record is read
record Acts (e : Event) : Type 0 where
  act : Act
  w : List ℕ
  is : Acted act e w
  text : record_of e ≡ act_word act ++ w

decide_back : (station : ℕ) (key : Key) (contest : ℕ) (d : Decision) (r : RulingOf d) → IsHeld (Decide station key contest d) → Acts (Decide station key contest d)
decide_back station key contest d r h =
    let two = and-left (is_station station && is_key key && nat_lt contest 500) (is_decision d) h.in_range in
    let one = and-left (is_station station && is_key key) (nat_lt contest 500) two in
    let small = ltb-true contest 500 (and-right (is_station station && is_key key) (nat_lt contest 500) two) in
    record {
      act = DecideContest r.ruling;
      w = deciding_text station key contest d;
      is = record {
        a = station;
        u = decimal station ++ 32 ∷ [];
        w = (key_text key ++ 32 ∷ []) ++ (decimal contest ++ decision_text d);
        first = record { is = and-left (is_station station) (is_key key) one; text = refl };
        second = record {
          a = key;
          u = key_text key ++ 32 ∷ [];
          w = decimal contest ++ decision_text d;
          first = record { is = and-right (is_station station) (is_key key) one; text = refl };
          second = record {
            a = contest;
            u = decimal contest;
            w = decision_text d;
            first = record { is = within 0 499 contest (omega arith) (omega arith); text = refl };
            second = record { a = d; is = record { is = r.is; text = refl }; value = refl };
            text = refl;
          };
          text = refl;
        };
        text = refl;
      };
      text = sym ((ruled_facts r.ruling d r.is).name (decimal station) key.batch (decimal key.number) (decimal contest));
    }

acts_of : (e : Event) → IsHeld e → Acts e
acts_of (Add key sheet) h = record {
  act = AddSheet;
  w = head_text (head_of key sheet) ++ marks_text sheet.contests;
  is = add_back key sheet h;
  text = sym (add_text_is (head_of key sheet) sheet.contests);
}
acts_of (Claim station key) h = record {
  act = ClaimSheet;
  w = claim_text (station, key);
  is = record { a = (station, key); is = record { is = record { station = and-left (is_station station) (is_key key) h.in_range; key = and-right (is_station station) (is_key key) h.in_range }; text = refl }; value = refl };
  text = sym (claim_text_is (station, key));
}
acts_of (Release station key) h = record {
  act = ReleaseSheet;
  w = claim_text (station, key);
  is = record { a = (station, key); is = record { is = record { station = and-left (is_station station) (is_key key) h.in_range; key = and-right (is_station station) (is_key key) h.in_range }; text = refl }; value = refl };
  text = sym (release_text_is (station, key));
}
acts_of (Decide station key contest d) h =
    decide_back station key contest d (ruling_of d (and-right (is_station station && is_key key && nat_lt contest 500) (is_decision d) h.in_range) h.written) h

record_back : (e : Event) (u : List ℕ) → Spelled IsHeld record_of e u → Both (Chosen act_word acts) Acting e u
record_back e u h =
    let k = acts_of e h.is in
    record { a = k.act; u = act_word k.act; w = k.w; first = record { is = act_among k.act; text = refl }; second = k.is; text = h.text ∙ k.text }

-- the records of held events
pub record_part : Part (Spelled IsHeld record_of) none record_in
record_part = same_texts record_both (λ e u h. record_to e u h) (λ e u h. record_back e u h)

pub some_record : Some_text (Spelled IsHeld record_of)
some_record =
    let x : ℕ × Key = some_claim.b in
    record { b = made_claim x; w = record_of (made_claim x); is = record { is = held_claim x some_claim.is.is; text = refl } }
