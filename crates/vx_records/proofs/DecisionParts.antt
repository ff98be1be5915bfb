-- Decisions as parts of a text.
use Rattle.std.proofs.Common.{◌≡◌, ℕ, zero, suc, ◌+◌, ◌-◌, ◌≤◌, ◌<◌, Bool, true, false, cond, List, [], ◌∷◌, ◌++◌, length, refl, ap, sym, subst, ◌∙◌, inl, inr, arith, length-append, append-nil, append_assoc}
use Rattle.std.specs.Prelude.{Result, Ok, Err, ◌&&◌, codes, nat_lt}
use Rattle.std.specs.Fmt.{decimal}
use Rattle.std.proofs.Math.Utf8.{encode, encodes}
use Rattle.std.proofs.lemmas.Bool.{ltb-true, lt-ltb}
use Rattle.vx_base.specs.Results.{◌>>=◌}
use Rattle.vx_json.specs.Reading.{is_within}
use Rattle.vx_events.specs.declared.decision.Decision.{Decision}
use Rattle.vx_events.specs.declared.decision.Decision.TheVariants.{Selections, RuledOvervote, AcceptRead, NameWriteIn}
use Rattle.vx_events.specs.declared.decision.WriteInName.{WriteInName}
use Rattle.vx_events.specs.declared.decision.WriteInName.TheVariants.{Words, Candidate}
use Rattle.vx_events.specs.declared.event.Event.{Event}
use Rattle.vx_events.specs.declared.event.Event.TheVariants.{Decide}
use Rattle.vx_events.specs.declared.key.Key.{Key}
use Rattle.vx_events.specs.Fits.{is_key, is_station}
use Rattle.vx_records.specs.declared.acts.Ruling.{Ruling}
use Rattle.vx_records.specs.declared.acts.Ruling.TheVariants.{Select, Overvote, Accept, Name}
use Rattle.vx_records.specs.declared.numbers.Numbers.TheVariants.{Between}
use Rattle.vx_records.specs.Records.{options_word}
use Rattle.vx_records.specs.Parts.{Found, Read, found, stop, done, word_in, first_is, ended_at, ended, followed_by}
use Rattle.vx_records.specs.Numbers.{number_in}
use Rattle.vx_records.specs.Characters.{words_in}
use Rattle.vx_records.specs.Reading.{options_in, select_in, text_name_in, candidate_in, written_in, name_in, decision_in, decide_in, station_in, key_in}
use Rattle.vx_records.proofs.Grammar.{Part, Both, Some_text, StopsAt, StopsAt-any, StopsAt-none, any, none, then_in, then_part}
use Rattle.vx_records.proofs.Steps.{Spelled, Nothing, ended_at_part, Mapped, map_in, map_part, same_reader, same_texts, Either, this, that, either_part, Starts, Differs, ended_part}
use Rattle.vx_records.proofs.Runs.{Word, word_part}
use Rattle.vx_records.proofs.NumberPart.{no_digit}
use Rattle.vx_records.proofs.OptionParts.{Within, within_part, some_within, Options, options_part}
use Rattle.vx_records.proofs.WordsPart.{AreWords, words_part}
use Rattle.vx_records.proofs.KeyParts.{Station, station_part, some_blank_number, Blank_number, blank_number_part, key_text, Blank_key, blank_key_part, some_blank_key, some_both, some_mapped}

abbrev blank : List ℕ
blank = 32 ∷ []

-- a name in so many words, or by its number
pub data Named : WriteInName → Type 0 where
  by_words : {words : List ℕ} → AreWords words → Named (Words words)
  by_number : {n : ℕ} → is_within 0 999 n ≡ true → Named (Candidate n)

abbrev pub name_text : WriteInName → List ℕ
name_text (Words words) = codes "text " ++ words
name_text (Candidate number) = codes "candidate " ++ decimal number

-- what each ruling may be
pub data Ruled : Ruling → Decision → Type 0 where
  selects : {options : List ℕ} → Options options → Ruled Select (Selections options)
  overvotes : Ruled Overvote RuledOvervote
  accepts : Ruled Accept AcceptRead
  names : {slot : ℕ} {name : WriteInName} → is_within 0 999 slot ≡ true → Named name → Ruled Name (NameWriteIn slot name)

abbrev pub decision_text : Decision → List ℕ
decision_text (Selections options) = 32 ∷ options_word options
decision_text RuledOvervote = []
decision_text AcceptRead = []
decision_text (NameWriteIn slot name) = 32 ∷ ((decimal slot ++ 32 ∷ []) ++ name_text name)

-- words behind a word that is written out
module _ {A B : Type 0} (word : List ℕ) (held : A → Type 0) (spell : A → List ℕ) (p : List ℕ → Read A) (part : Part (Spelled held spell) none p) (some : Some_text (Spelled held spell)) (f : A → B) where
  pub behind_word : Part (Both (Word word) (λ a n. Mapped f (Spelled held spell))) none (then_in (word_in word) (λ a n. map_in f p))
  behind_word = then_part (Word word) any (word_in word) (λ a n. Mapped f (Spelled held spell)) none (λ a n. map_in f p)
      (word_part word) (λ a n. map_part f part) (λ a u h. some_mapped f some) (λ a n b w x h k. StopsAt-any (w ++ x))

  pub word_text : (b : B) (u : List ℕ) → (h : Both (Word word) (λ a n. Mapped f (Spelled held spell)) b u) → u ≡ word ++ spell h.second.a
  word_text b u h = h.text ∙ ap (λ (t : List ℕ). t ++ h.w) h.first.text ∙ ap (λ (t : List ℕ). word ++ t) h.second.is.text

  pub word_back : (a : A) → held a → Both (Word word) (λ x n. Mapped f (Spelled held spell)) (f a) (word ++ spell a)
  word_back a h = record {
    a = done;
    u = word;
    w = spell a;
    first = record { is = tt; text = refl };
    second = record { a = a; is = record { is = h; text = refl }; value = refl };
    text = refl;
  }

some_options : Some_text (Spelled Options options_word)
some_options = record { b = []; w = 45 ∷ []; is = record { is = record { ascends = refl; below = refl }; text = refl } }

select_both : Part (Both (Word blank) (λ a n. Mapped Selections (Spelled Options options_word))) none select_in
unfolding select_in
select_both = behind_word blank Options options_word options_in options_part some_options Selections

select_to : (d : Decision) (u : List ℕ) → Both (Word blank) (λ a n. Mapped Selections (Spelled Options options_word)) d u → Spelled (Ruled Select) decision_text d u
select_to d u h =
    subst (λ (e : Decision). Spelled (Ruled Select) decision_text e u) (sym h.second.value)
    (record { is = selects h.second.is.is; text = word_text blank Options options_word options_in options_part some_options Selections d u h })

select_back : (d : Decision) (u : List ℕ) → Spelled (Ruled Select) decision_text d u → Both (Word blank) (λ a n. Mapped Selections (Spelled Options options_word)) d u
select_back d u h = select_back_at d u h.is h.text where
  select_back_at : (d : Decision) (u : List ℕ) → Ruled Select d → u ≡ decision_text d → Both (Word blank) (λ a n. Mapped Selections (Spelled Options options_word)) d u
  select_back_at (Selections options) u (selects h) e = subst (Both (Word blank) (λ a n. Mapped Selections (Spelled Options options_word)) (Selections options)) (sym e) (word_back blank Options options_word options_in options_part some_options Selections options h)
  select_back_at RuledOvervote u h e = elim h [ ]
  select_back_at AcceptRead u h e = elim h [ ]
  select_back_at (NameWriteIn slot name) u h e = elim h [ ]

select_part : Part (Spelled (Ruled Select) decision_text) none select_in
select_part = same_texts select_both (λ d u h. select_to d u h) (λ d u h. select_back d u h)

-- `text WORDS` and `candidate O`
utf8_65 : encodes (65 ∷ []) ≡ 65 ∷ []
unfolding encode
utf8_65 = refl

some_words : Some_text (Spelled AreWords (λ words. words))
some_words = record { b = 65 ∷ []; w = 65 ∷ []; is = record { is = record { utf8 = (65 ∷ [], (refl, utf8_65)); names = refl; low = omega arith; high = omega arith }; text = refl } }

last_number_part : Part (Within 0 999) none (λ s. ended (number_in (Between 0 999) s))
last_number_part = ended_part (λ n. is_within 0 999 n ≡ true) decimal no_digit (number_in (Between 0 999)) (within_part 0 999 (omega arith) (omega arith))

abbrev Text_name : WriteInName → List ℕ → Type 0
Text_name = Both (Word (codes "text ")) (λ a n. Mapped Words (Spelled AreWords (λ words. words)))

abbrev Candidate_name : WriteInName → List ℕ → Type 0
Candidate_name = Both (Word (codes "candidate ")) (λ a n. Mapped Candidate (Within 0 999))

text_name_part : Part Text_name none text_name_in
unfolding text_name_in
text_name_part = behind_word (codes "text ") AreWords (λ words. words) words_in words_part some_words Words

candidate_part : Part Candidate_name none candidate_in
unfolding candidate_in
candidate_part = behind_word (codes "candidate ") (λ n. is_within 0 999 n ≡ true) decimal (λ s. ended (number_in (Between 0 999) s)) last_number_part (some_within 0 999 (omega arith)) Candidate

text_starts : (name : WriteInName) (u : List ℕ) → Text_name name u → Starts 116 u
text_starts name u h = record { tail = codes "ext " ++ h.second.a; text = word_text (codes "text ") AreWords (λ words. words) words_in words_part some_words Words name u h }

candidate_differs : (name : WriteInName) (u : List ℕ) → Candidate_name name u → Differs 116 u
candidate_differs name u h = record {
  head = 99;
  tail = codes "andidate " ++ decimal h.second.a;
  text = word_text (codes "candidate ") (λ n. is_within 0 999 n ≡ true) decimal (λ s. ended (number_in (Between 0 999) s)) last_number_part (some_within 0 999 (omega arith)) Candidate name u h;
  other = λ e. absurd (omega (arith, e));
}

written_to : (name : WriteInName) (u : List ℕ) → Either Text_name Candidate_name name u → Spelled Named name_text name u
written_to name u (this h) =
    subst (λ (n : WriteInName). Spelled Named name_text n u) (sym h.second.value)
    (record { is = by_words h.second.is.is; text = word_text (codes "text ") AreWords (λ words. words) words_in words_part some_words Words name u h })
written_to name u (that h) =
    subst (λ (n : WriteInName). Spelled Named name_text n u) (sym h.second.value)
    (record { is = by_number h.second.is.is; text = word_text (codes "candidate ") (λ n. is_within 0 999 n ≡ true) decimal (λ s. ended (number_in (Between 0 999) s)) last_number_part (some_within 0 999 (omega arith)) Candidate name u h })

written_back_at : (name : WriteInName) → Named name → Either Text_name Candidate_name name (name_text name)
written_back_at (Words words) (by_words h) = this (word_back (codes "text ") AreWords (λ words. words) words_in words_part some_words Words words h)
written_back_at (Candidate n) (by_number h) = that (word_back (codes "candidate ") (λ n. is_within 0 999 n ≡ true) decimal (λ s. ended (number_in (Between 0 999) s)) last_number_part (some_within 0 999 (omega arith)) Candidate n h)

written_part : Part (Spelled Named name_text) none written_in
unfolding written_in some_words
written_part = same_texts
    (either_part 116 Text_name Candidate_name none text_name_in candidate_in text_name_part candidate_part (λ n u h. text_starts n u h) (λ n u h. candidate_differs n u h)
    (record { b = Words (65 ∷ []); w = codes "text " ++ 65 ∷ []; is = word_back (codes "text ") AreWords (λ words. words) words_in words_part some_words Words (65 ∷ []) some_words.is.is })
    (record { b = Candidate 0; w = codes "candidate " ++ decimal 0; is = word_back (codes "candidate ") (λ n. is_within 0 999 n ≡ true) decimal (λ s. ended (number_in (Between 0 999) s)) last_number_part (some_within 0 999 (omega arith)) Candidate 0 refl }))
    (λ n u h. written_to n u h) (λ n u h. subst (Either Text_name Candidate_name n) (sym h.text) (written_back_at n h.is))

some_written : Some_text (Spelled Named name_text)
some_written = record { b = Candidate 0; w = codes "candidate " ++ decimal 0; is = record { is = by_number refl; text = refl } }

-- a slot and whom it names
abbrev Slotted : ℕ → ℕ → Decision → List ℕ → Type 0
Slotted slot n = Mapped (λ (name : WriteInName). NameWriteIn slot name) (Spelled Named name_text)

abbrev Behind_name : Unit {0} → ℕ → Decision → List ℕ → Type 0
Behind_name a n = Both (Blank_number 0 999) Slotted

abbrev slotted_in : ℕ → ℕ → List ℕ → Read Decision
slotted_in slot n = map_in (λ (name : WriteInName). NameWriteIn slot name) written_in

slot_part : Part (Both (Blank_number 0 999) Slotted) none (then_in (λ s. followed_by 32 (number_in (Between 0 999) s)) slotted_in)
slot_part = then_part (Blank_number 0 999) any (λ s. followed_by 32 (number_in (Between 0 999) s)) Slotted none slotted_in
    (blank_number_part 0 999 (omega arith) (omega arith)) (λ slot n. map_part (λ (name : WriteInName). NameWriteIn slot name) written_part)
    (λ slot u h. some_mapped (λ (name : WriteInName). NameWriteIn slot name) some_written) (λ slot n d w x h k. StopsAt-any (w ++ x))

name_both : Part (Both (Word blank) Behind_name) none name_in
unfolding name_in
name_both = then_part (Word blank) any (word_in blank) Behind_name none (λ a n. then_in (λ s. followed_by 32 (number_in (Between 0 999) s)) slotted_in)
    (word_part blank) (λ a n. slot_part)
    (λ a u h. some_both (some_blank_number 0 999 (omega arith)) (λ slot n. some_mapped (λ (name : WriteInName). NameWriteIn slot name) some_written))
    (λ a n d w x h k. StopsAt-any (w ++ x))

name_to : (d : Decision) (u : List ℕ) → Both (Word blank) Behind_name d u → Spelled (Ruled Name) decision_text d u
name_to d u h =
    let both = h.second in
    subst (λ (e : Decision). Spelled (Ruled Name) decision_text e u) (sym both.second.value) (record {
      is = names both.first.is both.second.is.is;
      text = h.text ∙ ap (λ (t : List ℕ). t ++ h.w) h.first.text ∙ ap (λ (t : List ℕ). 32 ∷ t)
          (both.text ∙ ap (λ (t : List ℕ). t ++ both.w) both.first.text ∙ ap (λ (t : List ℕ). (decimal both.a ++ 32 ∷ []) ++ t) both.second.is.text);
    })

name_back_at : (d : Decision) → Ruled Name d → Both (Word blank) Behind_name d (decision_text d)
name_back_at (Selections options) h = elim h [ ]
name_back_at RuledOvervote h = elim h [ ]
name_back_at AcceptRead h = elim h [ ]
name_back_at (NameWriteIn slot name) (names h k) = record {
  a = done;
  u = blank;
  w = (decimal slot ++ 32 ∷ []) ++ name_text name;
  first = record { is = tt; text = refl };
  second = record {
    a = slot;
    u = decimal slot ++ 32 ∷ [];
    w = name_text name;
    first = record { is = h; text = refl };
    second = record { a = name; is = record { is = k; text = refl }; value = refl };
    text = refl;
  };
  text = refl;
}

name_part : Part (Spelled (Ruled Name) decision_text) none name_in
name_part = same_texts name_both (λ d u h. name_to d u h) (λ d u h. subst (Both (Word blank) Behind_name d) (sym h.text) (name_back_at d h.is))

-- rulings without words
overvote_back : (d : Decision) → Ruled Overvote d → d ≡ RuledOvervote
overvote_back (Selections options) h = elim h [ ]
overvote_back RuledOvervote h = refl
overvote_back AcceptRead h = elim h [ ]
overvote_back (NameWriteIn slot name) h = elim h [ ]

accept_back : (d : Decision) → Ruled Accept d → d ≡ AcceptRead
accept_back (Selections options) h = elim h [ ]
accept_back RuledOvervote h = elim h [ ]
accept_back AcceptRead h = refl
accept_back (NameWriteIn slot name) h = elim h [ ]

nothing_to : (ruling : Ruling) (c d : Decision) (u : List ℕ) → Ruled ruling c → decision_text c ≡ [] → Nothing c d u → Spelled (Ruled ruling) decision_text d u
nothing_to ruling c d u r e h = subst (λ (x : Decision). Spelled (Ruled ruling) decision_text x u) (sym h.value) (record { is = r; text = h.text ∙ sym e })

pub decision_part : (ruling : Ruling) → Part (Spelled (Ruled ruling) decision_text) none (decision_in ruling)
decision_part Select = select_part
decision_part Overvote = same_texts (ended_at_part RuledOvervote) (λ d u h. nothing_to Overvote RuledOvervote d u overvotes refl h)
    (λ d u h. record { value = overvote_back d h.is; text = h.text ∙ ap decision_text (overvote_back d h.is) })
decision_part Accept = same_texts (ended_at_part AcceptRead) (λ d u h. nothing_to Accept AcceptRead d u accepts refl h)
    (λ d u h. record { value = accept_back d h.is; text = h.text ∙ ap decision_text (accept_back d h.is) })
decision_part Name = name_part

pub some_decision : (ruling : Ruling) → Some_text (Spelled (Ruled ruling) decision_text)
some_decision Select = record { b = Selections []; w = decision_text (Selections []); is = record { is = selects (record { ascends = refl; below = refl }); text = refl } }
some_decision Overvote = record { b = RuledOvervote; w = []; is = record { is = overvotes; text = refl } }
some_decision Accept = record { b = AcceptRead; w = []; is = record { is = accepts; text = refl } }
some_decision Name = record { b = NameWriteIn 0 (Candidate 0); w = decision_text (NameWriteIn 0 (Candidate 0)); is = record { is = names refl (by_number refl); text = refl } }

-- a decision's text begins with a blank or is nothing
decision_stops : (d : Decision) → StopsAt no_digit (decision_text d)
decision_stops (Selections options) = refl
decision_stops RuledOvervote = tt
decision_stops AcceptRead = tt
decision_stops (NameWriteIn slot name) = refl

-- what a station decides
abbrev Contested : Ruling → ℕ → Key → ℕ → ℕ → Event → List ℕ → Type 0
Contested ruling station key contest n = Mapped (λ (d : Decision). Decide station key contest d) (Spelled (Ruled ruling) decision_text)

abbrev Keyed : Ruling → ℕ → Key → ℕ → Event → List ℕ → Type 0
Keyed ruling station key n = Both (Within 0 499) (Contested ruling station key)

abbrev Stationed : Ruling → ℕ → ℕ → Event → List ℕ → Type 0
Stationed ruling station n = Both Blank_key (Keyed ruling station)

abbrev pub Deciding : Ruling → Event → List ℕ → Type 0
Deciding ruling = Both Station (Stationed ruling)

abbrev contested_in : Ruling → ℕ → Key → ℕ → ℕ → List ℕ → Read Event
contested_in ruling station key contest n = map_in (λ (d : Decision). Decide station key contest d) (decision_in ruling)

abbrev keyed_in : Ruling → ℕ → Key → ℕ → List ℕ → Read Event
keyed_in ruling station key n = then_in (number_in (Between 0 499)) (contested_in ruling station key)

abbrev stationed_in : Ruling → ℕ → ℕ → List ℕ → Read Event
stationed_in ruling station n = then_in (λ s. followed_by 32 (key_in s)) (keyed_in ruling station)

contested_ending : (ruling : Ruling) (station : ℕ) (key : Key) (contest n : ℕ) (e : Event) (w x : List ℕ) → Contested ruling station key contest n e w → StopsAt none x → StopsAt no_digit (w ++ x)
contested_ending ruling station key contest n e w x h k =
    subst (λ (t : List ℕ). StopsAt no_digit (w ++ t)) (sym (StopsAt-none x k))
    (subst (StopsAt no_digit) (sym (append-nil w)) (subst (StopsAt no_digit) (sym h.is.text) (decision_stops h.a)))

keyed_part : (ruling : Ruling) (station : ℕ) (key : Key) (n : ℕ) → Part (Keyed ruling station key n) none (keyed_in ruling station key n)
keyed_part ruling station key n = then_part (Within 0 499) no_digit (number_in (Between 0 499)) (Contested ruling station key) none (contested_in ruling station key)
    (within_part 0 499 (omega arith) (omega arith)) (λ contest m. map_part (λ (d : Decision). Decide station key contest d) (decision_part ruling))
    (λ contest u h. some_mapped (λ (d : Decision). Decide station key contest d) (some_decision ruling))
    (λ contest m e w x h k. contested_ending ruling station key contest m e w x h k)

some_keyed : (ruling : Ruling) (station : ℕ) (key : Key) (n : ℕ) → Some_text (Keyed ruling station key n)
some_keyed ruling station key n = some_both (some_within 0 499 (omega arith)) (λ contest m. some_mapped (λ (d : Decision). Decide station key contest d) (some_decision ruling))

stationed_part : (ruling : Ruling) (station n : ℕ) → Part (Stationed ruling station n) none (stationed_in ruling station n)
stationed_part ruling station n = then_part Blank_key any (λ s. followed_by 32 (key_in s)) (Keyed ruling station) none (keyed_in ruling station)
    blank_key_part (λ key m. keyed_part ruling station key m) (λ key u h. some_keyed ruling station key (length u)) (λ key m e w x h k. StopsAt-any (w ++ x))

some_stationed : (ruling : Ruling) (station n : ℕ) → Some_text (Stationed ruling station n)
some_stationed ruling station n = some_both some_blank_key (λ key m. some_keyed ruling station key m)

pub deciding_part : (ruling : Ruling) → Part (Deciding ruling) none (decide_in ruling)
unfolding decide_in
deciding_part ruling = then_part Station any station_in (Stationed ruling) none (stationed_in ruling)
    station_part (λ station n. stationed_part ruling station n) (λ station u h. some_stationed ruling station (length u)) (λ station n e w x h k. StopsAt-any (w ++ x))

pub some_deciding : (ruling : Ruling) → Some_text (Deciding ruling)
some_deciding ruling = some_both (some_blank_number 1 9999 (omega arith)) (λ station n. some_stationed ruling station n)
