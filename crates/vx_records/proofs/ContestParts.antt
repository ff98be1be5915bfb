-- The contests of a sheet as a part of a text, in the bytes that a record has left.
use Rattle.std.proofs.Common.{◌≡◌, ℕ, zero, suc, ◌+◌, ◌-◌, ◌≤◌, ◌<◌, ◌^◌, ◌/◌, ◌%◌, Bool, true, false, cond, List, [], ◌∷◌, ◌++◌, length, map, refl, ap, sym, subst, ◌∙◌, inl, inr, arith, min, length-append, append_assoc}
use Rattle.std.specs.Prelude.{◌⊎◌, ◌&&◌, ◌||◌, ◌==◌, nat_le, nat_lt}
use Rattle.std.specs.List.{list_all}
use Rattle.std.specs.Fmt.{decimal}
use Rattle.std.proofs.lemmas.Fmt.{decimal_step, decimal_nonempty, length-decimal-le}
use Rattle.std.proofs.lemmas.Bool.{cases_lt, cond_both, eqb-true, leb-true, le-leb, lt-ltb, ltb-true, ne_eqb}
use Rattle.vx_base.proofs.Booleans.{and-left, and-right, and-both, or-cases}
use Rattle.vx_json.specs.Reading.{is_within}
use Rattle.vx_grid.specs.declared.state.State.{State}
use Rattle.vx_grid.specs.declared.state.State.TheVariants.{Marked, Marginal, Clear}
use Rattle.vx_rules.specs.declared.marks.ContestMarks.{ContestMarks}
use Rattle.vx_events.specs.Ascending.{ascends_from}
use Rattle.vx_events.specs.Fits.{contests_of}
use Rattle.vx_records.specs.declared.numbers.Numbers.TheVariants.{Between}
use Rattle.vx_records.specs.declared.sheets.Room.{Room}
use Rattle.vx_records.specs.Records.{marks_word, spaced, state_letter}
use Rattle.vx_records.specs.Held.{is_marked}
use Rattle.vx_records.specs.Letters.{is_state_letter}
use Rattle.vx_records.specs.Parts.{Read, stop, done, word_in, followed_by, each_in}
use Rattle.vx_records.specs.Numbers.{number_in}
use Rattle.vx_records.specs.Reading.{state_of, states_in, most_contest, contest_in, next_room}
use Rattle.vx_records.proofs.Grammar.{Part, Both, Some_text, StopsAt-any, any, none, then_in, then_part}
use Rattle.vx_records.proofs.Steps.{Spelled, Mapped, map_in, map_part, same_texts, followed_part, Guarded, guarded_part}
use Rattle.vx_records.proofs.Runs.{Word, word_part, Letters, letters_part, no_letter}
use Rattle.vx_records.proofs.Range.{within, within_low, within_high}
use Rattle.vx_records.proofs.NumberPart.{no_digit}
use Rattle.vx_records.proofs.OptionParts.{within_part}
use Rattle.vx_records.proofs.Items.{Items, no_more, one_more, Head, items_part}

-- letters and states
letter_state : (s : State) → state_of (state_letter s) ≡ s
letter_state Marked = refl
letter_state Marginal = refl
letter_state Clear = refl

letter_is : (s : State) → is_state_letter (state_letter s) ≡ true
letter_is Marked = refl
letter_is Marginal = refl
letter_is Clear = refl

state_at : (b n : ℕ) → b ≡ n → state_letter (state_of n) ≡ n → state_letter (state_of b) ≡ b
state_at b n e h = subst (λ (k : ℕ). state_letter (state_of k) ≡ k) (sym e) h

state_letter_of : (b : ℕ) → is_state_letter b ≡ true → state_letter (state_of b) ≡ b
state_letter_of b h = or-cases (b == 109 || b == 103) (b == 99) h
    (λ k. or-cases (b == 109) (b == 103) k (λ e. state_at b 109 (eqb-true b 109 e) refl) (λ e. state_at b 103 (eqb-true b 103 e) refl))
    (λ e. state_at b 99 (eqb-true b 99 e) refl)

states_back : (states : List State) → map state_of (map state_letter states) ≡ states
states_back [] = refl
states_back (s ∷ states) = ap (λ (x : State). x ∷ map state_of (map state_letter states)) (letter_state s) ∙ ap (λ (x : List State). s ∷ x) (states_back states)

letters_back : (text : List ℕ) → list_all is_state_letter text ≡ true → map state_letter (map state_of text) ≡ text
letters_back [] h = refl
letters_back (b ∷ text) h =
    ap (λ (x : ℕ). x ∷ map state_letter (map state_of text)) (state_letter_of b (and-left (is_state_letter b) (list_all is_state_letter text) h))
    ∙ ap (λ (x : List ℕ). b ∷ x) (letters_back text (and-right (is_state_letter b) (list_all is_state_letter text) h))

letters_are : (states : List State) → list_all is_state_letter (map state_letter states) ≡ true
letters_are [] = refl
letters_are (s ∷ states) = and-both (is_state_letter (state_letter s)) (list_all is_state_letter (map state_letter states)) (letter_is s) (letters_are states)

map_length : {A B : Type 0} (f : A → B) (xs : List A) → length (map f xs) ≡ length xs
map_length f [] = refl
map_length f (x ∷ xs) = ap suc (map_length f xs)

-- so many states
pub record Counted (most : ℕ) (states : List State) : Type 0 where
  pub low : 1 ≤ length states
  pub high : length states ≤ most

abbrev letters_of : List State → List ℕ
letters_of states = map state_letter states

states_to : (most : ℕ) (states : List State) (u : List ℕ) → Mapped (λ (text : List ℕ). map state_of text) (Letters is_state_letter 1 most) states u → Spelled (Counted most) letters_of states u
states_to most states u h =
    let size : length states ≡ length h.a = ap (length {A = State}) h.value ∙ map_length state_of h.a in
    record {
      is = record { low = omega (arith, size, h.is.is.low); high = omega (arith, size, h.is.is.high) };
      text = h.is.text ∙ sym (ap (map state_letter) h.value ∙ letters_back h.a h.is.is.letters);
    }

states_from : (most : ℕ) (states : List State) (u : List ℕ) → Spelled (Counted most) letters_of states u → Mapped (λ (text : List ℕ). map state_of text) (Letters is_state_letter 1 most) states u
states_from most states u h =
    let size = map_length state_letter states in
    record {
      a = map state_letter states;
      is = record { is = record { letters = letters_are states; low = omega (arith, size, h.is.low); high = omega (arith, size, h.is.high) }; text = h.text };
      value = sym (states_back states);
    }

states_part : (room : ℕ) → Part (Spelled (Counted (min room 150)) letters_of) (no_letter is_state_letter) (states_in room)
unfolding states_in
states_part room = same_texts (map_part (λ (text : List ℕ). map state_of text) (letters_part is_state_letter 1 (min room 150)))
    (λ s u h. states_to (min room 150) s u h) (λ s u h. states_from (min room 150) s u h)

-- how long numbers are
long_1 : (n : ℕ) → n < 2 ^ 32 → 1 ≤ length (decimal n)
long_1 n h = omega (arith, decimal_nonempty n (omega arith))

long_2 : (n : ℕ) → 10 ≤ n → n < 2 ^ 32 → 2 ≤ length (decimal n)
long_2 n big h =
    omega (arith, ap (length {A = ℕ}) (decimal_step n big (omega arith)), length-append (decimal (n / 10)) ((48 + n % 10) ∷ []), long_1 (n / 10) (omega arith))

long_3 : (n : ℕ) → 100 ≤ n → n < 2 ^ 32 → 3 ≤ length (decimal n)
long_3 n big h =
    omega (arith, ap (length {A = ℕ}) (decimal_step n (omega arith) (omega arith)), length-append (decimal (n / 10)) ((48 + n % 10) ∷ []), long_2 (n / 10) (omega arith) (omega arith))

-- the greatest contest that there is room for is the greatest that is short enough
most_small : (room : ℕ) → most_contest room ≤ 499
most_small room = cond_both (room == 4) 9 (cond (room == 5) 99 499) (λ m. m ≤ 499) (λ e. omega arith) (λ e. cond_both (room == 5) 99 499 (λ m. m ≤ 499) (λ f. omega arith) (λ f. omega arith))

most_4 : (room : ℕ) → room ≡ 4 → most_contest room ≡ 9
most_4 room e = ap most_contest e

most_5 : (room : ℕ) → room ≡ 5 → most_contest room ≡ 99
most_5 room e = ap most_contest e

most_6 : (room : ℕ) → 6 ≤ room → most_contest room ≡ 499
most_6 room h = rw (ne_eqb room 4 (λ e. absurd (omega (arith, e)))) (rw (ne_eqb room 5 (λ e. absurd (omega (arith, e)))) refl)

most_fits : (room n : ℕ) → 4 ≤ room → n ≤ most_contest room → length (decimal n) + 3 ≤ room
most_fits room n h k = elim (cases_lt room 5) [
  | inl a ↦ short_4 (most_4 room (omega arith)) a
  | inr a ↦ elim (cases_lt room 6) [ inl d ↦ short_5 (most_5 room (omega arith)) a | inr d ↦ short_6 (most_6 room d) d ]
] where
  short_4 : most_contest room ≡ 9 → room < 5 → length (decimal n) + 3 ≤ room
  short_4 e a = omega (arith, length-decimal-le 1 n (omega arith) (omega (arith, e, k)) (omega (arith, e, k)), h)

  short_5 : most_contest room ≡ 99 → 5 ≤ room → length (decimal n) + 3 ≤ room
  short_5 e a = omega (arith, length-decimal-le 2 n (omega arith) (omega (arith, e, k)) (omega (arith, e, k)), a)

  short_6 : most_contest room ≡ 499 → 6 ≤ room → length (decimal n) + 3 ≤ room
  short_6 e a = omega (arith, length-decimal-le 3 n (omega arith) (omega (arith, e, k)) (omega (arith, e, k)), a)

fits_most : (room n : ℕ) → n < 500 → length (decimal n) + 3 ≤ room → n ≤ most_contest room
fits_most room n small k = elim (cases_lt room 5) [
  | inl a ↦ elim (cases_lt n 10) [
    | inl d ↦ omega (arith, d, most_4 room (omega (arith, k, a, long_1 n (omega arith))))
    | inr d ↦ absurd (omega (arith, k, a, long_2 n d (omega arith)))
  ]
  | inr a ↦ elim (cases_lt room 6) [
    | inl d ↦ elim (cases_lt n 100) [
      | inl e ↦ omega (arith, e, most_5 room (omega arith))
      | inr e ↦ absurd (omega (arith, k, d, long_3 n e (omega arith)))
    ]
    | inr d ↦ omega (arith, most_6 room d)
  ]
]

-- a contest from `least` on, behind a blank, in at most so many bytes
pub record Marks (place : Room) (marks : ContestMarks) : Type 0 where
  pub least : place.least ≤ marks.contest
  pub small : marks.contest < 500
  pub low : 1 ≤ length marks.states
  pub high : length marks.states ≤ 150
  pub short : length (32 ∷ marks_word marks) ≤ place.room

abbrev pub blank_marks : ContestMarks → List ℕ
blank_marks marks = 32 ∷ marks_word marks

abbrev Numbered : Room → ℕ → List ℕ → Type 0
Numbered place = Spelled (λ n. is_within place.least (most_contest place.room) n ≡ true) (λ n. decimal n ++ 58 ∷ [])

abbrev made_marks : ℕ → List State → ContestMarks
made_marks contest states = record { contest = contest; states = states }

abbrev Stated : Room → ℕ → ℕ → ContestMarks → List ℕ → Type 0
Stated place contest n = Mapped (made_marks contest) (Spelled (Counted (min (place.room - 1 - n) 150)) letters_of)

abbrev Behind_blank : Room → Unit {0} → ℕ → ContestMarks → List ℕ → Type 0
Behind_blank place a n = Both (Numbered place) (Stated place)

abbrev may : Room → Bool
may place = nat_le 4 place.room && nat_le place.least (most_contest place.room)

numbered_part : (place : Room) → place.least ≤ most_contest place.room → Part (Numbered place) any (λ s. followed_by 58 (number_in (Between place.least (most_contest place.room)) s))
numbered_part place h =
    followed_part (λ n. is_within place.least (most_contest place.room) n ≡ true) decimal no_digit (number_in (Between place.least (most_contest place.room)))
    (within_part place.least (most_contest place.room) h (omega (arith, most_small place.room))) 58 refl

stated_in : Room → ℕ → ℕ → List ℕ → Read ContestMarks
stated_in place contest n = map_in (made_marks contest) (states_in (place.room - 1 - n))

stated_part : (place : Room) (contest n : ℕ) → Part (Stated place contest n) (no_letter is_state_letter) (stated_in place contest n)
unfolding stated_in
stated_part place contest n = map_part (made_marks contest) (states_part (place.room - 1 - n))

number_size : (place : Room) (n : ℕ) (u : List ℕ) → 4 ≤ place.room → Numbered place n u → (length u + 2 ≤ place.room) × (length u ≡ length (decimal n) + 1)
number_size place n u h k =
    let size : length u ≡ length (decimal n) + 1 = ap (length {A = ℕ}) k.text ∙ length-append (decimal n) (58 ∷ []) in
    (omega (arith, size, most_fits place.room n h (within_high place.least (most_contest place.room) n k.is)), size)

some_stated : (place : Room) (n : ℕ) (u : List ℕ) → 4 ≤ place.room → Numbered place n u → Some_text (Stated place n (length u))
some_stated place n u h k =
    let size = number_size place n u h k in
    record { b = made_marks n (Clear ∷ []); w = 99 ∷ []; is = record { a = Clear ∷ []; is = record { is = record { low = omega arith; high = omega (arith, size.0) }; text = refl }; value = refl } }

marks_part : (place : Room) → 4 ≤ place.room → place.least ≤ most_contest place.room → Part (Both (Numbered place) (Stated place)) (no_letter is_state_letter) (then_in (λ s. followed_by 58 (number_in (Between place.least (most_contest place.room)) s)) (stated_in place))
marks_part place room h =
    then_part (Numbered place) any (λ s. followed_by 58 (number_in (Between place.least (most_contest place.room)) s)) (Stated place) (no_letter is_state_letter) (stated_in place)
    (numbered_part place h) (stated_part place) (λ n u k. some_stated place n u room k) (λ n m marks w x k j. StopsAt-any (w ++ x))

some_numbered : (place : Room) → place.least ≤ most_contest place.room → Some_text (Numbered place)
some_numbered place h = record { b = place.least; w = decimal place.least ++ 58 ∷ []; is = record { is = within place.least (most_contest place.room) place.least (omega arith) h; text = refl } }

some_marks : (place : Room) → 4 ≤ place.room → place.least ≤ most_contest place.room → Some_text (Both (Numbered place) (Stated place))
some_marks place room h =
    let one = some_numbered place h in
    let two = some_stated place one.b one.w room one.is in
    record { b = two.b; w = one.w ++ two.w; is = record { a = one.b; u = one.w; w = two.w; first = one.is; second = two.is; text = refl } }

contest_both : (place : Room) → may place ≡ true → Part (Both (Word (32 ∷ [])) (Behind_blank place)) (no_letter is_state_letter) (then_in (word_in (32 ∷ [])) (λ a n. then_in (λ s. followed_by 58 (number_in (Between place.least (most_contest place.room)) s)) (stated_in place)))
contest_both place e =
    let room = leb-true 4 place.room (and-left (nat_le 4 place.room) (nat_le place.least (most_contest place.room)) e) in
    let some = leb-true place.least (most_contest place.room) (and-right (nat_le 4 place.room) (nat_le place.least (most_contest place.room)) e) in
    then_part (Word (32 ∷ [])) any (word_in (32 ∷ [])) (Behind_blank place) (no_letter is_state_letter)
    (λ a n. then_in (λ s. followed_by 58 (number_in (Between place.least (most_contest place.room)) s)) (stated_in place))
    (word_part (32 ∷ [])) (λ a n. marks_part place room some) (λ a u h. some_marks place room some) (λ a n marks w x h k. StopsAt-any (w ++ x))

abbrev Guarded_contest : Room → ContestMarks → List ℕ → Type 0
Guarded_contest place = Guarded (may place) (Both (Word (32 ∷ [])) (Behind_blank place))

contest_to_at : (place : Room) (n : ℕ) (u : List ℕ) (states : List State) → 4 ≤ place.room → Numbered place n u → Counted (min (place.room - 1 - length u) 150) states → Marks place (made_marks n states)
contest_to_at place n u states room k h =
    let size = number_size place n u room k in
    let low = within_low place.least (most_contest place.room) n k.is in
    let high = within_high place.least (most_contest place.room) n k.is in
    record {
      least = low;
      small = omega (arith, high, most_small place.room);
      low = h.low;
      high = omega (arith, h.high);
      short = omega (arith, h.high, size.0, size.1, length-append (decimal n) (58 ∷ map state_letter states), map_length state_letter states);
    }

contest_text : (n : ℕ) (letters u v w t : List ℕ) → u ≡ v ++ w → v ≡ 32 ∷ [] → w ≡ t ++ letters → t ≡ decimal n ++ 58 ∷ [] → u ≡ 32 ∷ (decimal n ++ 58 ∷ letters)
contest_text n letters u v w t a b c d =
    a ∙ ap (λ (x : List ℕ). x ++ w) b ∙ ap (λ (x : List ℕ). 32 ∷ x) (c ∙ ap (λ (x : List ℕ). x ++ letters) d ∙ append_assoc (decimal n) (58 ∷ []) letters)

contest_to : (place : Room) (marks : ContestMarks) (u : List ℕ) → Guarded_contest place marks u → Spelled (Marks place) blank_marks marks u
contest_to place marks u h =
    let room = leb-true 4 place.room (and-left (nat_le 4 place.room) (nat_le place.least (most_contest place.room)) h.may) in
    let both = h.is.second in
    subst (λ (m : ContestMarks). Spelled (Marks place) blank_marks m u) (sym both.second.value) (record {
      is = contest_to_at place both.a both.u both.second.a room both.first both.second.is.is;
      text = contest_text both.a (letters_of both.second.a) u h.is.u h.is.w both.u h.is.text h.is.first.text (both.text ∙ ap (λ (x : List ℕ). both.u ++ x) both.second.is.text) both.first.text;
    })

contest_back : (place : Room) (marks : ContestMarks) (u : List ℕ) → Spelled (Marks place) blank_marks marks u → Guarded_contest place marks u
contest_back place marks u h =
    let n = marks.contest in
    let letters = letters_of marks.states in
    let size = length-append (decimal n) (58 ∷ letters) in
    let count = map_length state_letter marks.states in
    let number : length (decimal n ++ 58 ∷ []) ≡ length (decimal n) + 1 = length-append (decimal n) (58 ∷ []) in
    let short = h.is.short in
    let most : n ≤ most_contest place.room = fits_most place.room n h.is.small (omega (arith, short, size, count, h.is.low)) in
    let some : place.least ≤ most_contest place.room = omega (arith, most, h.is.least) in
    let room : 4 ≤ place.room = omega (arith, short, size, count, h.is.low, long_1 n (omega (arith, h.is.small))) in
    record {
      may = and-both (nat_le 4 place.room) (nat_le place.least (most_contest place.room)) (le-leb 4 place.room room) (le-leb place.least (most_contest place.room) some);
      is = record {
        a = done;
        u = 32 ∷ [];
        w = (decimal n ++ 58 ∷ []) ++ letters;
        first = record { is = tt; text = refl };
        second = record {
          a = n;
          u = decimal n ++ 58 ∷ [];
          w = letters;
          first = record { is = within place.least (most_contest place.room) n h.is.least most; text = refl };
          second = record { a = marks.states; is = record { is = record { low = h.is.low; high = omega (arith, short, size, count, number, h.is.high) }; text = refl }; value = refl };
          text = refl;
        };
        text = h.text ∙ ap (λ (x : List ℕ). 32 ∷ x) (sym (append_assoc (decimal n) (58 ∷ []) letters));
      };
    }

pub contest_part : (place : Room) → Part (Spelled (Marks place) blank_marks) (no_letter is_state_letter) (contest_in place)
unfolding contest_in stated_in
contest_part place = same_texts
    (guarded_part (may place) (Both (Word (32 ∷ [])) (Behind_blank place)) (no_letter is_state_letter)
    (then_in (word_in (32 ∷ [])) (λ a n. then_in (λ s. followed_by 58 (number_in (Between place.least (most_contest place.room)) s)) (stated_in place)))
    (contest_both place))
    (λ m u h. contest_to place m u h) (λ m u h. contest_back place m u h)

-- the contests of a sheet
abbrev pub marks_text : List ContestMarks → List ℕ
marks_text list = spaced (map marks_word list)

pub record Listed (place : Room) (list : List ContestMarks) : Type 0 where
  pub ascends : ascends_from place.least (contests_of list) ≡ true
  pub marked : list_all is_marked list ≡ true
  pub short : length (marks_text list) ≤ place.room

abbrev pub Contest : Room → ContestMarks → List ℕ → Type 0
Contest place = Spelled (Marks place) blank_marks

contest_head : (place : Room) (m : ContestMarks) (u : List ℕ) → Contest place m u → Head (no_letter is_state_letter) u
contest_head place m u h = record { head = 32; tail = marks_word m; text = h.text; is = refl }

some_contest : (place : Room) → may place ≡ true → Some_text (Contest place)
some_contest place e =
    let room = leb-true 4 place.room (and-left (nat_le 4 place.room) (nat_le place.least (most_contest place.room)) e) in
    let some = leb-true place.least (most_contest place.room) (and-right (nat_le 4 place.room) (nat_le place.least (most_contest place.room)) e) in
    let one = some_marks place room some in
    record { b = one.b; w = 32 ∷ one.w; is = contest_to place one.b (32 ∷ one.w) (record { may = e; is = record { a = done; u = 32 ∷ []; w = one.w; first = record { is = tt; text = refl }; second = one.is; text = refl } }) }

contest_stops : (place : Room) → may place ≡ false → (s : List ℕ) → contest_in place s ≡ stop s
unfolding contest_in
contest_stops place e s = rw e refl

contest_decided_at : (place : Room) (t : Bool) → may place ≡ t → Some_text (Contest place) ⊎ ((s : List ℕ) → contest_in place s ≡ stop s)
contest_decided_at place true e = inl (some_contest place e)
contest_decided_at place false e = inr (contest_stops place e)

contests_of_items : (most : ℕ) (place : Room) → Part (Items Contest next_room most place) none (each_in contest_in next_room most place)
contests_of_items most place = items_part Contest contest_in next_room (no_letter is_state_letter) contest_part contest_head (λ p. contest_decided_at p (may p) refl) most place

marked_is : (m : ContestMarks) → m.contest < 500 → 1 ≤ length m.states → length m.states ≤ 150 → is_marked m ≡ true
marked_is m a b c = and-both (nat_lt m.contest 500) (is_within 1 150 (length m.states)) (lt-ltb m.contest 500 a) (within 1 150 (length m.states) b c)

items_to : (most : ℕ) (place : Room) (list : List ContestMarks) (u : List ℕ) → Items Contest next_room most place list u → Spelled (Listed place) marks_text list u
items_to most place [] u no_more = record { is = record { ascends = refl; marked = refl; short = omega arith }; text = refl }
items_to zero place (m ∷ list) u h = elim h [ ]
items_to (suc most) place (m ∷ list) u (one_more v w h r) =
    let rest = items_to most (next_room place m (length v)) list w r in
    let size : length v ≡ length (blank_marks m) = ap (length {A = ℕ}) h.text in
    record {
      is = record {
        ascends = and-both (nat_le place.least m.contest) (ascends_from (m.contest + 1) (contests_of list)) (le-leb place.least m.contest h.is.least) rest.is.ascends;
        marked = and-both (is_marked m) (list_all is_marked list) (marked_is m h.is.small h.is.low h.is.high) rest.is.marked;
        short = omega (arith, size, h.is.short, rest.is.short, length-append (blank_marks m) (marks_text list));
      };
      text = ap (λ (t : List ℕ). t ++ w) h.text ∙ ap (λ (t : List ℕ). blank_marks m ++ t) rest.text;
    }

items_back : (most : ℕ) (place : Room) (list : List ContestMarks) → 500 ≤ most + place.least → Listed place list → Items Contest next_room most place list (marks_text list)
items_back most place [] enough h = no_more
items_back zero place (m ∷ list) enough h =
    let low = leb-true place.least m.contest (and-left (nat_le place.least m.contest) (ascends_from (m.contest + 1) (contests_of list)) h.ascends) in
    let one = and-left (is_marked m) (list_all is_marked list) h.marked in
    absurd (omega (arith, low, enough, ltb-true m.contest 500 (and-left (nat_lt m.contest 500) (is_within 1 150 (length m.states)) one)))
items_back (suc most) place (m ∷ list) enough h =
    let low = leb-true place.least m.contest (and-left (nat_le place.least m.contest) (ascends_from (m.contest + 1) (contests_of list)) h.ascends) in
    let one = and-left (is_marked m) (list_all is_marked list) h.marked in
    let states = and-right (nat_lt m.contest 500) (is_within 1 150 (length m.states)) one in
    let size = length-append (blank_marks m) (marks_text list) in
    let short = h.short in
    let rest = items_back most (next_room place m (length (blank_marks m))) list (omega (arith, low, enough)) (record {
      ascends = and-right (nat_le place.least m.contest) (ascends_from (m.contest + 1) (contests_of list)) h.ascends;
      marked = and-right (is_marked m) (list_all is_marked list) h.marked;
      short = omega (arith, size, short);
    }) in
    one_more (blank_marks m) (marks_text list) (record {
      is = record { least = low; small = ltb-true m.contest 500 (and-left (nat_lt m.contest 500) (is_within 1 150 (length m.states)) one); low = within_low 1 150 (length m.states) states; high = within_high 1 150 (length m.states) states; short = omega (arith, size, short) };
      text = refl;
    }) rest

-- the contests that stand in so much room
pub contests_part : (room : ℕ) → Part (Spelled (Listed (record { least = 0; room = room })) marks_text) none (each_in contest_in next_room 500 (record { least = 0; room = room }))
contests_part room = same_texts (contests_of_items 500 (record { least = 0; room = room }))
    (λ list u h. items_to 500 (record { least = 0; room = room }) list u h)
    (λ list u h. subst (Items Contest next_room 500 (record { least = 0; room = room }) list) (sym h.text) (items_back 500 (record { least = 0; room = room }) list (omega arith) h.is))
