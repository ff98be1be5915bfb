-- Added sheets as parts of a text.
use Rattle.std.proofs.Common.{◌≡◌, ℕ, zero, suc, ◌+◌, ◌-◌, ◌^◌, ◌≤◌, ◌<◌, Bool, true, false, cond, List, [], ◌∷◌, ◌++◌, length, map, refl, ap, sym, subst, ◌∙◌, inl, inr, arith, length-append, append-nil, append_assoc}
use Rattle.std.specs.Prelude.{Result, Ok, Err, ◌&&◌, ◌⊎◌, codes, nat_lt}
use Rattle.std.specs.Fmt.{decimal}
use Rattle.std.proofs.lemmas.Fmt.{length-decimal-le}
use Rattle.vx_base.specs.Results.{◌>>=◌}
use Rattle.vx_base.proofs.Booleans.{and-left, and-right, and-both}
use Rattle.vx_json.specs.Reading.{is_within}
use Rattle.std.specs.List.{list_all}
use Rattle.vx_grid.specs.Kinds.{kind_word}
use Rattle.vx_grid.specs.declared.kind.Kind.{Kind}
use Rattle.vx_grid.specs.declared.kind.Kind.TheVariants.{Precinct, Absentee, Provisional, Other}
use Rattle.vx_rules.specs.declared.marks.ContestMarks.{ContestMarks}
use Rattle.vx_rules.specs.declared.marks.SheetMarks.{SheetMarks}
use Rattle.vx_events.specs.declared.event.Event.{Event}
use Rattle.vx_events.specs.declared.event.Event.TheVariants.{Add}
use Rattle.vx_events.specs.declared.key.Key.{Key}
use Rattle.vx_events.specs.Fits.{is_key, is_batch, is_batch_character}
use Rattle.vx_records.specs.declared.numbers.Numbers.TheVariants.{Between, Fronts}
use Rattle.vx_records.specs.declared.sheets.Head.{Head}
use Rattle.vx_records.specs.declared.sheets.Room.{Room}
use Rattle.vx_records.specs.Parts.{Found, Read, found, stop, choice_in, followed_by, each_in}
use Rattle.vx_records.specs.Numbers.{takes, number_in}
use Rattle.vx_records.specs.Reading.{key_in, kinds, kind_text, head_in, contest_in, next_room, made_head, room_of, made_add, add_in}
use Rattle.vx_records.proofs.Grammar.{Part, Both, Some_text, StopsAt, StopsAt-any, any, none, then_in, then_part}
use Rattle.vx_records.proofs.Steps.{Spelled, Mapped, map_in, map_part, same_texts, followed_part}
use Rattle.vx_records.proofs.Choice.{Among, Chosen, choice_part}
use Rattle.vx_records.proofs.Range.{within, within_low, within_high, fronts_good, front_few}
use Rattle.vx_records.proofs.NumberPart.{no_digit, number_part}
use Rattle.vx_records.proofs.KeyParts.{Blank_number, blank_number_part, some_blank_number, key_text, Blank_key, blank_key_part, some_blank_key, some_both, some_mapped}
use Rattle.vx_records.proofs.ContestParts.{marks_text, Listed, contests_part}

-- every kind is one of the list
pub kind_among : (kind : Kind) (test : Bool) → Among (kind, test) kinds
kind_among Precinct false = inl refl
kind_among Absentee false = inr (inl refl)
kind_among Provisional false = inr (inr (inl refl))
kind_among Other false = inr (inr (inr (inl refl)))
kind_among Precinct true = inr (inr (inr (inr (inl refl))))
kind_among Absentee true = inr (inr (inr (inr (inr (inl refl)))))
kind_among Provisional true = inr (inr (inr (inr (inr (inr (inl refl))))))
kind_among Other true = inr (inr (inr (inr (inr (inr (inr (inl refl)))))))

kinds_part : Part (Chosen kind_text kinds) any (choice_in kind_text kinds)
kinds_part = choice_part kind_text kinds refl

some_kind : Some_text (Chosen kind_text kinds)
some_kind = record { b = (Precinct, false); w = kind_text (Precinct, false); is = record { is = inl refl; text = refl } }

-- an odd page and a blank
abbrev Front : ℕ → List ℕ → Type 0
Front = Spelled (λ n. takes Fronts n ≡ true) (λ n. decimal n ++ 32 ∷ [])

front_part : Part Front any (λ s. followed_by 32 (number_in Fronts s))
front_part = followed_part (λ n. takes Fronts n ≡ true) decimal no_digit (number_in Fronts) (number_part Fronts fronts_good) 32 refl

some_front : Some_text Front
some_front = record { b = 1; w = decimal 1 ++ 32 ∷ []; is = record { is = refl; text = refl } }

-- what stands before the contests
pub record IsHead (head : Head) : Type 0 where
  pub key : is_key head.key ≡ true
  pub card : is_within 0 1023 head.card ≡ true
  pub front : takes Fronts head.front ≡ true

abbrev pub head_text : Head → List ℕ
head_text head = (key_text head.key ++ 32 ∷ []) ++ ((decimal head.card ++ 32 ∷ []) ++ ((decimal head.front ++ 32 ∷ []) ++ kind_word head.kind head.test))

abbrev Kinded : Key → ℕ → ℕ → ℕ → Head → List ℕ → Type 0
Kinded key card front n = Mapped (made_head key card front) (Chosen kind_text kinds)

abbrev Fronted : Key → ℕ → ℕ → Head → List ℕ → Type 0
Fronted key card n = Both Front (Kinded key card)

abbrev Carded : Key → ℕ → Head → List ℕ → Type 0
Carded key n = Both (Blank_number 0 1023) (Fronted key)

abbrev kinded_in : Key → ℕ → ℕ → ℕ → List ℕ → Read Head
kinded_in key card front n = map_in (made_head key card front) (choice_in kind_text kinds)

abbrev fronted_in : Key → ℕ → ℕ → List ℕ → Read Head
fronted_in key card n = then_in (λ s. followed_by 32 (number_in Fronts s)) (kinded_in key card)

abbrev carded_in : Key → ℕ → List ℕ → Read Head
carded_in key n = then_in (λ s. followed_by 32 (number_in (Between 0 1023) s)) (fronted_in key)

fronted_part : (key : Key) (card n : ℕ) → Part (Fronted key card n) any (fronted_in key card n)
fronted_part key card n = then_part Front any (λ s. followed_by 32 (number_in Fronts s)) (Kinded key card) any (kinded_in key card)
    front_part (λ front m. map_part (made_head key card front) kinds_part) (λ front u h. some_mapped (made_head key card front) some_kind) (λ front m b w x h k. StopsAt-any (w ++ x))

some_fronted : (key : Key) (card n : ℕ) → Some_text (Fronted key card n)
some_fronted key card n = some_both some_front (λ front m. some_mapped (made_head key card front) some_kind)

carded_part : (key : Key) (n : ℕ) → Part (Carded key n) any (carded_in key n)
carded_part key n = then_part (Blank_number 0 1023) any (λ s. followed_by 32 (number_in (Between 0 1023) s)) (Fronted key) any (fronted_in key)
    (blank_number_part 0 1023 (omega arith) (omega arith)) (λ card m. fronted_part key card m) (λ card u h. some_fronted key card (length u)) (λ card m b w x h k. StopsAt-any (w ++ x))

some_carded : (key : Key) (n : ℕ) → Some_text (Carded key n)
some_carded key n = some_both (some_blank_number 0 1023 (omega arith)) (λ card m. some_fronted key card m)

head_both : Part (Both Blank_key Carded) any head_in
unfolding head_in
head_both = then_part Blank_key any (λ s. followed_by 32 (key_in s)) Carded any carded_in
    blank_key_part (λ key n. carded_part key n) (λ key u h. some_carded key (length u)) (λ key n b w x h k. StopsAt-any (w ++ x))

head_to : (head : Head) (u : List ℕ) → Both Blank_key Carded head u → Spelled IsHead head_text head u
head_to head u h =
    let card = h.second in
    let front = card.second in
    let kind = front.second in
    subst (λ (x : Head). Spelled IsHead head_text x u) (sym kind.value) (record {
      is = record { key = h.first.is; card = card.first.is; front = front.first.is };
      text = h.text ∙ ap (λ (t : List ℕ). t ++ h.w) h.first.text ∙ ap (λ (t : List ℕ). (key_text h.a ++ 32 ∷ []) ++ t)
          (card.text ∙ ap (λ (t : List ℕ). t ++ card.w) card.first.text ∙ ap (λ (t : List ℕ). (decimal card.a ++ 32 ∷ []) ++ t)
          (front.text ∙ ap (λ (t : List ℕ). t ++ front.w) front.first.text ∙ ap (λ (t : List ℕ). (decimal front.a ++ 32 ∷ []) ++ t) kind.is.text));
    })

head_back : (head : Head) (u : List ℕ) → Spelled IsHead head_text head u → Both Blank_key Carded head u
head_back head u h = record {
  a = head.key;
  u = key_text head.key ++ 32 ∷ [];
  w = (decimal head.card ++ 32 ∷ []) ++ ((decimal head.front ++ 32 ∷ []) ++ kind_word head.kind head.test);
  first = record { is = h.is.key; text = refl };
  second = record {
    a = head.card;
    u = decimal head.card ++ 32 ∷ [];
    w = (decimal head.front ++ 32 ∷ []) ++ kind_word head.kind head.test;
    first = record { is = h.is.card; text = refl };
    second = record {
      a = head.front;
      u = decimal head.front ++ 32 ∷ [];
      w = kind_word head.kind head.test;
      first = record { is = h.is.front; text = refl };
      second = record { a = (head.kind, head.test); is = record { is = kind_among head.kind head.test; text = refl }; value = refl };
      text = refl;
    };
    text = refl;
  };
  text = h.text;
}

head_part : Part (Spelled IsHead head_text) any head_in
head_part = same_texts head_both (λ head u h. head_to head u h) (λ head u h. head_back head u h)

-- a sheet with its contests
abbrev Contested : Head → ℕ → Event → List ℕ → Type 0
Contested head n = Mapped (made_add head) (Spelled (Listed (room_of n)) marks_text)

abbrev contested_in : Head → ℕ → List ℕ → Read Event
contested_in head n = map_in (made_add head) (each_in contest_in next_room 500 (room_of n))

abbrev pub Adding : Event → List ℕ → Type 0
Adding = Both (Spelled IsHead head_text) Contested

some_contested : (head : Head) (n : ℕ) → Some_text (Contested head n)
some_contested head n = some_mapped (made_add head) (record { b = []; w = []; is = record { is = record { ascends = refl; marked = refl; short = omega arith }; text = refl } })

pub adding_part : Part Adding none add_in
unfolding add_in
adding_part = then_part (Spelled IsHead head_text) any head_in Contested none contested_in
    head_part (λ head n. map_part (made_add head) (contests_part (16378 - n))) (λ head u h. some_contested head (length u)) (λ head n b w x h k. StopsAt-any (w ++ x))

some_head : Some_text (Spelled IsHead head_text)
some_head =
    let key = some_blank_key in
    let head : Head = made_head key.b 0 1 (Precinct, false) in
    record { b = head; w = head_text head; is = record { is = record { key = key.is.is; card = refl; front = refl }; text = refl } }

pub some_adding : Some_text Adding
some_adding = some_both some_head some_contested

-- how long a head is
decimal_short : (k n : ℕ) → 0 < k → n < 10 ^ k → n < 2 ^ 64 → length (decimal n) ≤ k
decimal_short k n some h small = length-decimal-le k n some h small

kind_short : (kind : Kind) (test : Bool) → length (kind_word kind test) ≤ 16
kind_short Precinct false = omega arith
kind_short Absentee false = omega arith
kind_short Provisional false = omega arith
kind_short Other false = omega arith
kind_short Precinct true = omega arith
kind_short Absentee true = omega arith
kind_short Provisional true = omega arith
kind_short Other true = omega arith

pub key_short : (key : Key) → is_key key ≡ true → length (key_text key) ≤ 39
key_short key h =
    let batch = within_high 1 32 (length key.batch) (and-left (is_within 1 32 (length key.batch)) (list_all is_batch_character key.batch) (and-left (is_batch key.batch) (is_within 1 999999 key.number) h)) in
    let number = within_high 1 999999 key.number (and-right (is_batch key.batch) (is_within 1 999999 key.number) h) in
    omega (arith, length-append (key.batch ++ 32 ∷ []) (decimal key.number), length-append key.batch (32 ∷ []), batch, decimal_short 6 key.number (omega arith) (omega (arith, number)) (omega (arith, number)))

pub head_short : (head : Head) → IsHead head → length (head_text head) ≤ 100
head_short head h =
    let a = key_text head.key in
    let b = decimal head.card in
    let c = decimal head.front in
    let d = kind_word head.kind head.test in
    let front = within_front head.front h.front in
    let card = within_high 0 1023 head.card h.card in
    omega (
      arith,
      key_short head.key h.key,
      decimal_short 4 head.card (omega arith) (omega (arith, card)) (omega (arith, card)),
      decimal_short 2 head.front (omega arith) (omega (arith, front)) (omega (arith, front)),
      kind_short head.kind head.test,
      length-append a (32 ∷ []),
      length-append b (32 ∷ []),
      length-append c (32 ∷ []),
      length-append (c ++ 32 ∷ []) d,
      length-append (b ++ 32 ∷ []) ((c ++ 32 ∷ []) ++ d),
      length-append (a ++ 32 ∷ []) ((b ++ 32 ∷ []) ++ ((c ++ 32 ∷ []) ++ d)),
    ) where
      within_front : (n : ℕ) → takes Fronts n ≡ true → n < 64
      within_front n h = front_few n h
