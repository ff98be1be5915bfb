-- How what is left over grows by an event.
use Rattle.std.proofs.Common.{◌≡◌, ◌≤◌, ◌<◌, ◌+◌, ℕ, Bool, true, false, cond, List, [], ◌∷◌, ◌++◌, length, drop, map, get_or, refl, sym, ap, ◌∙◌, append_assoc, arith}
use Rattle.std.specs.Prelude.{◌&&◌, bytes_eq, filter, nat_lt, Some}
use Rattle.std.specs.List.{flat_map}
use Rattle.std.proofs.lemmas.List.{drop_all}
use Rattle.serde_json.specs.Data.{Data}
use Rattle.vx_election_model.specs.declared.election.Election.{Election}
use Rattle.vx_rules.specs.declared.marks.SheetMarks.{SheetMarks}
use Rattle.vx_events.specs.declared.event.Event.{Event}
use Rattle.vx_events.specs.declared.event.Event.TheVariants.{Add, Claim, Release, Decide}
use Rattle.vx_events.specs.declared.key.Key.{Key}
use Rattle.vx_center.specs.Sheets.{Added, added_from}
use Rattle.vx_center.specs.States.{is_add}
use Rattle.vx_markup.specs.Json.{whole}
use Rattle.vx_desk.specs.Waits.{any_waits, waiting_contests, waiting_of, waits_in}
use Rattle.vx_desk.specs.Left.{Grew, IsSoFar, missing_by, missing_from, missing_if, waiting_by, waiting_from}
use Rattle.vx_desk.proofs.Steps.{begins}

none_missing : (missing : List Data) → missing ≡ missing ++ []
none_missing [] = refl
none_missing (x ∷ missing) = ap (λ (xs : List Data). x ∷ xs) (none_missing missing)

nothing : (missing : List Data) (waiting : ℕ) → Grew [] 0 missing waiting missing waiting
nothing missing waiting = record { missing_is = none_missing missing; waiting_is = omega arith }

module _ (election : Election) (kept : List Event) (batch : List ℕ) (sheets : ℕ) where
  -- an event that adds no sheet leaves nothing over
  pub grew_none : (event : Event) (missing : List Data) (waiting : ℕ) → is_add event ≡ false
      → Grew (missing_by election kept batch sheets event) (waiting_by election kept batch event) missing waiting missing waiting
  grew_none (Add key sheet) missing waiting none = absurd cc
  grew_none (Claim station key) missing waiting none = nothing missing waiting
  grew_none (Release station key) missing waiting none = nothing missing waiting
  grew_none (Decide station key contest decision) missing waiting none = nothing missing waiting

  chosen_data : (b c : Bool) (d : Data) (rest : List Added) (added : Added)
      → map whole (map (λ (a : Added). a.key.number) (filter (λ (a : Added). nat_lt sheets a.key.number) (cond b (added ∷ rest) rest)))
      ≡ cond b (missing_if sheets added.key) [] ++ map whole (map (λ (a : Added). a.key.number) (filter (λ (a : Added). nat_lt sheets a.key.number) rest))
  chosen_data false c d rest added = refl
  chosen_data true c d rest added = by (nat_lt sheets added.key.number)
    where
      left : List Added
      left = filter (λ (a : Added). nat_lt sheets a.key.number) rest

      by : (b : Bool) → map whole (map (λ (a : Added). a.key.number) (cond b (added ∷ left) left)) ≡ cond b (whole added.key.number ∷ []) [] ++ map whole (map (λ (a : Added). a.key.number) left)
      by true = refl
      by false = refl

  -- the event at the front, and those behind it
  missing_more : (place : ℕ) (event : Event) (rest : List Event)
      → missing_from election kept batch sheets place (event ∷ rest) ≡ missing_by election kept batch sheets event ++ missing_from election kept batch sheets (place + 1) rest
  missing_more place (Add key sheet) rest =
      chosen_data (bytes_eq key.batch batch && any_waits election kept key (Some sheet)) true (whole 0) (filter (waits_in election kept batch) (added_from (place + 1) rest)) (record { at = place; key = key; sheet = sheet })
  missing_more place (Claim station key) rest = refl
  missing_more place (Release station key) rest = refl
  missing_more place (Decide station key contest decision) rest = refl

  lengths : {X : Type 0} (xs ys : List X) → length (xs ++ ys) ≡ length xs + length ys
  lengths [] ys = omega arith
  lengths (x ∷ xs) ys = omega (arith, lengths xs ys)

  chosen_count : (b : Bool) (added : Added) (rest : List Added)
      → length (flat_map (waiting_of election kept) (cond b (added ∷ rest) rest)) ≡ cond b (length (waiting_of election kept added)) 0 + length (flat_map (waiting_of election kept) rest)
  chosen_count true added rest = lengths (waiting_of election kept added) (flat_map (waiting_of election kept) rest)
  chosen_count false added rest = omega arith

  none_more : (n : ℕ) → n ≡ 0 + n
  none_more n = omega arith

  waiting_more : (place : ℕ) (event : Event) (rest : List Event)
      → waiting_from election kept batch place (event ∷ rest) ≡ waiting_by election kept batch event + waiting_from election kept batch (place + 1) rest
  waiting_more place (Add key sheet) rest =
      chosen_count (bytes_eq key.batch batch && any_waits election kept key (Some sheet)) (record { at = place; key = key; sheet = sheet }) (filter (waits_in election kept batch) (added_from (place + 1) rest))
  waiting_more place (Claim station key) rest = none_more (waiting_from election kept batch (place + 1) rest)
  waiting_more place (Release station key) rest = none_more (waiting_from election kept batch (place + 1) rest)
  waiting_more place (Decide station key contest decision) rest = none_more (waiting_from election kept batch (place + 1) rest)

  -- a sheet that isn't of the batch or doesn't wait leaves nothing over, and another what it leaves
  pub grew_other : (key : Key) (sheet : SheetMarks) (event : Event) (missing : List Data) (waiting : ℕ) → event ≡ Add key sheet
      → (bytes_eq key.batch batch && any_waits election kept key (Some sheet)) ≡ false
      → Grew (missing_by election kept batch sheets event) (waiting_by election kept batch event) missing waiting missing waiting
  grew_other key sheet event missing waiting is other = rw (is, other) (nothing missing waiting)

  pub grew_by : (key : Key) (sheet : SheetMarks) (event : Event) (missing : List Data) (waiting : ℕ) (missing_now : List Data) (waiting_now : ℕ) → event ≡ Add key sheet
      → (bytes_eq key.batch batch && any_waits election kept key (Some sheet)) ≡ true
      → Grew (missing_if sheets key) (length (waiting_contests election kept key sheet)) missing waiting missing_now waiting_now
      → Grew (missing_by election kept batch sheets event) (waiting_by election kept batch event) missing waiting missing_now waiting_now
  grew_by key sheet event missing waiting missing_now waiting_now is waits grew = rw (is, waits) grew

  -- one event more
  pub so_far_more : (i : ℕ) (event : Event) (missing : List Data) (waiting : ℕ) (missing_now : List Data) (waiting_now : ℕ)
      → i < length kept → event ≡ get_or kept i event
      → IsSoFar election kept batch sheets i (drop i kept) missing waiting
      → Grew (missing_by election kept batch sheets event) (waiting_by election kept batch event) missing waiting missing_now waiting_now
      → IsSoFar election kept batch sheets (i + 1) (drop (i + 1) kept) missing_now waiting_now
  so_far_more i event missing waiting missing_now waiting_now within is so_far grew =
      let rest : List Event = drop (i + 1) kept in
      let front : drop i kept ≡ event ∷ rest = begins kept i event within is in
      let later : List Data = missing_from election kept batch sheets (i + 1) rest in
      record {
        numbers =
            ap (λ (xs : List Data). xs ++ later) grew.missing_is
            ∙ append_assoc missing (missing_by election kept batch sheets event) later
            ∙ ap (λ (xs : List Data). missing ++ xs) (sym (missing_more i event rest))
            ∙ ap (λ (events : List Event). missing ++ missing_from election kept batch sheets i events) (sym front)
            ∙ so_far.numbers;
        contests = omega (arith, grew.waiting_is, waiting_more i event rest, ap (λ (events : List Event). waiting_from election kept batch i events) front, so_far.contests);
      }

  pub so_far_first : IsSoFar election kept batch sheets 0 (drop 0 kept) [] 0
  so_far_first = record { numbers = refl; contests = omega arith }

  -- all events
  pub so_far_last : (i : ℕ) (missing : List Data) (waiting : ℕ) → length kept ≤ i → IsSoFar election kept batch sheets i (drop i kept) missing waiting
      → (missing ≡ missing_from election kept batch sheets 0 kept) × (waiting ≡ waiting_from election kept batch 0 kept)
  so_far_last i missing waiting past so_far =
      let nothing_left : drop i kept ≡ [] = drop_all i kept past in (
        none_missing missing
            ∙ ap (λ (events : List Event). missing ++ missing_from election kept batch sheets i events) (sym nothing_left)
            ∙ so_far.numbers,
        omega (arith, ap (λ (events : List Event). waiting_from election kept batch i events) nothing_left, so_far.contests),
      )
