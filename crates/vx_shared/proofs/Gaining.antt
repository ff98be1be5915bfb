-- What a call adds to what a pass has gained.
use Rattle.std.proofs.Common.{◌≡◌, ℕ, zero, suc, ◌+◌, ◌-◌, ◌<◌, ◌≤◌, Bool, true, false, List, [], ◌∷◌, ◌++◌, length, take, drop, get_or, refl, ap, sym, ◌∙◌, subst, arith, append_assoc, length-append}
use Rattle.std.proofs.lemmas.List.{take_more, take-append-drop}
use Rattle.std.specs.Prelude.{Result, Ok, Err, OnOk, OnErr, is_err}
use Rattle.std.specs.declared.alloc.AllocError.{AllocError}
use mathlib.Core.List.{IsPrefix}
use Rattle.vx_events.specs.declared.event.Event.{Event}
use Rattle.vx_refusals.specs.declared.reply.Reply.{Reply}
use Rattle.vx_shared.specs.declared.history.Entry.{Entry}
use Rattle.vx_shared.specs.Calls.{Known, HasCalled}
use Rattle.vx_shared.specs.Legal.{entry}
use Rattle.vx_shared.specs.Marks.{is_marked, marked}
use Rattle.vx_shared.specs.Gained.{events_at, HasMade, HasMadeFront, MakesAlso}
use Rattle.vx_shared.proofs.Gathering.{length_first, either_none, marked_either, marked_apart}
use Rattle.vx_shared.proofs.Marking.{length_marked}
use Rattle.vx_shared.proofs.Mixing.{events_longer, events_marked}
use Rattle.vx_shared.proofs.Prefixes.{prefix_whole, prefix_more}

none_within : (marks : List Bool) (place : ℕ) → is_marked marks place ≤ 1
none_within [] place = omega arith
none_within (m ∷ marks) (suc place) = none_within marks place
none_within (true ∷ marks) zero = omega arith
none_within (false ∷ marks) zero = omega arith

-- so far nothing was made
pub made_none : (old : Known) → HasMade old [] old
made_none old = record {
  marks = [];
  gained = record {
    of = refl;
    origin = refl;
    shares = refl;
    begins = prefix_whole old.seen;
    long = omega arith;
    apart = λ p. let le = none_within old.own p in omega arith;
    own = sym (either_none old.own);
    calls = omega arith;
  };
  made = refl;
}

-- one event more was made
pub made_more : (old now then : Known) (events : List Event) (event : Event) (place : ℕ) (reply : Reply) → HasMade old events now → 0 < now.calls
    → HasCalled now event place reply then → HasMade old (events ++ event ∷ []) then
made_more old now then events event place reply made some called =
    let base : List Entry = now.seen ++ called.between in
    let marks : List Bool = made.marks in
    let gained = made.gained in
    let call : Entry = entry event reply in
    let long : length base ≡ length now.seen + length called.between = length-append now.seen called.between in
    let seen : then.seen ≡ base ++ call ∷ [] = ap (λ (k : Known). k.seen) called.pass in
    let at : place ≡ length base = called.at in
    let calls : then.calls ≡ now.calls - 1 = ap (λ (k : Known). k.calls) called.pass in
    let own_long : length old.own ≤ place =
    (let first = length_first old.own marks in let is = ap (λ (l : List Bool). length l) gained.own in omega (arith, first, is, called.fresh)) in
    let marks_long : length marks ≤ length base = omega (arith, gained.long, long) in
    let marks_place : length marks ≤ place = omega (arith, marks_long, at) in
    let events_now : events_at marks base ≡ events_at marks now.seen = events_longer marks now.seen called.between gained.long in
    let events_base : events_at (marked (length base) marks) (base ++ call ∷ []) ≡ events_at marks now.seen ++ event ∷ [] =
    events_marked marks base call marks_long ∙ ap (λ (l : List Event). l ++ event ∷ []) events_now in
    let events_then : events_at (marked place marks) then.seen ≡ events_at marks now.seen ++ event ∷ [] =
    ap (λ (l : List Entry). events_at (marked place marks) l) seen ∙ (ap (λ (k : ℕ). events_at (marked k marks) (base ++ call ∷ [])) at ∙ events_base) in
    let count = ap (λ (l : List Event). length l) events_then in
    let more = length-append (events_at marks now.seen) (event ∷ []) in
    let new_long = length_marked place marks marks_place in
    let seen_long = ap (λ (l : List Entry). length l) seen in
    let end_long = length-append base (call ∷ []) in
    record {
      marks = marked place marks;
      gained = record {
        of = ap (λ (k : Known). k.of) called.pass ∙ gained.of;
        origin = ap (λ (k : Known). k.origin) called.pass ∙ gained.origin;
        shares = ap (λ (k : Known). k.shares) called.pass ∙ gained.shares;
        begins = subst (λ (l : List Entry). IsPrefix old.seen l) (sym seen)
            (prefix_more old.seen base (call ∷ []) (prefix_more old.seen now.seen called.between gained.begins));
        long = omega (arith, new_long, seen_long, end_long, at);
        apart = marked_apart place old.own marks own_long marks_place gained.apart;
        own = ap (λ (k : Known). k.own) called.pass
            ∙ (ap (λ (l : List Bool). marked place l) gained.own ∙ sym (marked_either place old.own marks own_long marks_place));
        calls = omega (arith, count, more, calls, some, gained.calls);
      };
      made = events_then ∙ ap (λ (l : List Event). l ++ event ∷ []) made.made;
    }

-- a call makes its event
pub call_makes : (before now : Known) (event : Event) (place : ℕ) (reply : Reply) → 0 < before.calls → HasCalled before event place reply now
    → MakesAlso before (event ∷ []) now
call_makes before now event place reply some called = record { behind = λ old front made. made_more old before now front event place reply made some called }

-- events, and then others
pub also_then : (old now then : Known) (xs ys : List Event) → MakesAlso old xs now → MakesAlso now ys then → MakesAlso old (xs ++ ys) then
also_then old now then xs ys one two = record {
  behind = λ older front made.
      subst (λ (l : List Event). HasMade older l then) (append_assoc front xs ys) (two.behind older (front ++ xs) (one.behind older front made));
}

pub made_of : (old now : Known) (events : List Event) → MakesAlso old events now → HasMade old events now
made_of old now events also = also.behind old [] (made_none old)

-- the event at the next place of a list
pub also_next : (old now then : Known) (events : List Event) (place : ℕ) (event : Event) → place < length events → event ≡ get_or events place event
    → MakesAlso old (take place events) now → MakesAlso now (event ∷ []) then → MakesAlso old (take (place + 1) events) then
also_next old now then events place event within is one two =
    subst (λ (l : List Event). MakesAlso old l then)
    (sym (take_more events place event within ∙ ap (λ (e : Event). take place events ++ e ∷ []) (sym is)))
    (also_then old now then (take place events) (event ∷ []) one two)

-- a front of a list, and all of it
pub also_front : (old now : Known) (events : List Event) (place : ℕ) → MakesAlso old (take place events) now → HasMadeFront old events now
also_front old now events place also = record {
  front = take place events;
  begins = (drop place events, take-append-drop place events);
  made = made_of old now (take place events) also;
}

take_whole : {A : Type 0} (xs : List A) (count : ℕ) → length xs ≤ count → take count xs ≡ xs
take_whole [] zero le = refl
take_whole [] (suc count) le = refl
take_whole (x ∷ xs) zero le = absurd (omega arith)
take_whole {A} (x ∷ xs) (suc count) le = ap (λ (r : List A). x ∷ r) (take_whole xs count (omega arith))

pub also_all : (old now : Known) (events : List Event) (place : ℕ) → length events ≤ place → MakesAlso old (take place events) now → HasMade old events now
also_all old now events place all also = subst (λ (l : List Event). HasMade old l now) (take_whole events place all) (made_of old now (take place events) also)

-- what an answer that isn't want of memory tells, and one that is
pub ok_there : {X : Type 0} (answer : Result X AllocError) (P : Type 0) → is_err answer ≡ false → OnOk answer P → P
ok_there (Ok x) P is p = p
ok_there (Err e) P is p = absurd (cc is)

pub err_there : {X : Type 0} (answer : Result X AllocError) (P : Type 0) → is_err answer ≡ true → OnErr answer P → P
err_there (Ok x) P is p = absurd (cc is)
err_there (Err e) P is p = p
