-- Passes that were split, have run and are joined.
use Rattle.std.proofs.Common.{◌≡◌, ℕ, ◌+◌, ◌-◌, ◌≤◌, Bool, List, [], ◌∷◌, ◌++◌, length, get_or, ap, sym, ◌∙◌, subst, arith}
use Rattle.std.specs.Prelude.{Result, Ok, Err, IfOk, IsOkAnd, OnErr}
use Rattle.std.specs.declared.alloc.AllocError.{AllocError}
use mathlib.Core.List.{IsPrefix}
use Rattle.vx_events.specs.declared.event.Event.{Event}
use Rattle.vx_shared.specs.Interleaving.{Interleaving, AreFronts}
use Rattle.vx_shared.specs.declared.history.Entry.{Entry}
use Rattle.vx_shared.specs.Calls.{Known, HasJoined}
use Rattle.vx_shared.specs.Marks.{is_marked, either_marked}
use Rattle.vx_shared.specs.Plays.{IsLonger, first, second}
use Rattle.vx_shared.specs.Gained.{events_at, HasGained, HasMade, HasMadeFront, HasRun, HasRunFronts, HasEnded}
use Rattle.vx_shared.proofs.Gathering.{either_three}
use Rattle.vx_shared.proofs.Marking.{is_marked_either, length_either}
use Rattle.vx_shared.proofs.Mixing.{Lists, events_longer, events_either, alone, mixes}
use Rattle.vx_shared.proofs.Prefixes.{prefix_whole, prefix_then, prefix_length}

-- what is left of a pass of which so many shares and calls were cut off, and what was
abbrev pub kept : Known → ℕ → ℕ → Known
kept old shares calls = record old { shares = old.shares - shares; calls = old.calls - calls }

abbrev pub cut : Known → ℕ → ℕ → Known
cut old shares calls = record old { own = []; shares = shares; calls = calls }

-- either of two histories begins the longer one
longer_first : (one other seen : List Entry) → IsLonger one other seen → IsPrefix one seen
longer_first one other seen (first is) = prefix_whole one
longer_first one other seen (second is) = is

longer_other : (one other seen : List Entry) → IsLonger one other seen → IsPrefix other seen
longer_other one other seen (first is) = is
longer_other one other seen (second is) = prefix_whole other

-- the same events at marked places of a longer history
same_events : (marks : List Bool) (log seen : List Entry) → IsPrefix log seen → length marks ≤ length log → events_at marks seen ≡ events_at marks log
same_events marks log seen begins le = ap (λ (l : List Entry). events_at marks l) (sym begins.1) ∙ events_longer marks log begins.0 le

-- no place is of both halves
halves_apart : (old one two now : Known) (shares calls : ℕ) (ms ns : List Bool)
    → HasGained (kept old shares calls) ms one → HasGained (cut old shares calls) ns two → HasJoined one two now
    → (p : ℕ) → is_marked ms p + is_marked ns p ≤ 1
halves_apart old one two now shares calls ms ns left right joined p =
    let mine : is_marked (either_marked old.own ms) p ≡ is_marked old.own p + is_marked ms p = is_marked_either old.own ms p (left.apart p) in
    let own : is_marked one.own p ≡ is_marked (either_marked old.own ms) p = ap (λ (l : List Bool). is_marked l p) left.own in
    let theirs : is_marked two.own p ≡ is_marked ns p = ap (λ (l : List Bool). is_marked l p) right.own in
    omega (arith, mine, own, theirs, joined.apart p)

-- both halves' places are gained
both_gained : (old one two now : Known) (shares calls : ℕ) (ms ns : List Bool) → shares ≤ old.shares → calls ≤ old.calls
    → HasGained (kept old shares calls) ms one → HasGained (cut old shares calls) ns two → HasJoined one two now
    → HasGained old (either_marked ms ns) now
both_gained old one two now shares calls ms ns few some left right joined =
    let seen : now.seen ≡ joined.seen = ap (λ (k : Known). k.seen) joined.pass in
    let one_begins : IsPrefix one.seen now.seen = subst (λ (l : List Entry). IsPrefix one.seen l) (sym seen) (longer_first one.seen two.seen joined.seen joined.longer) in
    let two_begins : IsPrefix two.seen now.seen = subst (λ (l : List Entry). IsPrefix two.seen l) (sym seen) (longer_other one.seen two.seen joined.seen joined.longer) in
    let one_long = prefix_length one.seen now.seen one_begins in
    let two_long = prefix_length two.seen now.seen two_begins in
    let apart : (p : ℕ) → is_marked ms p + is_marked ns p ≤ 1 = halves_apart old one two now shares calls ms ns left right joined in
    let one_events = ap (λ (l : List Event). length l) (same_events ms one.seen now.seen one_begins left.long) in
    let two_events = ap (λ (l : List Event). length l) (same_events ns two.seen now.seen two_begins right.long) in
    let all_events = events_either ms ns now.seen apart in
    let all_calls : now.calls ≡ one.calls + two.calls = ap (λ (k : Known). k.calls) joined.pass in
    let all_shares : now.shares ≡ one.shares + two.shares = ap (λ (k : Known). k.shares) joined.pass in
    record {
      of = ap (λ (k : Known). k.of) joined.pass ∙ left.of;
      origin = ap (λ (k : Known). k.origin) joined.pass ∙ left.origin;
      shares = omega (arith, all_shares, left.shares, right.shares, few);
      begins = prefix_then old.seen one.seen now.seen left.begins one_begins;
      long = length_either ms ns (length now.seen) (omega (arith, left.long, one_long)) (omega (arith, right.long, two_long));
      apart = λ p.
          let mine : is_marked (either_marked old.own ms) p ≡ is_marked old.own p + is_marked ms p = is_marked_either old.own ms p (left.apart p) in
          let own : is_marked one.own p ≡ is_marked (either_marked old.own ms) p = ap (λ (l : List Bool). is_marked l p) left.own in
          let theirs : is_marked two.own p ≡ is_marked ns p = ap (λ (l : List Bool). is_marked l p) right.own in
          let sum_of : is_marked (either_marked ms ns) p ≡ is_marked ms p + is_marked ns p = is_marked_either ms ns p (apart p) in
          omega (arith, mine, own, theirs, sum_of, joined.apart p);
      own =
          ap (λ (k : Known). k.own) joined.pass
          ∙ (ap (λ (l : List Bool). either_marked l two.own) left.own
          ∙ (ap (λ (l : List Bool). either_marked (either_marked old.own ms) l) right.own ∙ either_three old.own ms ns));
      calls = omega (arith, all_calls, all_events, one_events, two_events, left.calls, right.calls, some);
    }

-- the events of both halves interleave the lists of both
both_run : (old one two now : Known) (shares calls : ℕ) (low high : Lists) → shares ≤ old.shares → calls ≤ old.calls
    → HasRun (kept old shares calls) low one → HasRun (cut old shares calls) high two → HasJoined one two now
    → HasRun old (low ++ high) now
both_run old one two now shares calls low high few some left right joined =
    let ms : List Bool = left.marks in
    let ns : List Bool = right.marks in
    let seen : now.seen ≡ joined.seen = ap (λ (k : Known). k.seen) joined.pass in
    let one_begins : IsPrefix one.seen now.seen = subst (λ (l : List Entry). IsPrefix one.seen l) (sym seen) (longer_first one.seen two.seen joined.seen joined.longer) in
    let two_begins : IsPrefix two.seen now.seen = subst (λ (l : List Entry). IsPrefix two.seen l) (sym seen) (longer_other one.seen two.seen joined.seen joined.longer) in
    let apart : (p : ℕ) → is_marked ms p + is_marked ns p ≤ 1 = halves_apart old one two now shares calls ms ns left.gained right.gained joined in
    record {
      marks = either_marked ms ns;
      gained = both_gained old one two now shares calls ms ns few some left.gained right.gained joined;
      mixed = mixes ms ns now.seen low high apart
          (subst (λ (l : List Event). Interleaving low l) (sym (same_events ms one.seen now.seen one_begins left.gained.long)) left.mixed)
          (subst (λ (l : List Event). Interleaving high l) (sym (same_events ns two.seen now.seen two_begins right.gained.long)) right.mixed);
    }

-- lists are fronts of themselves, and fronts of both halves are fronts of the whole
whole_fronts : (lists : Lists) → AreFronts lists lists
whole_fronts [] = tt
whole_fronts (list ∷ lists) = (prefix_whole list, whole_fronts lists)

both_fronts : (one xs two ys : Lists) → AreFronts one xs → AreFronts two ys → AreFronts (one ++ two) (xs ++ ys)
both_fronts [] [] two ys left right = right
both_fronts [] (x ∷ xs) two ys left right = absurd left
both_fronts (o ∷ one) [] two ys left right = absurd left
both_fronts (o ∷ one) (x ∷ xs) two ys left right = (left.0, both_fronts one xs two ys left.1 right)

-- whatever was answered, fronts of the lists were made
ended_fronts : (old now : Known) (lists : Lists) (text : List ℕ) (answer : Result (List ℕ) AllocError) → HasEnded old lists text now answer → HasRunFronts old lists now
ended_fronts old now lists text (Ok told) ended = record { fronts = lists; begins = whole_fronts lists; run = ended.run.0 }
ended_fronts old now lists text (Err e) ended = ended.fronts

-- both halves have ended
both_ended : (old one two now : Known) (shares calls : ℕ) (low high : Lists) (text_one text_two : List ℕ) (a b answer : Result (List ℕ) AllocError)
    → shares ≤ old.shares → calls ≤ old.calls
    → HasEnded (kept old shares calls) low text_one one a → HasEnded (cut old shares calls) high text_two two b → HasJoined one two now
    → IfOk answer (λ (text : List ℕ). IsOkAnd a (λ (x : List ℕ). IsOkAnd b (λ (y : List ℕ). text ≡ x ++ y)))
    → HasEnded old (low ++ high) (text_one ++ text_two) now answer
both_ended old one two now shares calls low high text_one text_two (Ok x) (Ok y) (Ok text) few some left right joined both = record {
  run = (both_run old one two now shares calls low high few some left.run.0 right.run.0 joined, both ∙ (λ k. left.run.1 k ++ right.run.1 k));
  fronts = tt;
}
both_ended old one two now shares calls low high text_one text_two (Ok x) (Err e) (Ok text) few some left right joined both = absurd both
both_ended old one two now shares calls low high text_one text_two (Err e) b (Ok text) few some left right joined both = absurd both
both_ended old one two now shares calls low high text_one text_two a b (Err e) few some left right joined both =
    let fronts_one = ended_fronts (kept old shares calls) one low text_one a left in
    let fronts_two = ended_fronts (cut old shares calls) two high text_two b right in
    record {
      run = tt;
      fronts = record {
        fronts = fronts_one.fronts ++ fronts_two.fronts;
        begins = both_fronts fronts_one.fronts low fronts_two.fronts high fronts_one.begins fronts_two.begins;
        run = both_run old one two now shares calls fronts_one.fronts fronts_two.fronts few some fronts_one.run fronts_two.run joined;
      };
    }

-- two halves have ended, and so has the whole
pub halves_end : (old mine theirs one two now : Known) (shares calls : ℕ) (low high lists : Lists) (text_one text_two text : List ℕ) (a b answer : Result (List ℕ) AllocError)
    → mine ≡ kept old shares calls → theirs ≡ cut old shares calls → shares ≤ old.shares → calls ≤ old.calls → low ++ high ≡ lists → text_one ++ text_two ≡ text
    → HasEnded mine low text_one one a → HasEnded theirs high text_two two b → HasJoined one two now
    → IfOk answer (λ (told : List ℕ). IsOkAnd a (λ (x : List ℕ). IsOkAnd b (λ (y : List ℕ). told ≡ x ++ y)))
    → HasEnded old lists text now answer
halves_end old mine theirs one two now shares calls low high lists text_one text_two text a b answer is_mine is_theirs few some whole all left right joined both =
    let left' : HasEnded (kept old shares calls) low text_one one a = subst (λ (k : Known). HasEnded k low text_one one a) is_mine left in
    let right' : HasEnded (cut old shares calls) high text_two two b = subst (λ (k : Known). HasEnded k high text_two two b) is_theirs right in
    let ended : HasEnded old (low ++ high) (text_one ++ text_two) now answer = both_ended old one two now shares calls low high text_one text_two a b answer few some left' right' joined both in
    let lists' : HasEnded old lists (text_one ++ text_two) now answer = subst (λ (ls : Lists). HasEnded old ls (text_one ++ text_two) now answer) whole ended in
    subst (λ (t : List ℕ). HasEnded old lists t now answer) all lists'

-- one item was done
pub one_ends : (old now : Known) (events : List Event) (text : List ℕ) (answer : Result (List ℕ) AllocError)
    → IfOk answer (λ (told : List ℕ). HasMade old events now) → IfOk answer (λ (told : List ℕ). told ≡ text) → OnErr answer (HasMadeFront old events now)
    → HasEnded old (events ∷ []) text now answer
one_ends old now events text (Ok told) made is front = record {
  run = (record { marks = made.marks; gained = made.gained; mixed = subst (λ (l : List Event). Interleaving (events ∷ []) l) (sym made.made) (alone events) }, is);
  fronts = tt;
}
one_ends old now events text (Err e) made is front = record {
  run = tt;
  fronts = record {
    fronts = front.front ∷ [];
    begins = (front.begins, tt);
    run = record {
      marks = front.made.marks;
      gained = front.made.gained;
      mixed = subst (λ (l : List Event). Interleaving (front.front ∷ []) l) (sym front.made.made) (alone front.front);
    };
  };
}

pub told : (old now : Known) (lists : Lists) (text : List ℕ) (answer : Result (List ℕ) AllocError) → HasEnded old lists text now answer → IfOk answer (λ (said : List ℕ). said ≡ text)
told old now lists text (Ok said) ended = ended.run.1
told old now lists text (Err e) ended = tt

-- a list of one element
pub single : {A : Type 0} (xs : List A) (x : A) → length xs ≡ 1 → x ≡ get_or xs 0 x → x ∷ [] ≡ xs
single [] x long is = absurd (omega (arith, long))
single {A} (y ∷ []) x long is = ap (λ (z : A). z ∷ []) is
single (y ∷ (z ∷ xs)) x long is = absurd (omega (arith, long))
