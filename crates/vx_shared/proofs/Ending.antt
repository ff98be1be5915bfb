-- The table at the start and at the end.
use Rattle.std.proofs.Common.{◌≡◌, ◌≢◌, ℕ, zero, suc, ◌+◌, ◌<◌, ◌≤◌, Bool, true, List, [], ◌∷◌, map, length, replicate, sym, refl, ap, ◌∙◌, subst, arith, Option, Some}
use mathlib.Core.Option.{some, some-ne-none, some-injective}
use lib.ListN.{get_elem?, length-replicate}
use Rattle.atomic_table.specs.Table.{Final, Seen, opening}
use Rattle.vx_center.specs.Kept.{Kept}
use Rattle.vx_shared.specs.declared.history.Entry.{Entry}
use Rattle.vx_shared.specs.declared.seats.Origin.{Origin}
use Rattle.vx_shared.specs.declared.seats.View.{View}
use Rattle.vx_shared.specs.declared.seats.Role.{Role}
use Rattle.vx_shared.specs.declared.seats.Role.TheVariants.{Idle}
use Rattle.vx_shared.specs.Legal.{Stored, stored, IsLegal, after}
use Rattle.vx_shared.specs.Plays.{Sat}
use Rattle.vx_shared.specs.Calls.{Known, view_of}
use Rattle.vx_shared.specs.Marks.{is_marked}
use Rattle.vx_shared.specs.Seats.{origin_of, start_of, first_view, fronts, joined_marks, fronts_in, shares_of, calls_of, made_at, total, one_below, slot}
use Rattle.vx_shared.specs.Rule.{StandsAt, Agrees, Ruled}
use Rattle.vx_shared.proofs.Totals.{total_two, total_only}
use Rattle.vx_shared.proofs.Prefixes.{prefix_all, prefix_length}
use Rattle.vx_shared.proofs.Marking.{all_marked}
use Rattle.vx_shared.proofs.Steps.{Homes, Table}

at_one : (v u : View) (j : ℕ) → get_elem? (v ∷ []) j ≡ some u → v ≡ u
at_one v u zero e = some-injective v u e
at_one v u (suc j) e = absurd (some-ne-none u (sym e))

-- the table as it is made
pub starts : (start : Kept) (shares calls : ℕ) (slots : List (Option Stored)) → slots ≡ Some (stored start []) ∷ [] → 0 < shares → shares ≤ 64 → calls ≤ 1000000
    → Ruled (opening (0 ∷ 0 ∷ 0 ∷ []) slots (first_view (origin_of start shares calls)))
starts start shares calls slots is part few bounded =
    let origin : Origin = origin_of start shares calls in
    let v : View = first_view origin in
    record {
      origin = origin;
      log = [];
      serving = 0;
      ticket = 0;
      words = refl;
      line = refl;
      each = (λ j u at. subst (λ (x : View). Agrees origin [] 0 0 x) (at_one v u j at)
          (record { live = (λ z. refl); spent = (λ z. absurd (omega arith)); begins = ([], refl); marks = omega arith; does = tt }));
      apart = (λ one other u w n ut wt su sw. let x : ⊥ = subst (λ (y : View). StandsAt y.role n) (sym (at_one v u one ut)) su in absurd x);
      shares = omega arith;
      few = few;
      calls = omega arith;
      bounded = bounded;
      places = (λ place. refl);
      home = (λ z. ap (λ (xs : List (Option Stored)). map some xs) is);
      away = (λ nz. absurd (nz refl));
    }

-- what the pass with all shares knows at the end
pub record IsWhole (v : View) (slots : List (Option Stored)) : Type 0 where
  pub held : get_elem? slots 0 ≡ some (slot v.origin v.seen)
  pub own : v.own ≡ replicate (length v.seen) true
  pub calls : v.calls + length v.seen ≡ v.origin.calls

pub ends : (id : ℕ) (v : View) (words : List ℕ) (slots : List (Option Stored)) → v.role ≡ Idle → 0 < v.shares → v.shares ≡ v.origin.shares
    → Final (Seen Ruled id v) words slots → IsWhole v slots
ends id v words slots idle part all final =
    let s : Table = final.0 in
    let r : Ruled s = final.1.0 in
    let at : get_elem? s.views id ≡ some v = final.1.1 in
    let a = r.each id v at in
    let origin : v.origin ≡ r.origin = a.live part in
    let all_here : v.shares ≡ r.origin.shares = all ∙ ap (λ (o : Origin). o.shares) origin in
    let spent : (j : ℕ) (u : View) → j ≢ id → get_elem? s.views j ≡ some u → (u.role ≡ Idle) × (u.calls ≡ 0) × (u.own ≡ []) =
    (λ j u ne bt. (r.each j u bt).spent (let two = total_two shares_of s.views j id u v bt at ne in let l = r.shares in omega arith)) in
    let free : total fronts_in s.views ≡ fronts v.role = total_only fronts_in s.views id v at (λ j u ne bt. ap fronts (spent j u ne bt).0) in
    let home : s.homes ≡ some (slot r.origin r.log) ∷ [] = r.home (free ∙ ap fronts idle) in
    let calls : total calls_of s.views ≡ v.calls = total_only calls_of s.views id v at (λ j u ne bt. (spent j u ne bt).1) in
    let made : (place : ℕ) → is_marked v.own place ≡ one_below (length r.log) place = (λ place.
    let mine : is_marked (joined_marks v.role) place ≡ 0 = ap (λ (q : Role). is_marked (joined_marks q) place) idle in
    let only : total (made_at place) s.views ≡ made_at place v = total_only (made_at place) s.views id v at (λ j u ne bt.
    let o : is_marked u.own place ≡ 0 = ap (λ marks. is_marked marks place) (spent j u ne bt).2 in
    let q : is_marked (joined_marks u.role) place ≡ 0 = ap (λ (q : Role). is_marked (joined_marks q) place) (spent j u ne bt).0 in omega arith) in
    let l = r.places place in omega arith) in
    let short : length v.own ≤ length r.log = (let p = prefix_length v.seen r.log a.begins in let m = a.marks in omega arith) in
    let own : v.own ≡ replicate (length r.log) true = all_marked (length r.log) v.own short made in
    let long : length r.log ≤ length v.seen = (let e : length v.own ≡ length (replicate (length r.log) true) = ap (λ (l : List Bool). length l) own in let n = length-replicate (length r.log) true in let m = a.marks in omega arith) in
    let seen : v.seen ≡ r.log = prefix_all v.seen r.log a.begins long in
    record {
      held = final.4 0 (slot v.origin v.seen) (ap (λ (hs : Homes). get_elem? hs 0) home ∙ sym (λ k. some (some (slot (origin k) (seen k)))));
      own = own ∙ ap (λ (l : List Entry). replicate (length l) true) (sym seen);
      calls = (let l = r.calls in let o : v.origin.calls ≡ r.origin.calls = ap (λ (o : Origin). o.calls) origin in let n : length v.seen ≡ length r.log = ap (λ (l : List Entry). length l) seen in omega arith);
    }

-- what comes out at the end
pub whole_pass : (pass : Known) (id : ℕ) (me : Sat) (words : List ℕ) (slots : List (Option Stored)) → me ≡ (view_of pass, []) → 0 < pass.shares → pass.shares ≡ pass.origin.shares
    → Final (Seen Ruled id me.0) words slots → IsWhole (view_of pass) slots
whole_pass pass id me words slots is part all final =
    ends id (view_of pass) words slots refl part all (subst (λ (m : Sat). Final (Seen Ruled id m.0) words slots) is final)

some_same : {A : Type 0} (x y : A) → some x ≡ some y → x ≡ y
some_same x y e = some-injective x y e

pub taken : (pass : Known) (slots : List (Option Stored)) (found : Option Stored) → IsWhole (view_of pass) slots → get_elem? slots 0 ≡ some found → found ≡ Some (stored (start_of pass.origin) pass.seen)
taken pass slots found whole at = some_same found (slot pass.origin pass.seen) (sym at ∙ whole.held)

pub record HasClosed (pass : Known) (kept : Kept) (entries : List Entry) : Type 0 where
  pub history : entries ≡ pass.seen
  pub legal : IsLegal (start_of pass.origin) entries
  pub center : kept ≡ after (start_of pass.origin) entries
  pub own : pass.own ≡ replicate (length entries) true
  pub calls : pass.calls + length entries ≡ pass.origin.calls

pub closes : (pass : Known) (slots : List (Option Stored)) (held : Stored) (kept : Kept) (entries : List Entry) → IsWhole (view_of pass) slots → held ≡ stored (start_of pass.origin) pass.seen
    → kept ≡ after held.start held.history → entries ≡ held.history → IsLegal held.start held.history → HasClosed pass kept entries
closes pass slots held kept entries whole is center history legal =
    let seen : entries ≡ pass.seen = history ∙ ap (λ (h : Stored). h.history) is in record {
      history = seen;
      legal = subst (λ (l : List Entry). IsLegal (start_of pass.origin) l) (sym seen) (subst (λ (h : Stored). IsLegal h.start h.history) is legal);
      center = center ∙ (ap (λ (h : Stored). after h.start h.history) is ∙ ap (λ (l : List Entry). after (start_of pass.origin) l) (sym seen));
      own = whole.own ∙ ap (λ (l : List Entry). replicate (length l) true) (sym seen);
      calls = ap (λ (l : List Entry). pass.calls + length l) seen ∙ whole.calls;
    }
