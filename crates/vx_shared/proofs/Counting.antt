-- A call is put into the history.
use Rattle.std.proofs.Common.{◌≡◌, ◌≢◌, ℕ, suc, ◌+◌, ◌-◌, ◌%◌, ◌<◌, ◌≤◌, List, [], ◌∷◌, ◌++◌, length, get_or, set, sym, refl, ap, ◌∙◌, subst, arith, mod-eq_of_lt, length-append}
use mathlib.Core.Option.{some}
use lib.ListN.{get_elem?}
use Rattle.atomic_table.specs.Table.{keeps, Allows}
use Rattle.vx_shared.specs.declared.history.Entry.{Entry}
use Rattle.vx_shared.specs.declared.seats.Origin.{Origin}
use Rattle.vx_shared.specs.declared.seats.View.{View}
use Rattle.vx_shared.specs.declared.seats.Role.{Role}
use Rattle.vx_shared.specs.declared.seats.Role.TheVariants.{Idle, Waiting, Turn, Committed, Joined}
use Rattle.vx_shared.specs.Marks.{is_marked, marked}
use Rattle.vx_shared.specs.Seats.{wrapped, stands, fronts, number_of, base_of, joined_marks, stands_in, fronts_in, shares_of, calls_of, made_at, one_below, hand_log}
use Rattle.vx_shared.specs.Rule.{StandsAt, RoleAgrees, Agrees, Ruled}
use Rattle.vx_shared.specs.Plays.{Sat, At, HasWorked, grown, Counted}
use Rattle.vx_shared.proofs.Totals.{total_set, total_one}
use Rattle.vx_shared.proofs.Prefixes.{prefix_whole, prefix_more, prefix_length}
use Rattle.vx_shared.proofs.Marking.{made_marked, length_marked}
use Rattle.vx_shared.proofs.Steps.{Table, each_set, apart_set, live_role}

-- what another role says stays true behind one more call
longer_role : (origin : Origin) (log : List Entry) (call : Entry) (serving ticket : ℕ) (seen : List Entry) (role : Role)
    → RoleAgrees origin log serving ticket seen role → (StandsAt role serving → ⊥) → RoleAgrees origin (log ++ call ∷ []) serving ticket seen role
longer_role origin log call serving ticket seen Idle a not_here = tt
longer_role origin log call serving ticket seen (Waiting n) a not_here = a
longer_role origin log call serving ticket seen (Turn n base) a not_here = absurd (not_here a.0)
longer_role origin log call serving ticket seen (Committed n) a not_here = absurd (not_here a.0)
longer_role origin log call serving ticket seen (Joined theirs own from) a not_here = (prefix_more theirs log (call ∷ []) a.0, a.1, a.2)

longer_log : (origin : Origin) (log : List Entry) (call : Entry) (serving ticket : ℕ) (v : View)
    → Agrees origin log serving ticket v → (StandsAt v.role serving → ⊥) → Agrees origin (log ++ call ∷ []) serving ticket v
longer_log origin log call serving ticket v a not_here = record { live = a.live; spent = a.spent; begins = prefix_more v.seen log (call ∷ []) a.begins; marks = a.marks; does = longer_role origin log call serving ticket v.seen v.role a.does not_here }

-- a seat that has the turn makes a call
commit_step : (s : Table) (r : Ruled s) (id : ℕ) (v : View) (n : ℕ) (call : Entry) (words : List ℕ)
    → get_elem? s.views id ≡ some v
    → v.role ≡ Turn n (base_of v.role)
    → 0 < v.calls
    → words ≡ wrapped r.ticket ∷ wrapped r.serving ∷ length (r.log ++ call ∷ []) ∷ []
    → (w : View)
    → w ≡ record v { role = Committed n; seen = r.log ++ call ∷ []; own = marked (length r.log) v.own; calls = v.calls - 1 }
    → Ruled record { words = words; homes = s.homes; views = set s.views id w }
commit_step s r id v n call words at turn left now w0 is =
    let w : View = record v { role = Committed n; seen = r.log ++ call ∷ []; own = marked (length r.log) v.own; calls = v.calls - 1 } in
    let log : List Entry = r.log ++ call ∷ [] in
    let a = r.each id v at in
    let does : RoleAgrees r.origin r.log r.serving r.ticket v.seen (Turn n (base_of v.role)) = subst (λ (q : Role). RoleAgrees r.origin r.log r.serving r.ticket v.seen q) turn a.does in
    let stand : stands v.role ≡ 1 = ap stands turn in
    let front : fronts v.role ≡ 1 = ap fronts turn in
    let none_joined : (place : ℕ) → is_marked (joined_marks v.role) place ≡ 0 = (λ place. ap (λ (q : Role). is_marked (joined_marks q) place) turn) in
    let live = live_role r.origin r.log r.serving r.ticket v a (omega arith) in
    let mine = does.0 in
    let here : StandsAt v.role r.serving = subst (λ (q : Role). StandsAt q r.serving) (sym turn) mine in
    let others : (j : ℕ) (u : View) → j ≢ id → get_elem? s.views j ≡ some u → StandsAt u.role r.serving → ⊥ =
    (λ j u ne bt there. ne (r.apart j id u v r.serving bt at there here)) in
    let long : length log ≡ length r.log + 1 = length-append r.log (call ∷ []) in
    let long' : length log ≡ suc (length r.log) = omega arith in
    let fewer : length v.own ≤ length r.log = (let p = prefix_length v.seen r.log a.begins in let m = a.marks in omega arith) in
    subst (λ (x : View). Ruled record { words = words; homes = s.homes; views = set s.views id x }) (sym is) record {
      origin = r.origin;
      log = log;
      serving = r.serving;
      ticket = r.ticket;
      words = now;
      line = (let e = total_set stands_in s.views id v w at in let l = r.line in omega arith);
      each = each_set (λ j u. Agrees r.origin log r.serving r.ticket u) s.views id w
          (record { live = a.live; spent = (λ none_left. absurd (omega arith)); begins = prefix_whole log; marks = (let m = length_marked (length r.log) v.own fewer in omega arith); does = (mine, does.1, refl) })
          (λ j u ne bt. longer_log r.origin r.log call r.serving r.ticket u (r.each j u bt) (others j u ne bt));
      apart = apart_set s.views id w r.apart
          (λ j u m ne bt su sw. let e : n ≡ m = sw in ne (r.apart j id u v m bt at su (subst (λ (q : Role). StandsAt q m) (sym turn) e)));
      shares = (let e = total_set shares_of s.views id v w at in let l = r.shares in omega arith);
      few = r.few;
      calls = (let e = total_set calls_of s.views id v w at in let l = r.calls in omega arith);
      bounded = r.bounded;
      places = (λ place.
          let e = total_set (made_at place) s.views id v w at in
          let m = made_marked (length r.log) v.own place fewer in
          let z = none_joined place in
          let l = r.places place in
          let k : one_below (length log) place ≡ one_below (suc (length r.log)) place = ap (λ (c : ℕ). one_below c place) long' in
          omega arith);
      home = (λ z. let e = total_set fronts_in s.views id v w at in let o = total_one fronts_in s.views id v at in absurd (omega arith));
      away = (λ nz. r.away (λ z. let o = total_one fronts_in s.views id v at in absurd (omega arith)));
    }

pub commits : (slots id : ℕ) (me : Sat) (st : At) → HasWorked me → Allows Ruled slots id me 2 (λ n. (n + 1) % 18446744073709551616) (Counted st me)
commits slots id me st worked s r deep at range =
    let v : View = me.0 in
    let n : ℕ = number_of v.role in
    let call : Entry = worked.call in
    let a = r.each id v at in
    let does : RoleAgrees r.origin r.log r.serving r.ticket v.seen (Turn n (base_of v.role)) = subst (λ (q : Role). RoleAgrees r.origin r.log r.serving r.ticket v.seen q) worked.role a.does in
    let base : base_of v.role ≡ r.log = does.2 in
    let left = worked.left in
    let bound : length r.log < 1000000 = (let c = total_one calls_of s.views id v at in let l = r.calls in let b = r.bounded in omega arith) in
    let found : get_or s.words 2 0 ≡ length r.log = ap (λ ws. get_or ws 2 0) r.words in
    let log : hand_log me.1 ≡ r.log ++ call ∷ [] = worked.log ∙ ap (λ (l : List Entry). l ++ call ∷ []) base in
    let long : length (r.log ++ call ∷ []) ≡ length r.log + 1 = length-append r.log (call ∷ []) in
    let small : (length r.log + 1) % 18446744073709551616 ≡ length (r.log ++ call ∷ []) = mod-eq_of_lt (omega arith) ∙ sym long in
    let words : List ℕ = set s.words 2 ((get_or s.words 2 0 + 1) % 18446744073709551616) in
    let now : words ≡ wrapped r.ticket ∷ wrapped r.serving ∷ length (r.log ++ call ∷ []) ∷ [] =
    ap (λ ws. set ws 2 ((get_or ws 2 0 + 1) % 18446744073709551616)) r.words ∙ ap (λ (w : ℕ). wrapped r.ticket ∷ wrapped r.serving ∷ w ∷ []) small in
    let w : View = grown v (hand_log me.1) in
    let is : w ≡ record v { role = Committed n; seen = r.log ++ call ∷ []; own = marked (length r.log) v.own; calls = v.calls - 1 } =
    (λ k. record v { role = Committed n; seen = log k; own = marked (length (base k)) v.own; calls = v.calls - 1 }) in (
      w,
      keeps,
      tt,
      commit_step s r id v n call words at worked.role left now w is,
      record { place = found ∙ ap (λ (l : List Entry). length l) (sym base); bound = (omega arith); seat = refl },
    )
