-- Seats are cut in two and put together.
use Rattle.std.proofs.Common.{◌≡◌, ℕ, ◌+◌, ◌<◌, ◌≤◌, List, [], ◌∷◌, ◌++◌, length, get_or, set, sym, refl, ap, ◌∙◌, subst, ⊎_elim, arith}
use mathlib.Core.Logic.{dite}
use mathlib.Core.Option.{some}
use mathlib.Core.List.{IsPrefix}
use native.Mathlib.Decide.{dec_le}
use lib.ListN.{get_elem?}
use lib.Seq.{set-get_or}
use Rattle.atomic_table.specs.Table.{keeps, Allows, Splits, Joins}
use Rattle.atomic_table.proofs.Lists.{at_snoc, set_else}
use Rattle.vx_shared.specs.declared.history.Entry.{Entry}
use Rattle.vx_shared.specs.declared.seats.View.{View}
use Rattle.vx_shared.specs.declared.seats.Role.{Role}
use Rattle.vx_shared.specs.declared.seats.Role.TheVariants.{Idle, Joined}
use Rattle.vx_shared.specs.Marks.{is_marked, either_marked}
use Rattle.vx_shared.specs.Seats.{spent_view, stands, fronts, theirs_of, joined_marks, joined_origin, stands_in, fronts_in, shares_of, calls_of, made_at, total}
use Rattle.vx_shared.specs.Rule.{StandsAt, RoleAgrees, Agrees, Ruled}
use Rattle.vx_shared.specs.Plays.{Sat, At, first, second, beside, Merged, kept_part, cut_part}
use Rattle.vx_shared.proofs.Totals.{total_set, total_snoc, total_one}
use Rattle.vx_shared.proofs.Prefixes.{prefix_of}
use Rattle.vx_shared.proofs.Marking.{is_marked_either, length_either, below_one}
use Rattle.vx_shared.proofs.Steps.{Table, each_set, apart_set}

idle_stands : (role : Role) (n : ℕ) → role ≡ Idle → StandsAt role n → ⊥
idle_stands role n idle s = let x : StandsAt Idle n = subst (λ (q : Role). StandsAt q n) idle s in x

-- a sum stays where the parts of a view count what it counted
total_parts : (f : View → ℕ) (l : List View) (id : ℕ) (v left right : View) → get_elem? l id ≡ some v → f left + f right ≡ f v → total f (set l id left ++ right ∷ []) ≡ total f l
total_parts f l id v left right at parts = let a = total_snoc f (set l id left) right in let b = total_set f l id v left at in omega arith

-- a seat is cut in two
pub splits : (id : ℕ) (v : View) (shares calls : ℕ) → v.role ≡ Idle → 0 < shares → shares < v.shares → calls ≤ v.calls
    → Splits Ruled id v (kept_part shares calls v) (cut_part shares calls v)
splits id v shares calls idle part fewer few s r at =
    let left : View = kept_part shares calls v in
    let right : View = cut_part shares calls v in
    let views : List View = set s.views id left ++ right ∷ [] in
    let a = r.each id v at in
    let live : 0 < v.shares = omega arith in
    let quiet : stands v.role ≡ 0 = ap stands idle in
    let back : fronts v.role ≡ 0 = ap fronts idle in
    let kept : total fronts_in views ≡ total fronts_in s.views = total_parts fronts_in s.views id v left right at (omega arith) in
    record {
      origin = r.origin;
      log = r.log;
      serving = r.serving;
      ticket = r.ticket;
      words = r.words;
      line = (let e = total_parts stands_in s.views id v left right at (omega arith) in let l = r.line in omega arith);
      each = (λ j d bt. ⊎_elim
          (λ (here : get_elem? (set s.views id left) j ≡ some d). each_set (λ k u. Agrees r.origin r.log r.serving r.ticket u) s.views id left
          (record { live = (λ z. a.live live); spent = (λ z. absurd (omega arith)); begins = a.begins; marks = a.marks; does = a.does })
          (λ k u ne ct. r.each k u ct) j d here)
          (λ (is : right ≡ d). subst (λ (u : View). Agrees r.origin r.log r.serving r.ticket u) is
          (record { live = (λ z. a.live live); spent = (λ z. absurd (omega arith)); begins = a.begins; marks = omega arith; does = tt }))
          (at_snoc (set s.views id left) right d j bt));
      apart = (λ one other u w n ut wt su sw. ⊎_elim
          (λ (here : get_elem? (set s.views id left) one ≡ some u). ⊎_elim
          (λ (there : get_elem? (set s.views id left) other ≡ some w). apart_set s.views id left r.apart
          (λ j x m ne xt sx sl. idle_stands v.role m idle sl) one other u w n here there su sw)
          (λ (is : right ≡ w). let x : ⊥ = subst (λ (y : View). StandsAt y.role n) (sym is) sw in absurd x)
          (at_snoc (set s.views id left) right w other wt))
          (λ (is : right ≡ u). let x : ⊥ = subst (λ (y : View). StandsAt y.role n) (sym is) su in absurd x)
          (at_snoc (set s.views id left) right u one ut));
      shares = total_parts shares_of s.views id v left right at (omega arith) ∙ r.shares;
      few = r.few;
      calls = (let e = total_parts calls_of s.views id v left right at (omega arith) in let l = r.calls in omega arith);
      bounded = r.bounded;
      places = (λ place. total_parts (made_at place) s.views id v left right at (omega arith) ∙ r.places place);
      home = (λ z. r.home (sym kept ∙ z));
      away = (λ nz. r.away (λ z. nz (kept ∙ z)));
    }

-- a sum stays where a view counts what two counted
total_joined : (f : View → ℕ) (l : List View) (id other : ℕ) (v w both spent : View) → get_elem? l id ≡ some v → get_elem? (set l id both) other ≡ some w
    → f both ≡ f v + f w → f spent ≡ 0 → total f (set (set l id both) other spent) ≡ total f l
total_joined f l id other v w both spent at bt sum none_left = let a = total_set f l id v both at in let b = total_set f (set l id both) other w spent bt in omega arith

-- a seat takes over another
pub joins : (id other : ℕ) (v w : View) → v.role ≡ Idle → 0 < v.shares → w.role ≡ Idle → 0 < w.shares
    → Joins Ruled id v other w (beside v w) spent_view
joins id other v w idle part idle_too part_too s r at apart bt =
    let both : View = beside v w in
    let views : List View = set (set s.views id both) other spent_view in
    let there : get_elem? s.views other ≡ some w = sym (set_else s.views id other both apart) ∙ bt in
    let a = r.each id v at in
    let b = r.each other w there in
    let quiet : stands v.role ≡ 0 = ap stands idle in
    let quiet_too : stands w.role ≡ 0 = ap stands idle_too in
    let back : fronts v.role ≡ 0 = ap fronts idle in
    let back_too : fronts w.role ≡ 0 = ap fronts idle_too in
    let kept : total fronts_in views ≡ total fronts_in s.views = total_joined fronts_in s.views id other v w both spent_view at bt (omega arith) refl in
    record {
      origin = r.origin;
      log = r.log;
      serving = r.serving;
      ticket = r.ticket;
      words = r.words;
      line = (let e = total_joined stands_in s.views id other v w both spent_view at bt (omega arith) refl in let l = r.line in omega arith);
      each = each_set (λ k u. Agrees r.origin r.log r.serving r.ticket u) (set s.views id both) other spent_view
          (record { live = (λ z. absurd (omega arith)); spent = (λ z. (refl, refl, refl)); begins = (r.log, refl); marks = omega arith; does = tt })
          (λ j u ne ct. each_set (λ k u. Agrees r.origin r.log r.serving r.ticket u) s.views id both
          (record { live = (λ z. a.live part); spent = (λ z. absurd (omega arith)); begins = a.begins; marks = a.marks; does = (b.begins, b.marks, b.live part_too) })
          (λ k x ne xt. r.each k x xt) j u ct);
      apart = apart_set (set s.views id both) other spent_view
          (apart_set s.views id both r.apart (λ j u n ne ut su sb. sb))
          (λ j u n ne ut su sb. sb);
      shares = total_joined shares_of s.views id other v w both spent_view at bt refl refl ∙ r.shares;
      few = r.few;
      calls = (let e = total_joined calls_of s.views id other v w both spent_view at bt refl refl in let l = r.calls in omega arith);
      bounded = r.bounded;
      places = (λ place.
          let x : is_marked (joined_marks v.role) place ≡ 0 = ap (λ (q : Role). is_marked (joined_marks q) place) idle in
          let y : is_marked (joined_marks w.role) place ≡ 0 = ap (λ (q : Role). is_marked (joined_marks q) place) idle_too in
          total_joined (made_at place) s.views id other v w both spent_view at bt (omega arith) refl ∙ r.places place);
      home = (λ z. r.home (sym kept ∙ z));
      away = (λ nz. r.away (λ z. nz (kept ∙ z)));
    }

-- a seat and the one that it took over become one, which has seen the longer history
merge_step : (s : Table) (r : Ruled s) (id : ℕ) (v : View) (seen : List Entry) → get_elem? s.views id ≡ some v
    → v.role ≡ Joined (theirs_of v.role) (joined_marks v.role) (joined_origin v.origin v.role)
    → IsPrefix seen r.log → length v.seen ≤ length seen → length (theirs_of v.role) ≤ length seen
    → ((place : ℕ) → is_marked v.own place + is_marked (joined_marks v.role) place ≤ 1)
    → Ruled record { words = set s.words 0 (get_or s.words 0 0); homes = s.homes; views = set s.views id (record v { role = Idle; seen = seen; own = either_marked v.own (joined_marks v.role) }) }
merge_step s r id v seen at joined begins mine theirs apart =
    let w : View = record v { role = Idle; seen = seen; own = either_marked v.own (joined_marks v.role) } in
    let a = r.each id v at in
    let does : RoleAgrees r.origin r.log r.serving r.ticket v.seen (Joined (theirs_of v.role) (joined_marks v.role) (joined_origin v.origin v.role)) =
    subst (λ (q : Role). RoleAgrees r.origin r.log r.serving r.ticket v.seen q) joined a.does in
    let quiet : stands v.role ≡ 0 = ap stands joined in
    let back : fronts v.role ≡ 0 = ap fronts joined in
    let kept : total fronts_in (set s.views id w) ≡ total fronts_in s.views = (let e = total_set fronts_in s.views id v w at in omega arith) in
    let long = does.1 in
    let short = a.marks in
    let idle_is : v.shares ≡ 0 → Joined (theirs_of v.role) (joined_marks v.role) (joined_origin v.origin v.role) ≡ Idle = (λ z. sym joined ∙ (a.spent z).0) in
    record {
      origin = r.origin;
      log = r.log;
      serving = r.serving;
      ticket = r.ticket;
      words = set-get_or s.words 0 0 ∙ r.words;
      line = (let e = total_set stands_in s.views id v w at in let l = r.line in omega arith);
      each = each_set (λ k u. Agrees r.origin r.log r.serving r.ticket u) s.views id w
          (record {
            live = a.live;
            spent = (λ z. let e = idle_is z in absurd (cc e));
            begins = begins;
            marks = length_either v.own (joined_marks v.role) (length seen) (omega arith) (omega arith);
            does = tt;
          })
          (λ k u ne ut. r.each k u ut);
      apart = apart_set s.views id w r.apart (λ j u n ne ut su sw. sw);
      shares = (let e = total_set shares_of s.views id v w at in let l = r.shares in omega arith);
      few = r.few;
      calls = (let e = total_set calls_of s.views id v w at in let l = r.calls in omega arith);
      bounded = r.bounded;
      places = (λ place.
          let e = total_set (made_at place) s.views id v w at in
          let m = is_marked_either v.own (joined_marks v.role) place (apart place) in
          let l = r.places place in omega arith);
      home = (λ z. r.home (sym kept ∙ z));
      away = (λ nz. r.away (λ z. nz (kept ∙ z)));
    }

pub merges : (slots id : ℕ) (me : Sat) (st : At) → me.0.role ≡ Joined (theirs_of me.0.role) (joined_marks me.0.role) (joined_origin me.0.origin me.0.role) → 0 < me.0.shares
    → Allows Ruled slots id me 0 (λ n. n) (Merged st me)
merges slots id me st joined part s r deep at range =
    let v : View = me.0 in
    let a = r.each id v at in
    let does : RoleAgrees r.origin r.log r.serving r.ticket v.seen (Joined (theirs_of v.role) (joined_marks v.role) (joined_origin v.origin v.role)) =
    subst (λ (q : Role). RoleAgrees r.origin r.log r.serving r.ticket v.seen q) joined a.does in
    let apart : (place : ℕ) → is_marked v.own place + is_marked (joined_marks v.role) place ≤ 1 =
    (λ place. let o = total_one (made_at place) s.views id v at in let l = r.places place in let b = below_one (length r.log) place in omega arith) in
    let origin = does.2 ∙ sym (a.live part) in
    let shares : v.shares ≤ 64 = (let o = total_one shares_of s.views id v at in let l = r.shares in let f = r.few in omega arith) in
    let calls : v.calls ≤ 1000000 = (let o = total_one calls_of s.views id v at in let l = r.calls in let b = r.bounded in omega arith) in
    dite (dec_le (length (theirs_of v.role)) (length v.seen))
    (λ le. (
      record v { role = Idle; seen = v.seen; own = either_marked v.own (joined_marks v.role) },
      keeps,
      tt,
      merge_step s r id v v.seen at joined a.begins (omega arith) le apart,
      record { seen = v.seen; longer = first (prefix_of (theirs_of v.role) v.seen r.log does.0 a.begins le); apart = apart; origin = origin; shares = shares; calls = calls; seat = refl },
    ))
    (λ gt. let le : length v.seen ≤ length (theirs_of v.role) = omega arith in (
      record v { role = Idle; seen = theirs_of v.role; own = either_marked v.own (joined_marks v.role) },
      keeps,
      tt,
      merge_step s r id v (theirs_of v.role) at joined does.0 le (omega arith) apart,
      record { seen = theirs_of v.role; longer = second (prefix_of v.seen (theirs_of v.role) r.log a.begins does.0 le); apart = apart; origin = origin; shares = shares; calls = calls; seat = refl },
    ))
