-- The steps of the line keep the rule: a number is drawn, the turn is looked for, the turn is given on.
use Rattle.std.proofs.Common.{◌≡◌, ◌≢◌, ℕ, ◌+◌, ◌%◌, ◌<◌, ◌≤◌, List, [], ◌∷◌, length, get_or, set, sym, refl, ap, ◌∙◌, subst, arith, Option}
use Rattle.std.proofs.Math.Nat.{mod-add-mod}
use mathlib.Core.Logic.{dite}
use mathlib.Core.Option.{none, some, some-injective}
use native.Mathlib.Decide.{ℕ_discrete}
use lib.ListN.{get_elem?}
use lib.Seq.{set-get_or}
use Rattle.atomic_table.specs.Table.{keeps, takes, gives, rest, put_back, Allows}
use Rattle.atomic_table.proofs.Lists.{set_again, one_turn}
use Rattle.vx_shared.specs.declared.history.Entry.{Entry}
use Rattle.vx_shared.specs.declared.seats.Origin.{Origin}
use Rattle.vx_shared.specs.declared.seats.View.{View}
use Rattle.vx_shared.specs.declared.seats.Role.{Role}
use Rattle.vx_shared.specs.declared.seats.Role.TheVariants.{Idle, Waiting, Turn, Committed, Joined}
use Rattle.vx_shared.specs.Legal.{Stored}
use Rattle.vx_shared.specs.Marks.{is_marked}
use Rattle.vx_shared.specs.Seats.{wrapped, stands, fronts, number_of, front_of, joined_marks, fronts_in, total, slot, hand}
use Rattle.vx_shared.specs.Rule.{StandsAt, RoleAgrees, Agrees, Ruled}
use Rattle.vx_shared.specs.Plays.{Sat, At, posed, IsReady, Drawn, IsWaiting, Looked, MayLeave, Left}
use Rattle.vx_shared.proofs.Totals.{total_set, total_zero, total_only}
use Rattle.vx_shared.proofs.Steps.{Homes, Table, live_role, few_stand, pose_step}

wrapped_next : (n : ℕ) → (wrapped n + 1) % 18446744073709551616 ≡ wrapped (n + 1)
wrapped_next n = mod-add-mod n 18446744073709551616 1

-- what a role says stays true where the next number was drawn
later_role : (origin : Origin) (log : List Entry) (serving ticket : ℕ) (seen : List Entry) (role : Role)
    → RoleAgrees origin log serving ticket seen role → RoleAgrees origin log serving (ticket + 1) seen role
later_role origin log serving ticket seen Idle a = tt
later_role origin log serving ticket seen (Waiting n) a = let p = a.0 in let q = a.1 in (p, omega arith)
later_role origin log serving ticket seen (Turn n base) a = let q = a.1 in (a.0, omega arith, a.2)
later_role origin log serving ticket seen (Committed n) a = let q = a.1 in (a.0, omega arith, a.2)
later_role origin log serving ticket seen (Joined theirs own from) a = a

later : (origin : Origin) (log : List Entry) (serving ticket : ℕ) (v : View) → Agrees origin log serving ticket v → Agrees origin log serving (ticket + 1) v
later origin log serving ticket v a = record { live = a.live; spent = a.spent; begins = a.begins; marks = a.marks; does = later_role origin log serving ticket v.seen v.role a.does }

-- a number in the line lies between the one whose turn it is and the one that is drawn next
within : (origin : Origin) (log : List Entry) (serving ticket : ℕ) (seen : List Entry) (role : Role) (n : ℕ)
    → RoleAgrees origin log serving ticket seen role → StandsAt role n → (serving ≤ n) × (n < ticket)
within origin log serving ticket seen Idle n a s = absurd s
within origin log serving ticket seen (Waiting m) n a s = let p = a.0 in let q = a.1 in let e : m ≡ n = s in (omega arith, omega arith)
within origin log serving ticket seen (Turn m base) n a s = let p = a.0 in let q = a.1 in let e : m ≡ n = s in (omega arith, omega arith)
within origin log serving ticket seen (Committed m) n a s = let p = a.0 in let q = a.1 in let e : m ≡ n = s in (omega arith, omega arith)
within origin log serving ticket seen (Joined theirs own from) n a s = absurd s

-- the number at the front is the one whose turn it is
front_number : (origin : Origin) (log : List Entry) (serving ticket : ℕ) (seen : List Entry) (role : Role)
    → RoleAgrees origin log serving ticket seen role → fronts role ≢ 0 → StandsAt role serving
front_number origin log serving ticket seen Idle a f = absurd (f refl)
front_number origin log serving ticket seen (Waiting m) a f = absurd (f refl)
front_number origin log serving ticket seen (Turn m base) a f = a.0
front_number origin log serving ticket seen (Committed m) a f = a.0
front_number origin log serving ticket seen (Joined theirs own from) a f = absurd (f refl)

front_log : (origin : Origin) (log : List Entry) (serving ticket : ℕ) (seen : List Entry) (role : Role)
    → RoleAgrees origin log serving ticket seen role → fronts role ≢ 0 → front_of seen role ≡ log
front_log origin log serving ticket seen Idle a f = absurd (f refl)
front_log origin log serving ticket seen (Waiting m) a f = absurd (f refl)
front_log origin log serving ticket seen (Turn m base) a f = a.2
front_log origin log serving ticket seen (Committed m) a f = a.2
front_log origin log serving ticket seen (Joined theirs own from) a f = absurd (f refl)

front_stands : (role : Role) → fronts role ≢ 0 → stands role ≡ 1
front_stands Idle f = absurd (f refl)
front_stands (Waiting m) f = absurd (f refl)
front_stands (Turn m base) f = refl
front_stands (Committed m) f = refl
front_stands (Joined theirs own from) f = absurd (f refl)

front_marks : (role : Role) (place : ℕ) → fronts role ≢ 0 → is_marked (joined_marks role) place ≡ 0
front_marks Idle place f = refl
front_marks (Waiting m) place f = refl
front_marks (Turn m base) place f = refl
front_marks (Committed m) place f = refl
front_marks (Joined theirs own from) place f = absurd (f refl)

-- what a role says stays true where the turn went on, unless it had the turn
moved_role : (origin : Origin) (log : List Entry) (serving ticket : ℕ) (seen : List Entry) (role : Role)
    → RoleAgrees origin log serving ticket seen role → (StandsAt role serving → ⊥) → RoleAgrees origin log (serving + 1) ticket seen role
moved_role origin log serving ticket seen Idle a not_here = tt
moved_role origin log serving ticket seen (Waiting n) a not_here = let p = a.0 in let q = a.1 in let ne : n ≢ serving = not_here in (omega arith, q)
moved_role origin log serving ticket seen (Turn n base) a not_here = absurd (not_here a.0)
moved_role origin log serving ticket seen (Committed n) a not_here = absurd (not_here a.0)
moved_role origin log serving ticket seen (Joined theirs own from) a not_here = a

moved : (origin : Origin) (log : List Entry) (serving ticket : ℕ) (v : View) → Agrees origin log serving ticket v → (StandsAt v.role serving → ⊥) → Agrees origin log (serving + 1) ticket v
moved origin log serving ticket v a not_here = record { live = a.live; spent = a.spent; begins = a.begins; marks = a.marks; does = moved_role origin log serving ticket v.seen v.role a.does not_here }

-- the same state, where a word is read
stays : (s : Table) (r : Ruled s) (id i : ℕ) (v : View) → get_elem? s.views id ≡ some v → Ruled record { words = set s.words i (get_or s.words i 0); homes = s.homes; views = set s.views id v }
stays s r id i v at = subst (λ (x : List ℕ × List View). Ruled record { words = x.0; homes = s.homes; views = x.1 }) (λ k. (sym (set-get_or s.words i 0) k, sym (set_again s.views id v at) k)) r

-- a number is drawn
pub draws : (slots id : ℕ) (me : Sat) (st : At) → IsReady me
    → Allows Ruled slots id me 0 (λ n. (n + 1) % 18446744073709551616) (Drawn st me)
draws slots id me st ready s r deep at range =
    let v : View = me.0 in
    let role : Role = Waiting r.ticket in
    let words : List ℕ = set s.words 0 ((get_or s.words 0 0 + 1) % 18446744073709551616) in
    let now : words ≡ wrapped (r.ticket + 1) ∷ wrapped r.serving ∷ length r.log ∷ [] =
    ap (λ ws. set ws 0 ((get_or ws 0 0 + 1) % 18446744073709551616)) r.words ∙ ap (λ (w : ℕ). w ∷ wrapped r.serving ∷ length r.log ∷ []) (wrapped_next r.ticket) in
    let quiet : stands v.role ≡ 0 = ap stands ready.idle in
    let back : fronts v.role ≡ 0 = ap fronts ready.idle in
    let a = r.each id v at in
    let line = r.line in
    let kept : total fronts_in (set s.views id (posed v role)) ≡ total fronts_in s.views = (let e = total_set fronts_in s.views id v (posed v role) at in omega arith) in (
      posed v role,
      keeps,
      tt,
      pose_step s r id v role words s.homes r.serving (r.ticket + 1) at now (omega arith)
          (record { live = a.live; spent = (λ none_left. let some = ready.some in absurd (omega arith)); begins = a.begins; marks = a.marks; does = (let l = r.line in (omega arith, omega arith)) })
          (λ j u ne bt. later r.origin r.log r.serving r.ticket u (r.each j u bt))
          (λ j u n ne bt su sw. let b = within r.origin r.log r.serving r.ticket u.seen u.role n (r.each j u bt).does su in let e : r.ticket ≡ n = sw in let lt = b.1 in absurd (omega arith))
          (λ place. ap (λ (q : Role). is_marked (joined_marks q) place) (sym ready.idle))
          (λ z. r.home (sym kept ∙ z))
          (λ nz. r.away (λ z. nz (kept ∙ z))),
      record { number = r.ticket; word = ap (λ ws. get_or ws 0 0) r.words; seat = refl },
    )

-- a seat that waits for the number whose turn it is, is the only one with that number
none_front : (s : Table) (r : Ruled s) (id : ℕ) (v : View) → get_elem? s.views id ≡ some v → StandsAt v.role r.serving → fronts v.role ≡ 0 → total fronts_in s.views ≡ 0
none_front s r id v at here back = total_zero fronts_in s.views (λ j u bt.
    dite (ℕ_discrete (fronts u.role) 0)
    (λ z. z)
    (λ nz.
    let there = front_number r.origin r.log r.serving r.ticket u.seen u.role (r.each j u bt).does nz in
    let one : j ≡ id = r.apart j id u v r.serving bt at there here in
    let same : u ≡ v = some-injective u v (sym bt ∙ (ap (λ (k : ℕ). get_elem? s.views k) one ∙ at)) in
    absurd (nz (ap (λ (x : View). fronts x.role) same ∙ back))))

-- the turn is looked for
pub looks : (id : ℕ) (me : Sat) (word : ℕ) (st : At) → IsWaiting me word → (slots : ℕ) → Allows Ruled slots id me 1 (λ n. n) (Looked st me)
looks id me word st waits slots s r deep at range =
    let v : View = me.0 in
    let n : ℕ = waits.number in
    let found : get_or s.words 1 0 ≡ wrapped r.serving = ap (λ ws. get_or ws 1 0) r.words in
    let number : number_of v.role ≡ n = ap number_of waits.role in
    let a = r.each id v at in
    let does : RoleAgrees r.origin r.log r.serving r.ticket v.seen (Waiting n) = subst (λ (q : Role). RoleAgrees r.origin r.log r.serving r.ticket v.seen q) waits.role a.does in
    let in_line : 0 < stands v.role = (let e : stands v.role ≡ 1 = ap stands waits.role in omega arith) in
    let live = live_role r.origin r.log r.serving r.ticket v a in_line in
    let origin = a.live live in
    dite (ℕ_discrete (get_or s.words 1 0) (wrapped (number_of v.role)))
    (λ is.
    let same : wrapped r.serving ≡ wrapped n = sym found ∙ (is ∙ ap wrapped number) in
    let few = few_stand s r in
    let low = does.0 in let high = does.1 in
    let mine : r.serving ≡ n = one_turn r.serving n 18446744073709551616 low (omega arith) same in
    let here : StandsAt v.role r.serving = subst (λ (q : Role). StandsAt q r.serving) (sym waits.role) (sym mine) in
    let back : fronts v.role ≡ 0 = ap fronts waits.role in
    let free : total fronts_in s.views ≡ 0 = none_front s r id v at here back in
    let home : s.homes ≡ some (slot r.origin r.log) ∷ [] = r.home free in
    let role : Role = Turn n r.log in
    let after : total fronts_in (set s.views id (posed v role)) ≡ 1 = (let e = total_set fronts_in s.views id v (posed v role) at in omega arith) in
    let stand : stands v.role ≡ 1 = ap stands waits.role in (
      posed v role,
      takes 0 (slot r.origin r.log),
      ap (λ (hs : Homes). get_elem? hs 0) home,
      pose_step s r id v role (set s.words 1 (get_or s.words 1 0)) (set s.homes 0 none) r.serving r.ticket at (ap (λ ws. set ws 1 (get_or ws 1 0)) r.words) (omega arith)
          (record { live = a.live; spent = (λ none_left. absurd (omega arith)); begins = a.begins; marks = a.marks; does = (sym mine, high, refl) })
          (λ j u ne bt. r.each j u bt)
          (λ j u m ne bt su sw. let e : n ≡ m = sw in let sv : StandsAt v.role m = subst (λ (q : Role). StandsAt q m) (sym waits.role) e in absurd (ne (r.apart j id u v m bt at su sv)))
          (λ place. ap (λ (q : Role). is_marked (joined_marks q) place) (sym waits.role))
          (λ z. absurd (omega arith))
          (λ nz. ap (λ (hs : Homes). set hs 0 none) home),
      record {
        mine = (λ e. record {
          number = n;
          base = r.log;
          view = refl;
          slot = (ap (λ (held : List (ℕ × Option Stored)). (0, slot r.origin r.log) ∷ held) waits.empty ∙ ap (λ (o : Origin). hand o r.log) (sym origin));
          begins = a.begins;
          marks = a.marks;
        });
        others = (λ ne. absurd (ne is));
      },
    ))
    (λ isnt. (
      v,
      keeps,
      tt,
      stays s r id 1 v at,
      record { mine = (λ e. absurd (isnt e)); others = (λ ne. refl) },
    ))

-- the turn is given to the next number
pub raises : (slots id : ℕ) (me : Sat) (st : At) → MayLeave me → Allows Ruled slots id me 1 (λ n. (n + 1) % 18446744073709551616) (Left st me)
raises slots id me st may s r deep at range =
    let v : View = me.0 in
    let front : fronts v.role ≢ 0 = (λ z. let o = may.turn in absurd (omega arith)) in
    let words : List ℕ = set s.words 1 ((get_or s.words 1 0 + 1) % 18446744073709551616) in
    let now : words ≡ wrapped r.ticket ∷ wrapped (r.serving + 1) ∷ length r.log ∷ [] =
    ap (λ ws. set ws 1 ((get_or ws 1 0 + 1) % 18446744073709551616)) r.words ∙ ap (λ (w : ℕ). wrapped r.ticket ∷ w ∷ length r.log ∷ []) (wrapped_next r.serving) in
    let a = r.each id v at in
    let stand : stands v.role ≡ 1 = front_stands v.role front in
    let live = live_role r.origin r.log r.serving r.ticket v a (omega arith) in
    let origin = a.live live in
    let here : StandsAt v.role r.serving = front_number r.origin r.log r.serving r.ticket v.seen v.role a.does front in
    let log : front_of v.seen v.role ≡ r.log = front_log r.origin r.log r.serving r.ticket v.seen v.role a.does front in
    let others : (j : ℕ) (u : View) → j ≢ id → get_elem? s.views j ≡ some u → StandsAt u.role r.serving → ⊥ =
    (λ j u ne bt there. ne (r.apart j id u v r.serving bt at there here)) in
    let one : total fronts_in s.views ≡ fronts v.role = total_only fronts_in s.views id v at (λ j u ne bt.
    dite (ℕ_discrete (fronts u.role) 0) (λ z. z)
    (λ nz. absurd (others j u ne bt (front_number r.origin r.log r.serving r.ticket u.seen u.role (r.each j u bt).does nz)))) in
    let turn = may.turn in
    let away : s.homes ≡ none ∷ [] = r.away (λ z. absurd (omega arith)) in
    let after : total fronts_in (set s.views id (posed v Idle)) ≡ 0 = (let e = total_set fronts_in s.views id v (posed v Idle) at in omega arith) in
    let held : me.1 ≡ hand r.origin r.log = may.slot ∙ (λ k. hand (origin k) (log k)) in
    let home : put_back s.homes me.1 ≡ some (slot r.origin r.log) ∷ [] =
    (λ k. put_back (away k) (held k)) in (
      posed v Idle,
      gives,
      tt,
      pose_step s r id v Idle words (put_back s.homes me.1) (r.serving + 1) r.ticket at now (omega arith)
          (record { live = a.live; spent = (λ none_left. absurd (omega arith)); begins = a.begins; marks = a.marks; does = tt })
          (λ j u ne bt. moved r.origin r.log r.serving r.ticket u (r.each j u bt) (others j u ne bt))
          (λ j u n ne bt su sw. sw)
          (λ place. sym (front_marks v.role place front))
          (λ z. home)
          (λ nz. absurd (nz after)),
      ap (λ (h : List (ℕ × Option Stored)). let x : Sat = (posed v Idle, rest h) in x) held,
    )
