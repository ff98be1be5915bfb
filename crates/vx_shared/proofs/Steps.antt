-- Each step at the table keeps the rule.
use Rattle.std.proofs.Common.{◌≡◌, ◌≢◌, ℕ, ◌+◌, ◌<◌, ◌≤◌, List, [], ◌∷◌, length, set, sym, ap, ◌∙◌, subst, ⊎_elim, arith, Option}
use mathlib.Core.Logic.{dite}
use mathlib.Core.Option.{none, some}
use mathlib.Core.Option as maybe
use native.Mathlib.Decide.{ℕ_discrete}
use lib.ListN.{get_elem?}
use Rattle.atomic_table.specs.Table.{State}
use Rattle.atomic_table.proofs.Lists.{at_set}
use Rattle.vx_shared.specs.declared.history.Entry.{Entry}
use Rattle.vx_shared.specs.declared.seats.Origin.{Origin}
use Rattle.vx_shared.specs.declared.seats.View.{View}
use Rattle.vx_shared.specs.declared.seats.Role.{Role}
use Rattle.vx_shared.specs.declared.seats.Role.TheVariants.{Idle, Waiting, Turn, Committed, Joined}
use Rattle.vx_shared.specs.Legal.{Stored}
use Rattle.vx_shared.specs.Marks.{is_marked}
use Rattle.vx_shared.specs.Seats.{wrapped, stands, joined_marks, stands_in, fronts_in, shares_of, calls_of, made_at, total, slot}
use Rattle.vx_shared.specs.Rule.{StandsAt, Agrees, Ruled}
use Rattle.vx_shared.specs.Plays.{posed}
use Rattle.vx_shared.proofs.Totals.{total_set, total_le}

abbrev pub Homes : Type 0
Homes = List (maybe.Option (Option Stored))

abbrev pub Table : Type 0
Table = State (Option Stored) View

-- what holds of each view and its place holds after a change of one
pub each_set : (K : ℕ → View → Type 0) (vs : List View) (me : ℕ) (w : View) → K me w
    → ((j : ℕ) (d : View) → j ≢ me → get_elem? vs j ≡ some d → K j d)
    → (j : ℕ) (d : View) → get_elem? (set vs me w) j ≡ some d → K j d
each_set K vs me w mine others j d e = ⊎_elim
    (λ (t : (j ≡ me) × (w ≡ d)). subst (λ (x : ℕ × View). K x.0 x.1) (λ i. (sym t.0 i, t.1 i)) mine)
    (λ (t : (j ≢ me) × (get_elem? vs j ≡ some d)). others j d t.0 t.1)
    (at_set vs me j w d e)

-- no two in the line have one number, after a change of one that has no other's number
pub apart_set : (vs : List View) (me : ℕ) (w : View)
    → ((one other : ℕ) (v u : View) (n : ℕ) → get_elem? vs one ≡ some v → get_elem? vs other ≡ some u → StandsAt v.role n → StandsAt u.role n → one ≡ other)
    → ((j : ℕ) (u : View) (n : ℕ) → j ≢ me → get_elem? vs j ≡ some u → StandsAt u.role n → StandsAt w.role n → ⊥)
    → (one other : ℕ) (v u : View) (n : ℕ) → get_elem? (set vs me w) one ≡ some v → get_elem? (set vs me w) other ≡ some u → StandsAt v.role n → StandsAt u.role n → one ≡ other
apart_set vs me w before new one other v u n at bt s t = ⊎_elim
    (λ (a : (one ≡ me) × (w ≡ v)). ⊎_elim
    (λ (b : (other ≡ me) × (w ≡ u)). a.0 ∙ sym b.0)
    (λ (b : (other ≢ me) × (get_elem? vs other ≡ some u)). absurd (new other u n b.0 b.1 t (subst (λ (x : View). StandsAt x.role n) (sym a.1) s)))
    (at_set vs me other w u bt))
    (λ (a : (one ≢ me) × (get_elem? vs one ≡ some v)). ⊎_elim
    (λ (b : (other ≡ me) × (w ≡ u)). absurd (new one v n a.0 a.1 s (subst (λ (x : View). StandsAt x.role n) (sym b.1) t)))
    (λ (b : (other ≢ me) × (get_elem? vs other ≡ some u)). before one other v u n a.1 b.1 s t)
    (at_set vs me other w u bt))
    (at_set vs me one w v at)

-- a seat in the line has a share
pub live_role : (origin : Origin) (log : List Entry) (serving ticket : ℕ) (v : View) → Agrees origin log serving ticket v → 0 < stands v.role → 0 < v.shares
live_role origin log serving ticket v a in_line = dite (ℕ_discrete v.shares 0)
    (λ e. let idle : stands v.role ≡ 0 = ap stands (a.spent e).0 in absurd (omega arith))
    (λ ne. omega arith)

pub stands_one : (role : Role) → stands role ≤ 1
stands_one Idle = omega arith
stands_one (Waiting n) = omega arith
stands_one (Turn n base) = omega arith
stands_one (Committed n) = omega arith
stands_one (Joined theirs own from) = omega arith

pub stand_shares : (origin : Origin) (log : List Entry) (serving ticket : ℕ) (v : View) → Agrees origin log serving ticket v → stands v.role ≤ v.shares
stand_shares origin log serving ticket v a = dite (ℕ_discrete v.shares 0)
    (λ e. let idle : stands v.role ≡ 0 = ap stands (a.spent e).0 in omega arith)
    (λ ne. let one = stands_one v.role in omega arith)

-- the line is short
pub few_stand : (s : Table) (r : Ruled s) → r.ticket ≤ r.serving + 64
few_stand s r =
    let h : total stands_in s.views ≤ total shares_of s.views = total_le stands_in shares_of s.views (λ i v at. stand_shares r.origin r.log r.serving r.ticket v (r.each i v at)) in
    let a = r.line in let b = r.shares in let c = r.few in omega arith

-- a step that changes one seat's role, and the two words of the line
pub pose_step : (s : Table) (r : Ruled s) (id : ℕ) (v : View) (role : Role) (words : List ℕ) (homes : Homes) (serving ticket : ℕ)
    → get_elem? s.views id ≡ some v
    → words ≡ wrapped ticket ∷ wrapped serving ∷ length r.log ∷ []
    → serving + stands role + r.ticket ≡ ticket + stands v.role + r.serving
    → Agrees r.origin r.log serving ticket (posed v role)
    → ((j : ℕ) (u : View) → j ≢ id → get_elem? s.views j ≡ some u → Agrees r.origin r.log serving ticket u)
    → ((j : ℕ) (u : View) (n : ℕ) → j ≢ id → get_elem? s.views j ≡ some u → StandsAt u.role n → StandsAt role n → ⊥)
    → ((place : ℕ) → is_marked (joined_marks role) place ≡ is_marked (joined_marks v.role) place)
    → (total fronts_in (set s.views id (posed v role)) ≡ 0 → homes ≡ some (slot r.origin r.log) ∷ [])
    → (total fronts_in (set s.views id (posed v role)) ≢ 0 → homes ≡ none ∷ [])
    → Ruled record { words = words; homes = homes; views = set s.views id (posed v role) }
pose_step s r id v role words homes serving ticket at now line mine others new marks home away =
    let w : View = posed v role in record {
      origin = r.origin;
      log = r.log;
      serving = serving;
      ticket = ticket;
      words = now;
      line = (let e = total_set stands_in s.views id v w at in let l = r.line in omega arith);
      each = each_set (λ j u. Agrees r.origin r.log serving ticket u) s.views id w mine others;
      apart = apart_set s.views id w r.apart new;
      shares = (let e = total_set shares_of s.views id v w at in let l = r.shares in omega arith);
      few = r.few;
      calls = (let e = total_set calls_of s.views id v w at in let l = r.calls in omega arith);
      bounded = r.bounded;
      places = (λ place. let e = total_set (made_at place) s.views id v w at in let m = marks place in let l = r.places place in omega arith);
      home = home;
      away = away;
    }
