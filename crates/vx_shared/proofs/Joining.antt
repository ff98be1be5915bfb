-- What a seat holds, and what a join does to two passes.
use Rattle.std.proofs.Common.{◌≡◌, ℕ, ◌+◌, ◌<◌, List, [], ◌∷◌, length, max, sym, refl, ap, ◌∙◌, subst, arith, Option}
use Rattle.atomic_table.specs.Table.{rest}
use Rattle.vx_shared.specs.declared.history.Entry.{Entry}
use Rattle.vx_shared.specs.declared.seats.Origin.{Origin}
use Rattle.vx_shared.specs.declared.seats.View.{View}
use Rattle.vx_shared.specs.declared.seats.Role.TheVariants.{Joined}
use Rattle.vx_shared.specs.Legal.{Stored, IsLegal}
use Rattle.vx_shared.specs.Seats.{start_of, theirs_of, joined_marks, joined_origin}
use Rattle.vx_shared.specs.Plays.{Sat, IsLonger, first, second, beside, HasMerged}
use Rattle.vx_shared.specs.Calls.{Known, view_of, IsSeated}
use Rattle.vx_shared.proofs.Prefixes.{prefix_length}

-- one held slot is the first of those held
pub only_slot : (held : List (ℕ × Option Stored)) (value : Option Stored) → held ≡ (0, value) ∷ [] → held ≡ (0, value) ∷ rest held
only_slot held value e = e ∙ ap (λ (r : List (ℕ × Option Stored)). (0, value) ∷ r) (sym (ap rest e))

pub first_slot : (held others : List (ℕ × Option Stored)) (value : Option Stored) → held ≡ (0, value) ∷ others → held ≡ (0, value) ∷ rest held
first_slot held others value e = e ∙ ap (λ (r : List (ℕ × Option Stored)). (0, value) ∷ r) (sym (ap rest e))

longest : (one other seen : List Entry) → IsLonger one other seen → length seen ≡ max (length one) (length other)
longest one other one' (first p) = let l = prefix_length other one p in omega arith
longest one other other' (second p) = let l = prefix_length one other p in omega arith

either_legal : (P : List Entry → Type 0) (one other seen : List Entry) → IsLonger one other seen → P one → P other → P seen
either_legal P one other one' (first p) a b = a
either_legal P one other other' (second p) a b = b

-- what a join does to two passes
pub merged_seated : (keep give : Known) (mine theirs now : Sat) (parts left long : ℕ) → parts ≡ keep.shares + give.shares → left ≡ keep.calls + give.calls → long ≡ max (length keep.seen) (length give.seen) → mine ≡ (view_of keep, []) → theirs ≡ (view_of give, []) → 0 < keep.shares → IsLegal (start_of keep.origin) keep.seen → IsLegal (start_of give.origin) give.seen
    → HasMerged mine.0 theirs.0 now → IsSeated now.0 parts left long
merged_seated keep give mine theirs now parts left long p l n is is_too some legal legal_too merged =
    let m : HasMerged (view_of keep) (view_of give) now = subst (λ (x : Sat × Sat). HasMerged x.0.0 x.1.0 now) (λ k. (is k, is_too k)) merged in
    let view = ap (λ (m : Sat). m.0) m.seat in
    let legal_here : IsLegal (start_of keep.origin) give.seen = subst (λ (o : Origin). IsLegal (start_of o) give.seen) m.origin legal_too in
    subst (λ (v : View). IsSeated v parts left long) (sym view) record {
      idle = refl;
      some = omega arith;
      parts = sym p;
      left = sym l;
      long = longest keep.seen give.seen m.seen m.longer ∙ sym n;
      legal = either_legal (λ l. IsLegal (start_of keep.origin) l) keep.seen give.seen m.seen m.longer legal legal_here;
    }

pub beside_joined : (v w : View) (me : Sat) (held : List (ℕ × Option Stored)) → me ≡ (beside v w, held) → me.0.role ≡ Joined (theirs_of me.0.role) (joined_marks me.0.role) (joined_origin me.0.origin me.0.role)
beside_joined v w me held e = subst (λ (m : Sat). m.0.role ≡ Joined (theirs_of m.0.role) (joined_marks m.0.role) (joined_origin m.0.origin m.0.role)) (sym e) refl

pub beside_live : (v w : View) (me : Sat) (held : List (ℕ × Option Stored)) → 0 < v.shares → me ≡ (beside v w, held) → 0 < me.0.shares
beside_live v w me held some e = subst (λ (m : Sat). 0 < m.0.shares) (sym e) (let x : 0 < v.shares + w.shares = omega arith in x)
