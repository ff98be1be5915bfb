-- Events at marked places, and interleavings of two groups of lists.
use Rattle.std.proofs.Common.{◌≡◌, ℕ, zero, suc, ◌+◌, ◌≤◌, All, Bool, true, false, List, [], ◌∷◌, ◌++◌, length, replicate, set, Some, slice_get, refl, ap, ◌∙◌, subst, arith}
use Rattle.std.proofs.lemmas.List.Elements.{All-nil, All-cons, All-append}
use Rattle.vx_events.specs.declared.event.Event.{Event}
use Rattle.vx_shared.specs.Interleaving.{Interleaving}
use Rattle.vx_shared.specs.Legal.{events_in}
use Rattle.vx_shared.specs.declared.history.Entry.{Entry}
use Rattle.vx_shared.specs.Marks.{is_marked, marked, either_marked}
use Rattle.vx_shared.specs.Gained.{events_at}

-- a longer history has the same events at places within the shorter one
pub events_longer : (marks : List Bool) (log more : List Entry) → length marks ≤ length log → events_at marks (log ++ more) ≡ events_at marks log
events_longer [] log more le = refl
events_longer (m ∷ marks) [] more le = absurd (omega arith)
events_longer (true ∷ marks) (e ∷ log) more le = ap (λ (r : List Event). e.event ∷ r) (events_longer marks log more (omega arith))
events_longer (false ∷ marks) (e ∷ log) more le = events_longer marks log more (omega arith)

-- the place at the end of a history is marked, and its event is the last
pub events_marked : (marks : List Bool) (log : List Entry) (call : Entry) → length marks ≤ length log
    → events_at (marked (length log) marks) (log ++ call ∷ []) ≡ events_at marks log ++ call.event ∷ []
events_marked [] [] call le = refl
events_marked (m ∷ marks) [] call le = absurd (omega arith)
events_marked [] (e ∷ log) call le = events_marked [] log call (omega arith)
events_marked (true ∷ marks) (e ∷ log) call le = ap (λ (r : List Event). e.event ∷ r) (events_marked marks log call (omega arith))
events_marked (false ∷ marks) (e ∷ log) call le = events_marked marks log call (omega arith)

-- how many events are at the places of either
pub events_either : (ms ns : List Bool) (log : List Entry) → ((p : ℕ) → is_marked ms p + is_marked ns p ≤ 1)
    → length (events_at (either_marked ms ns) log) ≡ length (events_at ms log) + length (events_at ns log)
events_either [] ns log apart = omega arith
events_either (m ∷ ms) [] log apart = omega arith
events_either (m ∷ ms) (n ∷ ns) [] apart = omega arith
events_either (true ∷ ms) (true ∷ ns) (e ∷ log) apart = let h : 2 ≤ 1 = apart 0 in absurd (omega arith)
events_either (true ∷ ms) (false ∷ ns) (e ∷ log) apart = let h = events_either ms ns log (λ p. apart (suc p)) in omega arith
events_either (false ∷ ms) (true ∷ ns) (e ∷ log) apart = let h = events_either ms ns log (λ p. apart (suc p)) in omega arith
events_either (false ∷ ms) (false ∷ ns) (e ∷ log) apart = events_either ms ns log (λ p. apart (suc p))

-- where all places are marked, the events are those of the history
pub events_all : (log : List Entry) → events_at (replicate (length log) true) log ≡ events_in log
events_all [] = refl
events_all (e ∷ log) = ap (λ (r : List Event). e.event ∷ r) (events_all log)

-- the place behind a list
abbrev behind : {A : Type 0} → List A → ℕ → ℕ
behind [] place = place
behind (x ∷ xs) place = suc (behind xs place)

module _ {A : Type 0} where
  get_left : (xs ys : List A) (place : ℕ) (x : A) → slice_get xs place ≡ Some x → slice_get (xs ++ ys) place ≡ Some x
  get_left [] ys place x is = absurd (cc is)
  get_left (y ∷ xs) ys zero x is = is
  get_left (y ∷ xs) ys (suc place) x is = get_left xs ys place x is

  set_left : (xs ys : List A) (place : ℕ) (x y : A) → slice_get xs place ≡ Some x → set xs place y ++ ys ≡ set (xs ++ ys) place y
  set_left [] ys place x y is = absurd (cc is)
  set_left (z ∷ xs) ys zero x y is = refl
  set_left (z ∷ xs) ys (suc place) x y is = ap (λ (r : List A). z ∷ r) (set_left xs ys place x y is)

  get_right : (xs ys : List A) (place : ℕ) → slice_get (xs ++ ys) (behind xs place) ≡ slice_get ys place
  get_right [] ys place = refl
  get_right (x ∷ xs) ys place = get_right xs ys place

  set_right : (xs ys : List A) (place : ℕ) (y : A) → xs ++ set ys place y ≡ set (xs ++ ys) (behind xs place) y
  set_right [] ys place y = refl
  set_right (x ∷ xs) ys place y = ap (λ (r : List A). x ∷ r) (set_right xs ys place y)

abbrev pub Lists : Type 0
Lists = List (List Event)

abbrev AllEmpty : Lists → Type 0
AllEmpty lists = All (λ (list : List Event). list ≡ []) lists

-- the next event is of the first group, or of the second
next_left : (xs ys : Lists) (e : Event) (es : List Event) (place : ℕ) (more : List Event) → slice_get xs place ≡ Some (e ∷ more)
    → Interleaving (set xs place more ++ ys) es → Interleaving (xs ++ ys) (e ∷ es)
next_left xs ys e es place more is rest = (
  place,
  more,
  (get_left xs ys place (e ∷ more) is, subst (λ (lists : Lists). Interleaving lists es) (set_left xs ys place (e ∷ more) more is) rest),
)

next_right : (xs ys : Lists) (e : Event) (es : List Event) (place : ℕ) (more : List Event) → slice_get ys place ≡ Some (e ∷ more)
    → Interleaving (xs ++ set ys place more) es → Interleaving (xs ++ ys) (e ∷ es)
next_right xs ys e es place more is rest = (
  behind xs place,
  more,
  (get_right xs ys place ∙ is, subst (λ (lists : Lists). Interleaving lists es) (set_right xs ys place more) rest),
)

only_left : (es : List Event) (xs ys : Lists) → Interleaving xs es → AllEmpty ys → Interleaving (xs ++ ys) es
only_left [] xs ys left right = All-append (λ (list : List Event). list ≡ []) xs ys left right
only_left (e ∷ es) xs ys left right = next_left xs ys e es left.0 left.1 left.2.0 (only_left es (set xs left.0 left.1) ys left.2.1 right)

pub only_right : (es : List Event) (xs ys : Lists) → AllEmpty xs → Interleaving ys es → Interleaving (xs ++ ys) es
only_right [] xs ys left right = All-append (λ (list : List Event). list ≡ []) xs ys left right
only_right (e ∷ es) xs ys left right = next_right xs ys e es right.0 right.1 right.2.0 (only_right es xs (set ys right.0 right.1) left right.2.1)

-- one list alone is in its order
pub alone : (es : List Event) → Interleaving (es ∷ []) es
alone [] = All-cons (λ (list : List Event). list ≡ []) [] [] refl (All-nil (λ (list : List Event). list ≡ []))
alone (e ∷ es) = (0, es, (refl, alone es))

-- from interleavings of two groups of lists at places that are apart, one of both groups at the places of either
pub mixes : (ms ns : List Bool) (log : List Entry) (xs ys : Lists) → ((p : ℕ) → is_marked ms p + is_marked ns p ≤ 1)
    → Interleaving xs (events_at ms log) → Interleaving ys (events_at ns log)
    → Interleaving (xs ++ ys) (events_at (either_marked ms ns) log)
mixes [] ns log xs ys apart left right = only_right (events_at ns log) xs ys left right
mixes (m ∷ ms) [] log xs ys apart left right = only_left (events_at (m ∷ ms) log) xs ys left right
mixes (m ∷ ms) (n ∷ ns) [] xs ys apart left right = All-append (λ (list : List Event). list ≡ []) xs ys left right
mixes (true ∷ ms) (true ∷ ns) (e ∷ log) xs ys apart left right = let h : 2 ≤ 1 = apart 0 in absurd (omega arith)
mixes (true ∷ ms) (false ∷ ns) (e ∷ log) xs ys apart left right =
    next_left xs ys e.event (events_at (either_marked ms ns) log) left.0 left.1 left.2.0
    (mixes ms ns log (set xs left.0 left.1) ys (λ p. apart (suc p)) left.2.1 right)
mixes (false ∷ ms) (true ∷ ns) (e ∷ log) xs ys apart left right =
    next_right xs ys e.event (events_at (either_marked ms ns) log) right.0 right.1 right.2.0
    (mixes ms ns log xs (set ys right.0 right.1) (λ p. apart (suc p)) left right.2.1)
mixes (false ∷ ms) (false ∷ ns) (e ∷ log) xs ys apart left right = mixes ms ns log xs ys (λ p. apart (suc p)) left right
