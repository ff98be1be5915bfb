-- Two sheets that are the same in all are equal, and the other way round.
use Rattle.std.proofs.Common.{◌≡◌, ◌↔◌, ◌==◌, ℕ, Bool, true, false, List, [], ◌∷◌, refl, ap, ap₂, ◌∙◌, subst}
use Rattle.std.specs.Prelude.{◌&&◌}
use Rattle.std.specs.Bool.{beq}
use Rattle.vx_base.proofs.Booleans.{and-both, and-left, and-right}
use Rattle.vx_base.proofs.Numbers.{equal-yes, equal-from_yes}
use Rattle.vx_grid.specs.declared.kind.Kind.{Kind}
use Rattle.vx_grid.specs.declared.kind.Kind.TheVariants.{Precinct, Absentee, Provisional, Other}
use Rattle.vx_grid.specs.declared.state.State.{State}
use Rattle.vx_grid.specs.declared.state.State.TheVariants.{Marked, Marginal, Clear}
use Rattle.vx_rules.specs.declared.marks.ContestMarks.{ContestMarks}
use Rattle.vx_rules.specs.declared.marks.SheetMarks.{SheetMarks}
use Rattle.vx_sheet.specs.Sheet.{same_kind}
use Rattle.vx_desk.specs.Kept.{same_leaf, same_list, same_marks, same_sheet, same_state}
use Rattle.vx_desk.specs.Laws.{SameSheetsAreEqual}

module _ {X : Type 0} (same : X → X → Bool) where
  list-equal : ((x y : X) → same x y ≡ true → x ≡ y) → (xs ys : List X) → same_list same xs ys ≡ true → xs ≡ ys
  list-equal each [] [] is = refl
  list-equal each [] (y ∷ ys) is = absurd cc
  list-equal each (x ∷ xs) [] is = absurd cc
  list-equal each (x ∷ xs) (y ∷ ys) is =
      ap₂ (λ (z : X) (zs : List X). z ∷ zs) (each x y (and-left (same x y) (same_list same xs ys) is))
      (list-equal each xs ys (and-right (same x y) (same_list same xs ys) is))

  list-same : ((x : X) → same x x ≡ true) → (xs : List X) → same_list same xs xs ≡ true
  list-same each [] = refl
  list-same each (x ∷ xs) = and-both (same x x) (same_list same xs xs) (each x) (list-same each xs)

state-equal : (one other : State) → same_state one other ≡ true → one ≡ other
state-equal Marked Marked is = refl
state-equal Marked Marginal is = absurd cc
state-equal Marked Clear is = absurd cc
state-equal Marginal Marked is = absurd cc
state-equal Marginal Marginal is = refl
state-equal Marginal Clear is = absurd cc
state-equal Clear Marked is = absurd cc
state-equal Clear Marginal is = absurd cc
state-equal Clear Clear is = refl

state-same : (state : State) → same_state state state ≡ true
state-same Marked = refl
state-same Marginal = refl
state-same Clear = refl

kind-equal : (one other : Kind) → same_kind one other ≡ true → one ≡ other
kind-equal Precinct Precinct is = refl
kind-equal Precinct Absentee is = absurd cc
kind-equal Precinct Provisional is = absurd cc
kind-equal Precinct Other is = absurd cc
kind-equal Absentee Precinct is = absurd cc
kind-equal Absentee Absentee is = refl
kind-equal Absentee Provisional is = absurd cc
kind-equal Absentee Other is = absurd cc
kind-equal Provisional Precinct is = absurd cc
kind-equal Provisional Absentee is = absurd cc
kind-equal Provisional Provisional is = refl
kind-equal Provisional Other is = absurd cc
kind-equal Other Precinct is = absurd cc
kind-equal Other Absentee is = absurd cc
kind-equal Other Provisional is = absurd cc
kind-equal Other Other is = refl

kind-same : (kind : Kind) → same_kind kind kind ≡ true
kind-same Precinct = refl
kind-same Absentee = refl
kind-same Provisional = refl
kind-same Other = refl

bool-equal : (one other : Bool) → beq one other ≡ true → one ≡ other
bool-equal true true is = refl
bool-equal true false is = absurd cc
bool-equal false true is = absurd cc
bool-equal false false is = refl

bool-same : (b : Bool) → beq b b ≡ true
bool-same true = refl
bool-same false = refl

marks-equal : (one other : ContestMarks) → same_marks one other ≡ true → one ≡ other
marks-equal one other is =
    let states : Bool = same_list same_state one.states other.states in
    ap₂ (λ (contest : ℕ) (states : List State). record { contest = contest; states = states })
    (equal-from_yes one.contest other.contest (and-left (one.contest == other.contest) states is))
    (list-equal same_state state-equal one.states other.states (and-right (one.contest == other.contest) states is))

marks-same : (marks : ContestMarks) → same_marks marks marks ≡ true
marks-same marks =
    and-both (marks.contest == marks.contest) (same_list same_state marks.states marks.states)
    (equal-yes marks.contest marks.contest refl) (list-same same_state state-same marks.states)

sheet-equal : (one other : SheetMarks) → same_sheet one other ≡ true → one ≡ other
sheet-equal one other is =
    let pages : Bool = (one.card == other.card) && (one.front == other.front) in
    let cast : Bool = same_kind one.kind other.kind && beq one.test other.test in
    let contests : Bool = same_list same_marks one.contests other.contests in
    let leaf : pages && cast ≡ true = and-left (pages && cast) contests is in
    let card = and-left (one.card == other.card) (one.front == other.front) (and-left pages cast leaf) in
    let front = and-right (one.card == other.card) (one.front == other.front) (and-left pages cast leaf) in
    let kind = and-left (same_kind one.kind other.kind) (beq one.test other.test) (and-right pages cast leaf) in
    let test = and-right (same_kind one.kind other.kind) (beq one.test other.test) (and-right pages cast leaf) in
    ap₂ (λ (card front : ℕ). record { card = card; front = front; kind = one.kind; test = one.test; contests = one.contests })
    (equal-from_yes one.card other.card card) (equal-from_yes one.front other.front front)
    ∙ ap₂ (λ (kind : Kind) (test : Bool). record { card = other.card; front = other.front; kind = kind; test = test; contests = one.contests })
    (kind-equal one.kind other.kind kind) (bool-equal one.test other.test test)
    ∙ ap (λ (contests : List ContestMarks). record { card = other.card; front = other.front; kind = other.kind; test = other.test; contests = contests })
    (list-equal same_marks marks-equal one.contests other.contests (and-right (pages && cast) contests is))

sheet-same : (sheet : SheetMarks) → same_sheet sheet sheet ≡ true
sheet-same sheet =
    and-both (same_leaf sheet sheet) (same_list same_marks sheet.contests sheet.contests)
    (and-both ((sheet.card == sheet.card) && (sheet.front == sheet.front)) (same_kind sheet.kind sheet.kind && beq sheet.test sheet.test)
    (and-both (sheet.card == sheet.card) (sheet.front == sheet.front) (equal-yes sheet.card sheet.card refl) (equal-yes sheet.front sheet.front refl))
    (and-both (same_kind sheet.kind sheet.kind) (beq sheet.test sheet.test) (kind-same sheet.kind) (bool-same sheet.test)))
    (list-same same_marks marks-same sheet.contests)

pub same_is_equal : SameSheetsAreEqual
same_is_equal one other = (
  sheet-equal one other,
  λ is. subst (λ (sheet : SheetMarks). same_sheet one sheet ≡ true) is (sheet-same one),
)
