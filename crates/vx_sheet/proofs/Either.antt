-- Two readings are the same sheet, whichever comes first.
use Rattle.std.proofs.Common.{◌≡◌, ℕ, ◌+◌, ◌%◌, Bool, true, false, cond, ◌==◌, refl, sym, ap, ap₂, ◌∙◌, arith}
use Rattle.std.specs.Prelude.{◌&&◌, ◌||◌, Result, Ok, Err}
use Rattle.std.specs.Bool.{beq}
use Rattle.std.proofs.lemmas.Bool.{cond-true, cond-false}
use Rattle.vx_base.proofs.Booleans.{chosen-if, and-both, and-left, and-right, or-left, or-right, or-cases}
use Rattle.vx_base.proofs.Numbers.{equal-yes, equal-no, equal-from_yes}
use Rattle.vx_grid.specs.declared.kind.Kind.{Kind}
use Rattle.vx_grid.specs.declared.kind.Kind.TheVariants.{Precinct, Absentee, Provisional, Other}
use Rattle.vx_code.specs.declared.code.PageCode.{PageCode}
use Rattle.vx_layout.specs.declared.plan.CardPlan.{CardPlan}
use Rattle.vx_scan_model.specs.declared.reading.PageReading.{PageReading}
use Rattle.vx_rules.specs.declared.marks.SheetMarks.{SheetMarks}
use Rattle.vx_sheet.specs.declared.fault.SheetFault.{SheetFault}
use Rattle.vx_sheet.specs.declared.fault.SheetFault.TheVariants.{CardsDiffer, PagesNotFacing, KindsDiffer}
use Rattle.vx_sheet.specs.Sheet.{is_back_of, are_facing, same_kind, are_alike, sheet_with, either_sheet, alike_sheet, facing_sheet, sheet_of}
use Rattle.vx_sheet.specs.Laws.{EitherPageFirst}

-- what two readings are that are a sheet
pub record IsPair (first second : PageReading) : Type 0 where
  pub card : first.code.card ≡ second.code.card
  pub facing : are_facing first.code.page second.code.page ≡ true
  pub alike : are_alike first.code second.code ≡ true

pub is-pair : (plan : CardPlan) (first second : PageReading) (sheet : SheetMarks) → sheet_of plan first second ≡ Ok sheet → IsPair first second × (either_sheet plan first second ≡ sheet)
is-pair plan first second sheet h =
    let one = chosen-if (first.code.card == second.code.card) (facing_sheet plan first second) _ sheet h in
    let two = chosen-if (are_facing first.code.page second.code.page) (alike_sheet plan first second) _ sheet one.1 in
    let three = chosen-if (are_alike first.code second.code) (Ok (either_sheet plan first second)) _ sheet two.1 in
    let same : either_sheet plan first second ≡ sheet = cc (three.1) in
    (record { card = equal-from_yes _ _ one.0; facing = two.0; alike = three.0 }, same)

pub pair-is : (plan : CardPlan) (first second : PageReading) → IsPair first second → sheet_of plan first second ≡ Ok (either_sheet plan first second)
pair-is plan first second is =
    cond-true _ (facing_sheet plan first second) _ (equal-yes _ _ is.card)
    ∙ cond-true _ (alike_sheet plan first second) _ is.facing
    ∙ cond-true _ (Ok (either_sheet plan first second)) _ is.alike

same_kind-sym : (one other : Kind) → same_kind one other ≡ true → same_kind other one ≡ true
same_kind-sym Precinct Precinct h = h
same_kind-sym Precinct Absentee h = h
same_kind-sym Precinct Provisional h = h
same_kind-sym Precinct Other h = h
same_kind-sym Absentee Precinct h = h
same_kind-sym Absentee Absentee h = h
same_kind-sym Absentee Provisional h = h
same_kind-sym Absentee Other h = h
same_kind-sym Provisional Precinct h = h
same_kind-sym Provisional Absentee h = h
same_kind-sym Provisional Provisional h = h
same_kind-sym Provisional Other h = h
same_kind-sym Other Precinct h = h
same_kind-sym Other Absentee h = h
same_kind-sym Other Provisional h = h
same_kind-sym Other Other h = h

beq-sym : (one other : Bool) → beq one other ≡ true → beq other one ≡ true
beq-sym true true h = h
beq-sym true false h = h
beq-sym false true h = h
beq-sym false false h = h

alike-sym : (one other : PageCode) → are_alike one other ≡ true → are_alike other one ≡ true
alike-sym one other h =
    and-both _ _ (same_kind-sym one.kind other.kind (and-left _ _ h)) (beq-sym one.test other.test (and-right (same_kind one.kind other.kind) _ h))

facing-sym : (one other : ℕ) → are_facing one other ≡ true → are_facing other one ≡ true
facing-sym one other h =
    or-cases (is_back_of other one) (is_back_of one other) h (λ b. or-right (is_back_of one other) _ b) (λ b. or-left (is_back_of one other) _ b)

-- a front and its back
pub record IsBack (front back : ℕ) : Type 0 where
  pub odd : front % 2 ≡ 1
  pub next : back ≡ front + 1

pub back-is : (front back : ℕ) → is_back_of back front ≡ true → IsBack front back
back-is front back h = record {
  odd = equal-from_yes _ _ (and-left _ _ h);
  next = equal-from_yes _ _ (and-right (front % 2 == 1) _ h);
}

-- the sheet of two pages is that of the front and the back
pub front-first : (plan : CardPlan) (front back : PageReading) → IsBack front.code.page back.code.page → either_sheet plan front back ≡ sheet_with plan front back
front-first plan front back is = cond-true _ (sheet_with plan front back) _ (equal-yes _ _ is.odd)

pub back-first : (plan : CardPlan) (front back : PageReading) → IsBack front.code.page back.code.page → either_sheet plan back front ≡ sheet_with plan front back
back-first plan front back is =
    cond-false _ (sheet_with plan back front) (sheet_with plan front back) (equal-no (back.code.page % 2) 1 (λ e. absurd (omega (arith, is.odd, is.next))))

either-same : (plan : CardPlan) (first second : PageReading) → are_facing first.code.page second.code.page ≡ true → either_sheet plan second first ≡ either_sheet plan first second
either-same plan first second h =
    or-cases (is_back_of second.code.page first.code.page) (is_back_of first.code.page second.code.page) h
    (λ b. let is = back-is _ _ b in back-first plan first second is ∙ sym (front-first plan first second is))
    (λ b. let is = back-is _ _ b in front-first plan second first is ∙ sym (back-first plan second first is))

pub either-first : EitherPageFirst
either-first plan first second sheet h =
    let is = is-pair plan first second sheet h in
    pair-is plan second first (record { card = sym is.0.card; facing = facing-sym first.code.page second.code.page is.0.facing; alike = alike-sym first.code second.code is.0.alike })
    ∙ ap Ok (either-same plan first second is.0.facing ∙ is.1)
