-- The contests of a sheet that was marked, each of them in its row: what will be a law of `vx_sheet` and `vx_center`.
use Rattle.std.proofs.Common.{◌≡◌, ℕ, zero, suc, ◌+◌, ◌<◌, ◌≤◌, Bool, true, false, cond, List, [], ◌∷◌, ◌++◌, refl, ap, ap₂, subst, ◌∙◌, arith, append-nil}
use Rattle.std.specs.Prelude.{◌==◌, ◌||◌, filter, Some, slice_get}
use Rattle.std.specs.List.{flat_map, range_with_len}
use Rattle.std.proofs.lemmas.List.Elements.{filter-append}
use Rattle.std.proofs.lemmas.Option.{same_Some}
use Rattle.vx_base.proofs.Numbers.{equal-no, equal-yes}
use Rattle.vx_rules.specs.declared.marks.ContestMarks.{ContestMarks}
use Rattle.vx_sheet.specs.Margin.{MarkedSheet, contest_if_on, contest_marked}
use Rattle.vx_sheet.specs.Sheet.{has_bubble}

-- a list is made of the contests that a sheet has of a range
module _ {X : Type 0} (number : X → ℕ) (gives : ContestMarks → List X) (sheet : MarkedSheet)
    (own : (marks : ContestMarks) (contest : ℕ) → filter (λ (x : X). number x == contest) (gives marks) ≡ cond (marks.contest == contest) (gives marks) [])
  where
    abbrev on : ℕ → X → Bool
    on contest x = number x == contest

    abbrev all-on : ℕ → List ContestMarks → List X
    all-on contest list = filter (on contest) (flat_map gives list)

    more-on : (contest : ℕ) (marks : ContestMarks) (list : List ContestMarks)
        → all-on contest (marks ∷ list) ≡ cond (marks.contest == contest) (gives marks) [] ++ all-on contest list
    more-on contest marks list =
        filter-append (on contest) (gives marks) (flat_map gives list)
        ∙ ap (λ (some : List X). some ++ all-on contest list) (own marks contest)

    -- the contests from one on
    abbrev from : ℕ → ℕ → List ContestMarks
    from n size = flat_map (contest_if_on sheet) (range_with_len n size)

    abbrev is-on : ℕ → Bool
    is-on n = has_bubble n sheet.front_plan.bubbles || has_bubble n sheet.back_plan.bubbles

    none-below : (contest n size : ℕ) → contest < n → all-on contest (from n size) ≡ []
    none-below contest n zero less = refl
    none-below contest n (suc size) less = by (is-on n) (none-below contest (n + 1) size (omega (arith, less)))
      where
        by : (b : Bool) → all-on contest (from (n + 1) size) ≡ [] → all-on contest (cond b (contest_marked sheet n ∷ []) [] ++ from (n + 1) size) ≡ []
        by true rest =
            more-on contest (contest_marked sheet n) (from (n + 1) size)
            ∙ ap₂ (λ (b : Bool) (some : List X). cond b (gives (contest_marked sheet n)) [] ++ some)
            (equal-no n contest (λ same. omega (arith, less, same))) rest
        by false rest = rest

    -- of each contest that the sheet has, what it gives stands once
    pub once : (n size place : ℕ) (marks : ContestMarks) → slice_get (from n size) place ≡ Some marks
        → (n ≤ marks.contest) × (all-on marks.contest (from n size) ≡ gives marks)
    once n zero place marks h = absurd cc
    once n (suc size) place marks h = by (is-on n) place (λ at there. once (n + 1) size at marks there) h
      where
        first : contest_marked sheet n ≡ marks → (n ≤ marks.contest) × (all-on marks.contest (contest_marked sheet n ∷ from (n + 1) size) ≡ gives marks)
        first same =
            let Right : ContestMarks → Type 0 = λ some. (n ≤ some.contest) × (all-on some.contest (contest_marked sheet n ∷ from (n + 1) size) ≡ gives some) in
            subst Right same (
              omega arith,
              more-on n (contest_marked sheet n) (from (n + 1) size)
                  ∙ ap₂ (λ (b : Bool) (some : List X). cond b (gives (contest_marked sheet n)) [] ++ some) (equal-yes n n refl)
                  (none-below n (n + 1) size (omega arith))
                  ∙ append-nil (gives (contest_marked sheet n)),
            )

        by : (b : Bool) (place : ℕ)
            → ((at : ℕ) → slice_get (from (n + 1) size) at ≡ Some marks → (n + 1 ≤ marks.contest) × (all-on marks.contest (from (n + 1) size) ≡ gives marks))
            → slice_get (cond b (contest_marked sheet n ∷ []) [] ++ from (n + 1) size) place ≡ Some marks
            → (n ≤ marks.contest) × (all-on marks.contest (cond b (contest_marked sheet n ∷ []) [] ++ from (n + 1) size) ≡ gives marks)
        by true zero later h = first (same_Some (contest_marked sheet n) marks h)
        by true (suc place) later h =
            let rest = later place h in
            let other : (n == marks.contest) ≡ false = equal-no n marks.contest (λ same. let low = rest.0 in omega (arith, low, same)) in (
              let low = rest.0 in omega (arith, low),
              more-on marks.contest (contest_marked sheet n) (from (n + 1) size)
                  ∙ ap (λ (b : Bool). cond b (gives (contest_marked sheet n)) [] ++ all-on marks.contest (from (n + 1) size)) other
                  ∙ rest.1,
            )
        by false place later h =
            let rest = later place h in
            (let low = rest.0 in omega (arith, low), rest.1)
