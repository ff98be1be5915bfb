-- The lines of the cells of which there are votes are those of all units.
use Rattle.std.proofs.Common.{◌≡◌, ◌⊎◌, inl, inr, ℕ, ◌<◌, ◌≤◌, Bool, true, false, ◌==◌, ◌&&◌, List, [], ◌∷◌, length, Some, None, Option, refl, ap, sym, subst, ◌∙◌, arith, append-nil}
use Rattle.std.specs.Prelude.{All, filter, slice_get}
use Rattle.std.specs.List.{flat_map, AllByRecursion}
use Rattle.std.specs.Ordering.{nat_cmp, ordering_then}
use Rattle.std.specs.declared.cmp.Ordering.TheVariants.{Less}
use Rattle.std.proofs.lemmas.Bool.Decides.{nat_tests}
use Rattle.std.proofs.lemmas.List.Elements.{All-contains, All-from_recursion}
use Rattle.std.proofs.lemmas.Option.{slice_get_past}
use Rattle.vx_base.proofs.Booleans.{and-both, and-left, and-right}
use Rattle.vx_base.proofs.Numbers.{equal-from_yes, equal-yes}
use Rattle.vx_tally.specs.Cells.{Cell, HaveVotes, cell_cmp}
use Rattle.vx_tally.specs.Totals.{Summed}
use Rattle.vx_tally.specs.declared.report.ReportContest.{ReportContest}
use Rattle.vx_audit.specs.Walk.{by_place}
use Rattle.vx_audit.specs.Totals.{unit_line, unit_selection, unit_contest, unit_totals}
use Rattle.vx_audit.specs.Hand.{own_of}
use Rattle.vx_audit.specs.Cells.{cell_line, named_line, selection_at}
use Rattle.vx_audit.proofs.Filters.{Rises, each_weaker, each_passes, rises_filter, rises_weaker, rises-sorted, at_most_one, none_filtered, filter-filter}
use Rattle.vx_audit.proofs.Sparse.{at_place, walk}

first-up : (a b c d e f : ℕ) → ordering_then (ordering_then (nat_cmp a d) (nat_cmp b e)) (nat_cmp c f) ≡ Less → a ≤ d
first-up a b c d e f less = grind (arith, nat_tests)

second-up : (a b c d e f : ℕ) → ordering_then (ordering_then (nat_cmp a d) (nat_cmp b e)) (nat_cmp c f) ≡ Less → a ≡ d → b ≤ e
second-up a b c d e f less is = grind (arith, nat_tests)

third-up : (a b c d e f : ℕ) → ordering_then (ordering_then (nat_cmp a d) (nat_cmp b e)) (nat_cmp c f) ≡ Less → a ≡ d → b ≡ e → c < f
third-up a b c d e f less is same = grind (arith, nat_tests)

each-always : {X : Type 0} (P : X → Type 0) → ((x : X) → P x) → (xs : List X) → AllByRecursion P xs
each-always P f [] = tt
each-always P f (x ∷ xs) = (f x, each-always P f xs)

unnamed : (unit : Option (List ℕ)) (votes : ℕ) → named_line unit None votes ≡ []
unnamed None votes = refl
unnamed (Some unit) votes = refl

-- a cell with those places
abbrev matches : ℕ → ℕ → ℕ → Cell → Bool
matches unit contest selection cell = unit == cell.0 && (contest == cell.1 && selection == cell.2)

module _ (sums : Summed) (contests : List ReportContest) (units : List (List ℕ)) (cells : List Cell)
    (gathered : HaveVotes sums.votes_in cells) where
  abbrev give : Cell → List ℕ
  give = cell_line sums contests units

  abbrev in_unit : ℕ → List Cell
  in_unit unit = at_place (λ (cell : Cell). cell.0) give unit cells

  abbrev in_contest : ℕ → ℕ → List Cell
  in_contest unit contest = at_place (λ (cell : Cell). cell.1) give contest (in_unit unit)

  abbrev in_selection : ℕ → ℕ → ℕ → List Cell
  in_selection unit contest selection = at_place (λ (cell : Cell). cell.2) give selection (in_contest unit contest)

  fused : (unit contest selection : ℕ) → in_selection unit contest selection ≡ filter (matches unit contest selection) cells
  fused unit contest selection =
      filter-filter (λ (cell : Cell). contest == cell.1) (λ (cell : Cell). selection == cell.2) (in_unit unit)
      ∙ filter-filter (λ (cell : Cell). unit == cell.0) (λ (cell : Cell). contest == cell.1 && selection == cell.2) cells

  -- where no cell is there, no votes are
  no-votes : (unit contest selection : ℕ) → in_selection unit contest selection ≡ [] → sums.votes_in unit contest selection ≡ 0
  no-votes unit contest selection empty = by (sums.votes_in unit contest selection == 0) refl
    where
      no_cell : All (λ cell. matches unit contest selection cell ≡ false) cells
      no_cell =
          All-from_recursion (λ (cell : Cell). matches unit contest selection cell ≡ false) cells
          (none_filtered (matches unit contest selection) cells (sym (fused unit contest selection) ∙ empty))

      own : matches unit contest selection (unit, contest, selection) ≡ true
      own =
          and-both (unit == unit) (contest == contest && selection == selection) (equal-yes unit unit refl)
          (and-both (contest == contest) (selection == selection) (equal-yes contest contest refl) (equal-yes selection selection refl))

      by : (b : Bool) → (sums.votes_in unit contest selection == 0) ≡ b → sums.votes_in unit contest selection ≡ 0
      by true e = equal-from_yes (sums.votes_in unit contest selection) 0 e
      by false e =
          let some : 0 < sums.votes_in unit contest selection = grind (arith, nat_tests) in
          let other : matches unit contest selection (unit, contest, selection) ≡ false =
          All-contains (λ (cell : Cell). matches unit contest selection cell ≡ false) cells (unit, contest, selection) no_cell
          (gathered.has (unit, contest, selection) some) in
          let wrong : true ≡ false = sym own ∙ other in
          absurd cc

  up : Rises (λ (x y : Cell). cell_cmp x y ≡ Less) cells
  up = rises-sorted cell_cmp (λ (x y : Cell). cell_cmp x y ≡ Less) (λ x y less. less) cells gathered.ordered

  up_in_unit : (unit : ℕ) → Rises (λ (x y : Cell). (cell_cmp x y ≡ Less) × (x.0 ≡ y.0)) (in_unit unit)
  up_in_unit unit =
      rises_filter (λ (cell : Cell). unit == cell.0) (λ (x y : Cell). cell_cmp x y ≡ Less) (λ (x y : Cell). (cell_cmp x y ≡ Less) × (x.0 ≡ y.0))
      (λ x y here there less. (less, sym (equal-from_yes unit x.0 here) ∙ equal-from_yes unit y.0 there)) cells up

  up_in_contest : (unit contest : ℕ) → Rises (λ (x y : Cell). (cell_cmp x y ≡ Less) × (x.0 ≡ y.0) × (x.1 ≡ y.1)) (in_contest unit contest)
  up_in_contest unit contest =
      rises_filter (λ (cell : Cell). contest == cell.1) (λ (x y : Cell). (cell_cmp x y ≡ Less) × (x.0 ≡ y.0))
      (λ (x y : Cell). (cell_cmp x y ≡ Less) × (x.0 ≡ y.0) × (x.1 ≡ y.1))
      (λ x y here there less. (less.0, less.1, sym (equal-from_yes contest x.1 here) ∙ equal-from_yes contest y.1 there)) (in_unit unit) (up_in_unit unit)

  apart : (selection : ℕ) (x y : Cell) → (selection == x.2) ≡ true → (selection == y.2) ≡ true
      → (cell_cmp x y ≡ Less) × (x.0 ≡ y.0) × (x.1 ≡ y.1) → ⊥
  apart selection x y here there less =
      omega (arith, third-up x.0 x.1 x.2 y.0 y.1 y.2 less.0 less.1 less.2, equal-from_yes selection x.2 here, equal-from_yes selection y.2 there)

  once : (unit contest selection : ℕ) → Rises (λ (x y : Cell). ⊥) (in_selection unit contest selection)
  once unit contest selection =
      rises_filter (λ (cell : Cell). selection == cell.2) (λ (x y : Cell). (cell_cmp x y ≡ Less) × (x.0 ≡ y.0) × (x.1 ≡ y.1)) (λ (x y : Cell). ⊥)
      (apart selection) (in_contest unit contest) (up_in_contest unit contest)

  module _ (unit : ℕ) (id : List ℕ) (is_unit : slice_get units unit ≡ Some id) where
    module _ (place : ℕ) (contest : ReportContest) (is_contest : slice_get contests place ≡ Some contest) where
      one-line : (selection : ℕ) (name : List ℕ) → slice_get contest.selections selection ≡ Some name → (cell : Cell)
          → matches unit place selection cell ≡ true → give cell ≡ unit_line id name (sums.votes_in unit place selection)
      one-line selection name is_name cell fits =
          let at_unit : unit ≡ cell.0 = equal-from_yes unit cell.0 (and-left _ _ fits) in
          let rest = and-right (unit == cell.0) _ fits in
          let at_contest : place ≡ cell.1 = equal-from_yes place cell.1 (and-left _ _ rest) in
          let at_selection : selection ≡ cell.2 = equal-from_yes selection cell.2 (and-right (place == cell.1) _ rest) in
          rw (sym at_unit) (rw (sym at_contest) (rw (sym at_selection) (rw is_unit (rw is_contest (rw is_name refl)))))

      at-selection : (selection : ℕ) (name : List ℕ) → slice_get contest.selections selection ≡ Some name
          → flat_map give (in_selection unit place selection) ≡ unit_selection sums unit id place selection name
      at-selection selection name is_name = by (at_most_one (in_selection unit place selection) (once unit place selection))
        where
          by : (in_selection unit place selection ≡ []) ⊎ ((cell : Cell) × (in_selection unit place selection ≡ cell ∷ []))
              → flat_map give (in_selection unit place selection) ≡ unit_selection sums unit id place selection name
          by (inl none) = rw none (rw (no-votes unit place selection none) refl)
          by (inr (cell, one)) =
              let passes : AllByRecursion (λ cell. matches unit place selection cell ≡ true) (cell ∷ []) =
              subst (AllByRecursion (λ cell. matches unit place selection cell ≡ true)) (sym (fused unit place selection) ∙ one)
              (each_passes (matches unit place selection) cells) in
              ap (flat_map give) one ∙ append-nil (give cell) ∙ one-line selection name is_name cell passes.0

      past-selections : (cell : Cell) → (place == cell.1) ≡ true → length contest.selections ≤ cell.2 → give cell ≡ []
      past-selections cell here past =
          let no_name : selection_at contests cell.1 cell.2 ≡ None =
          ap (λ at. selection_at contests at cell.2) (sym (equal-from_yes place cell.1 here))
          ∙ ap (λ of. slice_get (own_of of) cell.2) is_contest
          ∙ slice_get_past contest.selections cell.2 past in
          ap (λ name. named_line (slice_get units cell.0) name (sums.votes_in cell.0 cell.1 cell.2)) no_name
          ∙ unnamed (slice_get units cell.0) (sums.votes_in cell.0 cell.1 cell.2)

      at-contest : flat_map give (in_contest unit place) ≡ unit_contest sums unit id place contest
      at-contest =
          walk (λ (cell : Cell). cell.2) give (unit_selection sums unit id place) (length contest.selections) (in_contest unit place)
          (rises_weaker (λ (x y : Cell). (cell_cmp x y ≡ Less) × (x.0 ≡ y.0) × (x.1 ≡ y.1)) (λ (x y : Cell). x.2 ≤ y.2)
          (λ x y less. omega (arith, third-up x.0 x.1 x.2 y.0 y.1 y.2 less.0 less.1 less.2)) (in_contest unit place) (up_in_contest unit place))
          (each_weaker (λ (cell : Cell). (place == cell.1) ≡ true) (λ (cell : Cell). length contest.selections ≤ cell.2 → give cell ≡ []) past-selections
          (in_contest unit place) (each_passes (λ (cell : Cell). place == cell.1) (in_unit unit)))
          contest.selections refl at-selection

    past-contests : (cell : Cell) → length contests ≤ cell.1 → give cell ≡ []
    past-contests cell past =
        ap (λ of. named_line (slice_get units cell.0) (slice_get (own_of of) cell.2) (sums.votes_in cell.0 cell.1 cell.2))
        (slice_get_past contests cell.1 past)
        ∙ unnamed (slice_get units cell.0) (sums.votes_in cell.0 cell.1 cell.2)

    at-unit : flat_map give (in_unit unit) ≡ unit_totals sums contests unit id
    at-unit =
        walk (λ (cell : Cell). cell.1) give (unit_contest sums unit id) (length contests) (in_unit unit)
        (rises_weaker (λ (x y : Cell). (cell_cmp x y ≡ Less) × (x.0 ≡ y.0)) (λ (x y : Cell). x.1 ≤ y.1)
        (λ x y less. second-up x.0 x.1 x.2 y.0 y.1 y.2 less.0 less.1) (in_unit unit) (up_in_unit unit))
        (each-always (λ (cell : Cell). length contests ≤ cell.1 → give cell ≡ []) past-contests (in_unit unit)) contests refl at-contest

  past-units : (cell : Cell) → length units ≤ cell.0 → give cell ≡ []
  past-units cell past =
      ap (λ of. named_line of (selection_at contests cell.1 cell.2) (sums.votes_in cell.0 cell.1 cell.2)) (slice_get_past units cell.0 past)

  pub all-units : flat_map give cells ≡ by_place (unit_totals sums contests) 0 units
  all-units =
      walk (λ (cell : Cell). cell.0) give (unit_totals sums contests) (length units) cells
      (rises_weaker (λ (x y : Cell). cell_cmp x y ≡ Less) (λ (x y : Cell). x.0 ≤ y.0)
      (λ x y less. first-up x.0 x.1 x.2 y.0 y.1 y.2 less) cells up)
      (each-always (λ (cell : Cell). length units ≤ cell.0 → give cell ≡ []) past-units cells) units refl at-unit
