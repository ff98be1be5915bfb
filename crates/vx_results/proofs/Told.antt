-- The text of what is kept of all sheets is the summary.
use Rattle.std.proofs.Common.{◌≡◌, ℕ, ◌+◌, ◌<◌, ◌≤◌, List, [], ◌∷◌, ◌++◌, length, map, refl, ap, arith}
use Rattle.std.specs.Prelude.{Bool, true, false, cond, filter}
use Rattle.std.specs.List.{AllByRecursion, flat_map, range_with_len}
use Rattle.std.proofs.lemmas.List.FromFn.{get_or-range_with_len, length-range_with_len}
use Rattle.vx_election_model.specs.declared.election.Election.{Election}
use Rattle.vx_events.specs.declared.event.Event.{Event}
use Rattle.vx_center.specs.Sheets.{sheets_in}
use Rattle.vx_tally.specs.declared.report.ReportContest.{ReportContest}
use Rattle.vx_tally.specs.Totals.{Summed}
use Rattle.vx_audit.specs.Walk.{by_place}
use Rattle.vx_results.specs.declared.groups.Group.{Group}
use Rattle.vx_results.specs.declared.summing.Figures.{Figures}
use Rattle.vx_results.specs.Counted.{AreFigures, kept_batches, kept_contest, kept_counts, kept_sheets, kept_text, pile_of, unit_count}
use Rattle.vx_results.specs.Figures.{contest_units, precinct_units, stands_in}
use Rattle.vx_results.specs.Groups.{groups_of, unit_groups}
use Rattle.vx_results.specs.Kinds.{has_lines, kinds_in}
use Rattle.vx_results.specs.Report.{contest_of, units_of}
use Rattle.vx_results.specs.Results.{waiting_line}
use Rattle.vx_results.specs.Summary.{batches_text, batch_line, contest_groups, contest_text, contests_text, group_over, group_sheets, group_sums, group_under, group_votes, groups_text, named_line, sheet_groups, sheets_text, summary_text}
use Rattle.vx_results.proofs.Each.{each-all, each-flat_map, each-map, each-weaker, length-mapped}

-- ---- the same for all that are walked over

flat_map-among : {X Y : Type 0} (f g : X → List Y) (xs : List X) → AllByRecursion (λ (x : X). f x ≡ g x) xs → flat_map f xs ≡ flat_map g xs
flat_map-among f g [] same = refl
flat_map-among f g (x ∷ xs) same = (λ i. same.0 i ++ flat_map-among f g xs same.1 i)

by_place-same : {X A : Type 0} (f g : ℕ → X → List A) (limit : ℕ) → ((k : ℕ) (x : X) → k < limit → f k x ≡ g k x)
    → (n : ℕ) (xs : List X) → n + length xs ≤ limit → by_place f n xs ≡ by_place g n xs
by_place-same f g limit same n [] less = refl
by_place-same f g limit same n (x ∷ xs) less =
    let here : f n x ≡ g n x = same n x (omega (arith, less)) in
    let rest : by_place f (n + 1) xs ≡ by_place g (n + 1) xs = by_place-same f g limit same (n + 1) xs (omega (arith, less)) in
    (λ i. here i ++ rest i)

-- ---- each group is one of so many units and kinds

each-chosen : {X : Type 0} (P : X → Type 0) (test : X → Bool) (xs : List X) → AllByRecursion P xs → AllByRecursion P (filter test xs)
each-chosen P test [] each = tt
each-chosen {X = X} P test (x ∷ xs) each = by (test x) (each-chosen P test xs each.1)
  where
    by : (b : Bool) → AllByRecursion P (filter test xs) → AllByRecursion P (cond b (x ∷ filter test xs) (filter test xs))
    by true rest = (each.0, rest)
    by false rest = rest

each-below : (a n : ℕ) → AllByRecursion (λ (k : ℕ). k < a + n) (range_with_len a n)
each-below a n =
    each-all (λ (k : ℕ). k < a + n) (range_with_len a n)
    (λ k d less.
    let inside : k < n = omega (arith, less, length-range_with_len a n) in
    omega (arith, inside, get_or-range_with_len a n k d inside))

abbrev IsGroup : Election → Group → Type 0
IsGroup election group = (group.kind < 8) × (group.unit < unit_count election)

each-group : (election : Election) (kinds units : List ℕ) → AllByRecursion (λ (k : ℕ). k < 8) kinds
    → AllByRecursion (λ (u : ℕ). u < unit_count election) units → AllByRecursion (IsGroup election) (groups_of kinds units)
each-group election kinds units low there =
    each-flat_map (IsGroup election) (unit_groups kinds) units
    (each-weaker (λ (u : ℕ). u < unit_count election) (λ (u : ℕ). AllByRecursion (IsGroup election) (unit_groups kinds u)) units
    (λ u is. each-map (IsGroup election) (λ (k : ℕ). record { unit = u; kind = k }) kinds
    (each-weaker (λ (k : ℕ). k < 8) (λ (k : ℕ). IsGroup election (record { unit = u; kind = k })) kinds (λ k few. (few, is)) low)) there)

module _ (election : Election) (kept : List Event) where
  kinds-low : AllByRecursion (λ (k : ℕ). k < 8) (kinds_in (sheets_in kept))
  kinds-low = each-chosen (λ (k : ℕ). k < 8) (has_lines (sheets_in kept)) (range_with_len 0 8) (each-below 0 8)

  units-there : AllByRecursion (λ (u : ℕ). u < unit_count election) (precinct_units election)
  units-there =
      each-weaker (λ (u : ℕ). u < 1 + length election.precincts) (λ (u : ℕ). u < unit_count election) (precinct_units election)
      (λ u less. omega (arith, less)) (each-below 1 (length election.precincts))

  sheet-groups : AllByRecursion (IsGroup election) (sheet_groups election kept)
  sheet-groups = each-group election (kinds_in (sheets_in kept)) (precinct_units election) kinds-low units-there

  contest-groups : (place : ℕ) → AllByRecursion (IsGroup election) (contest_groups election kept place)
  contest-groups place =
      each-group election (kinds_in (sheets_in kept)) (contest_units election place) kinds-low
      (each-chosen (λ (u : ℕ). u < unit_count election) (stands_in election place) (precinct_units election) units-there)

  module _ (figures : Figures) (are : AreFigures election kept (sheets_in kept) figures) where
    -- what is made of the sums of a group's records
    of-groups : (make : Group → Summed → List ℕ) (groups : List Group) → AllByRecursion (IsGroup election) groups
        → flat_map (λ (group : Group). make group (pile_of figures.piles.items group)) groups
        ≡ flat_map (λ (group : Group). make group (group_sums election kept group)) groups
    of-groups make groups each =
        flat_map-among (λ (group : Group). make group (pile_of figures.piles.items group))
        (λ (group : Group). make group (group_sums election kept group)) groups
        (each-weaker (IsGroup election)
        (λ (group : Group). make group (pile_of figures.piles.items group) ≡ make group (group_sums election kept group)) groups
        (λ group is. ap (make group) (are.piles.each group.kind group.unit is.0 is.1)) each)

    abbrev with_sums : Summed → Group → Summed
    with_sums sums group = sums

    told-sheets : kept_sheets election kept figures ≡ sheets_text election kept
    told-sheets =
        of-groups (λ group sums. group_sheets (units_of election) (with_sums sums) group) (sheet_groups election kept) sheet-groups

    told-counts : (place : ℕ) (contest : ReportContest)
        → kept_counts election kept figures place contest
        ≡ groups_text (units_of election) (group_sums election kept) place contest (contest_groups election kept place)
    told-counts place contest =
        let groups = contest_groups election kept place in
        let votes = of-groups (λ group sums. group_votes (units_of election) (with_sums sums) place contest group) groups (contest-groups place) in
        let over = of-groups (λ group sums. group_over (units_of election) (with_sums sums) place contest group) groups (contest-groups place) in
        let under = of-groups (λ group sums. group_under (units_of election) (with_sums sums) place contest group) groups (contest-groups place) in
        (λ i. votes i ++ over i ++ under i)

    told-batches : kept_batches election kept figures ≡ batches_text election kept
    told-batches =
        (λ i. flat_map (λ (batch : List ℕ). batch_line batch (are.sheets.sums batch i) (are.waits.sums batch i)) (are.sheets.texts i))

    told-contest : (place : ℕ) (contest : ReportContest) → place < length election.contests
        → kept_contest election kept figures place contest ≡ contest_text election kept place contest
    told-contest place contest less =
        let counts = told-counts place contest in
        let names = are.names.each place less in
        (λ i. counts i ++ flat_map (λ (name : List ℕ). named_line contest.id name (names.sums name i)) (names.texts i))

    told-contests : by_place (kept_contest election kept figures) 0 (map contest_of election.contests) ≡ contests_text election kept
    told-contests =
        by_place-same (kept_contest election kept figures) (contest_text election kept) (length election.contests) told-contest 0
        (map contest_of election.contests) (omega (arith, length-mapped contest_of election.contests))

    pub told : kept_text election kept figures ≡ summary_text election kept
    unfolding summary_text
    told = (λ i. told-sheets i ++ told-batches i ++ told-contests i ++ waiting_line (are.waiting i))
