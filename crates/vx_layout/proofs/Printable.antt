-- Contests that can be printed.
use Rattle.std.proofs.Common.{◌≡◌, ℕ, ◌<◌, ◌≤◌, ◌⊎◌, inl, inr, List, [], ◌∷◌, length, refl, ap, arith}
use Rattle.std.specs.Prelude.{All, Option, None, Some, Ok, nat_lt}
use Rattle.std.proofs.lemmas.List.Elements.{All-nil, All-cons, All-head, All-tail, All-get_or}
use Rattle.vx_base.proofs.Booleans.{chosen-none, chosen-unless}
use Rattle.vx_base.proofs.Numbers.{below-from_no}
use Rattle.vx_base.proofs.Results.{bind_ok}
use Rattle.vx_election_model.specs.declared.choice.Choice.{Choice}
use Rattle.vx_election_model.specs.declared.contest.Contest.{Contest}
use Rattle.vx_grid.specs.declared.paper.Paper.{Paper}
use Rattle.vx_grid.specs.Grid.{contest_rows}
use Rattle.vx_layout.specs.declared.fault.LayoutFault.TheVariants.{ContestTooTall}
use Rattle.vx_layout.specs.Lines.{size_of}
use Rattle.vx_layout.specs.Blocks.{HasSizes, Fits, height_of}
use Rattle.vx_layout.specs.Flow.{contest_at, no_contest, CanStand}
use Rattle.vx_layout.specs.Plan.{long_in, names_checked, contest_checked, contests_checked}

label-fits : (choice : Choice) → size_of choice.name ≤ 58 → (size_of choice.label ≤ 58) ⊎ (choice.label ≡ choice.name) → size_of choice.label ≤ 58
label-fits choice short (inl fits) = fits
label-fits choice short (inr same) = omega (arith, ap size_of same)

-- names of at most 58 characters have labels of at most 58
pub labels-fit : (choices : List Choice) → long_in choices ≡ None → All (λ (choice : Choice). (size_of choice.label ≤ 58) ⊎ (choice.label ≡ choice.name)) choices → All (λ (choice : Choice). size_of choice.label ≤ 58) choices
labels-fit [] none either = All-nil (λ (choice : Choice). size_of choice.label ≤ 58)
labels-fit (choice ∷ choices) none either =
    let parts = chosen-none (nat_lt 58 (size_of choice.name)) (size_of choice.name) (long_in choices) none in
    All-cons (λ (choice : Choice). size_of choice.label ≤ 58) choice choices
    (label-fits choice (below-from_no 58 (size_of choice.name) parts.0) (All-head (λ (choice : Choice). (size_of choice.label ≤ 58) ⊎ (choice.label ≡ choice.name)) choice choices either))
    (labels-fit choices parts.1 (All-tail (λ (choice : Choice). (size_of choice.label ≤ 58) ⊎ (choice.label ≡ choice.name)) choice choices either))

-- a contest of such names, whose block isn't too tall
names-fit : (paper : Paper) (contest : Contest) (size : Option ℕ) → names_checked paper contest size ≡ Ok tt → (size ≡ None) × (height_of contest ≤ contest_rows paper)
names-fit paper contest None done =
    let parts = chosen-unless (nat_lt (contest_rows paper) (height_of contest)) (Ok tt) (ContestTooTall contest.id (height_of contest)) tt done in
    (refl, below-from_no (contest_rows paper) (height_of contest) parts.0)
names-fit paper contest (Some size) done = absurd (cc)

-- a contest that passes the tests can be printed
fits-from_checked : (paper : Paper) (contest : Contest) → HasSizes contest → contest_checked paper contest ≡ Ok tt → Fits paper contest
unfolding contest_checked
fits-from_checked paper contest sizes done =
    let parts = names-fit paper contest (long_in contest.choices) done in
    record { height = parts.1; labels = labels-fit contest.choices parts.0 sizes.labels }

-- so can all of them
pub stand-from_checked : (paper : Paper) (contests : List Contest) (numbers : List ℕ) → All HasSizes contests → All (λ number. number < length contests) numbers → contests_checked paper contests numbers ≡ Ok tt → All (CanStand paper contests) numbers
stand-from_checked paper contests [] sizes there done = All-nil (CanStand paper contests)
stand-from_checked paper contests (number ∷ numbers) sizes there done =
    let parts = bind_ok (contest_checked paper (contest_at contests number)) (λ _. contests_checked paper contests numbers) tt done in
    let here = All-head (λ (n : ℕ). n < length contests) number numbers there in
    All-cons (CanStand paper contests) number numbers
    (record { there = here; fits = fits-from_checked paper (contest_at contests number) (All-get_or HasSizes contests number no_contest here sizes) parts.1 })
    (stand-from_checked paper contests numbers sizes (All-tail (λ (n : ℕ). n < length contests) number numbers there) parts.2)
