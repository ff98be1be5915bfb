-- The scores of bubbles: this project's own rule.
use Rattle.std.specs.Prelude.{ℕ, ◌-◌, nat_le, nat_lt, if◌then◌else◌}
use Rattle.vx_plane.specs.Plane.{Page, dark_at}
use Rattle.vx_plane.specs.Count.{count_in}
use Rattle.vx_grid.specs.declared.places.Point.{Point}
use Rattle.vx_grid.specs.declared.places.Rect.{Rect}
use Rattle.vx_grid.specs.declared.state.State.{State}
use Rattle.vx_grid.specs.declared.state.State.TheVariants.{Marked, Marginal, Clear}
use Rattle.vx_grid.specs.declared.state.Thresholds.{Thresholds}
use Rattle.vx_grid.specs.Sizes.{outline_pixels}
use Rattle.vx_grid.specs.Places.{bubble_window_of, code_window_of}

-- the number of dark pixels of a page in a rectangle
abbrev pub dark_in : Page → Rect → ℕ
dark_in page rect = count_in rect.left rect.top rect.width rect.height (dark_at page)

-- a bubble's score at its grid place: the dark pixels of its window less those of its printed outline,
-- and 0 where there are fewer
abbrev pub score_of : Page → Point → ℕ
score_of page place = dark_in page (bubble_window_of place) - outline_pixels

-- a code box's count at its grid place: the dark pixels of its window
abbrev pub code_count_of : Page → Point → ℕ
code_count_of page place = dark_in page (code_window_of place)

-- a bubble is marked from the definite threshold on, clear below the marginal one, else marginal
abbrev pub state_of : ℕ → Thresholds → State
state_of score thresholds =
    if nat_le thresholds.def score then Marked
    else if nat_lt score thresholds.marg then Clear
    else Marginal
