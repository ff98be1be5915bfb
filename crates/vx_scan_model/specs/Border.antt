-- The border of a scan, as a function of its page: the corner, the best place near a predicted one
-- and the list that is followed from mark to mark. Where a place may be and which one is accepted are
-- the tests of `vx_mark_model`. This project's own rule.
use Rattle.std.specs.Prelude.{◌≡◌, ℕ, zero, suc, ◌+◌, ◌*◌, ◌/◌, ◌%◌, ◌==◌, ◌&&◌, ◌++◌, ◌∷◌, [], Bool, if◌then◌else◌, List, find, Option, Some, None, option_map, Result, Ok, Err, pos, ◌+ℤ◌, ◌-ℤ◌}
use Rattle.std.specs.List.{range_with_len}
use Rattle.vx_plane.specs.Plane.{Page}
use Rattle.vx_grid.specs.declared.paper.Paper.{Paper}
use Rattle.vx_grid.specs.declared.places.Point.{Point}
use Rattle.vx_grid.specs.Paper.{last_row}
use Rattle.vx_grid.specs.Marks.{marks}
use Rattle.vx_grid.specs.Borders.{MarkPlaces}
use Rattle.vx_mark_model.specs.Region.{is_in}
use Rattle.vx_mark_model.specs.Mark.{deficit_of, most_wrong, is_accepted}
use Rattle.vx_mark_model.specs.Corner.{corner_region}
use Rattle.vx_mark_model.specs.Best.{near}
use Rattle.vx_mark_model.specs.declared.fault.BorderFault.{BorderFault}
use Rattle.vx_mark_model.specs.declared.fault.BorderFault.TheVariants.{NoCorner, NoMark, OpenBorder}
use Rattle.vx_mark_model.specs.Following.{prediction_of, end_of, right_end_of}
use Rattle.vx_mark_model.specs.Border.{side_of, index_of, IsBorderOf}

-- the places of the plane in the order of corners: by the sum of column and row, then by the row
abbrev pub corner_place : ℕ → Point
corner_place n = record { u = pos (n / 128) -ℤ pos (n % 128); v = pos (n % 128) }

-- whether the place with a number is accepted and lies where a corner may be
abbrev pub may_be_corner : Page → ℕ → Bool
may_be_corner page n = is_in corner_region (corner_place n) && is_accepted page (corner_place n)

-- the places of the region of corners have numbers below this
unfoldable pub corner_numbers : ℕ
corner_numbers = 256 * 128

-- the corner of a scan: the first such place
unfoldable pub corner_of : Page → Option Point
corner_of page = option_map corner_place (find (may_be_corner page) (range_with_len 0 corner_numbers))

-- the places near a predicted one, in the order of a deficit, then by the row, then by the column
abbrev pub near_place : Point → ℕ → Point
near_place predicted n =
    record { u = (near predicted).left +ℤ pos (n % 32); v = (near predicted).top +ℤ pos (n / 32 % 32) }

-- whether the place with a number lies near the predicted one, is accepted, and has the deficit of its
-- number
abbrev pub may_be_best : Page → Point → ℕ → Bool
may_be_best page predicted n =
    is_in (near predicted) (near_place predicted n)
    && (is_accepted page (near_place predicted n) && deficit_of page (near_place predicted n) == n / 1024)

-- the accepted places near a predicted one have numbers below this
unfoldable pub near_numbers : ℕ
near_numbers = (most_wrong + 1) * 1024

-- the best place near a predicted one: the first such place
unfoldable pub best_of : Page → Point → Option Point
best_of page predicted =
    option_map (near_place predicted) (find (may_be_best page predicted) (range_with_len 0 near_numbers))

-- where mark n is found, from the places of the marks before it; the paper's last row is given
abbrev pub found_of : Page → ℕ → List Point → ℕ → Option Point
found_of page last places n = if n == 0 then corner_of page else best_of page (prediction_of last places n)

-- the fault of a mark that isn't found
abbrev pub lack_of : ℕ → List Point → ℕ → BorderFault
lack_of last places n =
    if n == 0 then NoCorner else NoMark (side_of last n) (index_of last n) (prediction_of last places n)

-- the places with one more, or the fault
abbrev pub with_found : List Point → BorderFault → Option Point → Result (List Point) BorderFault
with_found places fault None = Err fault
with_found places fault (Some p) = Ok (places ++ p ∷ [])

-- the places with that of mark n, unless an earlier mark wasn't found
abbrev pub with_mark : Page → ℕ → ℕ → Result (List Point) BorderFault → Result (List Point) BorderFault
with_mark page last n (Err fault) = Err fault
with_mark page last n (Ok places) = with_found places (lack_of last places n) (found_of page last places n)

-- the places of the first n marks, or the fault of the first that isn't found
unfoldable pub marks_of : Page → ℕ → ℕ → Result (List Point) BorderFault
marks_of page last zero = Ok []
marks_of page last (suc n) = with_mark page last n (marks_of page last n)

-- whether the bottom row leads to the last mark of the right column
abbrev pub closes : ℕ → List Point → Bool
closes last places = is_in (near (end_of last places)) (right_end_of last places)

-- the border of these places, where it closes
abbrev pub if_closed : Paper → Result (List Point) BorderFault → Result MarkPlaces BorderFault
if_closed paper (Err fault) = Err fault
if_closed paper (Ok places) =
    if closes (last_row paper) places then Ok (record { paper = paper; places = places })
    else Err (OpenBorder (end_of (last_row paper) places) (right_end_of (last_row paper) places))

-- the border of a scan of a paper: the places of its marks, or the first fault
unfoldable pub border_of : Paper → Page → Result MarkPlaces BorderFault
border_of paper page = if_closed paper (marks_of page (last_row paper) (marks paper))

-- what is the border of a scan, or its first fault, is what the function gives: so there is one
-- answer for each scan
abbrev pub BorderIsGiven : Type 0
BorderIsGiven =
    (paper : Paper) (page : Page) (answer : Result MarkPlaces BorderFault)
    → IsBorderOf paper page answer → answer ≡ border_of paper page

-- what the function gives is the border of a scan, or its first fault: so each scan has an answer
abbrev pub EachScanHasItsBorder : Type 0
EachScanHasItsBorder = (paper : Paper) (page : Page) → IsBorderOf paper page (border_of paper page)
