-- Days of the calendar as `YYYY-MM-DD`.
use Rattle.std.specs.Prelude.{ℕ, ◌+◌, ◌-◌, ◌*◌, ◌&&◌, ◌==◌, Bool, List, length, slice_index, pos}
use Rattle.jiff.specs.Words.{days_in_month}
use Rattle.vx_json.specs.Reading.{is_within}

-- two decimal digits at a place
abbrev pub are_digits : List ℕ → ℕ → Bool
are_digits text k = is_within 48 57 (slice_index text k) && is_within 48 57 (slice_index text (k + 1))

-- the number that they spell
abbrev pub number_at : List ℕ → ℕ → ℕ
number_at text k = 10 * (slice_index text k - 48) + (slice_index text (k + 1) - 48)

-- four digits, a hyphen, two digits, a hyphen, two digits
abbrev pub has_date_form : List ℕ → Bool
has_date_form text = (length text == 10) && are_digits text 0 && are_digits text 2 && (slice_index text 4 == 45) && are_digits text 5 && (slice_index text 7 == 45) && are_digits text 8

-- a day that the calendar has
abbrev pub is_calendar_day : ℕ → ℕ → ℕ → Bool
is_calendar_day year month day = is_within 1 12 month && is_within 1 (days_in_month (pos year) month) day

-- a day in this form
unfoldable pub is_date : List ℕ → Bool
is_date text = has_date_form text && is_calendar_day (100 * number_at text 0 + number_at text 2) (number_at text 5) (number_at text 8)
