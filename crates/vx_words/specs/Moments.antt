-- Moments as `YYYY-MM-DDTHH:MM:SSZ`.
use Rattle.std.specs.Prelude.{ℕ, ◌&&◌, ◌==◌, Bool, List, length, slice_index, take, nat_lt}
use Rattle.vx_election_model.specs.Dates.{are_digits, number_at, is_date}

-- a `T`, and then hours, minutes and seconds in two digits each, with colons between, and a `Z`
abbrev pub has_clock_form : List ℕ → Bool
has_clock_form text =
    (length text == 20) && (slice_index text 10 == 84) && are_digits text 11 && (slice_index text 13 == 58)
    && are_digits text 14 && (slice_index text 16 == 58) && are_digits text 17 && (slice_index text 19 == 90)

-- a time of the day, to seconds 0 to 59
abbrev pub is_clock_time : ℕ → ℕ → ℕ → Bool
is_clock_time hour minute second = nat_lt hour 24 && nat_lt minute 60 && nat_lt second 60

-- a day of the calendar, and a time of the day
unfoldable pub is_moment : List ℕ → Bool
is_moment text =
    has_clock_form text && is_date (take 10 text)
    && is_clock_time (number_at text 11) (number_at text 14) (number_at text 17)
