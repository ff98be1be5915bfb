-- Who holds a sheet.
use Rattle.std.specs.Prelude.{ℕ, if◌then◌else◌, List, fold, Option, Some, None}
use Rattle.vx_events.specs.declared.event.Event.{Event}
use Rattle.vx_events.specs.declared.event.Event.TheVariants.{Add, Claim, Release, Decide}
use Rattle.vx_events.specs.declared.key.Key.{Key}
use Rattle.vx_center.specs.Sheets.{same_key}

-- who holds the sheet with a key behind an event: a Claim of it gives it to its station, a Release
-- frees it
abbrev pub holder_after : Key → Option ℕ → Event → Option ℕ
holder_after key held (Add other sheet) = held
holder_after key held (Claim station other) = if same_key key other then Some station else held
holder_after key held (Release station other) = if same_key key other then None else held
holder_after key held (Decide station other contest decision) = held

-- who holds the sheet with a key: the station of its last Claim, unless it was released since
abbrev pub holder_of : List Event → Key → Option ℕ
holder_of kept key = fold (holder_after key) None kept
