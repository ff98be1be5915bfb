-- The sheet at a place in the order of adding.
use Rattle.std.specs.Prelude.{ℕ, false, List, [], slice_index_or}
use Rattle.vx_grid.specs.declared.kind.Kind.TheVariants.{Other}
use Rattle.vx_events.specs.declared.event.Event.{Event}
use Rattle.vx_center.specs.Sheets.{Added, sheets_in}

-- no sheet, which stands past the end of a list of them
abbrev pub no_sheet : Added
no_sheet = record {
  at = 0;
  key = record { batch = []; number = 0 };
  sheet = record { card = 0; front = 0; kind = Other; test = false; contests = [] };
}

-- the sheet at a place
abbrev pub sheet_at : List Event → ℕ → Added
sheet_at kept place = slice_index_or (sheets_in kept) place no_sheet
