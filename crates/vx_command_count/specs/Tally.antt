-- How many sheets were counted, and what they came to.
use Rattle.std.specs.Prelude.{ℕ, ◌+◌, ◌-◌, ◌*◌}
use Rattle.vx_sheet.specs.declared.came.Came.{Came}
use Rattle.vx_sheet.specs.declared.came.Came.TheVariants.{Added, Repeated}
use Rattle.vx_command_count.specs.declared.tally.Tally.{Tally}

-- no sheet yet
abbrev pub none_counted : Tally
none_counted = record { added = 0; repeated = 0; unread = 0 }

-- all sheets so far
abbrev pub sheets_in : Tally → ℕ
sheets_in tally = tally.added + tally.repeated + tally.unread

-- the number of the sheet that comes next
abbrev pub next_number : Tally → ℕ
next_number tally = sheets_in tally + 1

-- the number of its first image: sheet n is the images 2n - 1 and 2n
abbrev pub next_image : Tally → ℕ
next_image tally = 2 * next_number tally - 1

-- with one sheet more: added, repeated, or one of all the others
abbrev pub tally_with : Tally → Came → Tally
tally_with tally (Added sheet) = record tally { added = tally.added + 1 }
tally_with tally Repeated = record tally { repeated = tally.repeated + 1 }
tally_with tally came = record tally { unread = tally.unread + 1 }
