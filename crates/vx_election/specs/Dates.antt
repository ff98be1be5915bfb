-- Days of the calendar as `YYYY-MM-DD`, from the year 0000 to 9999.
use Rattle.std.specs.Prelude.{ℕ, ◌+◌, ◌-◌, ◌*◌, ◌&&◌, ◌==◌, Bool, List, length, slice_index, if◌then◌else◌, Result, Ok, Err, pos}
use Rattle.jiff.specs.Words.{days_in_month}
use Rattle.serde_json.specs.Data.{Data}
use Rattle.vx_base.specs.Results.{◌>>=◌}
use Rattle.vx_json.specs.Reading.{string_in, is_within}
use Rattle.vx_election.specs.declared.fault.ElectionFault.{ElectionFault}
use Rattle.vx_election.specs.declared.fault.ElectionFault.TheVariants.{OutOfRange}
use Rattle.vx_election.specs.Faults.{of_json}
use Rattle.vx_election_model.specs.Dates.{is_date}

-- a text that is a day
unfoldable pub date_in : Data → List ℕ → Result (List ℕ) ElectionFault
date_in value path = do
  text ← of_json (string_in value path)
  if is_date text then Ok text else Err (OutOfRange path)
