-- The report that bytes give, or their first fault. It is read depth first, element by element.
use Rattle.std.specs.Prelude.{ℕ, List, if◌then◌else◌, Result, Ok, Err, ok_or}
use Rattle.std.specs.Str.{is_utf8}
use Rattle.serde_json.specs.Data.{Data}
use Rattle.serde_json.specs.Read.{read}
use Rattle.vx_base.specs.Results.{◌>>=◌}
use Rattle.vx_tally.specs.declared.fault.ReportFault.{ReportFault}
use Rattle.vx_tally.specs.declared.fault.ReportFault.TheVariants.{NotJson}
use Rattle.vx_tally.specs.declared.report.Report.{Report}
use Rattle.vx_tally.specs.Contests.{units_in, contests_in}
use Rattle.vx_tally.specs.Records.{records_in}

-- the other members of a report that has those units, in their order
unfoldable pub report_behind : List (List ℕ) → Data → Result Report ReportFault
report_behind units value = do
  contests ← contests_in value
  records ← records_in units contests value
  Ok (record { units = units; contests = contests; records = records })

-- the members of a report in their order
unfoldable pub report_in : Data → Result Report ReportFault
report_in value = do
  units ← units_in value
  report_behind units value

-- the value that the bytes are, where they are JSON in UTF-8
unfoldable pub value_in : List ℕ → Result Data ReportFault
value_in bytes = if is_utf8 bytes then ok_or (read bytes) NotJson else Err NotJson

-- the report that the bytes are, or their first fault
unfoldable pub report_in_bytes : List ℕ → Result Report ReportFault
report_in_bytes bytes = do
  value ← value_in bytes
  report_in value
