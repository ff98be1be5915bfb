-- A sample beside the records that it draws.
use Rattle.std.specs.Prelude.{◌≡◌, ◌<◌, ℕ, ◌^◌, All, false, List, Some, length, map, slice_get, slice_index_or}
use Rattle.std.specs.List.{list_any}
use Rattle.vx_tally.specs.declared.report.CvrRecord.{CvrRecord}
use Rattle.vx_audit.specs.declared.hand.HandLine.{HandLine}
use Rattle.vx_sampling.specs.declared.finding.Sample.{Sample}
use Rattle.vx_sampling.specs.Findings.{is_of}

-- each draw is of one of the records, what is drawn are these, one for each draw and in their order, and of each record it is
-- told whether there is a line of its ballot
pub record IsSample (lines : List HandLine) (records : List CvrRecord) (sample : Sample) : Type 0 where
  pub few : length sample.draws < 2 ^ 32
  pub within : All (λ ballot. ballot < length records) sample.draws
  pub are : map Some sample.drawn.items ≡ map (slice_get records) sample.draws
  pub sized : length sample.found.items ≡ length records
  pub each : (place : ℕ) → place < length records → slice_index_or sample.found.items place false ≡ list_any (is_of place) lines
