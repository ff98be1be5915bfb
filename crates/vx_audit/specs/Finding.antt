-- The places of ids: how ballots and contests are found.
use Rattle.std.specs.Prelude.{◌≡◌, ℕ, if◌then◌else◌, List, bytes_eq, string_bytes, Option, Some, None}
use Rattle.indexmap.specs.IndexMap.{get_by}
use Rattle.vx_tally.specs.declared.report.CvrRecord.{CvrRecord}
use Rattle.vx_tally.specs.declared.report.ReportContest.{ReportContest}
use Rattle.vx_audit.specs.Hand.{record_with, contest_with}
use Rattle.vx_audit.specs.declared.finding.Directory.{Directory}
use Rattle.vx_audit.specs.declared.finding.Index.{Index}

-- the place of an id, if it has one
abbrev pub place_of : Index → List ℕ → Option ℕ
place_of index id = get_by (λ key. bytes_eq id (string_bytes key)) index.places

-- the place of an id where another was put behind those that have one
abbrev pub placed : List ℕ → ℕ → List ℕ → Option ℕ → Option ℕ
placed id place other (Some before) = Some before
placed id place other None = if bytes_eq other id then Some place else None

-- where a directory finds the ballot, and the contest, with an id
abbrev pub ballot_in : Directory → List ℕ → Option ℕ
ballot_in directory = place_of directory.ballots

abbrev pub contest_in : Directory → List ℕ → Option ℕ
contest_in directory = place_of directory.contests

-- it finds the ballots of records
pub record FindsBallots (records : List CvrRecord) (directory : Directory) : Type 0 where
  pub at : (id : List ℕ) → ballot_in directory id ≡ record_with records id

-- it finds contests
pub record FindsContests (contests : List ReportContest) (directory : Directory) : Type 0 where
  pub at : (id : List ℕ) → contest_in directory id ≡ contest_with contests id
