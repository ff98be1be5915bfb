use Rattle.serde_json.specs.View.{view}
use Rattle.vx_base.proofs.Results.{Gives-holds}
use Rattle.vx_election.specs.Faults.{is_no_memory}
use Rattle.vx_election.proofs.Validity.{election_valid}
use Rattle.vx_election.proofs.reading.read_election.Goals as goal

pub returns-clause-valid : goal.returns-clause-valid
returns-clause-valid c =
    Gives-holds is_no_memory c.election_in.result c.election_in.ensures (election_valid c.digest_of.result (view c.in_ok-value.value))
