use Rattle.std.proofs.Common.{◌≡◌, ℕ, List, Result, Ok, subst}
use Rattle.std.specs.Prelude.{IfOk}
use Rattle.serde_json.specs.Data.{Data}
use Rattle.sha2.specs.Sha256.{sha256}
use Rattle.vx_base.proofs.Results.{bind_ok}
use Rattle.vx_election_model.specs.declared.election.Election.{Election}
use Rattle.vx_election_model.specs.Valid.{IsValid}
use Rattle.vx_election.specs.declared.fault.ElectionFault.{ElectionFault}
use Rattle.vx_election.specs.Reading.{election_in, value_of, election_of}
use Rattle.vx_election.proofs.Validity.{election_valid}
use Rattle.vx_election.proofs.laws.defined_elections_are_valid.Goals as goal

valid : (bytes : List ℕ) (election : Election) → election_of bytes ≡ Ok election → IsValid election
unfolding election_of
valid bytes election is =
    let Valid : Result Election ElectionFault → Type 0 = λ given. IfOk given IsValid in
    let step : (value : Data) × (value_of bytes ≡ Ok value) × (election_in (sha256 bytes) value ≡ Ok election) =
    bind_ok (value_of bytes) (λ (value : Data). election_in (sha256 bytes) value) election is in
    subst Valid step.2 (election_valid (sha256 bytes) step.0).is

pub returns : goal.returns
returns c = valid
