-- What holds of every election that bytes define.
use Rattle.std.specs.Prelude.{◌≡◌, ℕ, List, Ok}
use Rattle.vx_election_model.specs.declared.election.Election.{Election}
use Rattle.vx_election_model.specs.Valid.{IsValid}
use Rattle.vx_election.specs.Reading.{election_of}

-- it is valid
abbrev pub DefinedElectionsAreValid : Type 0
DefinedElectionsAreValid = (bytes : List ℕ) (election : Election) → election_of bytes ≡ Ok election → IsValid election
