-- What the records of a journal's report are made from.
use Rattle.std.specs.Prelude.{◌≡◌, ℕ, List}
use Rattle.vx_election_model.specs.declared.election.Election.{Election}
use Rattle.vx_election_model.specs.Valid.{IsValid}
use Rattle.vx_styles.specs.declared.card.Card.{Card}
use Rattle.vx_styles.specs.Cards.{cards_of}
use Rattle.vx_center.specs.Kept.{Kept}
use Rattle.vx_cvr.specs.Pieces.{AreReportPlaces}

-- a valid election, its cards, a center of it, and where in the order of adding the sheets of the report stand, in its order
pub record AreMadeFrom (election : Election) (listed : List Card) (center : Kept) (order : List ℕ) : Type 0 where
  pub valid : IsValid election
  pub same : center.election ≡ election
  pub cards : listed ≡ cards_of election
  pub places : AreReportPlaces election center.events order
