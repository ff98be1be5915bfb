-- The lines of the data have no markup.
use Rattle.std.proofs.Common.{ℕ, List, [], ◌∷◌, length, refl}
use Rattle.std.specs.List.{flat_map}
use Rattle.vx_markup.specs.Escaped.{data_line}
use Rattle.vx_markup.specs.Laws.{HasNoMarkup, LinesHaveNoMarkup, TextsJoinWithoutMarkup}
use Rattle.vx_words.specs.Samples.{seed_bytes}
use Rattle.vx_board.specs.Ballots.{Ballot, ballot_at, drawn_of}
use Rattle.vx_board.specs.Data.{ballot_data, ballot_line, drawn_text, first_data, last_data}
use Rattle.vx_board.specs.Laws.{DataIsNoMarkup}

module _ (line : LinesHaveNoMarkup) (joins : TextsJoinWithoutMarkup) where
  lines : (ballots : List Ballot) (places : List ℕ) → HasNoMarkup (flat_map (ballot_line ballots) places)
  lines ballots [] = refl
  lines ballots (place ∷ places) =
      joins (ballot_line ballots place) (flat_map (ballot_line ballots) places) (line (ballot_data (ballot_at ballots place))) (lines ballots places)

  drawn : (ballots : List Ballot) (places : List ℕ) → HasNoMarkup (drawn_text ballots places)
  unfolding drawn_text
  drawn ballots places =
      joins (flat_map (ballot_line ballots) places) (data_line (last_data (length places))) (lines ballots places) (line (last_data (length places)))

  pub no_markup : DataIsNoMarkup
  no_markup election ballots seed size =
      joins (data_line (first_data election seed size (length ballots))) (drawn_text ballots (drawn_of (seed_bytes seed) size ballots))
      (line (first_data election seed size (length ballots))) (drawn ballots (drawn_of (seed_bytes seed) size ballots))
