-- The lines of the data: the election, a line for each ballot that the seed draws, and how many they are. They are made of
-- ballots without their marks, so no mark, vote or decision can stand in them.
use Rattle.std.specs.Prelude.{ℕ, List, [], ◌∷◌, ◌++◌, length, map, codes}
use Rattle.std.specs.List.{flat_map}
use Rattle.serde_json.specs.Data.{Data}
use Rattle.vx_election_model.specs.declared.election.Election.{Election}
use Rattle.vx_events.specs.declared.event.Event.{Event}
use Rattle.vx_markup.specs.Escaped.{data_line}
use Rattle.vx_markup.specs.Json.{described, list, text, whole}
use Rattle.vx_cvr.specs.Names.{sheet_name}
use Rattle.vx_words.specs.Samples.{seed_bytes}
use Rattle.vx_board.specs.Ballots.{Ballot, ballot_at, ballots_of, drawn_of}
use Rattle.vx_board.specs.Contests.{cards_data, contest_data}
use Rattle.vx_board.specs.Page.{head, tail}

-- the first line: the election's cards, contests and title, how many records there are, the seed's word and the size
abbrev pub first_with : Election → List ℕ → ℕ → ℕ → Data → Data → Data
first_with election seed size records cards contests = described
    ((codes "cards", cards)
    ∷ (codes "contests", contests)
    ∷ (codes "election", text election.title)
    ∷ (codes "records", whole records)
    ∷ (codes "seed", text seed)
    ∷ (codes "size", whole size) ∷ [])

abbrev pub first_data : Election → List ℕ → ℕ → ℕ → Data
first_data election seed size records =
    first_with election seed size records (list (cards_data election)) (list (map contest_data election.contests))

-- a ballot: the batch, its card, its name in the report, and its number in the batch
abbrev pub ballot_data : Ballot → Data
ballot_data ballot = described
    ((codes "batch", text ballot.key.batch)
    ∷ (codes "card", whole ballot.card)
    ∷ (codes "name", text (sheet_name ballot.key))
    ∷ (codes "number", whole ballot.key.number) ∷ [])

-- the line of the ballot at a place
abbrev pub ballot_line : List Ballot → ℕ → List ℕ
ballot_line ballots place = data_line (ballot_data (ballot_at ballots place))

-- the last line: how many ballots were drawn
abbrev pub last_data : ℕ → Data
last_data count = described ((codes "ballots", whole count) ∷ [])

-- the lines of places, and how many they are
unfoldable pub drawn_text : List Ballot → List ℕ → List ℕ
drawn_text ballots drawn = flat_map (ballot_line ballots) drawn ++ data_line (last_data (length drawn))

-- all lines, by a seed's word
abbrev pub data_text : Election → List Ballot → List ℕ → ℕ → List ℕ
data_text election ballots seed size =
    data_line (first_data election seed size (length ballots)) ++ drawn_text ballots (drawn_of (seed_bytes seed) size ballots)

-- the page: its head, the data and its tail
unfoldable pub page_text : Election → List Ballot → List ℕ → ℕ → List ℕ
page_text election ballots seed size = head ++ data_text election ballots seed size ++ tail

-- the page of kept events
abbrev pub board_text : Election → List Event → List ℕ → ℕ → List ℕ
board_text election kept seed size = page_text election (ballots_of election kept) seed size
