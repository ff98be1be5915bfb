-- The election that a definition's bytes give, or their first fault.
use Rattle.std.specs.Prelude.{ℕ, List, [], nat_le, if◌then◌else◌, Result, Ok, Err, codes, ok_or}
use Rattle.std.specs.Str.{is_utf8}
use Rattle.serde_json.specs.Data.{Data}
use Rattle.serde_json.specs.Read.{read}
use Rattle.sha2.specs.Sha256.{sha256}
use Rattle.vx_base.specs.Results.{◌>>=◌}
use Rattle.vx_json.specs.Reading.{need_in}
use Rattle.vx_election_model.specs.declared.election.Election.{Election}
use Rattle.vx_election.specs.declared.fault.ElectionFault.{ElectionFault}
use Rattle.vx_election.specs.declared.fault.ElectionFault.TheVariants.{NotJson, TooManyCards}
use Rattle.vx_election.specs.declared.reading.Opening.{Opening}
use Rattle.vx_election.specs.declared.reading.Directories.{Directories}
use Rattle.vx_election.specs.declared.reading.Rules.{Rules}
use Rattle.vx_election_model.specs.declared.named.Named.{Named}
use Rattle.vx_election_model.specs.declared.style.Style.{Style}
use Rattle.vx_election_model.specs.declared.contest.Contest.{Contest}
use Rattle.vx_election.specs.Names as names
use Rattle.vx_election.specs.Faults.{of_json}
use Rattle.vx_election.specs.Dates.{date_in}
use Rattle.vx_election.specs.Members.{text_member, optional_text, list_member, optional_list}
use Rattle.vx_election.specs.Parts.{named_list_in}
use Rattle.vx_election.specs.Contests.{contests_in}
use Rattle.vx_election.specs.Styles.{styles_in}
use Rattle.vx_election_model.specs.Lists.{card_count}
use Rattle.vx_election.specs.Settings.{thresholds_in, reasons_in}
use Rattle.vx_election.specs.Papers.{paper_in}

-- the date of the election
unfoldable pub date_member : Data → Result (List ℕ) ElectionFault
date_member value = do
  member ← of_json (need_in value [] (codes "date"))
  date_in member (codes "date")

-- the parties
unfoldable pub parties_in : Data → Result (List Named) ElectionFault
parties_in value = do
  list ← optional_list value [] (codes "parties") 200
  named_list_in (codes "parties") list

-- the districts, or the precincts, under the name of their member
unfoldable pub named_member : Data → List ℕ → Result (List Named) ElectionFault
named_member value name = do
  list ← list_member value [] name 2000
  named_list_in name list

-- the contests
unfoldable pub contests_member : List Named → List Named → Data → Result (List Contest) ElectionFault
contests_member parties districts value = do
  list ← list_member value [] (codes "contests") 500
  contests_in parties districts (codes "contests") list

-- the styles, which make at most 1,024 cards
unfoldable pub styles_member : List Named → List Named → List Named → Data → Result (List Style) ElectionFault
styles_member parties districts precincts value = do
  list ← list_member value [] names.ballot_styles 1000
  styles ← styles_in parties districts precincts names.ballot_styles list
  if nat_le (card_count styles) 1024 then Ok styles else Err (TooManyCards (card_count styles))

-- what a definition begins with: its title and its day
unfoldable pub opening_in : Data → Result Opening ElectionFault
opening_in value = do
  title ← text_member value [] (codes "title") 1 256
  date ← date_member value
  _state ← optional_text value [] (codes "state") 0 256 []
  Ok (record { title = title; date = date })

-- its parties, districts and precincts
unfoldable pub directories_in : Data → Result Directories ElectionFault
directories_in value = do
  parties ← parties_in value
  districts ← named_member value (codes "districts")
  precincts ← named_member value (codes "precincts")
  Ok (record { parties = parties; districts = districts; precincts = precincts })

-- how its ballots are read, and their paper
unfoldable pub rules_in : Data → Result Rules ElectionFault
rules_in value = do
  thresholds ← thresholds_in value
  reasons ← reasons_in value
  paper ← paper_in value
  Ok (record { thresholds = thresholds; reasons = reasons; paper = paper })

-- the members of the definition in their order
unfoldable pub election_in : List ℕ → Data → Result Election ElectionFault
election_in digest value = do
  opening ← opening_in value
  lists ← directories_in value
  contests ← contests_member lists.parties lists.districts value
  styles ← styles_member lists.parties lists.districts lists.precincts value
  rules ← rules_in value
  Ok (record { title = opening.title; date = opening.date; parties = lists.parties; districts = lists.districts; precincts = lists.precincts; contests = contests; styles = styles; thresholds = rules.thresholds; reasons = rules.reasons; paper = rules.paper; digest = digest })

-- the value that the bytes are, where they are JSON in UTF-8
unfoldable pub value_of : List ℕ → Result Data ElectionFault
value_of bytes = if is_utf8 bytes then ok_or (read bytes) NotJson else Err NotJson

-- the election that the bytes define, or their first fault
unfoldable pub election_of : List ℕ → Result Election ElectionFault
election_of bytes = do
  value ← value_of bytes
  election_in (sha256 bytes) value
