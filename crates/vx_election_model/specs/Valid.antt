-- What a valid election is: one that a definition can give, whatever its digest.
use Rattle.std.specs.Prelude.{◌≡◌, ℕ, ◌<◌, ◌≤◌, ◌⊎◌, Bool, true, false, List, [], ◌∷◌, length, nat_eq, bytes_eq, chars, IfSome, None, codes}
use Rattle.std.specs.List.{All, IsDistinct}
use Rattle.vx_grid.specs.declared.state.Thresholds.{Thresholds}
use Rattle.vx_grid.specs.Sizes.{inner_pixels}
use Rattle.vx_election_model.specs.declared.named.Named.{Named}
use Rattle.vx_election_model.specs.declared.choice.Choice.{Choice}
use Rattle.vx_election_model.specs.declared.contest.Contest.{Contest}
use Rattle.vx_election_model.specs.declared.style.Style.{Style}
use Rattle.vx_election_model.specs.declared.election.Election.{Election}
use Rattle.vx_election_model.specs.declared.reason.Reason.TheVariants.{MarginalMark}
use Rattle.vx_election_model.specs.Ids.{is_id}
use Rattle.vx_election_model.specs.Dates.{is_date}
use Rattle.vx_election_model.specs.Lists.{named_ids}
use Rattle.vx_election_model.specs.Lists.{choice_ids, contest_ids}
use Rattle.vx_election_model.specs.Labels.{label_limit, answer_of}
use Rattle.vx_election_model.specs.Lists.{style_ids, card_count}
use Rattle.vx_election_model.specs.Reasons.{has_reason}

-- a text with a number of characters in the range
abbrev pub IsText : ℕ → ℕ → List ℕ → Type 0
IsText low high text = (low ≤ length (chars text)) × (length (chars text) ≤ high)

-- no id stands twice
abbrev pub AreDistinct : List (List ℕ) → Type 0
AreDistinct ids = IsDistinct bytes_eq ids

-- a party, a district or a precinct
pub record IsNamed (named : Named) : Type 0 where
  pub id : is_id named.id ≡ true
  pub name : IsText 1 256 named.name

-- a list of them
pub record AreNamed (limit : ℕ) (list : List Named) : Type 0 where
  pub few : length list ≤ limit
  pub distinct : AreDistinct (named_ids list)
  pub each : All IsNamed list

-- a candidate, whose label has at most 58 characters or is the name
pub record IsCandidate (choice : Choice) : Type 0 where
  pub id : is_id choice.id ≡ true
  pub name : IsText 1 256 choice.name
  pub label : (length (chars choice.label) ≤ label_limit) ⊎ (choice.label ≡ choice.name)

-- what a contest of candidates has
pub record HasCandidates (contest : Contest) : Type 0 where
  pub description : contest.description ≡ []
  pub few : length contest.choices ≤ 100
  pub distinct : AreDistinct (choice_ids contest.choices)
  pub each : All IsCandidate contest.choices

-- what a yes/no contest has: one seat, its two answers, no party and no write-ins
pub record HasAnswers (contest : Contest) : Type 0 where
  pub description : IsText 0 10000 contest.description
  pub party : contest.party ≡ None
  pub seats : contest.seats ≡ 1
  pub write_ins : contest.write_ins ≡ false
  pub answers : (yes_label : List ℕ) × (no_label : List ℕ) × (contest.choices ≡ answer_of (codes "yes") yes_label ∷ answer_of (codes "no") no_label ∷ []) × IsText 1 256 yes_label × IsText 1 256 no_label

-- the choices fit the contest's type
abbrev pub HasChoices : Bool → Contest → Type 0
HasChoices true contest = HasAnswers contest
HasChoices false contest = HasCandidates contest

-- a contest among so many parties and districts
pub record IsContest (parties districts : ℕ) (contest : Contest) : Type 0 where
  pub id : is_id contest.id ≡ true
  pub title : IsText 1 256 contest.title
  pub district : contest.district < districts
  pub party : IfSome contest.party (λ place. place < parties)
  pub seats : (1 ≤ contest.seats) × (contest.seats ≤ 50)
  pub choices : HasChoices contest.is_yes_no contest

-- places in a list of so many, each once
pub record ArePlaces (count : ℕ) (places : List ℕ) : Type 0 where
  pub few : length places ≤ 2000
  pub distinct : IsDistinct nat_eq places
  pub each : All (λ place. place < count) places

-- a ballot style among so many parties, districts and precincts
pub record IsStyle (party_count district_count precinct_count : ℕ) (style : Style) : Type 0 where
  pub id : is_id style.id ≡ true
  pub precincts : ArePlaces precinct_count style.precincts
  pub districts : ArePlaces district_count style.districts
  pub party : IfSome style.party (λ place. place < party_count)

-- 13 <= MARG < DEF, and DEF at most all the pixels inside a bubble's outline
pub record AreThresholds (thresholds : Thresholds) : Type 0 where
  pub low : 13 ≤ thresholds.marg
  pub order : thresholds.marg < thresholds.def
  pub high : thresholds.def ≤ inner_pixels

-- the contests of an election
pub record AreContests (parties districts : ℕ) (contests : List Contest) : Type 0 where
  pub few : length contests ≤ 500
  pub distinct : AreDistinct (contest_ids contests)
  pub each : All (IsContest parties districts) contests

-- the styles of an election, which make at most 1,024 cards
pub record AreStyles (parties districts precincts : ℕ) (styles : List Style) : Type 0 where
  pub few : length styles ≤ 1000
  pub distinct : AreDistinct (style_ids styles)
  pub each : All (IsStyle parties districts precincts) styles
  pub cards : card_count styles ≤ 1024

-- an election that a definition can give
pub record IsValid (election : Election) : Type 0 where
  pub title : IsText 1 256 election.title
  pub date : is_date election.date ≡ true
  pub parties : AreNamed 200 election.parties
  pub districts : AreNamed 2000 election.districts
  pub precincts : AreNamed 2000 election.precincts
  pub contests : AreContests (length election.parties) (length election.districts) election.contests
  pub styles : AreStyles (length election.parties) (length election.districts) (length election.precincts) election.styles
  pub thresholds : AreThresholds election.thresholds
  pub reasons : has_reason election.reasons MarginalMark ≡ true
