-- A contest that waits, with all that its decision needs: an object of the desk's data. The members of each object stand in
-- the order of their names' bytes.
use Rattle.std.specs.Prelude.{ℕ, ◌==◌, Bool, false, nat_le, if◌then◌else◌, List, [], ◌∷◌, length, codes, slice_index_or, None}
use Rattle.std.specs.List.{flat_map, range_with_len}
use Rattle.serde_json.specs.Data.{Data, boolean}
use Rattle.vx_grid.specs.declared.state.State.{State}
use Rattle.vx_grid.specs.declared.state.State.TheVariants.{Marked, Marginal, Clear}
use Rattle.vx_election_model.specs.declared.choice.Choice.{Choice}
use Rattle.vx_election_model.specs.declared.contest.Contest.{Contest}
use Rattle.vx_election_model.specs.declared.election.Election.{Election}
use Rattle.vx_election_model.specs.declared.reason.Reason.{Reason}
use Rattle.vx_election_model.specs.declared.reason.Reason.TheVariants.{Overvote, Undervote, MarginalMark, BlankBallot, WriteIn}
use Rattle.vx_election_model.specs.declared.reason.ReasonSet.{ReasonSet}
use Rattle.vx_election_model.specs.Reasons.{has_reason}
use Rattle.vx_rules.specs.declared.marks.ContestMarks.{ContestMarks}
use Rattle.vx_rules.specs.Reasons.{reason_word, reasons_of}
use Rattle.vx_layout.specs.declared.bubbles.Bubble.{Bubble}
use Rattle.vx_markup.specs.Json.{text, whole, list, described}
use Rattle.vx_desk.specs.declared.region.Region.{Region}
use Rattle.vx_desk.specs.Shown.{Shown, bubble_at, score_at, state_at}
use Rattle.vx_desk.specs.Regions.{behind, middle_of, region_round}
use Rattle.vx_desk.specs.Pictures.{picture}

-- no choice and no contest, which stand past the end of a list of them
abbrev pub no_choice : Choice
no_choice = record { id = []; label = []; name = [] }

abbrev pub no_contest : Contest
no_contest = record {
  id = [];
  title = [];
  description = [];
  district = 0;
  party = None;
  seats = 0;
  choices = [];
  write_ins = false;
  is_yes_no = false;
}

-- the choice of an option
abbrev pub choice_at : Contest → ℕ → Choice
choice_at contest option = slice_index_or contest.choices option no_choice

-- an option behind the choices is a write-in slot
abbrev pub is_slot : Contest → ℕ → Bool
is_slot contest option = nat_le (length contest.choices) option

-- what a bubble was read as, in a word
abbrev pub state_word : State → List ℕ
state_word Marked = codes "marked"
state_word Marginal = codes "marginal"
state_word Clear = codes "clear"

-- an option by its bubble: its choice's name, and none for a write-in slot; its score in dark pixels; and where the middle of
-- its bubble is in the picture of a region, in pixels
abbrev pub option_of : Contest → Shown → Region → Bubble → ℕ → State → Data
option_of contest shown region bubble score state = described
    ((codes "name", text (choice_at contest bubble.option).name)
    ∷ (codes "score", whole score)
    ∷ (codes "slot", boolean (is_slot contest bubble.option))
    ∷ (codes "state", text (state_word state))
    ∷ (codes "x", whole (behind region.left (middle_of shown bubble).u))
    ∷ (codes "y", whole (behind region.top (middle_of shown bubble).v)) ∷ [])

-- the option of the bubble with a place in the plan's order, if it is of the contest with a number
abbrev pub option_at : Contest → ℕ → Shown → Region → ℕ → List Data
option_at contest number shown region k =
    if (bubble_at shown k).contest == number
    then option_of contest shown region (bubble_at shown k) (score_at shown k) (state_at shown k) ∷ []
    else []

-- the options of a contest, in the order of their bubbles
abbrev pub options_of : Contest → ℕ → Shown → Region → List Data
options_of contest number shown region =
    flat_map (option_at contest number shown region) (range_with_len 0 (length shown.bubbles))

-- a reason's word, if a set has it
abbrev pub reason_if : ReasonSet → Reason → List Data
reason_if set reason = if has_reason set reason then text (reason_word reason) ∷ [] else []

-- the words of the reasons of a set, in their order
abbrev pub reason_texts : ReasonSet → List Data
reason_texts set = flat_map (reason_if set) (Overvote ∷ Undervote ∷ MarginalMark ∷ BlankBallot ∷ WriteIn ∷ [])

-- a contest by its parts
abbrev pub contest_with : Contest → Data → ℕ → Data → Data → Data
contest_with contest options page picture reasons = described
    ((codes "id", text contest.id)
    ∷ (codes "options", options)
    ∷ (codes "page", whole page)
    ∷ (codes "picture", picture)
    ∷ (codes "reasons", reasons)
    ∷ (codes "seats", whole contest.seats)
    ∷ (codes "title", text contest.title) ∷ [])

-- a contest with a number, with the reasons why it waits, by the page that shows it
abbrev pub contest_in : Contest → ℕ → ReasonSet → Shown → Data
contest_in contest number reasons shown =
    contest_with contest (list (options_of contest number shown (region_round contest number shown)))
    shown.reading.code.page (picture shown.page (region_round contest number shown)) (list (reason_texts reasons))

-- the same of a contest as it was read, with the enabled reasons that hold
abbrev pub contest_by : Election → Bool → ContestMarks → Shown → Contest → Data
contest_by election sheet_blank marks shown contest =
    contest_in contest marks.contest (reasons_of contest marks.states sheet_blank election.reasons) shown

-- the same of a contest by its number in the election
unfoldable pub contest_data : Election → Bool → ContestMarks → Shown → Data
contest_data election sheet_blank marks shown =
    contest_by election sheet_blank marks shown (slice_index_or election.contests marks.contest no_contest)
