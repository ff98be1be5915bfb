-- For which reasons a person has to look at a contest of a sheet.
use Rattle.std.specs.Prelude.{◌&&◌, ℕ, Bool, true, false, List, [], ◌∷◌, length, drop, codes, count_by, nat_lt}
use Rattle.std.specs.List.{list_all, list_any}
use Rattle.vx_grid.specs.declared.state.State.{State}
use Rattle.vx_grid.specs.declared.state.State.TheVariants.{Marked, Marginal, Clear}
use Rattle.vx_election_model.specs.declared.contest.Contest.{Contest}
use Rattle.vx_election_model.specs.declared.reason.Reason.{Reason}
use Rattle.vx_election_model.specs.declared.reason.Reason.TheVariants.{Overvote, Undervote, MarginalMark, BlankBallot, WriteIn}
use Rattle.vx_election_model.specs.declared.reason.ReasonSet.{ReasonSet}
use Rattle.vx_election_model.specs.Reasons.{has_reason}
use Rattle.vx_rules.specs.declared.marks.ContestMarks.{ContestMarks}
use Rattle.vx_rules.specs.declared.marks.SheetMarks.{SheetMarks}

-- whether an option is read as marked
abbrev pub is_marked : State → Bool
is_marked Marked = true
is_marked Marginal = false
is_marked Clear = false

-- whether an option is read as marginal, so that a person has to decide
abbrev pub is_marginal : State → Bool
is_marginal Marked = false
is_marginal Marginal = true
is_marginal Clear = false

-- whether an option is read as clear
abbrev pub is_clear : State → Bool
is_clear Marked = false
is_clear Marginal = false
is_clear Clear = true

-- whether every state of the sheet is Clear
abbrev pub is_blank_sheet : SheetMarks → Bool
is_blank_sheet sheet = list_all (λ (marks : ContestMarks). list_all is_clear marks.states) sheet.contests

-- whether a reason holds of a contest: more options are marked than there are seats, or fewer; an
-- option is marginal; the whole sheet is blank; a write-in slot is marked
abbrev pub holds : Contest → List State → Bool → Reason → Bool
holds contest states sheet_blank Overvote = nat_lt contest.seats (count_by is_marked states)
holds contest states sheet_blank Undervote = nat_lt (count_by is_marked states) contest.seats
holds contest states sheet_blank MarginalMark = list_any is_marginal states
holds contest states sheet_blank BlankBallot = sheet_blank
holds contest states sheet_blank WriteIn = list_any is_marked (drop (length contest.choices) states)

-- whether a reason is enabled: MarginalMark always is, the others where the set has them
abbrev pub is_enabled : ReasonSet → Reason → Bool
is_enabled enabled Overvote = has_reason enabled Overvote
is_enabled enabled Undervote = has_reason enabled Undervote
is_enabled enabled MarginalMark = true
is_enabled enabled BlankBallot = has_reason enabled BlankBallot
is_enabled enabled WriteIn = has_reason enabled WriteIn

-- whether a reason holds and is enabled
abbrev pub is_reason : Contest → List State → Bool → ReasonSet → Reason → Bool
is_reason contest states sheet_blank enabled reason = holds contest states sheet_blank reason && is_enabled enabled reason

-- the set of the reasons that hold and are enabled, in the order of `Reason`
abbrev pub reasons_of : Contest → List State → Bool → ReasonSet → ReasonSet
reasons_of contest states sheet_blank enabled =
    let test = is_reason contest states sheet_blank enabled in
    test Overvote ∷ test Undervote ∷ test MarginalMark ∷ test BlankBallot ∷ test WriteIn ∷ []

-- a reason's name
abbrev pub reason_word : Reason → List ℕ
reason_word Overvote = codes "Overvote"
reason_word Undervote = codes "Undervote"
reason_word MarginalMark = codes "MarginalMark"
reason_word BlankBallot = codes "BlankBallot"
reason_word WriteIn = codes "WriteIn"
