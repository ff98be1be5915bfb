-- The thresholds and the reasons of an election.
use Rattle.std.specs.Prelude.{ℕ, ◌+◌, ◌*◌, ◌/◌, ◌&&◌, ◌==◌, Bool, true, List, [], ◌∷◌, length, nat_le, nat_lt, bytes_eq, if◌then◌else◌, Option, Some, None, Result, Ok, Err, codes, ok_or}
use Rattle.std.specs.List.{list_any}
use Rattle.serde_json.specs.Data.{Data}
use Rattle.serde_json.specs.Find.{get}
use Rattle.vx_grid.specs.declared.state.Thresholds.{Thresholds}
use Rattle.vx_grid.specs.Sizes.{inner_pixels}
use Rattle.vx_json.specs.Paths.{element_path}
use Rattle.vx_base.specs.Results.{◌>>=◌}
use Rattle.vx_json.specs.Reading.{string_in}
use Rattle.vx_election.specs.declared.fault.ElectionFault.{ElectionFault}
use Rattle.vx_election.specs.declared.fault.ElectionFault.TheVariants.{OutOfRange, BadThresholds}
use Rattle.vx_election_model.specs.declared.reason.Reason.{Reason}
use Rattle.vx_election_model.specs.declared.reason.Reason.TheVariants.{Overvote, Undervote, MarginalMark, BlankBallot, WriteIn}
use Rattle.vx_election_model.specs.declared.reason.ReasonSet.{ReasonSet}
use Rattle.vx_election.specs.Names as names
use Rattle.vx_election.specs.Faults.{of_json}
use Rattle.vx_election.specs.Members.{optional, whole_member, list_up_to, each_of}
use Rattle.vx_election_model.specs.Reasons.{reason_place}

-- thousandths of the pixels inside a bubble's outline, rounded up
abbrev pub pixels_of : ℕ → ℕ
pixels_of thousandths = (inner_pixels * thousandths + 999) / 1000

-- 13 <= MARG < DEF
abbrev pub are_in_order : ℕ → ℕ → Bool
are_in_order marg def = nat_le 13 marg && nat_lt marg def

-- the thresholds of an election that names none: 50 and 120 thousandths
abbrev pub default_thresholds : Thresholds
default_thresholds = record { marg = pixels_of 50; def = pixels_of 120 }

-- the thresholds of an object
unfoldable pub stated_thresholds_in : Data → List ℕ → Result Thresholds ElectionFault
stated_thresholds_in value path = do
  definite ← whole_member value path (codes "definite") 1 1000
  marginal ← whole_member value path (codes "marginal") 1 1000
  if are_in_order (pixels_of marginal) (pixels_of definite) then Ok (record { marg = pixels_of marginal; def = pixels_of definite }) else Err (BadThresholds (pixels_of marginal) (pixels_of definite))

-- the thresholds of an election
unfoldable pub thresholds_in : Data → Result Thresholds ElectionFault
thresholds_in value = optional (get names.mark_thousandths value) (λ member. stated_thresholds_in member names.mark_thousandths) default_thresholds

-- a reason's name
abbrev pub reason_of : List ℕ → Option Reason
reason_of text =
    if bytes_eq text (codes "Overvote") then Some Overvote
    else if bytes_eq text (codes "Undervote") then Some Undervote
    else if bytes_eq text (codes "MarginalMark") then Some MarginalMark
    else if bytes_eq text (codes "BlankBallot") then Some BlankBallot
    else if bytes_eq text (codes "WriteIn") then Some WriteIn
    else None

-- a text that names a reason
unfoldable pub reason_in : Data → List ℕ → Result Reason ElectionFault
reason_in value path = do
  text ← of_json (string_in value path)
  ok_or (reason_of text) (OutOfRange path)

-- whether a reason is among those
abbrev pub is_named : Reason → List Reason → Bool
is_named reason reasons = list_any (λ r. reason_place r == reason_place reason) reasons

-- those reasons with MarginalMark
abbrev pub enabled_of : List Reason → ReasonSet
enabled_of reasons = is_named Overvote reasons ∷ is_named Undervote reasons ∷ true ∷ is_named BlankBallot reasons ∷ is_named WriteIn reasons ∷ []

-- the reasons of an election that names none
abbrev pub default_reasons : ReasonSet
default_reasons = enabled_of (Overvote ∷ MarginalMark ∷ BlankBallot ∷ WriteIn ∷ [])

-- the reason at an element, after those before it
abbrev pub next_reason_in : List ℕ → List Reason → Data → Result Reason ElectionFault
next_reason_in path found value = reason_in value (element_path path (length found))

-- the elements of a list of reasons
unfoldable pub reason_list_in : List ℕ → List Data → Result (List Reason) ElectionFault
reason_list_in path list = each_of (next_reason_in path) [] list

-- the reasons that a list names
unfoldable pub stated_reasons_in : Data → List ℕ → Result ReasonSet ElectionFault
stated_reasons_in value path = do
  list ← list_up_to value path 5
  reasons ← reason_list_in path list
  Ok (enabled_of reasons)

-- the reasons of an election
unfoldable pub reasons_in : Data → Result ReasonSet ElectionFault
reasons_in value = optional (get (codes "vxReasons") value) (λ member. stated_reasons_in member (codes "vxReasons")) default_reasons
