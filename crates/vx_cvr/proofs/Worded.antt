-- The words of a report stand in a JSON string as they are.
use Rattle.std.proofs.Common.{◌≡◌, ℕ, Bool, true, false, cond, refl, List}
use Rattle.std.specs.Prelude.{codes, slice_index_or}
use Rattle.json.specs.Print.{escape, escape_byte}
use Rattle.vx_center.specs.declared.rows.Final.{Final}
use Rattle.vx_election_model.specs.declared.contest.Contest.{Contest}
use Rattle.vx_grid.specs.declared.state.State.{State}
use Rattle.vx_grid.specs.declared.state.State.TheVariants.{Marked, Marginal, Clear}
use Rattle.vx_cvr.specs.Report.{is_modified, snapshot_kind}
use Rattle.vx_cvr.specs.Votes.{allocable, indication, indication_of, is_overvoted, is_unnamed}

indication-plain : (state : State) → escape (indication state) ≡ indication state
unfolding escape_byte
indication-plain Marked = refl
indication-plain Marginal = refl
indication-plain Clear = refl

pub indicated : (final : Final) (option : ℕ) → escape (indication_of final option) ≡ indication_of final option
indicated final option = indication-plain (slice_index_or final.read option Clear)

allocable-plain : (overvoted unnamed : Bool) → escape (cond overvoted (codes "no") (cond unnamed (codes "unknown") (codes "yes")))
    ≡ cond overvoted (codes "no") (cond unnamed (codes "unknown") (codes "yes"))
unfolding escape_byte
allocable-plain true unnamed = refl
allocable-plain false true = refl
allocable-plain false false = refl

pub allocated : (contest : Contest) (final : Final) (option : ℕ) → escape (allocable contest final option) ≡ allocable contest final option
allocated contest final option = allocable-plain (is_overvoted contest final) (is_unnamed contest final option)

kind-plain : (modified : Bool) → escape (cond modified (codes "modified") (codes "interpreted")) ≡ cond modified (codes "modified") (codes "interpreted")
unfolding escape_byte
kind-plain true = refl
kind-plain false = refl

pub kind : (finals : List Final) → escape (snapshot_kind finals) ≡ snapshot_kind finals
kind finals = kind-plain (is_modified finals)
