use Rattle.std.proofs.Common.{ℕ, subst}
use Rattle.std.specs.Prelude.{IfOk}
use Rattle.vx_tally.specs.Cells.{HaveVotes}
use Rattle.vx_tally.proofs.Running.{kept-votes_in}
use Rattle.vx_tally.proofs.totals.Totals.cells.Goals as goal

pub returns : goal.returns
returns c =
    subst (λ (votes : ℕ → ℕ → ℕ → ℕ). IfOk c.cells_of.result (λ cells. HaveVotes votes cells.items))
    (λ i u t s. kept-votes_in c.self.inside.count c.self.inside.sums.entries c.args.self.now c.self.view_is u t s i) c.cells_of.ensures
