use Rattle.std.proofs.Common.{◌∙◌, ℕ, List, ap, ap₂}
use Rattle.vx_sampling.specs.declared.finding.Finding.{Finding}
use Rattle.vx_sampling.specs.declared.rows.Figures.{Figures}
use Rattle.vx_sampling.specs.declared.rows.Told.{Told}
use Rattle.vx_sampling.specs.declared.rows.Told.TheVariants.{Risk}
use Rattle.vx_sampling.specs.Rows.{figures_of}
use Rattle.vx_sampling.proofs.rows.risk_of.Goals as goal

pub returns : goal.returns
returns c =
    ap {B = Told} (λ (figures : Figures). Risk figures)
    (c.in_ok-figures.ensures
    ∙ ap₂ (λ (count : ℕ) (findings : List Finding). figures_of count c.args.limit c.args.margin findings) c.len-count.ensures.exact
    (c.as_slice.ensures.value ∙ c.in_ok-findings.ensures.exact))
