-- The text of what a command asks.
use Rattle.std.specs.Prelude.{ℕ, List}
use Rattle.vx_sampling.specs.declared.asking.Asked.{Asked}
use Rattle.vx_sampling.specs.declared.asking.Told.{Told}
use Rattle.vx_sampling.specs.declared.asking.Told.TheVariants.{Comparison, Risk}
use Rattle.vx_sampling.specs.Drawn.{Telling}
use Rattle.vx_sampling.specs.SampleOutcome.{sample_text}
use Rattle.vx_sampling.specs.RiskOutcome.{risk_text}

-- that of `sample`, or that of `risk` with its limit
abbrev pub text_told : Told → List ℕ → ℕ → Telling
text_told Comparison seed size = λ election. sample_text seed size
text_told (Risk limit) seed size = λ election contests. risk_text seed size limit election

abbrev pub text_asked : Asked → Telling
text_asked asked = text_told asked.told asked.seed asked.size
