use Rattle.std.proofs.Common.{ℕ}
use Rattle.std.proofs.lemmas.List.{map-append}
use Rattle.std.specs.Prelude.{slice_get}
use Rattle.vx_sampling.specs.Findings.{found_at}
use Rattle.vx_sampling.proofs.laws.each_draw_counts.Goals as goal

pub returns : goal.returns
returns c sides lines records front back = map-append (λ (ballot : ℕ). found_at sides lines ballot (slice_get records ballot)) front back
