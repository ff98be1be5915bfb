use Rattle.std.proofs.Common.{◌∙◌, ℕ, Vec, Global, ap}
use Rattle.vx_results.proofs.writing.bytes_of.Goals as goal

pub returns : goal.returns
returns c = c.from_vec.ensures ∙ ap (λ (bytes : Vec ℕ Global). bytes.items) c.into_bytes.ensures.value
