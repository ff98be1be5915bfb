use Rattle.std.proofs.Common.{◌∙◌, ℕ, Ok, Vec, Global, sym, ap}
use Rattle.vx_sampling.proofs.writing.bytes_of.Goals as goal

pub returns-clause-exact : goal.returns-clause-exact
returns-clause-exact c =
    ap Ok (sym (c.from_vec.ensures ∙ ap (λ (bytes : Vec ℕ Global). bytes.items) c.into_bytes.ensures.value ∙ c.in_ok-text.ensures))
