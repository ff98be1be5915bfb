use Rattle.std.proofs.Common.{◌∙◌, ℕ, List, ap}
use Rattle.std.specs.Prelude.{Option, string_bytes}
use Rattle.std.specs.Option.{unwrap_or}
use Rattle.vx_results.specs.Firsts.{Numbered}
use Rattle.vx_results.specs.Sums.{sum_at}
use Rattle.vx_results.proofs.Texts.{looked-up}
use Rattle.vx_results.proofs.sums.Sums.sum.Goals as goal

pub returns : goal.returns
returns c =
    c.unwrap_or.ensures
    ∙ ap (λ (o : Option ℕ). unwrap_or o 0) (c.copied.ensures ∙ c.get.ensures.value)
    ∙ looked-up string_bytes c.args.text.now c.self.inside.entries.entries
    ∙ ap (λ (entries : List Numbered). sum_at entries c.args.text.now) c.self.view_is
