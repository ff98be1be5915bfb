use Rattle.std.proofs.Common.{◌≡◌, ◌∙◌, Some, List, ap, rules, sym}
use Rattle.std.specs.Prelude.{slice_get, string_bytes}
use Rattle.vx_results.specs.Firsts.{Numbered}
use Rattle.vx_results.specs.Sums.{kept_texts}
use Rattle.vx_results.proofs.Texts.{text-there}
use Rattle.vx_results.proofs.sums.Sums.text_at.Goals as goal

pub returns : goal.returns
returns c =
    let entries = c.self.inside.entries.entries in
    let there : slice_get entries c.args.place ≡ Some (c.unwrap.result.0.now, c.unwrap.result.1.now) = search rules in
    ap (λ (all : List Numbered). slice_get (kept_texts all) c.args.place) (sym c.self.view_is)
    ∙ text-there string_bytes entries c.args.place _ there
    ∙ ap Some (sym c.as_str.ensures.value)
