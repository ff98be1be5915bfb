use Rattle.std.proofs.Common.{◌≡◌, ◌+◌, ◌∙◌, ap, map, rules}
use Rattle.std.specs.Prelude.{bytes_eq, string_bytes}
use Rattle.indexmap.specs.IndexMap.{insert_entry}
use Rattle.vx_results.specs.Sums.{sum_at}
use Rattle.vx_results.proofs.Texts.{inserted, shown}
use Rattle.vx_results.proofs.sums.Sums.add.Goals as goal

pub returns : goal.returns
returns c =
    let key : string_bytes c.in_ok-from_str.field-0 ≡ c.args.text.now = c.in_ok-from_str.ensures.ok in
    let more : c.in_ok-more.more ≡ sum_at c.args.self.now c.args.text.now + c.args.number = search rules in
    ap (map (shown string_bytes)) c.in_ok-insert.ensures.entries
    ∙ inserted string_bytes c.in_ok-from_str.field-0 c.in_ok-more.more c.self.inside.entries.entries
    ∙ (λ i. insert_entry bytes_eq (c.self.view_is i) (key i) (more i))
