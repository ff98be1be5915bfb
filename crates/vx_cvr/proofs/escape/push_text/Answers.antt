use Rattle.std.proofs.Common.{rules, ◌≡◌, ◌∙◌, true, ap, sym}
use Rattle.std.specs.List.{list_all}
use Rattle.json.specs.Run.{is_plain}
use Rattle.vx_cvr.proofs.Escaped.{plain}
use Rattle.vx_cvr.proofs.escape.push_text.Goals as goal

pub returns-then-is_plain : goal.returns-then-is_plain
returns-then-is_plain c =
    let bytes : c.as_bytes-given.result.now ≡ c.args.given.now = c.as_bytes-given.ensures.value in
    let test : list_all is_plain c.args.given.now ≡ true =
    ap (list_all is_plain) (sym bytes) ∙ sym c.is_plain.ensures ∙ c.if-is_plain.true in
    rw (plain c.args.given.now test) (search rules)
