use Rattle.std.proofs.Common.{◌∙◌, ap, sym, subst, ℕ, List, take, drop}
use Rattle.std.specs.Str.{IsCharBoundary, chars}
use Rattle.std.proofs.lemmas.List.{take_at, drop_at}
use lib.Utf8.{encodes}
use Rattle.vx_layout.proofs.Bytes.{cut, IsCharBoundary-cut}
use Rattle.vx_layout.proofs.typing.cut_line.Goals as goal

pub split_at-requires : goal.split_at-requires
split_at-requires c =
    subst (λ (n : ℕ). IsCharBoundary c.args.text.now n) (sym c.line_bytes.ensures) (IsCharBoundary-cut 29 c.args.text.now c.utf8.text)

pub returns-clause-line : goal.returns-clause-line
returns-clause-line c =
    let cs = chars c.args.text.now in
    c.split_at.ensures.front
    ∙ ap (λ (t : List ℕ). take c.line_bytes.result t) (cut 29 c.args.text.now c.utf8.text)
    ∙ take_at (encodes (take 29 cs)) (encodes (drop 29 cs)) c.line_bytes.result (sym c.line_bytes.ensures)

pub returns-clause-rest : goal.returns-clause-rest
returns-clause-rest c =
    let cs = chars c.args.text.now in
    c.split_at.ensures.back
    ∙ ap (λ (t : List ℕ). drop c.line_bytes.result t) (cut 29 c.args.text.now c.utf8.text)
    ∙ drop_at (encodes (take 29 cs)) (encodes (drop 29 cs)) c.line_bytes.result (sym c.line_bytes.ensures)
