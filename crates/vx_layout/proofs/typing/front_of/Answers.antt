use Rattle.std.proofs.Common.{Ok, ◌∙◌}
use Rattle.std.specs.declared.alloc.AllocError.{AllocError}
use Rattle.std.proofs.lemmas.Iterator.{YieldsList-from_chars, YieldsList-from_take, text_from_collect}
use Rattle.vx_layout.proofs.typing.front_of.Goals as goal

-- what is collected are the first characters
pub returns : goal.returns
returns c =
    let chain = YieldsList-from_take c.args.count (YieldsList-from_chars c.args.text.now c.utf8.text (cc)) (cc) in
    c.from_string.ensures ∙ text_from_collect {E = AllocError} (Ok c.in_ok-collect.field-0) c.in_ok-collect.ensures.ran chain
