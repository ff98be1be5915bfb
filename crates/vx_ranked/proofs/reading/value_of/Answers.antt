use Rattle.vx_ranked.proofs.Bytes.{value_in-read, value_in-no_text}
use Rattle.vx_ranked.proofs.reading.value_of.Goals as goal

pub returns-in_default : goal.returns-in_default
returns-in_default c = value_in-no_text c.args.bytes.now c.in_default.ensures.cases.0

pub returns-in-Ok-from_str : goal.returns-in-Ok-from_str
returns-in-Ok-from_str c =
    let same = c.in-Ok.ensures.cases.0 in
    value_in-read c.args.bytes.now _ c.in-Ok.ensures.cases.1 (rw same at c.in-Ok-from_str.ensures.ok)
