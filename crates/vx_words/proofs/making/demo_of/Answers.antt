use Rattle.std.proofs.Common.{arith}
use Rattle.vx_words.proofs.Made.{demo_made, no_sheets_made}
use Rattle.vx_words.proofs.making.demo_of.Goals as goal

pub returns-then-sheets-eq0 : goal.returns-then-sheets-eq0
returns-then-sheets-eq0 c = no_sheets_made c.args.arguments.now _ c.in-Some-read_number.sheets c.in-len2.len_at_least c.in-Some-read_number.ensures.1 c.if-sheets-eq0.true

pub returns : goal.returns
returns c = demo_made c.args.arguments.now _ c.in-Some.seed c.in-Some-read_number.sheets c.in-len2.len_at_least c.in-len2.len_below c.requires c.in-Some.ensures.0 c.in-Some.ensures.1 (omega arith) c.in-Some-read_number.ensures.0 c.in-Some-read_number.ensures.1
