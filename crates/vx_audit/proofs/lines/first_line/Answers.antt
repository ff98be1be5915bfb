use Rattle.std.proofs.Common.{sym}
use Rattle.vx_audit.proofs.Feeds.{last-line, no-feed, fed-line}
use Rattle.vx_audit.proofs.lines.first_line.Goals as goal

pub returns-in-None-clause-lines : goal.returns-in-None-clause-lines
returns-in-None-clause-lines c = last-line c.args.text.now c.requires (no-feed c.args.text.now (sym c.in-None.ensures.place))

pub returns-in-Some-clause-lines : goal.returns-in-Some-clause-lines
returns-in-Some-clause-lines c = fed-line c.args.text.now c.in-Some.at (sym c.in-Some.ensures.place)
