use Rattle.vx_sheet.specs.Sheet.{bubbles_on}
use Rattle.vx_sheet.proofs.Within.{none-below, none-above, on-neither}
use Rattle.vx_sheet.proofs.marks.is_there.Goals as goal

pub returns-then-contest-span : goal.returns-then-contest-span
returns-then-contest-span c =
    let none = none-below c.args.span c.args.contest in
    on-neither _ _ (none (bubbles_on c.args.plan.now c.args.front.now) c.if-contest-span.true c.requires.front)
    (none (bubbles_on c.args.plan.now c.args.back.now) c.if-contest-span.true c.requires.back)

pub returns-then-span-contest : goal.returns-then-span-contest
returns-then-span-contest c =
    let none = none-above c.args.span c.args.contest in
    on-neither _ _ (none (bubbles_on c.args.plan.now c.args.front.now) c.if-span-contest.true c.requires.front)
    (none (bubbles_on c.args.plan.now c.args.back.now) c.if-span-contest.true c.requires.back)
