use Rattle.std.proofs.Common.{sym, ◌∙◌}
use Rattle.vx_command_demo.proofs.Held.{few-read}
use Rattle.vx_command_demo.proofs.Within.{reasons-more}
use Rattle.vx_command_demo.proofs.reasons.sums_of_pages.Goals as goal

pub read_sheet-requires-clause-shown : goal.read_sheet-requires-clause-shown
read_sheet-requires-clause-shown c = λ card plan is.
    let shown = c.plans_show_each_option.ensures c.args.election.now card plan c.requires.election is in
    record { options = shown.0; pages = shown.1 }

pub returns-in-Ok-clause-few : goal.returns-in-Ok-clause-few
returns-in-Ok-clause-few c =
    reasons-more _ 500 c.sums_of_sheet.result
    (few-read c.args.election.now c.args.front.now c.args.back.now c.in-Ok.sheet (sym c.in_ok-sheet.ensures.exact ∙ c.in-Ok.is))
    c.sums_of_sheet.ensures.few
