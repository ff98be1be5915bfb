use Rattle.vx_sheet.proofs.Keepable.{events-keepable}
use Rattle.vx_sheet.proofs.laws.sheet_events_are_keepable.Goals as goal

pub returns : goal.returns
returns c = events-keepable c.paired_sheets_can_be_added.ensures c.plans_show_each_option.ensures
