use Rattle.vx_results.proofs.AddsUp.{adds-up}
use Rattle.vx_results.proofs.summary_laws.summary_adds_up.Goals as goal

pub returns : goal.returns
returns c election kept valid history = adds-up c.rows_are_of_the_sheets.ensures c.each_card_has_its_precinct.ensures election kept valid history
