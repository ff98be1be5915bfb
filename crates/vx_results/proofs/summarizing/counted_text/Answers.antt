use Rattle.std.proofs.Common.{◌∙◌}
use Rattle.vx_results.proofs.Told.{told}
use Rattle.vx_results.proofs.summarizing.counted_text.Goals as goal

pub returns : goal.returns
returns c =
    c.in_ok-text.ensures ∙ told c.args.election.now c.args.center.now.events c.add_sheets.new.figures c.in_ok-add_sheets.ensures
