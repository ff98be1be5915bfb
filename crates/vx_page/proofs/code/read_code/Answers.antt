use Rattle.std.proofs.Common.{ap, ◌∙◌}
use Rattle.vx_grid.specs.declared.paper.Paper.{Paper}
use Rattle.vx_code.specs.Code.{code_shown_by}
use Rattle.vx_scan_model.specs.Reading.{code_read}
use Rattle.vx_page.proofs.code.read_code.Goals as goal

pub returns : goal.returns
unfolding code_read
returns c =
    c.read_boxes.ensures.exact
    ∙ ap (λ (paper : Paper). code_shown_by paper c.box_counts.result) c.paper.ensures
    ∙ ap (code_shown_by c.args.border.now.paper) c.box_counts.ensures
