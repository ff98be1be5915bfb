use Rattle.std.proofs.Common.{ℕ, ◌+◌, ◌++◌, List, ap₂, ◌∙◌}
use Rattle.vx_layout.specs.Lines.{lines_at}
use Rattle.vx_layout.specs.Blocks.{option_lines}
use Rattle.vx_base.proofs.Ranges.{flat_map-laid}
use Rattle.vx_layout.proofs.block.lay_options.Goals as goal

pub loop-option-preserved : goal.loop-option-preserved
loop-option-preserved c =
    flat_map-laid (option_lines c.args.paper c.args.contest.now c.args.col c.args.row) c.args.texts.now c.loop-option.texts c.lay_text.new.texts c.loop-option.option
    c.loop-option.invariant
    (c.in_ok-lay_text.ensures
    ∙ ap₂ (λ (rows : ℕ) (label : List ℕ). c.loop-option.texts ++ lines_at c.args.paper c.args.col (c.args.row + rows + c.loop-option.option) label)
    c.heading_rows.ensures.exact c.label_at.ensures.exact)
