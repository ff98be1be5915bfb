use Rattle.std.proofs.Common.{◌++◌, List, ℕ, string_bytes, ap, ◌∙◌}
use Rattle.vx_base.proofs.Results.{OnOk-both}
use Rattle.vx_command_read.proofs.ImageTexts.{image_text-read, image_text-fault}
use Rattle.vx_command_read.proofs.reading_text.push_image.Goals as goal

pub returns-in-Ok : goal.returns-in-Ok
returns-in-Ok c =
    OnOk-both c.push_block.result
    (λ h _. h
    ∙ ap (λ (more : List ℕ). string_bytes c.args.text.now ++ more)
    (rw c.as_slice.ensures (image_text-read c.args.election.now c.args.number c.args.page.now c.in-Ok.reading c.in-Ok.plan.now c.in-Ok.ensures.0 c.in-Ok.ensures.1.named)))
    c.push_block.ensures c.push_block.ensures

pub returns-in-Err : goal.returns-in-Err
returns-in-Err c =
    OnOk-both c.push_fault.result
    (λ known h. h
    ∙ ap (λ (more : List ℕ). string_bytes c.args.text.now ++ more)
    (image_text-fault c.args.election.now c.args.number c.args.page.now c.in-Err.fault c.in-Err.ensures known))
    c.push_fault.ensures.known c.push_fault.ensures.line
