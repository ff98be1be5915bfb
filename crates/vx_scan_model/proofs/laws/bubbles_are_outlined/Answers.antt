use Rattle.vx_code.specs.Code.{boxes_of}
use Rattle.vx_layout.specs.Printed.{code_of}
use Rattle.vx_scan_model.proofs.Printed.{bubble-printed}
use Rattle.vx_scan_model.proofs.laws.bubbles_are_outlined.Goals as goal

pub returns : goal.returns
returns c = λ election printed plan valid planned n few x y zone.
    bubble-printed c.timing_marks_are_marks.ensures plan (c.printed_pages_keep_clear.ensures election printed plan valid planned) (boxes_of (code_of election printed)) n few x y zone
