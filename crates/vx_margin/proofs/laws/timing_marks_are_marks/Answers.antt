use Rattle.vx_margin.proofs.Places.{marks-are}
use Rattle.vx_margin.proofs.laws.timing_marks_are_marks.Goals as goal

pub returns : goal.returns
returns c = marks-are
