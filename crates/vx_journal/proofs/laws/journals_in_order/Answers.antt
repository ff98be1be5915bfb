use Rattle.vx_journal.proofs.Read.{comes_read, halted_reading}
use Rattle.vx_journal.proofs.laws.journals_in_order.Goals as goal

pub returns : goal.returns
returns c = record {
  read = λ election records journal rest taken held is. comes_read c.acts_in_order.ensures election records rest taken held journal is;
  not_read = λ election records cause rest taken held gives. halted_reading c.acts_in_order.ensures election records rest taken held cause gives;
}
