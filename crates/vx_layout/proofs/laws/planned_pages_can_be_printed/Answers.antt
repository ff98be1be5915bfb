use Rattle.vx_layout.proofs.Printed.{pages-planned, printed-codes, printed-paper}
use Rattle.vx_layout.proofs.laws.planned_pages_can_be_printed.Goals as goal

pub returns : goal.returns
returns c = record {
  planned = pages-planned c.plans_are_numbered.ensures;
  codes = printed-codes c.plans_are_numbered.ensures c.tags_are_in_range.ensures;
  paper = printed-paper c.plans_have_the_elections_paper.ensures;
}
