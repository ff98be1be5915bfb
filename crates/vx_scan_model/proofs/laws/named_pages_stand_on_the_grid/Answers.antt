use Rattle.vx_scan_model.proofs.Plans.{printed_by, named-on_grid, named-planned}
use Rattle.vx_scan_model.proofs.Few.{few-bubbles}
use Rattle.vx_scan_model.proofs.laws.named_pages_stand_on_the_grid.Goals as goal

pub returns : goal.returns
returns c = λ election code plan valid named. record {
  on_grid = named-on_grid c.plans_stand_on_the_grid.ensures c.plans_have_the_elections_paper.ensures election code plan valid named;
  few = few-bubbles plan (c.printed_pages_keep_clear.ensures election (printed_by code) plan valid (named-planned election code plan named));
}
