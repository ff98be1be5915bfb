use Rattle.vx_certified.proofs.Said.{says-so}
use Rattle.vx_certified.proofs.demo.demo_says_so.Goals as goal

pub returns : goal.returns
returns c = says-so c.demo_pages_are_true.ensures c.texts_in_order.ensures
