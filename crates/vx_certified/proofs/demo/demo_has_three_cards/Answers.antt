use Rattle.vx_certified.proofs.DemoElection.{demo-election}
use Rattle.vx_certified.proofs.demo.demo_has_three_cards.Goals as goal

pub returns : goal.returns
returns c = demo-election
