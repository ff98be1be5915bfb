use Rattle.vx_ranked.proofs.Grouped.{read-groups}
use Rattle.vx_ranked.proofs.laws.read_groups_are_groups.Goals as goal

pub returns : goal.returns
returns c = read-groups
