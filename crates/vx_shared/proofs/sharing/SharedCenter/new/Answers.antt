use Rattle.std.proofs.Common.{rules, ◌≡◌, ◌∷◌, [], Some}
use Rattle.vx_shared.specs.Legal.{stored}
use Rattle.vx_shared.proofs.Ending.{starts}
use Rattle.vx_shared.proofs.sharing.SharedCenter.new.Goals as goal

pub new-requires-2 : goal.new-requires-2
new-requires-2 c =
    let items : c.push_reserved.new.self.items ≡ Some (stored c.of.result.value []) ∷ [] = search rules in
    starts c.of.result.value c.args.shares c.args.calls c.push_reserved.new.self.items items c.requires.some_share c.requires.few_shares c.requires.few_calls
