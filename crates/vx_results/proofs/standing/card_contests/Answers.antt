use Rattle.std.proofs.Common.{◌≡◌, ◌++◌, ◌∷◌, [], rules}
use Rattle.vx_base.proofs.Ranges.{map-laid}
use Rattle.vx_styles.specs.Cards.{contests_of_card}
use Rattle.vx_results.proofs.standing.card_contests.Goals as goal

pub loop-card-preserved : goal.loop-card-preserved
loop-card-preserved c =
    let card = c.loop-card.card in
    let step : c.push.new.self.items ≡ c.loop-card.lists.items ++ contests_of_card c.args.election.now card ∷ [] = search rules in
    map-laid (contests_of_card c.args.election.now) [] c.loop-card.lists.items c.push.new.self.items card c.loop-card.invariant step
