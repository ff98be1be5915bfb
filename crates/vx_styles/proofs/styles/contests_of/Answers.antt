use Rattle.std.specs.List.{All}
use Rattle.std.proofs.Common.{◌≡◌, ℕ, ◌<◌, ◌≤◌, List, length, rules, sym, subst}
use Rattle.vx_styles.specs.Cards.{contests_of_card}
use Rattle.vx_styles.proofs.CardLaws.{few-contests, contests-there}
use Rattle.vx_styles.proofs.styles.contests_of.Goals as goal

pub returns-clause-few : goal.returns-clause-few
returns-clause-few c =
    let same : c.from_vec.result ≡ contests_of_card c.args.election.now c.args.card = search rules in
    subst (λ (places : List ℕ). length places ≤ 500) (sym same) (few-contests c.args.election.now c.args.card c.requires.valid)

pub returns-clause-there : goal.returns-clause-there
returns-clause-there c =
    let same : c.from_vec.result ≡ contests_of_card c.args.election.now c.args.card = search rules in
    subst (All (λ place. place < length c.args.election.now.contests)) (sym same) (contests-there c.args.election.now c.args.card)
