use Rattle.std.proofs.Common.{◌≡◌, ◌∙◌, Some, ap, rules}
use Rattle.vx_cvr.specs.Votes.{name_of, votes_of}
use Rattle.vx_results.specs.Named.{words_in}
use Rattle.vx_results.specs.Sums.{raised}
use Rattle.vx_results.proofs.Adds.{words_some}
use Rattle.vx_results.proofs.named.add_option.Goals as goal

pub returns-in_ok-add-in-Some : goal.returns-in_ok-add-in-Some
returns-in_ok-add-in-Some c =
    let contest = c.args.contest.now in
    let counted = c.args.counted.now in
    let words = c.in-Some.words.now in
    let some : Some words ≡ words_in (name_of contest counted c.args.option) = search rules in
    let added : c.add.new.self ≡ raised c.args.names.now words c.votes_of.result = c.in_ok-add-in-Some.ensures in
    words_some (words_in (name_of contest counted c.args.option)) words (votes_of contest counted c.args.option) c.args.names.now c.add.new.self some
    (added ∙ ap (raised c.args.names.now words) c.votes_of.ensures)
