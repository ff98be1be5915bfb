use Rattle.std.proofs.Common.{◌≡◌, true, sym, ap, ◌∙◌}
use Rattle.vx_election_model.specs.Options.{options_of}
use Rattle.vx_election_model.specs.declared.contest.Contest.{Contest}
use Rattle.vx_election_model.specs.declared.reason.ReasonSet.{ReasonSet}
use Rattle.vx_rules.specs.Reasons.{holds, is_enabled}
use Rattle.vx_command_demo.proofs.Held.{all-enabled, and-true, is-there}
use Rattle.vx_command_demo.proofs.reasons.has.Goals as goal

pub contest_at-contest-requires : goal.contest_at-contest-requires
contest_at-contest-requires c = (is-there c.args.election.now c.args.marks.now c.requires).there

pub reasons-held-requires : goal.reasons-held-requires
reasons-held-requires c = (is-there c.args.election.now c.args.marks.now c.requires).states ∙ ap options_of (sym c.contest_at-contest.ensures)

pub returns : goal.returns
returns c =
    let enabled : is_enabled c.of-all.result c.args.reason ≡ true =
    ap (λ (set : ReasonSet). is_enabled set c.args.reason) c.of-all.ensures ∙ all-enabled c.args.reason in
    c.has.ensures
    ∙ (c.reasons-held.ensures.each c.args.reason
    ∙ (and-true (holds c.contest_at-contest.result.now c.args.marks.now.states c.args.blank c.args.reason) (is_enabled c.of-all.result c.args.reason) enabled
    ∙ ap (λ (contest : Contest). holds contest c.args.marks.now.states c.args.blank c.args.reason) c.contest_at-contest.ensures))
