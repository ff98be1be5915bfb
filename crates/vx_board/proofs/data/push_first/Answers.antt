use Rattle.std.proofs.Common.{◌≡◌, ◌∙◌, List, map, ap, ap₂, subst, sym}
use Rattle.std.specs.Prelude.{All}
use Rattle.serde_json.specs.Data.{Data}
use Rattle.serde_json.specs.View.{view}
use Rattle.serde_json.specs.Written.{has_float}
use Rattle.vx_election_model.specs.declared.contest.Contest.{Contest}
use Rattle.vx_markup.specs.Json.{list}
use Rattle.vx_results.specs.Report.{HasFewOptions}
use Rattle.vx_board.specs.Contests.{contest_data}
use Rattle.vx_board.specs.Data.{first_data, first_with}
use Rattle.vx_board.proofs.Few.{options_few}
use Rattle.vx_board.proofs.Floatless.{first}
use Rattle.vx_board.proofs.data.push_first.Goals as goal

pub contests_value-requires : goal.contests_value-requires
contests_value-requires c =
    let Few : List Contest → Type 0 = λ contests. All HasFewOptions contests in
    subst Few (sym c.as_slice.ensures) (options_few c.args.election.now c.requires)

pub push_line-requires : goal.push_line-requires
push_line-requires c =
    let contests : view c.in_ok-contests.contests ≡ list (map contest_data c.args.election.now.contests) =
    c.in_ok-contests.ensures ∙ ap (λ (given : List Contest). list (map contest_data given)) c.as_slice.ensures in
    let value : view c.in_ok-value.value ≡ first_data c.args.election.now c.args.seed.now c.args.size c.args.records =
    c.in_ok-value.ensures
    ∙ ap₂ (λ (one other : Data). first_with c.args.election.now c.args.seed.now c.args.size c.args.records one other) c.in_ok-cards.ensures contests in
    ap has_float value ∙ first c.args.election.now c.args.seed.now c.args.size c.args.records
