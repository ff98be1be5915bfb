use Rattle.std.proofs.Common.{Bool, List, ap, ap₂, sym, ◌∙◌}
use Rattle.std.proofs.lemmas.Result.{IfOk-weaker}
use Rattle.vx_plane.specs.Plane.{Page}
use Rattle.vx_scan_model.specs.Reading.{reading_of}
use Rattle.vx_command_demo.specs.Adding.{sums_of_read}
use Rattle.vx_command_demo.specs.Trials.{Trial, printed_page, try_page}
use Rattle.vx_command_demo.proofs.Adding.{one-page}
use Rattle.vx_command_demo.proofs.pages.try_page.Goals as goal

pub returns-clause-read : goal.returns-clause-read
returns-clause-read g c =
    IfOk-weaker c.judge.result _ _ (λ judged is. is ∙ ap (reading_of c.args.election.now) c.in_ok-simulated.ensures.scan) c.judge.ensures.read

pub returns-clause-sums : goal.returns-clause-sums
returns-clause-sums g c =
    let trial : Trial = (try_page c.args.election.now c.args.card c.args.plan.now c.args.rng.now).0 in
    IfOk-weaker c.judge.result _ _
    (λ judged is.
    is
    ∙ ap₂ (λ (marks : List Bool) (scan : Page). sums_of_read c.args.election.now (printed_page c.args.card c.args.plan.now) marks scan (reading_of c.args.election.now scan))
    c.in_ok-simulated.ensures.marks c.in_ok-simulated.ensures.scan
    ∙ sym (one-page c.args.election.now trial))
    c.judge.ensures.sums
