use Rattle.std.proofs.Common.{◌≡◌, ◌∙◌, ◌++◌, ap, sym, arith, List, ℕ, append-nil}
use Rattle.std.proofs.lemmas.List.{drop_all}
use Rattle.vx_grid.specs.declared.state.State.{State}
use Rattle.vx_rules.specs.Reasons.{is_marked}
use Rattle.vx_events.specs.Ascending.{is_ascending}
use Rattle.vx_center.specs.Finals.{options_from, marked_options}
use Rattle.vx_center.proofs.Numbered.{options-ascend}
use Rattle.vx_center.proofs.exporting.marked.Goals as goal

pub from_ascending-requires : goal.from_ascending-requires
from_ascending-requires c =
    let states = c.args.states.now in
    let items = c.loop-state.options.items in
    let rest = drop_all c.loop-state.state-index states c.loop-state-test.false in
    let same : items ≡ marked_options states =
    sym (append-nil items)
    ∙ ap (λ (left : List State). items ++ options_from is_marked c.loop-state.number left) (sym rest)
    ∙ c.loop-state.invariant.same in
    ap is_ascending same ∙ options-ascend is_marked 0 0 states (omega arith)
