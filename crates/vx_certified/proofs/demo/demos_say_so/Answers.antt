use Rattle.std.proofs.Common.{◌≡◌, ◌≤◌, ◌*◌, ℕ, List, ◌++◌, length, sym, subst, arith}
use Rattle.vx_command.specs.Texts.{Wrote}
use Rattle.vx_command_demo.specs.Summary.{head_line, pages_line}
use Rattle.vx_certified.proofs.demo.demos_say_so.Goals as goal

pub returns : goal.returns
returns c seed sheets taken taken_now held held_now answer done =
    let demo = c.demo_has_three_cards.ensures in
    let says = c.demo_says_so.ensures seed sheets demo.election demo.plans demo.is_read demo.are_planned taken taken_now held held_now answer done in
    let cards = demo.three in
    let two : says.pages ≡ 2 * sheets = says.two_a_sheet (omega (arith, cards)) in
    let Says : ℕ → Type 0 = λ pages. Wrote (head_line seed sheets ++ pages_line pages pages pages ++ says.more) taken taken_now answer in
    record { more = says.more; wrote = subst Says two says.wrote }
