use Rattle.std.proofs.Common.{◌≡◌, ◌∙◌, sym, ap, refl, length}
use Rattle.std.proofs.lemmas.Option.{slice_get_read, slice_get_past}
use Rattle.vx_rules.specs.Reasons.{is_marked}
use Rattle.vx_center.proofs.Numbered.{passes, option-marked}
use Rattle.vx_center.proofs.counting.is_read_marked.Goals as goal

pub returns-in-Some : goal.returns-in-Some
returns-in-Some c =
    let states = c.args.states.now in
    let there = slice_get_read states (length states) c.args.option c.in-Some.state.now refl c.in-Some.ensures.lookup.3.0 c.in-Some.ensures.lookup.1 in
    c.is_marked.ensures ∙ sym (option-marked states c.args.option ∙ ap (passes is_marked) there)

pub returns-in-None : goal.returns-in-None
returns-in-None c =
    let states = c.args.states.now in
    sym (option-marked states c.args.option ∙ ap (passes is_marked) (slice_get_past states c.args.option c.in-None.ensures.lookup.3))
