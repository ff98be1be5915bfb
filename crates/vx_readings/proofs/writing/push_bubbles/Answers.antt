use Rattle.std.proofs.Common.{◌≡◌, ◌<◌, ◌++◌, ℕ, length, get_or, string_bytes, ap, ◌∙◌, arith}
use Rattle.std.specs.List.{flat_map, range_with_len}
use Rattle.std.proofs.lemmas.List.{get_or_default}
use Rattle.vx_grid.specs.declared.state.State.{State}
use Rattle.vx_grid.specs.declared.state.State.TheVariants.{Marked, Clear}
use Rattle.vx_base.proofs.Ranges.{flat_map-laid}
use Rattle.vx_readings.specs.ReadingText.{no_bubble, bubble_line, line_at, bubble_lines}
use Rattle.vx_readings.proofs.writing.push_bubbles.Goals as goal

pub loop-number-preserved : goal.loop-number-preserved
loop-number-preserved c =
    let bubbles = c.args.bubbles.now in
    let scores = c.args.scores.now in
    let states = c.args.states.now in
    let number = c.loop-number.number in
    let so_far = string_bytes c.loop-number.text in
    let there : number < length states = omega arith in
    flat_map-laid (line_at bubbles scores states) (string_bytes c.args.text.now) so_far (string_bytes c.push_bubble.new.text) number
    c.loop-number.invariant
    (c.in_ok-push_bubble.ensures
    ∙ ap (λ (state : State). so_far ++ bubble_line number (get_or bubbles number no_bubble) (get_or scores number 0) state) (get_or_default states number Marked Clear there))

pub returns : goal.returns
unfolding bubble_lines
returns c =
    let all : c.loop-number.number ≡ length c.args.bubbles.now = omega arith in
    c.loop-number.invariant
    ∙ ap (λ (n : ℕ). string_bytes c.args.text.now ++ flat_map (line_at c.args.bubbles.now c.args.scores.now c.args.states.now) (range_with_len 0 n)) all
