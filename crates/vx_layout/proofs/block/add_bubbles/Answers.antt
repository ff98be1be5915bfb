use Rattle.std.proofs.Common.{◌≡◌, ℕ, ◌+◌, ◌++◌, ◌∷◌, [], map, ap, ◌∙◌, arith}
use Rattle.std.specs.List.{range_with_len}
use Rattle.vx_election_model.specs.Options.{options_of}
use Rattle.vx_layout.specs.declared.bubbles.Bubble.{Bubble}
use Rattle.vx_layout.specs.Blocks.{option_bubble, block_bubbles}
use Rattle.vx_base.proofs.Ranges.{map-laid}
use Rattle.vx_layout.proofs.block.add_bubbles.Goals as goal

pub loop-option-preserved : goal.loop-option-preserved
loop-option-preserved c =
    let bubble : ℕ → Bubble = λ rows. record { contest = c.args.number; option = c.loop-option.option; col = c.args.col; row = c.args.row + rows + c.loop-option.option } in
    map-laid (option_bubble c.args.number c.args.contest.now c.args.col c.args.row) c.args.bubbles.now c.loop-option.bubbles c.push.new.self c.loop-option.option
    c.loop-option.invariant
    (c.in_ok-push.ensures ∙ ap (λ (rows : ℕ). c.loop-option.bubbles ++ bubble rows ∷ []) c.heading_rows.ensures.exact)

pub returns : goal.returns
unfolding block_bubbles
returns c =
    let all : c.loop-option.option ≡ options_of c.args.contest.now = omega (arith, c.options-count.ensures) in
    c.loop-option.invariant
    ∙ ap (λ (n : ℕ). c.args.bubbles.now ++ map (option_bubble c.args.number c.args.contest.now c.args.col c.args.row) (range_with_len 0 n)) all
