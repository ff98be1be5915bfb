use Rattle.std.proofs.Common.{ap, sym, ◌∙◌, w8}
use Rattle.std.proofs.lemmas.Nat.Bits.{bit_at_set_same, bit_at_set_other, bit_at_clear_same, bit_at_clear_other}
use Rattle.vx_plane.specs.Count.{one_if}
use Rattle.vx_bits.proofs.packed.with_bit.Goals as goal

pub returns-then-dark-clause-same : goal.returns-then-dark-clause-same
returns-then-dark-clause-same c = bit_at_set_same w8 c.args.byte c.args.index c.requires ∙ ap one_if (sym c.if-dark.true)

pub returns-then-dark-clause-others : goal.returns-then-dark-clause-others
returns-then-dark-clause-others c = λ i h ne. bit_at_set_other w8 c.args.byte c.args.index c.requires i ne

pub returns-else-dark-clause-same : goal.returns-else-dark-clause-same
returns-else-dark-clause-same c = bit_at_clear_same w8 c.args.byte c.args.index c.requires ∙ ap one_if (sym c.if-dark.false)

pub returns-else-dark-clause-others : goal.returns-else-dark-clause-others
returns-else-dark-clause-others c = λ i h ne. bit_at_clear_other w8 c.args.byte c.args.index c.requires i h ne
