use Rattle.vx_risk.proofs.Drawn.{AreTooFew}
use Rattle.vx_risk.proofs.enough.enough_draws.Given as goal

abbrev pub invariant-loop-drawn : goal.invariant-loop-drawn
invariant-loop-drawn l = AreTooFew l.records l.margin l.limit l.numerator l.denominator l.drawn
