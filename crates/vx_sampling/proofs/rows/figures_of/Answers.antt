use Rattle.std.proofs.Common.{refl, map}
use Rattle.vx_sampling.specs.Findings.{votes_of}
use Rattle.vx_sampling.proofs.Counted.{are_of, figures_are}
use Rattle.vx_sampling.proofs.rows.figures_of.Goals as goal

pub returns : goal.returns
returns c =
    let findings = c.args.findings.now in
    let ones = c.how_many-one.ensures in
    let twos = c.how_many-two.ensures in
    figures_are findings c.args.records c.args.limit c.args.margin _ _ _ _ _ _ ones twos c.missing-missing.ensures
    (c.in_ok-bound.ensures.millionths (map votes_of findings) (are_of findings _ refl ones twos c.requires.few))
    (c.in_ok-bound.ensures.met (map votes_of findings) (are_of findings _ refl ones twos c.requires.few))
    c.in_ok-enough.ensures
