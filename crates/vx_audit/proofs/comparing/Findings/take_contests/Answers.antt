use Rattle.std.proofs.Common.{◌∙◌, ap, List, subst}
use Rattle.std.specs.List.{flat_map}
use Rattle.vx_audit.specs.Found.{Finds, pair_lines}
use Rattle.vx_audit.specs.Pairs.{Pair, pairs_at_place}
use Rattle.vx_audit.proofs.Looked.{all-looked}
use Rattle.vx_audit.proofs.comparing.Findings.take_contests.Goals as goal

pub returns : goal.returns
returns c =
    let all = ap (flat_map (pairs_at_place c.args.contests.now c.args.hand.now c.args.at c.args.one.now)) c.as_slice.ensures.value
    ∙ all-looked c.args.contests.now c.args.hand.now c.args.at c.args.one.now c.in_ok-places.places.items c.in_ok-places.ensures c.requires in
    subst (λ (pairs : List Pair). Finds (pair_lines pairs) pairs c.args.self.now c.take_places.new.self) all c.in_ok-take_places.ensures
