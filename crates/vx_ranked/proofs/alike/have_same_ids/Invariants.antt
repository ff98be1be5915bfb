use Rattle.std.proofs.Common.{◌≡◌, drop}
use Rattle.std.specs.Prelude.{bytes_eq}
use Rattle.std.specs.Cmp.Lexicographic.{pointwise}
use Rattle.vx_election_model.specs.Lists.{choice_ids}
use Rattle.vx_ranked.proofs.alike.have_same_ids.Given as goal

abbrev pub invariant-loop-index : goal.invariant-loop-index
invariant-loop-index l = pointwise bytes_eq (choice_ids (drop l.index l.one)) (choice_ids (drop l.index l.other))
    ≡ pointwise bytes_eq (choice_ids l.one) (choice_ids l.other)
