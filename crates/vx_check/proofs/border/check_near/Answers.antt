use Rattle.std.proofs.Common.{◌≡◌, ◌∙◌, arith}
use Rattle.std.proofs.lemmas.Int.{ints}
use Rattle.vx_mark_model.specs.Region.{is_in}
use Rattle.vx_mark_model.specs.Best.{near}
use Rattle.vx_check.proofs.Places.{same-test, near-same}
use Rattle.vx_check.proofs.border.check_near.Goals as goal

pub returns : goal.returns
returns c =
    let predicted = c.args.predicted in
    let place = c.args.place in
    let so : c.is_near.result ≡ is_in (near predicted) place =
    same-test c.is_near.result (is_in (near predicted) place) c.is_near.ensures (c.places_are_tested.ensures.region (near predicted) place) in
    c.passes.ensures
    ∙ near-same c.args.k predicted place c.is_near.result _ _ so
    (omega (arith, ints, c.requires.place.u.low, c.requires.place.u.high, c.requires.predicted.u.low, c.requires.predicted.u.high))
    (omega (arith, ints, c.requires.place.v.low, c.requires.place.v.high, c.requires.predicted.v.low, c.requires.predicted.v.high))
