use Rattle.std.proofs.Common.{◌≡◌, pos, SFits, w32, rules, sym}
use Rattle.std.proofs.lemmas.Int.{to_z-of_z}
use Rattle.vx_grid.proofs.MarkPlaces.{same-point}
use Rattle.vx_mark_model.specs.Mark.{IsInFrame}
use Rattle.vx_mark.specs.Search.{place_in}
use Rattle.vx_mark.proofs.Places.{accepted-up_to}
use Rattle.vx_mark.proofs.judge.accepted_deficit.Goals as goal

pub returns-then-wrong-le-MOST : goal.returns-then-wrong-le-MOST
returns-then-wrong-le-MOST c =
    let fit_u : SFits w32 c.args.place.u = search rules in
    let fit_v : SFits w32 c.args.place.v = search rules in
    let column : pos c.unsigned.result ≡ c.args.place.u = simp to_z-of_z at c.unsigned.ensures in
    let row : pos c.unsigned-2.result ≡ c.args.place.v = simp to_z-of_z at c.unsigned-2.ensures in
    let inside : IsInFrame c.args.counter.now c.args.place = search (rules, c.if-not-in_frame.ensures) in
    accepted-up_to c.args.counter.now c.args.place c.unsigned.result c.unsigned-2.result c.deficit_up_to-wrong.result
    (same-point c.args.place (place_in c.unsigned.result c.unsigned-2.result) (sym column) (sym row))
    inside c.deficit_up_to-wrong.ensures c.if-wrong-le-MOST.true
