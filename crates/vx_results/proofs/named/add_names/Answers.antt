use Rattle.std.proofs.Common.{◌≡◌, ◌<◌, ◌∙◌, List, arith, length, refl, subst, take}
use Rattle.std.specs.List.{flat_map}
use Rattle.std.proofs.lemmas.List.{take_all}
use Rattle.std.proofs.lemmas.Option.{slice_get_read}
use Rattle.vx_center.specs.declared.rows.Final.{Final}
use Rattle.vx_results.specs.Named.{named_in}
use Rattle.vx_results.specs.Sums.{AddsEach}
use Rattle.vx_results.proofs.Adds.{each_next}
use Rattle.vx_results.proofs.named.add_names.Goals as goal

pub loop-counted-preserved : goal.loop-counted-preserved
loop-counted-preserved c =
    let finals = c.as_slice-counted-items.result.now in
    let i = c.loop-counted.counted-index in
    let less : i < length finals = omega (arith, c.loop-counted-test.true, c.loop-counted.auto.counted-index-end) in
    each_next (named_in c.args.election.now) finals i c.counted-item.result _ c.loop-counted.names.items c.add_final.new.names.items
    (slice_get_read finals (length finals) i c.counted-item.result refl less c.counted-item.is)
    c.loop-counted.invariant c.in_ok-add_final.ensures

pub returns : goal.returns
returns c =
    let finals = c.as_slice-counted-items.result.now in
    let i = c.loop-counted.counted-index in
    let all : take i finals ≡ finals = take_all i finals (omega (arith, c.loop-counted-test.false, c.loop-counted.auto.counted-index-end)) in
    subst (λ (some : List Final). AddsEach (λ contest. flat_map (named_in c.args.election.now contest) some) c.args.names.now.items c.loop-counted.names.items)
    (all ∙ c.as_slice-counted-items.ensures) c.loop-counted.invariant
