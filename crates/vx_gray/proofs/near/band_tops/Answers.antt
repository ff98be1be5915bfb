use Rattle.std.proofs.Common.{◌≡◌, ◌+◌, ◌-◌, ◌*◌, ◌≤◌, min, arith}
use Rattle.vx_gray.proofs.Tops.{tops_more, tops_all}
use Rattle.vx_gray.proofs.near.band_tops.Goals as goal

pub loop-v-preserved : goal.loop-v-preserved
loop-v-preserved c =
    let start : 64 * c.args.band ≤ c.loop-v.v = omega arith in
    tops_more c.args.gray.now (64 * c.args.band) c.loop-v.v c.loop-v.tops.len c.loop-v.tops.items c.deref_mut.result.now c.row.result.now
    c.raise.new.tops
    start (omega (arith, c.height-height.ensures.value)) c.loop-v.invariant c.deref_mut.ensures.value c.row.ensures.values c.raise.auto.tops
    (omega arith) c.raise.ensures

pub returns : goal.returns
returns c =
    let end : c.loop-v.v - 64 * c.args.band ≡ min (64 * c.args.band + 64) c.args.gray.now.height - 64 * c.args.band =
    omega (arith, c.height-height.ensures.value) in
    tops_all c.args.gray.now (64 * c.args.band) 64 c.loop-v.v c.loop-v.tops.items
    end c.loop-v.invariant
