use Rattle.std.proofs.Common.{◌≡◌, ◌∙◌, sym, length, refl, arith}
use Rattle.vx_code.specs.Bits.{bits_of_number}
use Rattle.vx_code.specs.Code.{shown_by}
use Rattle.vx_code.proofs.Numbers.{length-bits_of_number, fits_more}
use Rattle.vx_code.proofs.Pairs.{length-shown_by, get-shown_by, read_more, bits_shown_by-first, all_read}
use Rattle.vx_code.proofs.reading.read_number.Goals as goal

pub loop-n-init : goal.loop-n-init
unfolding bits_of_number
loop-n-init c = record { shown = refl; fits = omega arith }

pub loop-n-preserved : goal.loop-n-preserved
loop-n-preserved c =
    let size : length (shown_by c.args.counts.now) ≡ 42 = length-shown_by c.args.counts.now 42 (omega arith) in
    rw c.from.ensures
    record {
      shown = read_more c.args.counts.now c.loop-n.n c.loop-n.number c.in-Some.bit (omega arith) (omega arith) (sym c.in-Some.ensures) c.loop-n.invariant.shown;
      fits = fits_more c.loop-n.n c.loop-n.number c.in-Some.bit c.loop-n.invariant.fits;
    }

pub returns-in-None : goal.returns-in-None
returns-in-None c =
    bits_shown_by-first c.args.counts.now (bits_of_number c.loop-n.n c.loop-n.number) c.loop-n.n
    (length-bits_of_number c.loop-n.n c.loop-n.number)
    c.loop-n.invariant.shown
    (get-shown_by c.args.counts.now c.loop-n.n (omega arith) ∙ sym c.in-None.ensures)

pub returns : goal.returns
returns c =
    let size : length (shown_by c.args.counts.now) ≡ 42 = length-shown_by c.args.counts.now 42 (omega arith) in
    all_read c.args.counts.now c.loop-n.n c.loop-n.number 42 (omega arith) size c.loop-n.invariant.fits c.loop-n.invariant.shown
