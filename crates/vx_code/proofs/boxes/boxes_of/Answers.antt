use Rattle.std.proofs.Common.{◌≡◌, ◌∙◌, length, arith}
use Rattle.std.specs.List.{flat_map}
use Rattle.std.proofs.Math.ListN.{length-set}
use Rattle.vx_code.specs.Code.{pair_of, bits_of, boxes_of}
use Rattle.vx_code.proofs.Fields.{length-bits_of, bit_of_code, same_codes}
use Rattle.vx_code.proofs.Pairs.{printed_more, same_bits, all_printed}
use Rattle.vx_code.proofs.boxes.boxes_of.Goals as goal

pub loop-n-preserved : goal.loop-n-preserved
loop-n-preserved c =
    let width : length (bits_of c.args.code.now) ≡ 42 = length-bits_of c.args.code.now in
    let room = c.loop-n.invariant.room in
    record {
      room = simp length-set room;
      printed = printed_more c.loop-n.boxes (bits_of c.args.code.now) c.loop-n.n _ (omega arith) (omega arith)
          (bit_of_code c.args.code.now c.number_of-number.result c.loop-n.n c.number_of-number.ensures.exact (omega arith))
          c.loop-n.invariant.printed;
    }

-- the boxes are those of the code's bits
printed : (c : goal.After-loop-n) → c.loop-n.boxes ≡ flat_map pair_of (bits_of c.args.code.now)
printed c =
    let all : c.loop-n.n ≡ 42 = omega arith in
    all_printed c.loop-n.boxes (bits_of c.args.code.now) 42 c.loop-n.invariant.room (length-bits_of c.args.code.now)
    (rw all at c.loop-n.invariant.printed)

pub returns-clause-exact : goal.returns-clause-exact
unfolding boxes_of
returns-clause-exact c = printed c

pub returns-clause-distinct : goal.returns-clause-distinct
unfolding boxes_of
returns-clause-distinct c =
    λ other fits e.
    same_codes other c.args.code.now fits c.requires (same_bits (bits_of other) (bits_of c.args.code.now) (e ∙ printed c))
