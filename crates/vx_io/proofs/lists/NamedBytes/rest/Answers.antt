use Rattle.std.proofs.Common.{arith, length, ◌<◌}
use Rattle.std.proofs.lemmas.Grind.{common_steps}
use Rattle.vx_io.proofs.Found.{found_there, IsSome-there, inside_found}
use Rattle.vx_io.proofs.lists.NamedBytes.rest.Goals as goal

pub unwrap-bytes-requires : goal.unwrap-bytes-requires
unwrap-bytes-requires c = IsSome-there c.find.result c.args.at (found_there _ c.find.result c.args.at c.find.ensures c.requires)

pub slice_bounds-result-count : goal.slice_bounds-result-count
slice_bounds-result-count c =
    let inside = inside_found c.find.result c.unwrap-bytes.result c.args.at c.unwrap-bytes.ensures (found_there _ c.find.result c.args.at c.find.ensures c.requires) in
    let bound : c.args.at < length c.as_slice.result.now = rw c.as_slice.ensures inside in
    omega arith

pub slice_bounds-result-start : goal.slice_bounds-result-start
slice_bounds-result-start c =
    let inside = inside_found c.find.result c.unwrap-bytes.result c.args.at c.unwrap-bytes.ensures (found_there _ c.find.result c.args.at c.find.ensures c.requires) in
    let bound : c.args.at < length c.as_slice.result.now = rw c.as_slice.ensures inside in
    omega arith

pub returns-clause-some : goal.returns-clause-some
returns-clause-some c =
    let inside = inside_found c.find.result c.unwrap-bytes.result c.args.at c.unwrap-bytes.ensures (found_there _ c.find.result c.args.at c.find.ensures c.requires) in
    let bound : c.args.at < length c.as_slice.result.now = rw c.as_slice.ensures inside in
    grind (arith, common_steps)
