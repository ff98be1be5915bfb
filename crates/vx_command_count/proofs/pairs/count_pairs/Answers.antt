use Rattle.std.proofs.Common.{◌+◌, ◌*◌, ◌≤◌, ◌++◌, List, length, Err, refl, ap, subst, ◌∙◌, arith}
use Rattle.std.proofs.lemmas.List.{drop_all}
use Rattle.std.proofs.lemmas.Result.{err_from_is_err_and}
use Rattle.vx_plane.specs.Plane.{Page}
use Rattle.vx_command.specs.Done.{ComesTo}
use Rattle.vx_command_count.specs.Outcome.{with_images}
use Rattle.vx_command_count.proofs.ImageActs.{one-halts, one-more, stands-at, zip-length}
use Rattle.vx_command_count.proofs.pairs.count_pairs.Goals as goal

pub count_pair-requires-clause-few : goal.count_pair-requires-clause-few
count_pair-requires-clause-few g c =
    omega (arith, zip-length c.args.setting.now.election.now c.args._images.now c.args.reads.now c.requires.reads, c.loop-pair.invariant.sheets, c.requires.few)

pub count_pair-requires-clause-first : goal.count_pair-requires-clause-first
count_pair-requires-clause-first g c =
    (stands-at c.args.setting.now.election.now c.args._images.now c.args.reads.now (2 * c.loop-pair.pair) c.read_at-first.result.now c.requires.reads c.read_at-first.ensures).is.of_page

pub count_pair-requires-clause-second : goal.count_pair-requires-clause-second
count_pair-requires-clause-second g c =
    (stands-at c.args.setting.now.election.now c.args._images.now c.args.reads.now (2 * c.loop-pair.pair + 1) c.read_at-second.result.now c.requires.reads c.read_at-second.ensures).is.of_page

pub returns-in_err-count_pair-clause-counts : goal.returns-in_err-count_pair-clause-counts
returns-in_err-count_pair-clause-counts g c more =
    let err = err_from_is_err_and c.from_residual.result c.from_residual.ensures.1 in
    rw (err.1 ∙ ap Err err.2)
    (λ rest. one-halts c.acts_in_order.ensures c.args.setting.now.election.now c.args.setting.now.batch.now c.args._images.now c.args.reads.now c.requires.reads c.loop-pair.pair
    c.read_at-first.result.now c.read_at-second.result.now c.read_at-first.ensures c.read_at-second.ensures c.args.counting.now c.loop-pair.counting more rest
    (g.S.Sink.taken c.args.out.now) (g.S.Sink.taken c.loop-pair.out) (g.S.Sink.taken c.count_pair.new.out)
    (g.K.Keeper.held c.args.keeper.now) (g.K.Keeper.held c.loop-pair.keeper) (g.K.Keeper.held c.count_pair.new.keeper)
    c.in_err-count_pair.field-0.0 (c.loop-pair.invariant.comes more rest) c.in_err-count_pair.ensures.done)

pub loop-pair-preserved : goal.loop-pair-preserved
loop-pair-preserved g c = record {
  comes = λ more rest. one-more c.acts_in_order.ensures c.args.setting.now.election.now c.args.setting.now.batch.now c.args._images.now c.args.reads.now c.requires.reads c.loop-pair.pair
      c.read_at-first.result.now c.read_at-second.result.now c.read_at-first.ensures c.read_at-second.ensures c.args.counting.now c.loop-pair.counting c.count_pair.new.counting more rest
      (g.S.Sink.taken c.args.out.now) (g.S.Sink.taken c.loop-pair.out) (g.S.Sink.taken c.count_pair.new.out)
      (g.K.Keeper.held c.args.keeper.now) (g.K.Keeper.held c.loop-pair.keeper) (g.K.Keeper.held c.count_pair.new.keeper)
      (c.loop-pair.invariant.comes more rest) c.in_ok-count_pair.ensures.done c.in_ok-count_pair.ensures.next;
  election = c.in_ok-count_pair.ensures.election;
  sheets = omega (arith, c.in_ok-count_pair.ensures.more, c.loop-pair.invariant.sheets);
  no_write_fault = c.in_ok-count_pair.ensures.devices.sink.still refl ∙ c.loop-pair.invariant.no_write_fault;
  no_keeper_fault = c.in_ok-count_pair.ensures.devices.keeper.still refl ∙ c.loop-pair.invariant.no_keeper_fault;
}

pub returns-clause-counts : goal.returns-clause-counts
returns-clause-counts g c more rest =
    let all : length c.args._images.now ≤ 2 * c.loop-pair.pair = omega (arith, zip-length c.args.setting.now.election.now c.args._images.now c.args.reads.now c.requires.reads, c.requires.even) in
    let To : List Page → Type 0 = λ left. ComesTo (with_images c.args.setting.now.election.now c.args.setting.now.batch.now c.args.counting.now (c.args._images.now ++ more) rest) (with_images c.args.setting.now.election.now c.args.setting.now.batch.now c.loop-pair.counting (left ++ more) rest) (g.S.Sink.taken c.args.out.now) (g.S.Sink.taken c.loop-pair.out) (g.K.Keeper.held c.args.keeper.now) (g.K.Keeper.held c.loop-pair.keeper) in
    subst To (drop_all (2 * c.loop-pair.pair) c.args._images.now all) (c.loop-pair.invariant.comes more rest)

pub returns-clause-more : goal.returns-clause-more
returns-clause-more g c =
    omega (arith, zip-length c.args.setting.now.election.now c.args._images.now c.args.reads.now c.requires.reads, c.requires.even, c.loop-pair.invariant.sheets)
