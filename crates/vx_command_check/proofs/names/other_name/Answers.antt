use Rattle.std.proofs.Common.{sym}
use Rattle.std.proofs.lemmas.List.{drop_more}
use Rattle.vx_command_check.proofs.NamedBubbles.{names-more, names-other, names-all}
use Rattle.vx_command_check.proofs.names.other_name.Goals as goal

pub loop-place-preserved : goal.loop-place-preserved
loop-place-preserved c =
    names-more c.args.first c.args.names.now c.args.bubbles.now c.loop-place.place c.loop-place.invariant _
    (drop_more c.args.names.now c.loop-place.place (record { contest = 0; option = 0 }) c.loop-place-test.true)
    (sym c.if-not-is_named.ensures)

pub returns-then-not-is_named : goal.returns-then-not-is_named
returns-then-not-is_named c =
    sym (names-other c.args.first c.args.names.now c.args.bubbles.now c.loop-place.place c.loop-place.invariant _
    (drop_more c.args.names.now c.loop-place.place (record { contest = 0; option = 0 }) c.loop-place-test.true)
    (sym c.if-not-is_named.ensures))

pub returns : goal.returns
returns c = sym (names-all c.args.first c.args.names.now c.args.bubbles.now c.loop-place.place c.loop-place.invariant c.loop-place-test.false)
