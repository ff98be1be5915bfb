use Rattle.std.proofs.Common.{◌≡◌, ◌-◌, ◌+◌, ◌∙◌, arith, sym, true, false}
use Rattle.vx_json.specs.Reading.{is_within}
use Rattle.vx_records.proofs.Loops.{followers_none, followers_bad, followers_good, followers_end}
use Rattle.vx_records.proofs.characters.followers.Goals as goal

pub returns-in-None : goal.returns-in-None
returns-in-None c =
    c.loop-done.invariant ∙ followers_none (c.args.count - c.loop-done._done) (c.args.count - (c.loop-done._done + 1)) c.loop-done.low c.loop-done.high c.loop-done.rest.now (omega arith) c.in-None.ensures

pub returns-then-not-is_between : goal.returns-then-not-is_between
returns-then-not-is_between c =
    let out : is_within c.loop-done.low c.loop-done.high c.in-Some.byte ≡ false = cc (c.is_between.ensures) in
    c.loop-done.invariant ∙ followers_bad (c.args.count - c.loop-done._done) (c.args.count - (c.loop-done._done + 1)) c.loop-done.low c.loop-done.high c.in-Some.byte c.loop-done.rest.now c.in-Some.further.now (omega arith) c.in-Some.ensures out

pub loop-done-preserved : goal.loop-done-preserved
loop-done-preserved c =
    let inside : is_within c.loop-done.low c.loop-done.high c.in-Some.byte ≡ true = cc (c.is_between.ensures) in
    c.loop-done.invariant ∙ followers_good (c.args.count - c.loop-done._done) (c.args.count - (c.loop-done._done + 1)) c.loop-done.low c.loop-done.high c.in-Some.byte c.loop-done.rest.now c.in-Some.further.now (omega arith) c.in-Some.ensures inside

pub returns : goal.returns
returns c = c.loop-done.invariant ∙ followers_end (c.args.count - c.loop-done._done) c.loop-done.low c.loop-done.high c.loop-done.rest.now (omega arith)
