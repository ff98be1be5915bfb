use Rattle.std.proofs.Common.{◌≡◌, ◌-◌}
use Rattle.vx_records.specs.Characters.{followers_in}
use Rattle.vx_records.proofs.characters.followers.Given as goal

-- the bytes that are left
abbrev pub invariant-loop-done : goal.invariant-loop-done
invariant-loop-done l =
    followers_in l.count l.fn.range.0 l.fn.range.1 l.text ≡ followers_in (l.count - l._done) l.low l.high l.rest
