use Rattle.std.proofs.Common.{◌≡◌, ◌-◌}
use Rattle.vx_records.specs.Characters.{character_in, next_place}
use Rattle.vx_records.specs.Parts.{each_in, passed}
use Rattle.vx_records.proofs.characters.characters.Given as goal

-- the characters that are left
abbrev pub invariant-loop-seen : goal.invariant-loop-seen
invariant-loop-seen l =
    passed (each_in character_in next_place 256 l.initial.room l.text)
    ≡ passed (each_in character_in next_place (256 - l._seen) l.room l.rest)
