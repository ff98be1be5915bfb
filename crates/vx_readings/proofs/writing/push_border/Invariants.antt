use Rattle.std.proofs.Common.{◌≡◌, ◌<◌, ◌++◌, ◌∷◌, length, take, string_bytes}
use Rattle.std.specs.List.{flat_map}
use Rattle.vx_grid.specs.Marks.{marks}
use Rattle.vx_readings.specs.ReadingText.{place_word}
use Rattle.vx_readings.proofs.writing.push_border.Given as goal

-- the places so far stand behind the first word
abbrev pub invariant-loop-k : goal.invariant-loop-k
invariant-loop-k l = record {
  laid : string_bytes l.text ≡ string_bytes l.initial.text ++ flat_map (λ p. 32 ∷ place_word p) (take l.k l.border.places);
  all : 0 < l.k → length l.border.places ≡ marks l.border.paper;
}
