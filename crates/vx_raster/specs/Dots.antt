-- The dots of a glyph's column.
use Rattle.std.specs.Prelude.{◌≡◌, ℕ, ◌+◌, ◌*◌, ◌<◌, ◌≤◌, ◌==◌, pos, if◌then◌else◌}
use Rattle.std.specs.Int.{bit_at}
use Rattle.vx_plane.specs.Plane.{Pixels, nowhere, rectangle}

-- the dot of a bit of a column, 2 by 2 pixels, where the bit is set
abbrev pub bit_pixels : ℕ → ℕ → ℕ → ℕ → Pixels
bit_pixels bits x y row =
    if bit_at bits row == 1 then rectangle (pos x) (pos (y + 2 * row)) 2 2 else nowhere

-- the first run of dark dots of a column: so many light dots, and then so many dark ones
pub record IsFirstRun (bits light dark : ℕ) : Type 0 where
  pub lights : (i : ℕ) → i < light → bit_at bits i ≡ 0
  pub darks : (i : ℕ) → i < dark → bit_at bits (light + i) ≡ 1
  pub some : 0 < dark
  pub within : light + dark ≤ 7
