use Rattle.std.proofs.Common.{◌≡◌, ◌+◌, ◌/◌, ◌<◌, ℕ, length, get_or, List}
use Rattle.vx_gray.specs.Gray.{Gray, top_of}
use Rattle.vx_gray.proofs.near.halves_of.Given as goal

-- the halves of the first tiles of a band
pub record AreFirstHalves (gray : Gray) (down across : ℕ) (halves : List ℕ) : Type 0 where
  pub size : length halves ≡ across
  pub values : (a : ℕ) → a < across → get_or halves a 0 ≡ (top_of gray a down + 1) / 2

abbrev pub invariant-loop-across : goal.invariant-loop-across
invariant-loop-across l = AreFirstHalves l.gray l.down l.across l.halves.items
