-- A sheet whose text is written.
use Rattle.std.proofs.Common.{ℕ, List, [], ◌∷◌, Ok, Err}
use Rattle.vx_command.specs.Acts.{Answer, Write, after, writing}
use Rattle.vx_command.specs.Done.{Taken, IsWritten}
use Rattle.vx_command.specs.Laws.{ActLaws}
use Rattle.vx_walk.specs.Steps.{WalksSheet}

-- it is written, or not whole
pub sheet-written : ActLaws → (text : List ℕ) (a b : Taken) (answer : Answer) → IsWritten (writing text) a b answer → WalksSheet (after (Write text ∷ [])) a b answer
sheet-written laws text a b (Ok done) written = λ rest held. laws.done (Write text ∷ []) rest a b held held (written held)
sheet-written laws text a b (Err cause) written = λ rest held. laws.broken (Write text ∷ []) rest a b held held cause (written held)
