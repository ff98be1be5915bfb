-- What `board` does: it takes its election, reads its journal, and writes the page for those who hold the paper.
use Rattle.std.specs.Prelude.{ℕ, List}
use Rattle.vx_io.specs.Outside.{Files}
use Rattle.vx_command.specs.Acts.{Outcome}
use Rattle.vx_account.specs.Outcome.{account_outcome}
use Rattle.vx_board.specs.Data.{board_text}

-- `board` for the election under a name, by a seed's word and a size, over the records of its journal
abbrev pub board_outcome : List ℕ → List ℕ → ℕ → Files → List (List ℕ) → Outcome
board_outcome election seed size files records =
    account_outcome (λ given kept. board_text given kept seed size) election files records
