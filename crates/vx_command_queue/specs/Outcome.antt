-- What `queue` does: it takes its election, reads its journal, and writes the contests that wait.
use Rattle.std.specs.Prelude.{ℕ, List}
use Rattle.vx_io.specs.Outside.{Files}
use Rattle.vx_command.specs.Acts.{Outcome}
use Rattle.vx_account.specs.Outcome.{account_outcome}
use Rattle.vx_command_queue.specs.Queue.{queue_text}

-- `queue` for the election under a name, over the records of its journal
abbrev pub queue_outcome : List ℕ → Files → List (List ℕ) → Outcome
queue_outcome election files records = account_outcome queue_text election files records
