-- What `results` and `summary` do: each takes its election, reads its journal, and writes an account of the kept events.
use Rattle.std.specs.Prelude.{ℕ, List}
use Rattle.vx_io.specs.Outside.{Files}
use Rattle.vx_command.specs.Acts.{Outcome}
use Rattle.vx_account.specs.Outcome.{account_outcome}
use Rattle.vx_results.specs.Results.{results_text}
use Rattle.vx_results.specs.Summary.{summary_text}

-- `results` for the election under a name, over the records of its journal
abbrev pub results_outcome : List ℕ → Files → List (List ℕ) → Outcome
results_outcome election files records = account_outcome results_text election files records

-- `summary` for the election under a name, over the records of its journal
abbrev pub summary_outcome : List ℕ → Files → List (List ℕ) → Outcome
summary_outcome election files records = account_outcome summary_text election files records
