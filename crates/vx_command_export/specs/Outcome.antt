-- What `export` does: it takes its election, reads its journal, and writes the report of the kept events piece by piece.
use Rattle.std.specs.Prelude.{ℕ, List, map}
use Rattle.vx_io.specs.Outside.{Files}
use Rattle.vx_command.specs.Acts.{Write, Outcome, work}
use Rattle.vx_command.specs.Elections.{once_election}
use Rattle.vx_journal.specs.Steps.{once_read}
use Rattle.vx_cvr.specs.Pieces.{report_pieces}

-- pieces of a text, written one after the other
abbrev pub writing_each : List (List ℕ) → Outcome
writing_each pieces = work (map Write pieces)

-- `export` for the election under a name, over the records of its journal, at a moment and from a device
abbrev pub export_outcome : List ℕ → List ℕ → List ℕ → Files → List (List ℕ) → Outcome
export_outcome election moment device files records =
    once_election (files election)
    (λ given. once_read given records (λ journal. writing_each (report_pieces given journal.center.events moment device)))
