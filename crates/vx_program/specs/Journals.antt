-- Which journal a command works on.
use Rattle.std.specs.Prelude.{Bool, true, false, not, ◌&&◌, Result, Ok, Err}
use Rattle.std.specs.declared.io.Error.{Error}
use Rattle.vx_app.specs.Outcome.{appends, uses_keeper}
use Rattle.vx_words.specs.declared.command.Command.{Command}
use Rattle.vx_program.specs.declared.journal.Place.{Place}
use Rattle.vx_program.specs.declared.journal.Place.TheVariants.{Memory, ReadFile}

-- a command reads the journal and appends nothing to it
abbrev pub only_reads : Command → Bool
only_reads command = uses_keeper command && not (appends command)

-- The journal of a command that only reads, by what the system says of whether its file is there: one that isn't there is
-- empty, and isn't made. One that can't be looked at isn't taken for an empty one: it is opened, and what that answers counts.
abbrev pub place_found : Result Bool Error → Place
place_found (Ok false) = Memory
place_found (Ok true) = ReadFile
place_found (Err error) = ReadFile
