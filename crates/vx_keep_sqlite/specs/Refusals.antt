-- What a refusal of SQLite is told as.
use Rattle.std.specs.Prelude.{Bool, true, false, if◌then◌else◌}
use Rattle.sqlite.specs.declared.error.ErrorCode.{ErrorCode}
use Rattle.sqlite.specs.declared.error.ErrorCode.TheVariants as code
use Rattle.sqlite.specs.declared.error.Error.{Error}
use Rattle.sqlite.specs.declared.error.Error.TheVariants.{SqliteFailure, SqlInputError}
use Rattle.sqlite_resolve.specs.declared.error.CompileError.{CompileError}
use Rattle.sqlite_resolve.specs.declared.error.CompileError.TheVariants as compile
use Rattle.vx_io.specs.declared.outside.KeeperError.{KeeperError}
use Rattle.vx_io.specs.declared.outside.KeeperError.TheVariants.{Failed, OutOfMemory}

-- whether a statement was refused for want of memory while it ran
abbrev pub is_no_room : ErrorCode → Bool
is_no_room code.OutOfMemory = true
is_no_room other = false

-- whether it was while its text was read
abbrev pub is_no_room_for_text : CompileError → Bool
is_no_room_for_text compile.OutOfMemory = true
is_no_room_for_text other = false

-- whether an opening or a statement was refused for want of memory
abbrev pub is_no_memory : Error → Bool
is_no_memory (SqliteFailure failure) = is_no_room failure
is_no_memory (SqlInputError fault) = is_no_room_for_text fault
is_no_memory other = false

-- what it is told as: want of memory, or else a fault of the device
abbrev pub refusal_of : Error → KeeperError
refusal_of error = if is_no_memory error then OutOfMemory else Failed
