-- What the system's answers about a file that is only read are told as.
use Rattle.std.specs.Prelude.{Option, None, Some, Result, Ok, Err}
use Rattle.std.specs.IoError.{error_kind}
use Rattle.std.specs.declared.io.Error.{Error as SystemError}
use Rattle.std.specs.declared.io.ErrorKind.{ErrorKind}
use Rattle.std.specs.declared.io.ErrorKind.TheVariants as kind
use Rattle.sqlite.specs.declared.error.ErrorCode.TheVariants as code
use Rattle.sqlite.specs.declared.error.Error.{Error}
use Rattle.sqlite.specs.declared.error.Error.TheVariants.{SqliteFailure}

-- want of memory, or else a file that can't be opened
abbrev pub refused : ErrorKind → Error
refused kind.OutOfMemory = SqliteFailure code.OutOfMemory
refused _ = SqliteFailure code.CannotOpen

-- what a file has to give
abbrev pub system_told : {T : Type 0} → Result T SystemError → Result T Error
system_told (Ok value) = Ok value
system_told (Err error) = Err (refused (error_kind error))

-- a file that isn't there gives nothing
abbrev pub missing_or_refused : {T : Type 0} → ErrorKind → Result (Option T) Error
missing_or_refused kind.NotFound = Ok None
missing_or_refused error = Err (refused error)

-- what a file that may be missing gives
abbrev pub found_told : {T : Type 0} → Result T SystemError → Result (Option T) Error
found_told (Ok value) = Ok (Some value)
found_told (Err error) = missing_or_refused (error_kind error)
