-- What is asked of a real file, and what the answers of the system are told as.
use Rattle.std.specs.Prelude.{ℕ, zero, suc, ◌-◌, min, Option, None, Some, Result, Ok, Err}
use Rattle.std.specs.IoError.{error_kind}
use Rattle.std.specs.declared.io.Error.{Error}
use Rattle.std.specs.declared.io.ErrorKind.{ErrorKind}
use Rattle.std.specs.declared.io.ErrorKind.TheVariants.{NotFound}
use Rattle.vx_io.specs.declared.answers.Piece.{Piece}
use Rattle.vx_io.specs.declared.outside.Failed.{Failed}

-- the part of a file of so many bytes that is asked from an offset on for a buffer: as much as both have
abbrev pub piece_of : ℕ → ℕ → ℕ → Piece
piece_of room size at = record { from = at; count = min room (size - at) }

-- a device refused a call
abbrev pub failed : Failed
failed = record {}

-- a file that isn't there is none, and any other error is a fault
abbrev pub missing_or_fault : ErrorKind → Result (Option ℕ) Failed
missing_or_fault NotFound = Ok None
missing_or_fault kind = Err failed

-- what the question for a size is answered
abbrev pub size_told : Result ℕ Error → Result (Option ℕ) Failed
size_told (Ok size) = Ok (Some size)
size_told (Err error) = missing_or_fault (error_kind error)

-- what reading or writing is answered: no bytes at all are a fault, as an error is
abbrev pub count_told : Result ℕ Error → Result ℕ Failed
count_told (Ok zero) = Err failed
count_told (Ok (suc count)) = Ok (suc count)
count_told (Err error) = Err failed
