-- How far `count` has come behind some images, behind a scan.
use Rattle.std.specs.Prelude.{ℕ, ◌+◌, ◌++◌, ◌∷◌, List, Option, Result, Ok, Err}
use Rattle.vx_plane.specs.Plane.{Page}
use Rattle.vx_election_model.specs.declared.election.Election.{Election}
use Rattle.vx_io.specs.Outside.{Files}
use Rattle.vx_pbm.specs.Images.{Unread, Images, images_left}
use Rattle.vx_command.specs.declared.halt.Halt.{Halt}
use Rattle.vx_command.specs.Acts.{Outcome}
use Rattle.vx_command.specs.Done.{Taken, Held, IsDone, ComesTo}
use Rattle.vx_command_count.specs.declared.counting.Counting.{Counting}
use Rattle.vx_command_count.specs.declared.pieces.Piece.{Piece}
use Rattle.vx_command_count.specs.Gathering.{left_by, waits}
use Rattle.vx_command_count.specs.Outcome.{with_images, scan_outcome, scans_outcome}

-- a count of images has come to a count of others, whatever follows; or the command halts
abbrev pub CountsTo : {A : Type 0} → Election → List ℕ → Counting → Counting → List Page → List Page → Taken → Taken → Held → Held → Result A Halt → Type 0
CountsTo election batch old new images left taken taken_now held held_now (Ok done) =
    (rest : Counting → List Page → Outcome)
    → ComesTo (with_images election batch old images rest) (with_images election batch new left rest) taken taken_now held held_now
CountsTo election batch old new images left taken taken_now held held_now (Err cause) =
    (rest : Counting → List Page → Outcome)
    → IsDone (with_images election batch old images rest) taken taken_now held held_now (Err cause)

-- a piece of a scan was counted, and an image may be left over; or the command halts
abbrev pub CountsPiece : Election → List ℕ → Counting → Counting → Option Page → Unread → Unread → Taken → Taken → Held → Held → Result Piece Halt → Type 0
CountsPiece election batch old new first unread unread_now taken taken_now held held_now (Ok piece) =
    (rest : Counting → List Page → Outcome)
    → ComesTo (with_images election batch old (waits first ++ (images_left unread).pages) rest)
    (with_images election batch new (waits piece.last ++ (left_by piece.ended unread_now).pages) rest) taken taken_now held held_now
CountsPiece election batch old new first unread unread_now taken taken_now held held_now (Err cause) =
    (rest : Counting → List Page → Outcome)
    → IsDone (with_images election batch old (waits first ++ (images_left unread).pages) rest) taken taken_now held held_now (Err cause)

-- a scan was counted, and an image may be left; or the command halts
abbrev pub CountsScan : Election → List ℕ → ℕ → Counting → Counting → List Page → Images → Taken → Taken → Held → Held → Result (List Page) Halt → Type 0
CountsScan election batch word old new waiting images taken taken_now held held_now (Ok left) =
    (next : Counting → List Page → Outcome)
    → ComesTo (scan_outcome election batch word old waiting images next) (next new left) taken taken_now held held_now
CountsScan election batch word old new waiting images taken taken_now held held_now (Err cause) =
    (next : Counting → List Page → Outcome)
    → IsDone (scan_outcome election batch word old waiting images next) taken taken_now held held_now (Err cause)

-- the first of some scans was taken and counted, and the others are left; or the command halts
abbrev pub CountsFirst : Election → List ℕ → Files → ℕ → Counting → Counting → List Page → List ℕ → Taken → Taken → Held → Held → Result (List Page) Halt → Type 0
CountsFirst election batch files word old new waiting name taken taken_now held held_now (Ok left) =
    (names : List (List ℕ))
    → ComesTo (scans_outcome election batch files word old waiting (name ∷ names))
    (scans_outcome election batch files (word + 1) new left names) taken taken_now held held_now
CountsFirst election batch files word old new waiting name taken taken_now held held_now (Err cause) =
    (names : List (List ℕ))
    → IsDone (scans_outcome election batch files word old waiting (name ∷ names)) taken taken_now held held_now (Err cause)
