-- Images that are read one after another.
use Rattle.std.proofs.Common.{◌≡◌, ◌+◌, ◌<◌, ◌≤◌, ℕ, List, [], ◌∷◌, length, Some, None, Ok, Err, refl, sym, ap, subst, arith}
use Rattle.vx_plane.specs.Plane.{Page}
use Rattle.vx_election_model.specs.declared.election.Election.{Election}
use Rattle.vx_pbm.specs.declared.fault.PbmFault.{PbmFault}
use Rattle.vx_pbm.specs.declared.fault.PbmFault.TheVariants.{OutOfMemory}
use Rattle.vx_pbm.specs.Images.{Unread, whole, Images, with_page, ended, images_left, images_of, Walks}
use Rattle.vx_command.specs.declared.halt.Halt.{Halt}
use Rattle.vx_command.specs.declared.halt.Halt.TheVariants.{Pbm, NoMemory}
use Rattle.vx_command.specs.Acts.{Write, Outcome, writing}
use Rattle.vx_command.specs.Done.{Taken, IsDone, IsWritten, WritesTo}
use Rattle.vx_command.specs.Halts.{bitmap_halt}
use Rattle.vx_command.specs.Laws.{ActLaws}
use Rattle.vx_readings.specs.ReadingText.{image_text}
use Rattle.vx_command_read.specs.Outcome.{scan_outcome}
use Rattle.vx_command_read.specs.Scans.{ReadsScan}

-- images were read up to what is unread, the first of which has a number, and their texts are written
pub record ReadUpTo (election : Election) (word first : ℕ) (bytes : List ℕ) (taken taken_now : Taken) (unread : Unread) (number : ℕ) : Type 0 where
  pub comes : (rest : Outcome) → WritesTo (scan_outcome election word first (images_of bytes) rest) (scan_outcome election word number (images_left unread) rest) taken taken_now
  pub count : number + length (images_left unread).pages ≡ first + length (images_of bytes).pages
  pub room : number + length unread.text ≤ first + length bytes

-- nothing was read yet
pub none_read : (election : Election) (word first : ℕ) (bytes : List ℕ) (taken : Taken) → ReadUpTo election word first bytes taken taken (whole bytes) first
unfolding images_of
none_read election word first bytes taken = record {
  comes = λ rest held taken_then held_then answer done. done;
  count = refl;
  room = omega arith;
}

module _ (laws : ActLaws) (election : Election) (word first : ℕ) (bytes : List ℕ) (a b : Taken) (unread : Unread) (number : ℕ) (before : ReadUpTo election word first bytes a b unread number) where
  -- one image more was read and its text is written
  pub one_read : (page : Page) (new : Unread) (c : Taken) → images_left unread ≡ with_page page (images_left new) → length new.text < length unread.text → IsWritten (writing (image_text election number page)) b c (Ok tt) → ReadUpTo election word first bytes a c new (number + 1)
  one_read page new c left less written = record {
    comes = λ rest held taken_then held_then answer done.
        let Done : Images → Type 0 = λ images. IsDone (scan_outcome election word number images rest) b taken_then held held_then answer in
        before.comes rest held taken_then held_then answer
        (subst Done (sym left)
        (laws.done (Write (image_text election number page) ∷ []) (scan_outcome election word (number + 1) (images_left new) rest) b c held held (written held) taken_then held_then answer done));
    count = omega (arith, before.count, ap (λ (images : Images). length images.pages) left);
    room = omega (arith, before.room, less);
  }

  -- the text of the next image isn't written whole
  pub image_halts : (page : Page) (new : Unread) (c : Taken) (cause : Halt) → images_left unread ≡ with_page page (images_left new) → IsWritten (writing (image_text election number page)) b c (Err cause) → (rest : Outcome) → IsWritten (scan_outcome election word first (images_of bytes) rest) a c (Err cause)
  image_halts page new c cause left written rest held =
      let Done : Images → Type 0 = λ images. IsDone (scan_outcome election word number images rest) b c held held (Err cause) in
      before.comes rest held c held (Err cause)
      (subst Done (sym left)
      (laws.broken (Write (image_text election number page) ∷ []) (scan_outcome election word (number + 1) (images_left new) rest) b c held held cause (written held)))

  fault_halts : (fault : PbmFault) → images_left unread ≡ ended (Some fault) → (rest : Outcome) → IsWritten (scan_outcome election word first (images_of bytes) rest) a b (Err (Pbm word fault))
  fault_halts fault left rest held =
      let Done : Images → Type 0 = λ images. IsDone (scan_outcome election word number images rest) b b held held (Err (Pbm word fault)) in
      before.comes rest held b held (Err (Pbm word fault)) (subst Done (sym left) (laws.ended (Err (Pbm word fault)) b held))

  -- whatever fault the reader answers, the command halts so
  pub reader_halts : (fault : PbmFault) (new : Unread) → Walks unread (Err fault) new → (rest : Outcome) → IsWritten (scan_outcome election word first (images_of bytes) rest) a b (Err (bitmap_halt word fault))
  reader_halts OutOfMemory new walks rest held =
      before.comes rest held b held (Err NoMemory) (laws.no_memory (scan_outcome election word number (images_left unread) rest) b held)
  reader_halts fault new walks rest held = fault_halts fault walks rest held

  -- all images were read
  pub all_read : images_left unread ≡ ended None → ReadsScan election word first (images_of bytes) a b (Ok number)
  all_read left = (
    omega (arith, before.count, ap (λ (images : Images). length images.pages) left),
    λ rest held taken_then held_then answer done.
        let Done : Images → Type 0 = λ images. IsDone (scan_outcome election word number images rest) b taken_then held held_then answer in
        before.comes rest held taken_then held_then answer (subst Done (sym left) done),
  )
