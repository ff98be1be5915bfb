-- A scan that is gone through image after image.
use Rattle.std.proofs.Common.{◌≡◌, ◌+◌, ◌<◌, ◌≤◌, ℕ, List, [], ◌++◌, length, Option, Some, None, Ok, Err, sym, subst, arith}
use Rattle.vx_plane.specs.Plane.{Page}
use Rattle.vx_pbm.specs.declared.fault.PbmFault.{PbmFault}
use Rattle.vx_pbm.specs.declared.fault.PbmFault.TheVariants.{OutOfMemory}
use Rattle.vx_pbm.specs.Images.{Unread, whole, Images, with_page, ended, images_left, images_of, Walks}
use Rattle.vx_command.specs.declared.halt.Halt.{Halt}
use Rattle.vx_command.specs.declared.halt.Halt.TheVariants.{Pbm, NoMemory}
use Rattle.vx_command.specs.Acts.{Answer, Outcome}
use Rattle.vx_command.specs.Done.{Taken, Held, IsDone, IsWritten, WritesTo}
use Rattle.vx_command.specs.Halts.{bitmap_halt}
use Rattle.vx_command.specs.Images.{unless_faulty}
use Rattle.vx_command.specs.Laws.{ActLaws}
use Rattle.vx_walk.specs.declared.walked.Walked.{Walked}
use Rattle.vx_walk.specs.Walk.{SheetStep, scan_outcome, with_images}
use Rattle.vx_walk.specs.Walked.{images_in, waits}
use Rattle.vx_walk.specs.Steps.{WalksImage, WalksScan}

-- what comes behind the images of a scan
abbrev pub then_next : ℕ → Option PbmFault → (ℕ → List Page → Outcome) → ℕ → List Page → Outcome
then_next word fault next now left = unless_faulty word fault (next now left)

-- what comes behind so many sheets, with what waits and some images
abbrev pub behind : SheetStep → ℕ → Walked → Images → (ℕ → List Page → Outcome) → Outcome
behind step word walked images next =
    with_images step walked.sheets (waits walked.waiting ++ images.pages) (then_next word images.fault next)

-- a scan was gone through up to what is unread
pub record UpTo (step : SheetStep) (word : ℕ) (start : Walked) (bytes : List ℕ) (taken taken_now : Taken) (now : Walked) (unread : Unread) : Type 0 where
  pub comes : (next : ℕ → List Page → Outcome)
      → WritesTo (scan_outcome step word start.sheets (waits start.waiting) (images_of bytes) next) (behind step word now (images_left unread) next) taken taken_now
  pub room : images_in now + length unread.text ≤ images_in start + length bytes

-- nothing was gone through yet
pub none-yet : (step : SheetStep) (word : ℕ) (start : Walked) (bytes : List ℕ) (unread : Unread) (a : Taken) → unread ≡ whole bytes → UpTo step word start bytes a a start unread
unfolding images_of
none-yet step word start bytes unread a new =
    let At : Unread → Type 0 = λ some. UpTo step word start bytes a a start some in
    subst At (sym new)
    (record {
      comes = λ next held taken_then held_then answer done. done;
      room = omega arith;
    })

module _ (laws : ActLaws) (step : SheetStep) (word : ℕ) (start : Walked) (bytes : List ℕ) (a b : Taken) (mid : Walked) (unread : Unread) (before : UpTo step word start bytes a b mid unread) where
  -- an image more
  pub image-more : (page : Page) (unread_now : Unread) (new : Walked) (c : Taken) → images_left unread ≡ with_page page (images_left unread_now)
      → length unread_now.text < length unread.text → images_in new ≡ images_in mid + 1
      → WalksImage step mid page b c (Ok new) → UpTo step word start bytes a c new unread_now
  image-more page unread_now new c left less one walks = record {
    comes = λ next held taken_then held_then answer done.
        let Done : Images → Type 0 = λ images. IsDone (behind step word mid images next) b taken_then held held_then answer in
        before.comes next held taken_then held_then answer
        (subst Done (sym left)
        (walks (images_left unread_now).pages (then_next word (images_left unread_now).fault next) held taken_then held_then answer done));
    room = omega (arith, before.room, less, one);
  }

  -- the command halts at the next image
  pub image-stops : (page : Page) (unread_now : Unread) (c : Taken) (cause : Halt) → images_left unread ≡ with_page page (images_left unread_now)
      → WalksImage step mid page b c (Err cause)
      → (next : ℕ → List Page → Outcome) → IsWritten (scan_outcome step word start.sheets (waits start.waiting) (images_of bytes) next) a c (Err cause)
  image-stops page unread_now c cause left stops next held =
      let Done : Images → Type 0 = λ images. IsDone (behind step word mid images next) b c held held (Err cause) in
      before.comes next held c held (Err cause)
      (subst Done (sym left)
      (stops (images_left unread_now).pages (then_next word (images_left unread_now).fault next) held))

  -- at the end what waits is left over
  left-over : (waiting : Option Page) (rest : ℕ → List Page → Outcome) (sheets : ℕ) (taken_then : Taken) (held held_then : Held) (answer : Answer)
      → IsDone (rest sheets (waits waiting)) b taken_then held held_then answer → IsDone (with_images step sheets (waits waiting ++ []) rest) b taken_then held held_then answer
  left-over None rest sheets taken_then held held_then answer done = done
  left-over (Some first) rest sheets taken_then held held_then answer done = done

  fault-halts : (fault : PbmFault) → images_left unread ≡ ended (Some fault)
      → (next : ℕ → List Page → Outcome) → IsWritten (scan_outcome step word start.sheets (waits start.waiting) (images_of bytes) next) a b (Err (Pbm word fault))
  fault-halts fault left next held =
      let Done : Images → Type 0 = λ images. IsDone (behind step word mid images next) b b held held (Err (Pbm word fault)) in
      before.comes next held b held (Err (Pbm word fault))
      (subst Done (sym left)
      (left-over mid.waiting (then_next word (Some fault) next) mid.sheets b held held (Err (Pbm word fault)) (laws.ended (Err (Pbm word fault)) b held)))

  -- there was no memory
  pub memory-ends : (next : ℕ → List Page → Outcome) → IsWritten (scan_outcome step word start.sheets (waits start.waiting) (images_of bytes) next) a b (Err NoMemory)
  memory-ends next held = before.comes next held b held (Err NoMemory) (laws.no_memory (behind step word mid (images_left unread) next) b held)

  -- whatever fault the reader answers, the command halts so
  pub reader-halts : (fault : PbmFault) (unread_now : Unread) → Walks unread (Err fault) unread_now
      → (next : ℕ → List Page → Outcome) → IsWritten (scan_outcome step word start.sheets (waits start.waiting) (images_of bytes) next) a b (Err (bitmap_halt word fault))
  reader-halts OutOfMemory unread_now walks next held = memory-ends next held
  reader-halts fault unread_now walks next held = fault-halts fault walks next held

  -- all images were gone through
  pub all-walked : images_left unread ≡ ended None → WalksScan step word start (images_of bytes) a b (Ok mid)
  all-walked left = λ next held taken_then held_then answer done.
      let Done : Images → Type 0 = λ images. IsDone (behind step word mid images next) b taken_then held held_then answer in
      before.comes next held taken_then held_then answer
      (subst Done (sym left) (left-over mid.waiting (then_next word None next) mid.sheets taken_then held held_then answer done))
