-- A scan that is counted piece after piece.
use Rattle.std.proofs.Common.{◌≡◌, ℕ, List, [], ◌++◌, Option, None, Some, Err, sym, subst}
use Rattle.std.specs.Prelude.{All}
use Rattle.std.proofs.lemmas.List.Elements.{All-append}
use Rattle.vx_plane.specs.Plane.{Page}
use Rattle.vx_election_model.specs.declared.election.Election.{Election}
use Rattle.vx_pbm.specs.declared.fault.PbmFault.{PbmFault}
use Rattle.vx_pbm.specs.declared.fault.PbmFault.TheVariants.{OutOfMemory}
use Rattle.vx_pbm.specs.Images.{Unread, whole, images_left, images_of, IsWholePage, ImagesAreWhole}
use Rattle.vx_command.specs.declared.halt.Halt.{Halt}
use Rattle.vx_command.specs.declared.halt.Halt.TheVariants.{Pbm, NoMemory}
use Rattle.vx_command.specs.Acts.{Answer, Outcome, halted}
use Rattle.vx_command.specs.Done.{Taken, Held, IsDone, ComesTo}
use Rattle.vx_command.specs.Halts.{bitmap_halt}
use Rattle.vx_command.specs.Laws.{ActLaws}
use Rattle.vx_command_count.specs.declared.counting.Counting.{Counting}
use Rattle.vx_command_count.specs.declared.gathering.Ended.TheVariants.{NotYet, AtEnd, AtFault}
use Rattle.vx_command_count.specs.Gathering.{LeavesPiece, waits}
use Rattle.vx_command.specs.Images.{unless_faulty}
use Rattle.vx_command_count.specs.Outcome.{scan_outcome, with_images}

-- what comes behind the images of a scan
abbrev pub then_next : ℕ → Option PbmFault → (Counting → List Page → Outcome) → Counting → List Page → Outcome
then_next word fault next now left = unless_faulty word fault (next now left)

-- a scan was counted up to what is unread, and an image may wait
pub record UpTo (election : Election) (batch : List ℕ) (word : ℕ) (start : Counting) (waiting : List Page) (bytes : List ℕ) (taken taken_now : Taken) (held held_now : Held) (mid : Counting) (first : Option Page) (unread : Unread) : Type 0 where
  pub comes : (next : Counting → List Page → Outcome) → ComesTo (scan_outcome election batch word start waiting (images_of bytes) next) (with_images election batch mid (waits first ++ (images_left unread).pages) (then_next word (images_left unread).fault next)) taken taken_now held held_now
  pub whole : All IsWholePage (waits first ++ (images_left unread).pages)

module _ (election : Election) (batch : List ℕ) (word : ℕ) (start : Counting) (waiting : List Page) (bytes : List ℕ) where
  -- nothing was counted yet
  pub none-yet : ImagesAreWhole → (first : Option Page) (unread : Unread) (a : Taken) (h : Held) → waiting ≡ waits first → All IsWholePage (waits first) → unread ≡ whole bytes → UpTo election batch word start waiting bytes a a h h start first unread
  unfolding images_of
  none-yet are first unread a h waits-is each new =
      let At : Unread → Type 0 = λ u. UpTo election batch word start waiting bytes a a h h start first u in
      subst At (sym new)
      (record {
        comes = λ next taken_then held_then answer done.
            let From : List Page → Type 0 = λ images. IsDone (with_images election batch start (images ++ (images_left (whole bytes)).pages) (then_next word (images_left (whole bytes)).fault next)) a taken_then h held_then answer in
            subst From (sym waits-is) done;
        whole = All-append IsWholePage (waits first) (images_left (whole bytes)).pages each (are bytes);
      })

  module _ (laws : ActLaws) (a b c : Taken) (h k l : Held) (mid : Counting) (first : Option Page) (unread : Unread) (before : UpTo election batch word start waiting bytes a b h k mid first unread) where
    -- a piece more
    pub piece-more : (new : Counting) (last : Option Page) (unread_now : Unread) → ((rest : Counting → List Page → Outcome) → ComesTo (with_images election batch mid (waits first ++ (images_left unread).pages) rest) (with_images election batch new (waits last ++ (images_left unread_now).pages) rest) b c k l) → LeavesPiece first unread last unread_now NotYet → UpTo election batch word start waiting bytes a c h l new last unread_now
    piece-more new last unread_now counts leaves = record {
      comes = λ next taken_then held_then answer done.
          let At : Option PbmFault → Type 0 = λ fault. IsDone (with_images election batch new (waits last ++ (images_left unread_now).pages) (then_next word fault next)) c taken_then l held_then answer in
          before.comes next taken_then held_then answer
          (counts (then_next word (images_left unread).fault next) taken_then held_then answer (subst At leaves.fault done));
      whole = leaves.whole before.whole;
    }

    -- the command halts in a piece
    pub piece-halts : (cause : Halt) → ((rest : Counting → List Page → Outcome) → IsDone (with_images election batch mid (waits first ++ (images_left unread).pages) rest) b c k l (Err cause)) → (next : Counting → List Page → Outcome) → IsDone (scan_outcome election batch word start waiting (images_of bytes) next) a c h l (Err cause)
    piece-halts cause halts next = before.comes next c l (Err cause) (halts (then_next word (images_left unread).fault next))

    -- the image that is left over at the end is a whole page
    pub last-whole : (last : Option Page) (unread_now : Unread) → LeavesPiece first unread last unread_now AtEnd → All IsWholePage (waits last)
    last-whole None unread_now leaves = leaves.whole before.whole
    last-whole (Some image) unread_now leaves = leaves.whole before.whole

    left-over : (new : Counting) (last : Option Page) (rest : Counting → List Page → Outcome) (taken_then : Taken) (held_then : Held) (answer : Answer) → IsDone (rest new (waits last)) c taken_then l held_then answer → IsDone (with_images election batch new (waits last ++ []) rest) c taken_then l held_then answer
    left-over new None rest taken_then held_then answer done = done
    left-over new (Some image) rest taken_then held_then answer done = done

    -- the last piece
    pub piece-ends : (new : Counting) (last : Option Page) (unread_now : Unread) (left : List Page) → ((rest : Counting → List Page → Outcome) → ComesTo (with_images election batch mid (waits first ++ (images_left unread).pages) rest) (with_images election batch new (waits last ++ []) rest) b c k l) → LeavesPiece first unread last unread_now AtEnd → left ≡ waits last → (next : Counting → List Page → Outcome) → ComesTo (scan_outcome election batch word start waiting (images_of bytes) next) (next new left) a c h l
    piece-ends new last unread_now left counts leaves left-is next taken_then held_then answer done =
        let At : Option PbmFault → Type 0 = λ fault. IsDone (with_images election batch new (waits last ++ []) (then_next word fault next)) c taken_then l held_then answer in
        let Left : List Page → Type 0 = λ images. IsDone (next new images) c taken_then l held_then answer in
        before.comes next taken_then held_then answer
        (counts (then_next word (images_left unread).fault next) taken_then held_then answer
        (subst At leaves.fault (left-over new last (then_next word None next) taken_then held_then answer (subst Left left-is done))))

    -- memory ran out behind a piece
    pub no-memory : (new : Counting) (left : List Page) → ((rest : Counting → List Page → Outcome) → ComesTo (with_images election batch mid (waits first ++ (images_left unread).pages) rest) (with_images election batch new left rest) b c k l) → (next : Counting → List Page → Outcome) → IsDone (scan_outcome election batch word start waiting (images_of bytes) next) a c h l (Err NoMemory)
    no-memory new left counts next =
        before.comes next c l (Err NoMemory)
        (counts (then_next word (images_left unread).fault next) c l (Err NoMemory) (laws.no_memory (with_images election batch new left (then_next word (images_left unread).fault next)) c l))

    halts-so : (fault : PbmFault) → IsDone (halted (Pbm word fault)) c c l l (Err (bitmap_halt word fault))
    halts-so OutOfMemory = laws.no_memory (halted (Pbm word OutOfMemory)) c l
    halts-so fault = laws.ended (Err (Pbm word fault)) c l

    -- the scan leaves the grammar behind a piece
    pub piece-faults : (new : Counting) (last : Option Page) (unread_now : Unread) (fault : PbmFault) → ((rest : Counting → List Page → Outcome) → ComesTo (with_images election batch mid (waits first ++ (images_left unread).pages) rest) (with_images election batch new (waits last ++ []) rest) b c k l) → LeavesPiece first unread last unread_now (AtFault fault) → (next : Counting → List Page → Outcome) → IsDone (scan_outcome election batch word start waiting (images_of bytes) next) a c h l (Err (bitmap_halt word fault))
    piece-faults new last unread_now fault counts leaves next =
        let At : Option PbmFault → Type 0 = λ found. IsDone (with_images election batch new (waits last ++ []) (then_next word found next)) c c l l (Err (bitmap_halt word fault)) in
        before.comes next c l (Err (bitmap_halt word fault))
        (counts (then_next word (images_left unread).fault next) c l (Err (bitmap_halt word fault))
        (subst At leaves.fault (left-over new last (then_next word (Some fault) next) c l (Err (bitmap_halt word fault)) (halts-so fault))))
