-- Sheets that are counted one after another.
use Rattle.std.proofs.Common.{◌≡◌, ℕ, zero, suc, ◌+◌, ◌*◌, List, [], ◌∷◌, ◌++◌, drop, length, Some, Ok, Err, Result, refl, sym, ap, subst, arith, ◌∙◌}
use Rattle.std.specs.Prelude.{slice_get}
use Rattle.std.specs.List.{AllZip}
use Rattle.vx_plane.specs.Plane.{Page}
use Rattle.vx_election_model.specs.declared.election.Election.{Election}
use Rattle.vx_scan_model.specs.declared.fault.PageFault.{PageFault}
use Rattle.vx_scan_model.specs.declared.reading.PageReading.{PageReading}
use Rattle.vx_scan_model.specs.Reading.{reading_of}
use Rattle.vx_sheet.specs.Came.{sheet_read}
use Rattle.vx_command.specs.declared.halt.Halt.{Halt}
use Rattle.vx_command.specs.Acts.{Outcome, after, work}
use Rattle.vx_command.specs.Done.{Taken, Held, IsDone, ComesTo}
use Rattle.vx_command.specs.Laws.{ActLaws}
use Rattle.vx_command_count.specs.declared.counting.Counting.{Counting}
use Rattle.vx_command_count.specs.Tally.{next_image}
use Rattle.vx_command_count.specs.Sheets.{sheet_acts, counted_with}
use Rattle.vx_command_count.specs.Outcome.{with_images}
use Rattle.vx_sheet.specs.Reads.{IsReadOf}

abbrev pub Read : Type 0
Read = Result PageReading PageFault

-- the image that was read in a place, and those behind it
pub record StandsAt (election : Election) (images : List Page) (place : ℕ) (read : Read) : Type 0 where
  pub image : Page
  pub there : drop place images ≡ image ∷ drop (place + 1) images
  pub is : IsReadOf election image read

pub stands-at : (election : Election) (images : List Page) (reads : List Read) (place : ℕ) (read : Read) → AllZip (IsReadOf election) images reads → slice_get reads place ≡ Some read → StandsAt election images place read
stands-at election [] [] place read each at = absurd cc
stands-at election [] (other ∷ reads) place read each at = absurd each
stands-at election (image ∷ images) [] place read each at = absurd each
stands-at election (image ∷ images) (other ∷ reads) zero read each at =
    let same : other ≡ read = cc in
    let Of : Read → Type 0 = λ r. IsReadOf election image r in
    record { image = image; there = refl; is = subst Of same each.0 }
stands-at election (image ∷ images) (other ∷ reads) (suc place) read each at =
    let behind = stands-at election images reads place read each.1 at in
    let further : place + 1 + 1 ≡ suc place + 1 = omega arith in
    let one : suc (place + 1) ≡ suc place + 1 = omega arith in
    record { image = behind.image; there = behind.there ∙ ap (λ (n : ℕ). behind.image ∷ drop n (image ∷ images)) one; is = behind.is }

-- as many images as were read
pub zip-length : (election : Election) (images : List Page) (reads : List Read) → AllZip (IsReadOf election) images reads → length images ≡ length reads
zip-length election [] [] each = refl
zip-length election [] (read ∷ reads) each = absurd each
zip-length election (image ∷ images) [] each = absurd each
zip-length election (image ∷ images) (read ∷ reads) each = ap suc (zip-length election images reads each.1)

module _ (laws : ActLaws) (election : Election) (batch : List ℕ) where
  -- the next sheet is counted of the two images that come first
  next-done : (mid : Counting) (one other : Page) (images : List Page) (rest : Counting → List Page → Outcome) (first second : Read) (a b : Taken) (h k : Held) → IsReadOf election one first → IsReadOf election other second → IsDone (work (sheet_acts election batch mid (sheet_read election (next_image mid.tally) first second))) a b h k (Ok tt) → ComesTo (with_images election batch mid (one ∷ (other ∷ images)) rest) (with_images election batch (counted_with batch mid (sheet_read election (next_image mid.tally) first second)) images rest) a b h k
  next-done mid one other images rest first second a b h k one-is other-is done =
      let To : Read → Read → Type 0 = λ f s. ComesTo (after (sheet_acts election batch mid (sheet_read election (next_image mid.tally) f s)) (with_images election batch (counted_with batch mid (sheet_read election (next_image mid.tally) f s)) images rest)) (with_images election batch (counted_with batch mid (sheet_read election (next_image mid.tally) first second)) images rest) a b h k in
      let At : Read → Type 0 = λ f. To f second in
      subst (To (reading_of election one)) other-is.is
      (subst At one-is.is
      (laws.done (sheet_acts election batch mid (sheet_read election (next_image mid.tally) first second))
      (with_images election batch (counted_with batch mid (sheet_read election (next_image mid.tally) first second)) images rest) a b h k done))

  -- or the command halts there
  next-halts : (mid : Counting) (one other : Page) (images : List Page) (rest : Counting → List Page → Outcome) (first second : Read) (a b : Taken) (h k : Held) (cause : Halt) → IsReadOf election one first → IsReadOf election other second → IsDone (work (sheet_acts election batch mid (sheet_read election (next_image mid.tally) first second))) a b h k (Err cause) → IsDone (with_images election batch mid (one ∷ (other ∷ images)) rest) a b h k (Err cause)
  next-halts mid one other images rest first second a b h k cause one-is other-is done =
      let To : Read → Read → Type 0 = λ f s. IsDone (after (sheet_acts election batch mid (sheet_read election (next_image mid.tally) f s)) (with_images election batch (counted_with batch mid (sheet_read election (next_image mid.tally) f s)) images rest)) a b h k (Err cause) in
      let At : Read → Type 0 = λ f. To f second in
      subst (To (reading_of election one)) other-is.is
      (subst At one-is.is
      (laws.broken (sheet_acts election batch mid (sheet_read election (next_image mid.tally) first second))
      (with_images election batch (counted_with batch mid (sheet_read election (next_image mid.tally) first second)) images rest) a b h k cause done))

  module _ (images : List Page) (reads : List Read) (each : AllZip (IsReadOf election) images reads) (pair : ℕ) (first second : Read) (first-at : slice_get reads (2 * pair) ≡ Some first) (second-at : slice_get reads (2 * pair + 1) ≡ Some second) where
    two-there : (more : List Page) → drop (2 * pair) images ++ more ≡ (stands-at election images reads (2 * pair) first each first-at).image ∷ ((stands-at election images reads (2 * pair + 1) second each second-at).image ∷ (drop (2 * (pair + 1)) images ++ more))
    two-there more =
        let one = stands-at election images reads (2 * pair) first each first-at in
        let other = stands-at election images reads (2 * pair + 1) second each second-at in
        let place : 2 * pair + 1 + 1 ≡ 2 * (pair + 1) = omega arith in
        ap (λ (left : List Page). left ++ more) (one.there ∙ ap (λ (left : List Page). one.image ∷ left) (other.there ∙ ap (λ (n : ℕ). other.image ∷ drop n images) place))

    -- one sheet more
    pub one-more : (start mid new : Counting) (more : List Page) (rest : Counting → List Page → Outcome) (a b c : Taken) (h k l : Held) → ComesTo (with_images election batch start (images ++ more) rest) (with_images election batch mid (drop (2 * pair) images ++ more) rest) a b h k → IsDone (work (sheet_acts election batch mid (sheet_read election (next_image mid.tally) first second))) b c k l (Ok tt) → new ≡ counted_with batch mid (sheet_read election (next_image mid.tally) first second) → ComesTo (with_images election batch start (images ++ more) rest) (with_images election batch new (drop (2 * (pair + 1)) images ++ more) rest) a c h l
    one-more start mid new more rest a b c h k l before done is taken_then held_then answer then =
        let one = stands-at election images reads (2 * pair) first each first-at in
        let other = stands-at election images reads (2 * pair + 1) second each second-at in
        let At : List Page → Type 0 = λ left. IsDone (with_images election batch mid left rest) b taken_then k held_then answer in
        let Now : Counting → Type 0 = λ now. IsDone (with_images election batch now (drop (2 * (pair + 1)) images ++ more) rest) c taken_then l held_then answer in
        before taken_then held_then answer
        (subst At (sym (two-there more))
        (next-done mid one.image other.image (drop (2 * (pair + 1)) images ++ more) rest first second b c k l one.is other.is done taken_then held_then answer (subst Now is then)))

    -- or the command halts at it
    pub one-halts : (start mid : Counting) (more : List Page) (rest : Counting → List Page → Outcome) (a b c : Taken) (h k l : Held) (cause : Halt) → ComesTo (with_images election batch start (images ++ more) rest) (with_images election batch mid (drop (2 * pair) images ++ more) rest) a b h k → IsDone (work (sheet_acts election batch mid (sheet_read election (next_image mid.tally) first second))) b c k l (Err cause) → IsDone (with_images election batch start (images ++ more) rest) a c h l (Err cause)
    one-halts start mid more rest a b c h k l cause before done =
        let one = stands-at election images reads (2 * pair) first each first-at in
        let other = stands-at election images reads (2 * pair + 1) second each second-at in
        let At : List Page → Type 0 = λ left. IsDone (with_images election batch mid left rest) b c k l (Err cause) in
        before c l (Err cause)
        (subst At (sym (two-there more))
        (next-halts mid one.image other.image (drop (2 * (pair + 1)) images ++ more) rest first second b c k l cause one.is other.is done))
