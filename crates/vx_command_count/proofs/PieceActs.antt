-- Pieces of a scan.
use Rattle.std.proofs.Common.{◌≡◌, ◌≤◌, ◌%◌, List, ◌++◌, length, refl, sym, ap, subst, ◌∙◌, append_assoc, arith, length-append}
use Rattle.std.specs.Prelude.{All, Option, None, Some}
use Rattle.std.proofs.lemmas.List.Elements.{All-drop}
use Rattle.vx_base.proofs.Lists.{drop-front}
use Rattle.vx_plane.specs.Plane.{Page}
use Rattle.vx_pbm.specs.Images.{Unread, Images, images_left, IsWholePage}
use Rattle.vx_command_count.specs.declared.gathering.Ended.{Ended}
use Rattle.vx_command_count.specs.declared.gathering.Ended.TheVariants.{NotYet, AtEnd, AtFault}
use Rattle.vx_command_count.specs.Gathering.{Gathers, IsFilled, LeavesPiece, left_by, waits}

-- the images before a piece are its images, the one that is left over, and those behind
pub pieces-are : (first : List Page) (left left_now : Images) (zero one two last : List Page) → zero ≡ first → Gathers zero left one left_now → two ++ last ≡ one → first ++ left.pages ≡ two ++ (last ++ left_now.pages)
pieces-are first left left_now zero one two last zero-is gathers parts =
    ap (λ (images : List Page). images ++ left.pages) (sym zero-is)
    ∙ sym gathers.pages
    ∙ ap (λ (images : List Page). images ++ left_now.pages) (sym parts)
    ∙ append_assoc two last left_now.pages

few-wait : (last : Option Page) → length (waits last) ≤ 1
few-wait None = omega arith
few-wait (Some image) = omega arith

goes-on : (ended : Ended) (one two : List Page) (last : Option Page) (old new : Unread) → two ++ waits last ≡ one → length two % 2 ≡ 0 → IsFilled 128 one old new ended → IsFilled 0 (waits last) old new ended
goes-on NotYet one two last old new parts even filled =
    (omega (arith, few-wait last, even, filled.0, ap length parts, length-append two (waits last)), filled.1)
goes-on AtEnd one two last old new parts even filled = tt
goes-on (AtFault fault) one two last old new parts even filled = tt

behind-whole : (front back : List Page) → All IsWholePage (front ++ back) → All IsWholePage back
behind-whole front back each =
    let Each : List Page → Type 0 = All IsWholePage in
    subst Each (drop-front front back (length front) refl) (All-drop IsWholePage (length front) (front ++ back) each)

-- what a piece leaves
pub leaves-piece : (first last : Option Page) (old new : Unread) (ended : Ended) (zero one two : List Page) → zero ≡ waits first → Gathers zero (images_left old) one (left_by ended new) → two ++ waits last ≡ one → length two % 2 ≡ 0 → IsFilled 128 one old new ended → LeavesPiece first old last new ended
leaves-piece first last old new ended zero one two zero-is gathers parts even filled = record {
  fault = gathers.fault;
  whole = λ each.
      let Each : List Page → Type 0 = All IsWholePage in
      behind-whole two (waits last ++ (left_by ended new).pages) (subst Each (pieces-are (waits first) (images_left old) (left_by ended new) zero one two (waits last) zero-is gathers parts) each);
  goes_on = goes-on ended one two last old new parts even filled;
}
