-- The deficit of a place in a scan, and in what the scan would show without flips.
use Rattle.std.proofs.Common.{◌≡◌, ◌⊎◌, inl, inr, ℕ, ◌+◌, ◌≤◌, Bool, true, false, not, ℤ, pos, ◌+ℤ◌, ◌-ℤ◌, ◌≤ℤ◌, ◌<ℤ◌, refl, ap, sym, arith}
use Rattle.std.proofs.lemmas.Int.{ints}
use Rattle.vx_base.proofs.Booleans.{and-both}
use Rattle.vx_plane.specs.Plane.{Pixels, Page, dark_at}
use Rattle.vx_plane.specs.Count.{count_in, outside_of}
use Rattle.vx_plane.proofs.Pages.{rectangle-inside}
use Rattle.vx_grid.specs.declared.paper.Paper.{Paper}
use Rattle.vx_grid.specs.declared.places.Point.{Point}
use Rattle.vx_grid.specs.Regions.{frame_zone}
use Rattle.vx_mark_model.specs.Mark.{IsInFrame, deficit_of}
use Rattle.vx_geom.specs.Slants.{Slant}
use Rattle.vx_geom.specs.Seen.{seen}
use Rattle.vx_margin.specs.Flips.{differ, flips, flips_in, frame_of}
use Rattle.vx_margin.specs.Shown.{count_at, IsInZone}
use Rattle.vx_margin.specs.Deficits.{deficit_in}
use Rattle.vx_margin.proofs.Parts.{changed-le, five-parts}

differs : (a b : Bool) → (b ≡ a) ⊎ (differ a b ≡ true)
differs true true = inl refl
differs true false = inr refl
differs false true = inr refl
differs false false = inl refl

pub swapped : (a b f : Bool) → (a ≡ b) ⊎ (f ≡ true) → (b ≡ a) ⊎ (f ≡ true)
swapped a b f (inl e) = inl (sym e)
swapped a b f (inr h) = inr h

negated : (a b f : Bool) → (a ≡ b) ⊎ (f ≡ true) → (not a ≡ not b) ⊎ (f ≡ true)
negated a b f (inl e) = inl (ap not e)
negated a b f (inr h) = inr h

-- a pixel of a zone is as the paper has it, or a flip
pub as_shown : (s : Slant) (scan : Page) (set zone : Pixels) (u v : ℤ) → frame_of scan u v ≡ true → seen s zone u v ≡ true
    → (seen s set u v ≡ dark_at scan u v) ⊎ (flips_in s scan set zone u v ≡ true)
unfolding flips
as_shown s scan set zone u v framed zoned = choose (differs (dark_at scan u v) (seen s set u v))
  where
    choose : (seen s set u v ≡ dark_at scan u v) ⊎ (differ (dark_at scan u v) (seen s set u v) ≡ true) → (seen s set u v ≡ dark_at scan u v) ⊎ (flips_in s scan set zone u v ≡ true)
    choose (inl same) = inl same
    choose (inr other) = inr (and-both _ _ zoned (and-both _ _ framed other))

-- a pixel of the frame is as the paper has it, or a flip
pub as_or_flip : (s : Slant) (scan : Page) (set : Pixels) (u v : ℤ) → frame_of scan u v ≡ true → (seen s set u v ≡ dark_at scan u v) ⊎ (flips s scan set u v ≡ true)
unfolding flips
as_or_flip s scan set u v framed = choose (differs (dark_at scan u v) (seen s set u v))
  where
    choose : (seen s set u v ≡ dark_at scan u v) ⊎ (differ (dark_at scan u v) (seen s set u v) ≡ true) → (seen s set u v ≡ dark_at scan u v) ⊎ (flips s scan set u v ≡ true)
    choose (inl same) = inl same
    choose (inr other) = inr (and-both _ _ framed other)

module _ (s : Slant) (scan : Page) (paper : Paper) (marks : Pixels) (p : Point) (framed : IsInFrame scan p) (zone : IsInZone s paper p) where
  abbrev shown : Pixels
  shown = seen s marks

  abbrev wrong : Pixels
  wrong = flips_in s scan marks (frame_zone paper)

  -- each place of the footprint is as it is shown, or a flip
  at_place : (u v : ℤ) → (p.u -ℤ pos 23) ≤ℤ u → u <ℤ (p.u +ℤ pos 23) → (p.v -ℤ pos 11) ≤ℤ v → v <ℤ (p.v +ℤ pos 11) → (shown u v ≡ dark_at scan u v) ⊎ (wrong u v ≡ true)
  at_place u v a b c d =
      as_shown s scan marks (frame_zone paper) u v
      (rectangle-inside (pos 0) (pos 0) scan.width scan.height u v (omega (arith, ints, a, framed.left)) (omega (arith, ints, b, framed.right)) (omega (arith, ints, c, framed.top)) (omega (arith, ints, d, framed.bottom)))
      (zone.each u v (rectangle-inside (p.u -ℤ pos 23) (p.v -ℤ pos 11) 46 22 u v a (omega (arith, ints, b)) c (omega (arith, ints, d))))

  abbrev Holds-in : ℤ → ℤ → ℕ → ℕ → Type 0
  Holds-in l t w h = ((p.u -ℤ pos 23) ≤ℤ l) × ((l +ℤ pos w) ≤ℤ (p.u +ℤ pos 23)) × ((p.v -ℤ pos 11) ≤ℤ t) × ((t +ℤ pos h) ≤ℤ (p.v +ℤ pos 11))

  -- in a part of the footprint
  dark-le : (l t : ℤ) (w h : ℕ) → Holds-in l t w h → count_in l t w h shown ≤ count_in l t w h (dark_at scan) + count_in l t w h wrong
  dark-le l t w h inside =
      changed-le l t w h shown (dark_at scan) wrong
      (λ u v a b c d. at_place u v (omega (arith, ints, inside.0)) (omega (arith, ints, inside.1)) (omega (arith, ints, inside.2)) (omega (arith, ints, inside.3)))

  dark-ge : (l t : ℤ) (w h : ℕ) → Holds-in l t w h → count_in l t w h (dark_at scan) ≤ count_in l t w h shown + count_in l t w h wrong
  dark-ge l t w h inside =
      changed-le l t w h (dark_at scan) shown wrong
      (λ u v a b c d. swapped _ _ _ (at_place u v (omega (arith, ints, inside.0)) (omega (arith, ints, inside.1)) (omega (arith, ints, inside.2)) (omega (arith, ints, inside.3))))

  light-le : (l t : ℤ) (w h : ℕ) → Holds-in l t w h → count_in l t w h (outside_of shown) ≤ count_in l t w h (outside_of (dark_at scan)) + count_in l t w h wrong
  light-le l t w h inside =
      changed-le l t w h (outside_of shown) (outside_of (dark_at scan)) wrong
      (λ u v a b c d. negated _ _ _ (at_place u v (omega (arith, ints, inside.0)) (omega (arith, ints, inside.1)) (omega (arith, ints, inside.2)) (omega (arith, ints, inside.3))))

  light-ge : (l t : ℤ) (w h : ℕ) → Holds-in l t w h → count_in l t w h (outside_of (dark_at scan)) ≤ count_in l t w h (outside_of shown) + count_in l t w h wrong
  light-ge l t w h inside =
      changed-le l t w h (outside_of (dark_at scan)) (outside_of shown) wrong
      (λ u v a b c d. negated _ _ _ (swapped _ _ _ (at_place u v (omega (arith, ints, inside.0)) (omega (arith, ints, inside.1)) (omega (arith, ints, inside.2)) (omega (arith, ints, inside.3)))))

  core-in : Holds-in (p.u -ℤ pos 17) (p.v -ℤ pos 5) 34 10
  core-in = (omega (arith, ints), omega (arith, ints), omega (arith, ints), omega (arith, ints))

  left-in : Holds-in (p.u -ℤ pos 23) (p.v -ℤ pos 5) 4 10
  left-in = (omega (arith, ints), omega (arith, ints), omega (arith, ints), omega (arith, ints))

  right-in : Holds-in (p.u +ℤ pos 19) (p.v -ℤ pos 5) 4 10
  right-in = (omega (arith, ints), omega (arith, ints), omega (arith, ints), omega (arith, ints))

  top-in : Holds-in (p.u -ℤ pos 17) (p.v -ℤ pos 11) 34 4
  top-in = (omega (arith, ints), omega (arith, ints), omega (arith, ints), omega (arith, ints))

  bottom-in : Holds-in (p.u -ℤ pos 17) (p.v +ℤ pos 7) 34 4
  bottom-in = (omega (arith, ints), omega (arith, ints), omega (arith, ints), omega (arith, ints))

  -- what is shown is worse than what is seen by the flips of the footprint at most
  pub deficit-below : deficit_in shown p ≤ deficit_of scan p + count_at p wrong
  deficit-below =
      omega (arith, five-parts p.u p.v wrong, light-le _ _ _ _ core-in, dark-le _ _ _ _ left-in, dark-le _ _ _ _ right-in, dark-le _ _ _ _ top-in, dark-le _ _ _ _ bottom-in)

  -- and no more better
  pub deficit-above : deficit_of scan p ≤ deficit_in shown p + count_at p wrong
  deficit-above =
      omega (arith, five-parts p.u p.v wrong, light-ge _ _ _ _ core-in, dark-ge _ _ _ _ left-in, dark-ge _ _ _ _ right-in, dark-ge _ _ _ _ top-in, dark-ge _ _ _ _ bottom-in)
