-- What a scan shows of the page that it shows when it is turned.
use Rattle.std.proofs.Common.{◌≡◌, ◌⊎◌, inl, inr, ℕ, zero, suc, ◌+◌, ◌-◌, ◌*◌, ◌≤◌, Bool, not, ◌&&◌, ℤ, pos, ◌+ℤ◌, ◌-ℤ◌, refl, ap, ap₂, sym, subst, ◌∙◌, arith}
use Rattle.std.proofs.lemmas.Int.{ints}
use Rattle.vx_base.proofs.Booleans.{same-bool}
use Rattle.vx_plane.specs.Plane.{Pixels, Page, dark_at}
use Rattle.vx_plane.specs.Count.{one_if, sum_from, count_in}
use Rattle.vx_plane.proofs.Sums.{sum_from-same, sum_from-more}
use Rattle.vx_plane.proofs.Counts.{count_in-by_rows, count_in-same}
use Rattle.vx_plane.proofs.Pages.{rectangle-inside, rectangle-sides}
use Rattle.vx_grid.specs.declared.paper.Paper.{Paper}
use Rattle.vx_grid.specs.declared.places.Point.{Point}
use Rattle.vx_grid.specs.Paper.{last_row, first_y}
use Rattle.vx_grid.specs.Grid.{last_column}
use Rattle.vx_grid.specs.Regions.{frame_zone}
use Rattle.vx_mark_model.specs.Mark.{IsInFrame}
use Rattle.vx_geom.specs.Slants.{Slant, paper_column, paper_row}
use Rattle.vx_geom.specs.Seen.{seen}
use Rattle.vx_geom.proofs.Turned.{column-turned, row-turned}
use Rattle.vx_grid.proofs.Papers.{last-row_low, height-is}
use Rattle.vx_margin.specs.Marks.{IsBorderPoint, IsInMark, AreMarks}
use Rattle.vx_margin.specs.Flips.{differ, flips, flips_in, frame_of}
use Rattle.vx_margin.specs.Shown.{count_at, ShowsMarks}
use Rattle.vx_margin.specs.Turned.{IsTurned, last_x, last_y, turned_set, slant_turned}

-- a sum from the other end
sum_from-turned : (end low : ℤ) (n : ℕ) (f : ℤ → ℕ) → sum_from low n (λ z. f (end -ℤ z)) ≡ sum_from (((end -ℤ low) -ℤ pos n) +ℤ pos 1) n f
sum_from-turned end low zero f = refl
sum_from-turned end low (suc n) f =
    let b : ℤ = ((end -ℤ low) -ℤ pos (suc n)) +ℤ pos 1 in
    let rest : sum_from (low +ℤ pos 1) n (λ z. f (end -ℤ z)) ≡ sum_from (((end -ℤ (low +ℤ pos 1)) -ℤ pos n) +ℤ pos 1) n f = sum_from-turned end (low +ℤ pos 1) n f in
    let there : ((end -ℤ (low +ℤ pos 1)) -ℤ pos n) +ℤ pos 1 ≡ b = omega (arith, ints) in
    let moved : sum_from (((end -ℤ (low +ℤ pos 1)) -ℤ pos n) +ℤ pos 1) n f ≡ sum_from b n f = ap (λ z. sum_from z n f) there in
    let last : b +ℤ pos n ≡ end -ℤ low = omega (arith, ints) in
    let more : sum_from b (n + 1) f ≡ sum_from b n f + f (b +ℤ pos n) = sum_from-more b n f in
    let one : f (b +ℤ pos n) ≡ f (end -ℤ low) = ap f last in
    let count : suc n ≡ n + 1 = omega arith in
    let all : sum_from b (suc n) f ≡ sum_from b (n + 1) f = ap (λ k. sum_from b k f) count in
    omega (arith, rest, moved, more, one, all)

-- a count from the other end
pub count_in-turned_round : (u_end v_end left top : ℤ) (width height : ℕ) (set : Pixels)
    → count_in left top width height (λ u v. set (u_end -ℤ u) (v_end -ℤ v)) ≡ count_in (((u_end -ℤ left) -ℤ pos width) +ℤ pos 1) (((v_end -ℤ top) -ℤ pos height) +ℤ pos 1) width height set
count_in-turned_round u_end v_end left top width height set =
    let l : ℤ = ((u_end -ℤ left) -ℤ pos width) +ℤ pos 1 in
    let t : ℤ = ((v_end -ℤ top) -ℤ pos height) +ℤ pos 1 in
    count_in-by_rows left top width height (λ u v. set (u_end -ℤ u) (v_end -ℤ v))
    ∙ (sum_from-same top height _ (λ v. sum_from l width (λ u. one_if (set u (v_end -ℤ v)))) (λ v a b. sum_from-turned u_end left width (λ u. one_if (set u (v_end -ℤ v))))
    ∙ (sum_from-turned v_end top height (λ v. sum_from l width (λ u. one_if (set u v)))
    ∙ sym (count_in-by_rows l t width height set)))

-- the frame zone is the same from the other end
zone-turned : (paper : Paper) (x y : ℤ) → frame_zone paper (last_x -ℤ x) (last_y paper -ℤ y) ≡ frame_zone paper x y
zone-turned paper x y =
    ap not (same-bool _ _
    (λ h. let s = rectangle-sides (pos 178) (pos (first_y paper + 130)) 1344 (52 * last_row paper - 260) (last_x -ℤ x) (last_y paper -ℤ y) h in
    rectangle-inside (pos 178) (pos (first_y paper + 130)) 1344 (52 * last_row paper - 260) x y
    (omega (arith, ints, s.1)) (omega (arith, ints, s.0)) (omega (arith, ints, s.3, height-is paper, last-row_low paper))
    (omega (arith, ints, s.2, height-is paper, last-row_low paper)))
    (λ h. let s = rectangle-sides (pos 178) (pos (first_y paper + 130)) 1344 (52 * last_row paper - 260) x y h in
    rectangle-inside (pos 178) (pos (first_y paper + 130)) 1344 (52 * last_row paper - 260) (last_x -ℤ x) (last_y paper -ℤ y)
    (omega (arith, ints, s.1)) (omega (arith, ints, s.0)) (omega (arith, ints, s.3, height-is paper, last-row_low paper))
    (omega (arith, ints, s.2, height-is paper, last-row_low paper))))

-- the border points are the same from the other end
point-turned : (paper : Paper) (c r : ℕ) → IsBorderPoint paper c r → IsBorderPoint paper (33 - c) (last_row paper - r)
point-turned paper c r point = record {
  column = omega arith;
  row = omega arith;
  side = side_of point.side;
}
  where
    side_of : (r ≡ 0) ⊎ (r ≡ last_row paper) ⊎ (c ≡ 0) ⊎ (c ≡ last_column) → (last_row paper - r ≡ 0) ⊎ (last_row paper - r ≡ last_row paper) ⊎ (33 - c ≡ 0) ⊎ (33 - c ≡ last_column)
    side_of (inl top) = inr (inl (omega (arith, top)))
    side_of (inr (inl bottom)) = inl (omega (arith, bottom))
    side_of (inr (inr (inl left))) = inr (inr (inr (omega (arith, left))))
    side_of (inr (inr (inr right))) = inr (inr (inl (omega (arith, right))))

mark-turned : (paper : Paper) (c r : ℕ) (x y : ℤ) → c ≤ 33 → r ≤ last_row paper → IsInMark paper c r x y → IsInMark paper (33 - c) (last_row paper - r) (last_x -ℤ x) (last_y paper -ℤ y)
mark-turned paper c r x y few low m = record {
  left = omega (arith, ints, few, m.right);
  right = omega (arith, ints, few, m.left);
  top = omega (arith, ints, low, m.bottom, height-is paper);
  bottom = omega (arith, ints, low, m.top, height-is paper);
}

pub marks-turned : (paper : Paper) (marks : Pixels) → AreMarks paper marks → AreMarks paper (turned_set paper marks)
marks-turned paper marks are = record {
  dark = λ c r x y point inside. are.dark (33 - c) (last_row paper - r) (last_x -ℤ x) (last_y paper -ℤ y) (point-turned paper c r point) (mark-turned paper c r x y point.column point.row inside);
  some = λ x y h.
      let m = are.some (last_x -ℤ x) (last_y paper -ℤ y) h in
      let back_x : last_x -ℤ (last_x -ℤ x) ≡ x = omega (arith, ints) in
      let back_y : last_y paper -ℤ (last_y paper -ℤ y) ≡ y = omega (arith, ints) in
      let In : ℤ → ℤ → Type 0 = λ a b. IsInMark paper (33 - m.0) (last_row paper - m.1) a b in (
        33 - m.0,
        last_row paper - m.1,
        point-turned paper m.0 m.1 m.2,
        subst (λ (b : ℤ). In x b) back_y (subst (λ (a : ℤ). In a (last_y paper -ℤ (last_y paper -ℤ y))) back_x (mark-turned paper m.0 m.1 (last_x -ℤ x) (last_y paper -ℤ y) m.2.column m.2.row m.3)),
      );
}

module _ (s : Slant) (scan other : Page) (paper : Paper) (turned : IsTurned scan other) where
  abbrev t : Slant
  t = slant_turned paper scan s

  abbrev w : ℤ
  w = pos scan.width -ℤ pos 1

  abbrev h : ℤ
  h = pos scan.height -ℤ pos 1

  -- the scan shows of a turned set what the other shows of the set
  pub seen-turned : (set : Pixels) (u v : ℤ) → seen t (turned_set paper set) u v ≡ seen s set (w -ℤ u) (h -ℤ v)
  seen-turned set u v =
      let column : last_x -ℤ paper_column t u v ≡ paper_column s (w -ℤ u) (h -ℤ v) =
      (let is = column-turned last_x (last_y paper) w h s u v in omega (arith, ints, is)) in
      let row : last_y paper -ℤ paper_row t u v ≡ paper_row s (w -ℤ u) (h -ℤ v) =
      (let is = row-turned last_x (last_y paper) w h s u v in omega (arith, ints, is)) in
      ap (λ z. set z (last_y paper -ℤ paper_row t u v)) column ∙ ap (λ z. set (paper_column s (w -ℤ u) (h -ℤ v)) z) row

  -- what of the frame zone it shows
  pub zone-seen : (u v : ℤ) → seen t (frame_zone paper) u v ≡ seen s (frame_zone paper) (w -ℤ u) (h -ℤ v)
  zone-seen u v = sym (zone-turned paper (paper_column t u v) (paper_row t u v)) ∙ seen-turned (frame_zone paper) u v

  -- and its flips
  pub frame-turned : (u v : ℤ) → frame_of scan u v ≡ frame_of other (w -ℤ u) (h -ℤ v)
  frame-turned u v =
      same-bool _ _
      (λ q. let k = rectangle-sides (pos 0) (pos 0) scan.width scan.height u v q in
      rectangle-inside (pos 0) (pos 0) other.width other.height (w -ℤ u) (h -ℤ v)
      (omega (arith, ints, k.1)) (omega (arith, ints, k.0, turned.width)) (omega (arith, ints, k.3)) (omega (arith, ints, k.2, turned.height)))
      (λ q. let k = rectangle-sides (pos 0) (pos 0) other.width other.height (w -ℤ u) (h -ℤ v) q in
      rectangle-inside (pos 0) (pos 0) scan.width scan.height u v
      (omega (arith, ints, k.1, turned.width)) (omega (arith, ints, k.0)) (omega (arith, ints, k.3, turned.height)) (omega (arith, ints, k.2)))

  pub flips-turned : (set : Pixels) (u v : ℤ) → flips t scan (turned_set paper set) u v ≡ flips s other set (w -ℤ u) (h -ℤ v)
  unfolding flips
  flips-turned set u v =
      ap (λ f. f && differ (dark_at scan u v) (seen t (turned_set paper set) u v)) (frame-turned u v)
      ∙ (ap (λ d. frame_of other (w -ℤ u) (h -ℤ v) && differ d (seen t (turned_set paper set) u v)) (turned.dark u v)
      ∙ ap (λ q. frame_of other (w -ℤ u) (h -ℤ v) && differ (dark_at other (w -ℤ u) (h -ℤ v)) q) (seen-turned set u v))

  -- a place, turned
  abbrev over : Point → Point
  over p = record { u = pos scan.width -ℤ p.u; v = pos scan.height -ℤ p.v }

  over-framed : (p : Point) → IsInFrame scan p → IsInFrame other (over p)
  over-framed p framed = record {
    left = omega (arith, ints, framed.right);
    right = omega (arith, ints, framed.left, turned.width);
    top = omega (arith, ints, framed.bottom);
    bottom = omega (arith, ints, framed.top, turned.height);
  }

  count-turned : (p : Point) (set : Pixels) → count_at p (λ u v. set (w -ℤ u) (h -ℤ v)) ≡ count_at (over p) set
  count-turned p set =
      let left : ((w -ℤ (p.u -ℤ pos 23)) -ℤ pos 46) +ℤ pos 1 ≡ (over p).u -ℤ pos 23 = omega (arith, ints) in
      let top : ((h -ℤ (p.v -ℤ pos 11)) -ℤ pos 22) +ℤ pos 1 ≡ (over p).v -ℤ pos 11 = omega (arith, ints) in
      count_in-turned_round w h (p.u -ℤ pos 23) (p.v -ℤ pos 11) 46 22 set
      ∙ (ap (λ z. count_in z (((h -ℤ (p.v -ℤ pos 11)) -ℤ pos 22) +ℤ pos 1) 46 22 set) left ∙ ap (λ z. count_in ((over p).u -ℤ pos 23) z 46 22 set) top)

  -- the scan shows the turned marks where the other shows the marks
  pub shows-turned : (marks : Pixels) → ShowsMarks s other paper marks → ShowsMarks t scan paper (turned_set paper marks)
  shows-turned marks shows = record {
    few = λ p framed.
        let same : count_at p (flips_in t scan (turned_set paper marks) (frame_zone paper)) ≡ count_at p (λ u v. flips_in s other marks (frame_zone paper) (w -ℤ u) (h -ℤ v)) =
        count_in-same (p.u -ℤ pos 23) (p.v -ℤ pos 11) 46 22 _ _
        (λ u v a b c d. ap₂ (λ (x y : Bool). x && y) (zone-seen u v) (flips-turned marks u v)) in
        let there : count_at p (λ u v. flips_in s other marks (frame_zone paper) (w -ℤ u) (h -ℤ v)) ≡ count_at (over p) (flips_in s other marks (frame_zone paper)) =
        count-turned p (flips_in s other marks (frame_zone paper)) in
        omega (arith, same, there, shows.few (over p) (over-framed p framed));
  }
