-- The marks that are found one after the other are followed.
use Rattle.std.proofs.Common.{◌≡◌, ◌+◌, ◌-◌, ◌<◌, ◌≤◌, ◌++◌, ◌∷◌, [], ℕ, zero, suc, false, List, length, Option, Some, None, Result, Ok, Err, pos, arith, add-one, refl, sym, subst}
use Rattle.std.specs.Prelude.{◌==◌}
use Rattle.std.proofs.lemmas.Bool.{ne_eqb}
use Rattle.std.proofs.lemmas.List.{length-append, get_or_append_left, get_or-append_right}
use Rattle.vx_plane.specs.Plane.{Page}
use Rattle.vx_grid.specs.declared.paper.Paper.{Paper}
use Rattle.vx_grid.specs.declared.places.Point.{Point}
use Rattle.vx_grid.specs.Paper.{last_row}
use Rattle.vx_grid.specs.Marks.{marks}
use Rattle.vx_grid.specs.Places.{point_at}
use Rattle.vx_mark_model.specs.Corner.{IsCorner}
use Rattle.vx_mark_model.specs.Best.{IsBest}
use Rattle.vx_mark_model.specs.declared.fault.BorderFault.{BorderFault}
use Rattle.vx_mark_model.specs.declared.fault.BorderFault.TheVariants.{NoCorner, NoMark, OpenBorder}
use Rattle.vx_mark_model.specs.Following.{prediction_of, IsFollowed}
use Rattle.vx_mark_model.specs.Border.{side_of, index_of, LacksMark}
use Rattle.vx_mark_model.specs.Laws.{CornerIsFollowed, FollowedGrows}
use Rattle.vx_scan_model.specs.Border.{corner_of, best_of, with_found, with_mark, marks_of}
use Rattle.vx_scan_model.proofs.Corners.{IsCornerOf, IsCornerOf-corner_of}
use Rattle.vx_scan_model.proofs.Bests.{IsBestOf, IsBestOf-best_of}

-- one place more leaves the places before it
point_at_before : (places : List Point) (p : Point) (j : ℕ) → j < length places → point_at (places ++ p ∷ []) j ≡ point_at places j
point_at_before places p j before = get_or_append_left places (p ∷ []) (record { u = pos 0; v = pos 0 }) j before

-- and stands after them
point_at_own : (places : List Point) (p : Point) (n : ℕ) → length places ≡ n → point_at (places ++ p ∷ []) n ≡ p
point_at_own places p n all =
    let none : n - n ≡ 0 = omega arith in
    rw (get_or-append_right places (p ∷ []) n n (record { u = pos 0; v = pos 0 }) all (omega arith), none) refl

-- the places of the first n marks
pub record AreFollowed (page : Page) (last n : ℕ) (places : List Point) : Type 0 where
  pub all : length places ≡ n
  pub followed : 0 < n → IsFollowed page last n places

-- a fault is the first mark that isn't found
abbrev pub IsLackOf : Paper → Page → BorderFault → Type 0
IsLackOf paper page NoCorner = (p : Point) → IsCorner page p → ⊥
IsLackOf paper page (NoMark side index predicted) = LacksMark paper page side index predicted
IsLackOf paper page (OpenBorder predicted found) = ⊥

-- the places of the first n marks, or the first that isn't found
abbrev pub AreMarksOf : Paper → Page → ℕ → Result (List Point) BorderFault → Type 0
AreMarksOf paper page n (Ok places) = AreFollowed page (last_row paper) n places
AreMarksOf paper page n (Err fault) = IsLackOf paper page fault

module _ (corner_is_followed : CornerIsFollowed) (followed_grows : FollowedGrows) (paper : Paper) (page : Page) where
  -- a followed list with one place more
  followed_push : (last n : ℕ) (places : List Point) (p : Point) → 0 < n → length places ≡ n → IsFollowed page last n places → IsBest page (prediction_of last places n) p → IsFollowed page last (n + 1) (places ++ p ∷ [])
  followed_push last n places p some all f best =
      let Own : Point → Type 0 = λ x. IsBest page (prediction_of last places n) x in
      followed_grows page last n places (places ++ p ∷ []) some f (λ k before. point_at_before places p k (omega arith)) (subst Own (sym (point_at_own places p n all)) best)

  -- the corner comes first
  first_mark : (places : List Point) (found : Option Point) → length places ≡ 0 → IsCornerOf page found → AreMarksOf paper page 1 (with_found places NoCorner found)
  first_mark places None all none = none
  first_mark places (Some p) all corner =
      let Corner : Point → Type 0 = λ x. IsCorner page x in
      record {
        all = omega (arith, length-append places (p ∷ []));
        followed = λ h. corner_is_followed page (last_row paper) (places ++ p ∷ []) (subst Corner (sym (point_at_own places p 0 all)) corner);
      }

  -- and each other mark after those before it
  later_mark : (n : ℕ) (places : List Point) (found : Option Point) → 0 < n → n < marks paper → AreFollowed page (last_row paper) n places → IsBestOf page (prediction_of (last_row paper) places n) found → AreMarksOf paper page (suc n) (with_found places (NoMark (side_of (last_row paper) n) (index_of (last_row paper) n) (prediction_of (last_row paper) places n)) found)
  later_mark n places None some few before none = record {
    mark = n;
    later = some;
    number = few;
    side_is = refl;
    index_is = refl;
    places = places;
    followed = before.followed some;
    predicted_is = refl;
    none = none;
  }
  later_mark n places (Some p) some few before best = record {
    all = omega (arith, length-append places (p ∷ []), before.all);
    followed = λ h. let Followed : ℕ → Type 0 = λ m. IsFollowed page (last_row paper) m (places ++ p ∷ []) in subst Followed (add-one n) (followed_push (last_row paper) n places p some before.all (before.followed some) best);
  }

  -- with one mark more
  marks_more : (n : ℕ) (found : Result (List Point) BorderFault) → n < marks paper → AreMarksOf paper page n found → AreMarksOf paper page (suc n) (with_mark page (last_row paper) n found)
  marks_more n (Err fault) few h = h
  marks_more zero (Ok places) few h = first_mark places (corner_of page) h.all (IsCornerOf-corner_of page)
  marks_more (suc k) (Ok places) few h =
      let later : (suc k == 0) ≡ false = ne_eqb (suc k) 0 (λ e. omega arith) in
      let predicted : Point = prediction_of (last_row paper) places (suc k) in
      rw later (later_mark (suc k) places (best_of page predicted) (omega arith) few h (IsBestOf-best_of page predicted))

  -- the marks that are found one after the other are followed
  pub AreMarksOf-marks_of : (n : ℕ) → n ≤ marks paper → AreMarksOf paper page n (marks_of page (last_row paper) n)
  unfolding marks_of
  AreMarksOf-marks_of zero few = record { all = refl; followed = λ h. absurd (omega arith) }
  AreMarksOf-marks_of (suc n) few = marks_more n (marks_of page (last_row paper) n) (omega arith) (AreMarksOf-marks_of n (omega arith))
