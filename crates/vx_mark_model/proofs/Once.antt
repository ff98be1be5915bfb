-- A scan has one border at most, or one first fault.
use Rattle.std.proofs.Common.{◌≡◌, ◌∙◌, ◌<◌, ◌≤◌, ◌-◌, inl, inr, ℕ, zero, suc, List, Result, Ok, Err, pos, arith, refl, sym, ap, ap₂, subst}
use Rattle.std.proofs.lemmas.Bool.{cases_order}
use Rattle.std.proofs.lemmas.List.{ext_get_or}
use Rattle.vx_plane.specs.Plane.{Page}
use Rattle.vx_grid.specs.declared.paper.Paper.{Paper}
use Rattle.vx_grid.specs.declared.places.Point.{Point}
use Rattle.vx_grid.specs.declared.side.Side.{Side}
use Rattle.vx_grid.specs.Paper.{last_row}
use Rattle.vx_grid.specs.Marks.{first_left, marks}
use Rattle.vx_grid.specs.Borders.{MarkPlaces}
use Rattle.vx_grid.specs.Places.{point_at}
use Rattle.vx_mark_model.specs.Corner.{CornerIsOne}
use Rattle.vx_mark_model.specs.Best.{IsNear, IsBest, BestPlaceIsOne}
use Rattle.vx_mark_model.specs.declared.fault.BorderFault.{BorderFault}
use Rattle.vx_mark_model.specs.declared.fault.BorderFault.TheVariants.{NoCorner, NoMark, OpenBorder}
use Rattle.vx_mark_model.specs.Following.{leader_of, prediction_of, expected_from, right_of, end_of, right_end_of, IsFollowed, AreAllFollowed}
use Rattle.vx_mark_model.specs.Border.{side_of, index_of, IsBorder, LacksMark, StaysOpen, IsBorderOf}
use Rattle.vx_mark_model.proofs.Follow.{leader_before}

module _ (corner_is_one : CornerIsOne) (best_is_one : BestPlaceIsOne) where
  -- two followed lists agree up to a place
  agree_up_to : (page : Page) (last n : ℕ) (a b : List Point) → IsFollowed page last n a → IsFollowed page last n b → (m k : ℕ) → k ≤ m → k < n → point_at a k ≡ point_at b k
  agree_up_to page last n a b f g m zero most inside = corner_is_one page _ _ f.corner g.corner
  agree_up_to page last n a b f g zero (suc k) most inside = absurd (omega arith)
  agree_up_to page last n a b f g (suc m) (suc k) most inside =
      let leader : point_at a (leader_of last (suc k)) ≡ point_at b (leader_of last (suc k)) =
      agree_up_to page last n a b f g m (leader_of last (suc k)) (omega (arith, leader_before last (suc k) (omega arith))) (omega (arith, leader_before last (suc k) (omega arith))) in
      let Best : Point → Type 0 = λ q. IsBest page q (point_at a (suc k)) in
      let there : IsBest page (prediction_of last b (suc k)) (point_at a (suc k)) = subst Best (ap (expected_from last (suc k)) leader) (f.next (suc k) (omega arith) inside) in
      best_is_one page (prediction_of last b (suc k)) _ _ there (g.next (suc k) (omega arith) inside)

  -- two followed lists of one length are one
  pub followed_once : (page : Page) (last n : ℕ) (a b : List Point) → IsFollowed page last n a → IsFollowed page last n b → (k : ℕ) → k < n → point_at a k ≡ point_at b k
  followed_once page last n a b f g k inside = agree_up_to page last n a b f g k k (omega arith) inside

  -- fewer marks are followed too
  followed_less : (page : Page) (last m n : ℕ) (places : List Point) → m ≤ n → IsFollowed page last n places → IsFollowed page last m places
  followed_less page last m n places few f = record { corner = f.corner; next = λ k low high. f.next k low (omega arith) }

  -- two followed lists expect the next mark at one place
  predictions_agree : (page : Page) (last m : ℕ) (a b : List Point) → 0 < m → IsFollowed page last m a → IsFollowed page last m b → prediction_of last a m ≡ prediction_of last b m
  predictions_agree page last m a b some f g = ap (expected_from last m) (followed_once page last m a b f g (leader_of last m) (leader_before last m some))

  -- a mark that is followed isn't lacking
  not_lacking : (page : Page) (last n m : ℕ) (a b : List Point) → 0 < m → m < n → IsFollowed page last n a → IsFollowed page last m b → ((p : Point) → IsBest page (prediction_of last b m) p → ⊥) → ⊥
  not_lacking page last n m a b some inside f g none =
      let Best : Point → Type 0 = λ q. IsBest page q (point_at a m) in
      none (point_at a m) (subst Best (predictions_agree page last m a b some (followed_less page last m n a (omega arith) f) g) (f.next m some inside))

  module _ (paper : Paper) (page : Page) where
    followed_not_lacking : (n : ℕ) (a : List Point) (side : Side) (index : ℕ) (predicted : Point) → IsFollowed page (last_row paper) n a → (lack : LacksMark paper page side index predicted) → lack.mark < n → ⊥
    followed_not_lacking n a side index predicted f lack inside =
        let None : Point → Type 0 = λ q. (p : Point) → IsBest page q p → ⊥ in
        not_lacking page (last_row paper) n lack.mark a lack.places lack.later inside f lack.followed (subst None lack.predicted_is lack.none)

    -- the same first mark that isn't found
    mark_once : (s t : Side) (i j : ℕ) (p q : Point) → LacksMark paper page s i p → LacksMark paper page t j q → NoMark s i p ≡ NoMark t j q
    mark_once s t i j p q a b =
        elim (cases_order a.mark b.mark) [
          | inl same ↦
              let last = last_row paper in
              let Followed : ℕ → Type 0 = λ n. IsFollowed page last n a.places in
              let there : IsFollowed page last b.mark a.places = subst Followed same a.followed in
              let sides : s ≡ t = a.side_is ∙ (ap (side_of last) same ∙ sym b.side_is) in
              let indexes : i ≡ j = a.index_is ∙ (ap (index_of last) same ∙ sym b.index_is) in
              let places : p ≡ q = a.predicted_is ∙ (ap (prediction_of last a.places) same ∙ (predictions_agree page last b.mark a.places b.places b.later there b.followed ∙ sym b.predicted_is)) in
              cc
          | inr apart ↦ elim apart [
            | inl before ↦ absurd (followed_not_lacking b.mark b.places s i p b.followed a before)
            | inr after ↦ absurd (followed_not_lacking a.mark a.places t j q a.followed b after)
          ]
        ]

    -- two followed lists of all marks lead to one end
    ends_agree : (a b : List Point) → AreAllFollowed paper page a → AreAllFollowed paper page b → end_of (last_row paper) a ≡ end_of (last_row paper) b
    ends_agree a b f g = ap right_of (followed_once page (last_row paper) (marks paper) a b f g (marks paper - 1) (omega arith))

    right_ends_agree : (a b : List Point) → AreAllFollowed paper page a → AreAllFollowed paper page b → right_end_of (last_row paper) a ≡ right_end_of (last_row paper) b
    right_ends_agree a b f g = followed_once page (last_row paper) (marks paper) a b f g (first_left (last_row paper) - 1) (omega arith)

    -- a border that closes doesn't stay open
    not_open : (border : MarkPlaces) (predicted found : Point) → IsBorder paper page border → StaysOpen paper page predicted found → ⊥
    not_open border predicted found is stays =
        let last = last_row paper in
        let end : end_of last border.places ≡ predicted = ends_agree border.places stays.places is.followed stays.followed ∙ sym stays.predicted_is in
        let right : right_end_of last border.places ≡ found = right_ends_agree border.places stays.places is.followed stays.followed ∙ sym stays.found_is in
        let End : Point → Type 0 = λ q. IsNear q (right_end_of last border.places) in
        let Right : Point → Type 0 = λ q. IsNear predicted q in
        stays.apart (subst Right right (subst End end is.closes))

    -- one border
    border_once : (a b : MarkPlaces) → IsBorder paper page a → IsBorder paper page b → a ≡ b
    border_once a b f g =
        ap₂ (λ (p : Paper) (l : List Point). let m : MarkPlaces = record { paper = p; places = l } in m) (f.of_paper ∙ sym g.of_paper)
        (ext_get_or (record { u = pos 0; v = pos 0 }) a.places b.places (f.all ∙ sym g.all) (λ k inside. followed_once page (last_row paper) (marks paper) a.places b.places f.followed g.followed k (omega (arith, f.all))))

    -- one end where it stays open
    open_once : (p q r s : Point) → StaysOpen paper page p q → StaysOpen paper page r s → OpenBorder p q ≡ OpenBorder r s
    open_once p q r s a b =
        let ends : p ≡ r = a.predicted_is ∙ (ends_agree a.places b.places a.followed b.followed ∙ sym b.predicted_is) in
        let rights : q ≡ s = a.found_is ∙ (right_ends_agree a.places b.places a.followed b.followed ∙ sym b.found_is) in
        cc

    -- a scan has one border, or one first fault
    answers_are_one : (a b : Result MarkPlaces BorderFault) → IsBorderOf paper page a → IsBorderOf paper page b → a ≡ b
    answers_are_one (Ok a) (Ok b) f g = ap Ok (border_once a b f g)
    answers_are_one (Ok a) (Err NoCorner) f g = absurd (g (point_at a.places 0) f.followed.corner)
    answers_are_one (Ok a) (Err (NoMark t j q)) f g = absurd (followed_not_lacking (marks paper) a.places t j q f.followed g g.number)
    answers_are_one (Ok a) (Err (OpenBorder r s)) f g = absurd (not_open a r s f g)
    answers_are_one (Err NoCorner) (Ok b) f g = absurd (f (point_at b.places 0) g.followed.corner)
    answers_are_one (Err NoCorner) (Err NoCorner) f g = refl
    answers_are_one (Err NoCorner) (Err (NoMark t j q)) f g = absurd (f (point_at g.places 0) g.followed.corner)
    answers_are_one (Err NoCorner) (Err (OpenBorder r s)) f g = absurd (f (point_at g.places 0) g.followed.corner)
    answers_are_one (Err (NoMark s i p)) (Ok b) f g = absurd (followed_not_lacking (marks paper) b.places s i p g.followed f f.number)
    answers_are_one (Err (NoMark s i p)) (Err NoCorner) f g = absurd (g (point_at f.places 0) f.followed.corner)
    answers_are_one (Err (NoMark s i p)) (Err (NoMark t j q)) f g = ap Err (mark_once s t i j p q f g)
    answers_are_one (Err (NoMark s i p)) (Err (OpenBorder r t)) f g = absurd (followed_not_lacking (marks paper) g.places s i p g.followed f f.number)
    answers_are_one (Err (OpenBorder p q)) (Ok b) f g = absurd (not_open b p q g f)
    answers_are_one (Err (OpenBorder p q)) (Err NoCorner) f g = absurd (g (point_at f.places 0) f.followed.corner)
    answers_are_one (Err (OpenBorder p q)) (Err (NoMark t j r)) f g = absurd (followed_not_lacking (marks paper) f.places t j r f.followed g g.number)
    answers_are_one (Err (OpenBorder p q)) (Err (OpenBorder r s)) f g = ap Err (open_once p q r s f g)

  -- a scan has one border, or one first fault
  pub answers_once : (paper : Paper) (page : Page) (a b : Result MarkPlaces BorderFault) → IsBorderOf paper page a → IsBorderOf paper page b → a ≡ b
  answers_once paper page a b f g = answers_are_one paper page a b f g
