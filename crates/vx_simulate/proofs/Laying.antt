-- What is drawn of a page, one thing after the other.
use Rattle.std.proofs.Common.{◌≡◌, ℕ, ◌*◌, Bool, List, length, ap, ◌∙◌, arith}
use Rattle.std.specs.Prelude.{Result, IsErr, OnOk}
use Rattle.std.specs.List.{range_with_len}
use Rattle.std.proofs.lemmas.Result.{IfOk-from_err}
use Rattle.std.proofs.lemmas.List.FromFn.{length-range_with_len}
use Rattle.rand_pcg.specs.Lcg.{Lcg}
use Rattle.vx_election_model.specs.declared.election.Election.{Election}
use Rattle.vx_layout.specs.declared.pages.PagePlan.{PagePlan}
use Rattle.vx_geom.specs.declared.shear.Shear.{Shear}
use Rattle.vx_simulate.specs.declared.ink.Ink.{Ink}
use Rattle.vx_simulate.specs.declared.flips.Flips.{Flips}
use Rattle.vx_simulate.specs.declared.simulation.Simulation.{Simulation}
use Rattle.vx_simulate.specs.Marks.{draw_marks, marks_of}
use Rattle.vx_simulate.specs.Lie.{draw_shear}
use Rattle.vx_simulate.specs.Ink.{draw_inks}
use Rattle.vx_simulate.specs.Flips.{draw_at_bubbles, draw_at_boxes, draw_in_tiles, draw_flips, tile_columns, tile_rows, AreDrawnIn, AreFlipsOf}
use Rattle.vx_simulate.specs.Simulated.{draw_page}
use Rattle.vx_simulate.proofs.Drawn.{lists-drawn}

-- where a call refused, nothing is owed
pub not-done : {T E : Type 0} (P : Type 0) (r : Result T E) → IsErr r → OnOk r P
not-done P r refused = IfOk-from_err r (λ _. P) refused

-- three draws, each from the generator that the one before it left
module _ {A B C : Type 0} (F : Lcg → A × Lcg) (G : Lcg → B × Lcg) (H : Lcg → C × Lcg) (g g1 g2 g3 : Lcg) (b : B) (c : C)
    (first : g1 ≡ (F g).1) (second : b ≡ (G g1).0) (next : g2 ≡ (G g1).1) (third : c ≡ (H g2).0) (last : g3 ≡ (H g2).1) where
  second-laid : b ≡ (G (F g).1).0
  second-laid = second ∙ ap (λ (s : Lcg). (G s).0) first

  after-second : g2 ≡ (G (F g).1).1
  after-second = next ∙ ap (λ (s : Lcg). (G s).1) first

  third-laid : c ≡ (H (G (F g).1).1).0
  third-laid = third ∙ ap (λ (s : Lcg). (H s).0) after-second

  last-laid : g3 ≡ (H (G (F g).1).1).1
  last-laid = last ∙ ap (λ (s : Lcg). (H s).1) after-second

abbrev flips_from : List (List (ℕ × ℕ)) → List (List (ℕ × ℕ)) → List (List (ℕ × ℕ)) → Flips
flips_from a b d = record { at_bubbles = a; at_boxes = b; in_tiles = d }

flips-same : (a a' b b' d d' : List (List (ℕ × ℕ))) → a ≡ a' → b ≡ b' → d ≡ d' → flips_from a b d ≡ flips_from a' b' d'
flips-same a a' b b' d d' e f h = ap (λ z. flips_from z b d) e ∙ ap (λ z. flips_from a' z d) f ∙ ap (λ z. flips_from a' b' z) h

-- the flips of a page
pub flips-laid : (plan : PagePlan) (g g1 g2 g3 : Lcg) (drawn : Flips)
    → drawn.at_bubbles ≡ (draw_at_bubbles plan g).0 → g1 ≡ (draw_at_bubbles plan g).1
    → drawn.at_boxes ≡ (draw_at_boxes g1).0 → g2 ≡ (draw_at_boxes g1).1
    → drawn.in_tiles ≡ (draw_in_tiles plan.paper g2).0 → g3 ≡ (draw_in_tiles plan.paper g2).1
    → (drawn ≡ (draw_flips plan g).0) × (g3 ≡ (draw_flips plan g).1)
flips-laid plan g g1 g2 g3 drawn at first second next third last = (
  flips-same _ _ _ _ _ _ at
      (second-laid (draw_at_bubbles plan) draw_at_boxes (draw_in_tiles plan.paper) g g1 g2 g3 drawn.at_boxes drawn.in_tiles first second next third last)
      (third-laid (draw_at_bubbles plan) draw_at_boxes (draw_in_tiles plan.paper) g g1 g2 g3 drawn.at_boxes drawn.in_tiles first second next third last),
  last-laid (draw_at_bubbles plan) draw_at_boxes (draw_in_tiles plan.paper) g g1 g2 g3 drawn.at_boxes drawn.in_tiles first second next third last,
)

many-as : (m n width height : ℕ) (lists : List (List (ℕ × ℕ))) → m ≡ n → AreDrawnIn m width height lists → AreDrawnIn n width height lists
many-as m n width height lists same drawn = record { all = drawn.all ∙ same; within = drawn.within }

-- each place of them lies in its zone or tile
pub flips-zoned : (plan : PagePlan) (g : Lcg) → AreFlipsOf plan (draw_flips plan g).0
flips-zoned plan g =
    let g1 : Lcg = (draw_at_bubbles plan g).1 in
    let g2 : Lcg = (draw_at_boxes g1).1 in
    let tiles : ℕ = tile_columns * tile_rows plan.paper in
    record {
      at_bubbles = lists-drawn 12 72 50 plan.bubbles g (omega arith) (omega arith);
      at_boxes = many-as (length (range_with_len 0 84)) 84 60 44 (draw_at_boxes g1).0 (length-range_with_len 0 84) (lists-drawn 40 60 44 (range_with_len 0 84) g1 (omega arith) (omega arith));
      in_tiles = many-as (length (range_with_len 0 tiles)) tiles 46 22 (draw_in_tiles plan.paper g2).0 (length-range_with_len 0 tiles) (lists-drawn 5 46 22 (range_with_len 0 tiles) g2 (omega arith) (omega arith));
    }

abbrev simulation_from : List Bool → Shear → List Ink → Flips → Simulation
simulation_from m s i f = record { marks = m; shear = s; inks = i; flips = f }

simulation-same : (m m' : List Bool) (s s' : Shear) (i i' : List Ink) (f f' : Flips) → m ≡ m' → s ≡ s' → i ≡ i' → f ≡ f' → simulation_from m s i f ≡ simulation_from m' s' i' f'
simulation-same m m' s s' i i' f f' a b c d =
    ap (λ z. simulation_from z s i f) a ∙ ap (λ z. simulation_from m' z i f) b ∙ ap (λ z. simulation_from m' s' z f) c ∙ ap (λ z. simulation_from m' s' i' z) d

-- all of a page
pub page-laid : (election : Election) (plan : PagePlan) (g g1 g2 g3 g4 : Lcg) (it : Simulation)
    → it.marks ≡ marks_of (draw_marks election plan g).0 plan → g1 ≡ (draw_marks election plan g).1
    → it.shear ≡ (draw_shear plan.paper g1).0 → g2 ≡ (draw_shear plan.paper g1).1
    → it.inks ≡ (draw_inks election.thresholds it.marks g2).0 → g3 ≡ (draw_inks election.thresholds it.marks g2).1
    → it.flips ≡ (draw_flips plan g3).0 → g4 ≡ (draw_flips plan g3).1
    → (it ≡ (draw_page election plan g).0) × (g4 ≡ (draw_page election plan g).1)
unfolding draw_page
page-laid election plan g g1 g2 g3 g4 it marked from lie next ink after flip last =
    let start : Lcg = (draw_marks election plan g).1 in
    let marks : List Bool = marks_of (draw_marks election plan g).0 plan in
    let shear : it.shear ≡ (draw_shear plan.paper start).0 = lie ∙ ap (λ (s : Lcg). (draw_shear plan.paper s).0) from in
    let first : g2 ≡ (draw_shear plan.paper start).1 = next ∙ ap (λ (s : Lcg). (draw_shear plan.paper s).1) from in
    let second : it.inks ≡ (draw_inks election.thresholds marks g2).0 = ink ∙ ap (λ (m : List Bool). (draw_inks election.thresholds m g2).0) marked in
    let third : g3 ≡ (draw_inks election.thresholds marks g2).1 = after ∙ ap (λ (m : List Bool). (draw_inks election.thresholds m g2).1) marked in (
      simulation-same _ _ _ _ _ _ _ _ marked shear
          (second-laid (draw_shear plan.paper) (draw_inks election.thresholds marks) (draw_flips plan) start g2 g3 g4 it.inks it.flips first second third flip last)
          (third-laid (draw_shear plan.paper) (draw_inks election.thresholds marks) (draw_flips plan) start g2 g3 g4 it.inks it.flips first second third flip last),
      last-laid (draw_shear plan.paper) (draw_inks election.thresholds marks) (draw_flips plan) start g2 g3 g4 it.inks it.flips first second third flip last,
    )
