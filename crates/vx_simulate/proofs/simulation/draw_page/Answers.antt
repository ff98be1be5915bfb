use Rattle.std.proofs.Common.{◌≡◌, Bool, List, length, ap, sym, subst, ◌∙◌}
use Rattle.std.proofs.lemmas.List.{length-map}
use Rattle.vx_simulate.specs.declared.ink.Ink.{Ink}
use Rattle.vx_simulate.specs.declared.flips.Flips.{Flips}
use Rattle.vx_simulate.specs.Marks.{draw_marks, is_marked}
use Rattle.vx_simulate.specs.Ink.{draw_ink, draw_inks}
use Rattle.vx_simulate.specs.Flips.{AreFlipsOf}
use Rattle.vx_simulate.proofs.Drawn.{all-many}
use Rattle.vx_simulate.proofs.Laying.{page-laid, flips-zoned}
use Rattle.vx_simulate.proofs.simulation.draw_page.Goals as goal

pub returns : goal.returns
returns c =
    let election = c.args.election.now in
    let plan = c.args.plan.now in
    let drawn = (draw_marks election plan c.args.rng.now).0 in
    let seen : c.as_slice.result.now ≡ c.from_vec.result = c.as_slice.ensures.value ∙ sym c.from_vec.ensures in
    let marked = c.from_vec.ensures ∙ c.in_ok-marks.ensures.marked in
    let inked : c.from_vec-2.result ≡ (draw_inks election.thresholds c.as_slice.result.now c.draw_shear-shear.new.rng).0 = c.from_vec-2.ensures ∙ c.in_ok-inks.ensures.inks in
    let laid = page-laid election plan c.args.rng.now c.draw_flags.new.rng c.draw_shear-shear.new.rng c.draw_inks.new.rng c.draw_flips.new.rng
    (record { marks = c.from_vec.result; shear = c.draw_shear-shear.result; inks = c.from_vec-2.result; flips = c.in_ok-flips.flips })
    marked c.in_ok-marks.ensures.next
    c.draw_shear-shear.ensures.shear c.draw_shear-shear.ensures.next
    (inked ∙ ap (λ (m : List Bool). (draw_inks election.thresholds m c.draw_shear-shear.new.rng).0) seen)
    (c.in_ok-inks.ensures.next ∙ ap (λ (m : List Bool). (draw_inks election.thresholds m c.draw_shear-shear.new.rng).1) seen)
    c.in_ok-flips.ensures.flips c.in_ok-flips.ensures.next in
    record {
      drawn = laid.0;
      next = laid.1;
      short = c.draw_shear-shear.ensures.short;
      inks = ap (λ (i : List Ink). length i) inked
          ∙ all-many (draw_ink election.thresholds) c.as_slice.result.now c.draw_shear-shear.new.rng
          ∙ ap (λ (m : List Bool). length m) (seen ∙ marked)
          ∙ length-map plan.bubbles (is_marked drawn);
      in_zones = subst (λ (f : Flips). AreFlipsOf plan f) (sym c.in_ok-flips.ensures.flips) (flips-zoned plan c.draw_inks.new.rng);
    }
