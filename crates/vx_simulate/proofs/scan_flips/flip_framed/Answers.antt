use Rattle.std.proofs.Common.{pos, ◌+ℤ◌, sym, ◌∙◌, arith}
use Rattle.std.proofs.lemmas.Int.{ints}
use Rattle.vx_geom.specs.Slants.{slant_of}
use Rattle.vx_simulate.specs.Flipped.{shown_frame}
use Rattle.vx_simulate.proofs.Laid.{laid_within_at, not-laid_within_at}
use Rattle.vx_simulate.proofs.scan_flips.flip_framed.Goals as goal

pub returns-then-shows_frame : goal.returns-then-shows_frame
returns-then-shows_frame c =
    laid_within_at c.args.page.now c.flip.new.page (record { u = pos c.args.left +ℤ pos c.args.place.0; v = pos c.args.top +ℤ pos c.args.place.1 }) _ _ (shown_frame (slant_of c.args.shear) c.args.paper)
    (sym c.shows_frame.ensures ∙ c.if-shows_frame.true) c.flip.ensures
    (omega (arith, ints, c.requires.left, c.requires.near.0))
    (omega (arith, ints, c.requires.top, c.requires.near.1))

pub returns-else-shows_frame : goal.returns-else-shows_frame
returns-else-shows_frame c =
    not-laid_within_at c.args.page.now (record { u = pos c.args.left +ℤ pos c.args.place.0; v = pos c.args.top +ℤ pos c.args.place.1 }) _ _ (shown_frame (slant_of c.args.shear) c.args.paper)
    c.width-columns.ensures.whole (sym c.shows_frame.ensures ∙ c.if-shows_frame.false)
    (omega (arith, ints, c.requires.left, c.requires.near.0))
    (omega (arith, ints, c.requires.top, c.requires.near.1))
