use Rattle.std.proofs.Common.{◌++◌, ap, ap₂, ◌∙◌, append_assoc}
use Rattle.vx_bits.specs.Packed.{raster_of}
use Rattle.vx_pbm.specs.Raw.{header_of, p4_of}
use Rattle.vx_pbm.proofs.raw.append_p4.Goals as goal

pub returns-clause-ok : goal.returns-clause-ok
unfolding p4_of
returns-clause-ok c =
    c.in_ok-append_raster.ensures.ok
    ∙ (ap (λ s. s ++ raster_of c.args.page.now) c.in_ok-append_header.ensures.ok
    ∙ (append_assoc c.args.into.now (header_of c.width.result c.height.result) (raster_of c.args.page.now)
    ∙ ap₂ (λ w h. c.args.into.now ++ (header_of w h ++ raster_of c.args.page.now)) c.width.ensures.value c.height.ensures.value))
