use Rattle.std.proofs.Common.{◌≡◌, ◌∷◌, Ok, ap, subst}
use Rattle.std.specs.Prelude.{None, Option}
use Rattle.vx_plane.specs.Plane.{Page}
use Rattle.vx_pbm.specs.Images.{Images, Walks, ended, images_left}
use Rattle.vx_command_center.proofs.two.second_of.Goals as goal

pub returns-in-Ok-None : goal.returns-in-Ok-None
returns-in-Ok-None c =
    let Walked : Option Page → Type 0 = λ found. Walks c.args.reader.now (Ok found) c.next.new.self in
    let none : images_left c.args.reader.now ≡ ended None = subst Walked c.in-Ok-None.field-0-is c.in-Ok-None.ensures.images in
    (c.args.first, ap (λ (images : Images). c.args.first ∷ images.pages) none)
