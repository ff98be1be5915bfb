-- How many images are taken at a time.
use Rattle.std.specs.Prelude.{◌≡◌, [], ◌∷◌}
use Rattle.vx_plane.specs.Plane.{Page}
use Rattle.vx_pbm.specs.Images.{Images, with_page}
use Rattle.vx_command_center.specs.declared.two.Two.{Two}
use Rattle.vx_command_center.specs.declared.two.Two.TheVariants.{Both, Single, AtEnd}

-- the next two images of those that are left, the last one, or none
abbrev pub AreNext : Images → Two → Images → Type 0
AreNext left (Both first second) now = left ≡ with_page first (with_page second now)
AreNext left Single now = (single : Page) × (left.pages ≡ single ∷ [])
AreNext left AtEnd now = left.pages ≡ []
