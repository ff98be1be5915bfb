-- What an image shows, whether it is lent or made.
use Rattle.vx_plane.specs.Plane.{Page}
use Rattle.vx_pbm.specs.declared.image.Held.{Held}
use Rattle.vx_pbm.specs.declared.image.Held.TheVariants.{Lent, Made}

-- the page of a lent or a made image
abbrev pub page_in : Held → Page
page_in (Lent page) = page
page_in (Made page) = page
