-- What an image that waits for its second shows.
use Rattle.vx_plane.specs.Plane.{Page}
use Rattle.vx_walk.specs.declared.walked.Held.{Held}
use Rattle.vx_walk.specs.declared.walked.Held.TheVariants.{Lent, Copied}

-- the page of an image of the scan at hand, or of a copy
abbrev pub page_in : Held → Page
page_in (Lent page) = page
page_in (Copied page) = page
