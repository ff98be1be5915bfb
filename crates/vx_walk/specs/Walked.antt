-- How far a walk has come.
use Rattle.std.specs.Prelude.{ℕ, ◌+◌, ◌*◌, List, [], ◌∷◌, length, Option, Some, None}
use Rattle.vx_plane.specs.Plane.{Page}
use Rattle.vx_walk.specs.declared.walked.Walked.{Walked}

-- the list of an image that may wait for its second
abbrev pub waits : Option Page → List Page
waits None = []
waits (Some image) = image ∷ []

-- how many images there were
abbrev pub images_in : Walked → ℕ
images_in walked = 2 * walked.sheets + length (waits walked.waiting)
