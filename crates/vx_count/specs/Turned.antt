-- Pages turned by 180 degrees.
use Rattle.std.specs.Prelude.{◌≡◌, ◌≤◌, ℕ, Bool, true, false, pos, ◌-ℤ◌}
use Rattle.vx_plane.specs.Plane.{Pixels, Page, page_of, dark_at}

-- the places of a set, turned by 180 degrees within a frame
abbrev pub turned : ℕ → ℕ → Pixels → Pixels
turned width height set u v = set ((pos width -ℤ pos 1) -ℤ u) ((pos height -ℤ pos 1) -ℤ v)

-- a page turned by 180 degrees
abbrev pub turned_page : Page → Page
turned_page page = page_of page.width page.height (turned page.width page.height (dark_at page))

-- a page that is made of its dark places
abbrev pub IsWhole : Page → Type 0
IsWhole page = page ≡ page_of page.width page.height (dark_at page)

-- such a page is as before when it is turned twice
abbrev pub TurnsBack : Type 0
TurnsBack = (page : Page) → IsWhole page → turned_page (turned_page page) ≡ page

-- a page as it is, or turned
abbrev pub shown_page : Bool → Page → Page
shown_page false page = page
shown_page true page = turned_page page

-- a page that a counter keeps, of at most 4096 pixels each way
pub record IsKept (page : Page) : Type 0 where
  pub columns : page.width ≤ 4096
  pub rows : page.height ≤ 4096
  pub whole : IsWhole page
