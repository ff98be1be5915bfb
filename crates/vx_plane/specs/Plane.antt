-- Sets of places in the whole-number plane, and pages.
use Rattle.std.specs.Prelude.{ℕ, suc, zero, List, [], ◌∷◌, map, Bool, false, cond, ◌&&◌, ◌||◌, ℤ, pos, negsuc, ◌+ℤ◌, ◌-ℤ◌, int_lt, int_le, slice_index_or}
use Rattle.std.specs.Ordering.{int_eq}
use Rattle.std.specs.List.{range_with_len}

-- a set of places: columns u to the right, rows v downwards
abbrev pub Pixels : Type 0
Pixels = ℤ → ℤ → Bool

-- a page: its frame, and for each row from the top the truth values of its pixels, true for dark
pub record Page : Type 0 where
  pub width : ℕ
  pub height : ℕ
  pub rows : List (List Bool)

-- the rows of a frame, dark where the set says so
unfoldable pub rows_of : ℕ → ℕ → Pixels → List (List Bool)
rows_of width height dark = map (λ y. map (λ x. dark (pos x) (pos y)) (range_with_len 0 width)) (range_with_len 0 height)

-- the page of a frame that is dark where the set says so
abbrev pub page_of : ℕ → ℕ → Pixels → Page
page_of width height dark = record { width = width; height = height; rows = rows_of width height dark }

-- the dark places of a page: every place outside its frame is light
abbrev pub dark_at : Page → Pixels
dark_at page (pos u) (pos v) = slice_index_or (slice_index_or page.rows v []) u false
dark_at page (pos u) (negsuc v) = false
dark_at page (negsuc u) v = false

-- no place
abbrev pub nowhere : Pixels
nowhere u v = false

-- the set with one place put in or taken out
abbrev pub with_pixel : Pixels → ℤ → ℤ → Bool → Pixels
with_pixel set x y dark u v = cond (int_eq u x && int_eq v y) dark (set u v)

-- the places of either set
abbrev pub union : Pixels → Pixels → Pixels
union a b u v = a u v || b u v

-- the places of a rectangle: its left column, its top row, its sides
abbrev pub rectangle : ℤ → ℤ → ℕ → ℕ → Pixels
rectangle left top width height u v =
    (int_le left u && int_lt u (left +ℤ pos width)) && (int_le top v && int_lt v (top +ℤ pos height))

-- the page with the places of a shape made dark, so far as they lie in the frame
abbrev pub painted : Page → Pixels → Page
painted page shape = page_of page.width page.height (union (dark_at page) shape)

-- the places of the first n sets of a family
abbrev pub in_any : ℕ → (ℕ → Pixels) → Pixels
in_any zero family u v = false
in_any (suc n) family u v = in_any n family u v || family n u v

-- the places of the sets that the elements of a list stand for
abbrev pub any_of : {A : Type 0} → List A → (A → Pixels) → Pixels
any_of [] set u v = false
any_of (x ∷ xs) set u v = set x u v || any_of xs set u v

-- a shape that is given by offsets, put at a place
abbrev pub placed : ℤ → ℤ → Pixels → Pixels
placed x y shape u v = shape (u -ℤ x) (v -ℤ y)
