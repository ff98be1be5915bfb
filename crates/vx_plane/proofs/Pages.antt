-- Laws of pages: what lies where, what makes one page, and what painting does.
use Rattle.std.proofs.Common.{◌≡◌, ℕ, zero, suc, ◌+◌, ◌≤◌, ◌<◌, List, [], ◌∷◌, ◌++◌, length, map, take, get_or, Bool, true, false, cond, ◌||◌, ◌&&◌, ◌⊎◌, ⊎_elim, inl, inr, ℤ, pos, negsuc, ◌+ℤ◌, ◌≤ℤ◌, ◌<ℤ◌, refl, ap, ap₂, sym, ◌∙◌, arith, add-one}
use Rattle.std.specs.List.{range_with_len}
use Rattle.std.specs.Ordering.{int_eq}
use Rattle.std.proofs.lemmas.Int.{ints, by_lt_z}
use Rattle.std.proofs.lemmas.List.{same_lists, get_or_past, take_more}
use Rattle.std.proofs.lemmas.List.FromFn.{length-map-range_with_len, get_or-map-range_with_len}
use Rattle.std.proofs.lemmas.Bool.{cases_lt}
use Rattle.std.proofs.lemmas.Bool.Decides.{Decides-int_eq}
use Rattle.vx_plane.specs.Plane.{Pixels, Page, rows_of, page_of, dark_at, with_pixel, union, rectangle, painted, in_any, any_of}

-- the same numbers, the same list
pub map-same : {X : Type 0} (f g : ℕ → X) (n : ℕ) → ((k : ℕ) → k < n → f k ≡ g k) → map f (range_with_len 0 n) ≡ map g (range_with_len 0 n)
map-same f g n same =
    same_lists _ _
    (length-map-range_with_len f 0 n ∙ sym (length-map-range_with_len g 0 n))
    (λ k d h.
    let within : k < n = omega (arith, length-map-range_with_len f 0 n) in
    get_or-map-range_with_len f 0 n k k d within (omega arith)
    ∙ same k within
    ∙ sym (get_or-map-range_with_len g 0 n k k d within (omega arith)))

-- two sets that agree in the frame make one page
pub page_of-same : (width height : ℕ) (a b : Pixels) → ((x y : ℕ) → x < width → y < height → a (pos x) (pos y) ≡ b (pos x) (pos y)) → page_of width height a ≡ page_of width height b
unfolding rows_of
page_of-same width height a b same =
    let rows : rows_of width height a ≡ rows_of width height b =
    map-same _ _ height (λ y h. map-same _ _ width (λ x l. same x y l h)) in
    ap (λ (r : List (List Bool)). let p : Page = record { width = width; height = height; rows = r } in p) rows

-- a page has its height's number of rows
pub length-rows_of : (width height : ℕ) (set : Pixels) → length (rows_of width height set) ≡ height
unfolding rows_of
length-rows_of width height set = length-map-range_with_len _ 0 height

-- a row of a page, by its columns
pub row_at : (width height y : ℕ) (set : Pixels) → y < height → get_or (rows_of width height set) y [] ≡ map (λ x. set (pos x) (pos y)) (range_with_len 0 width)
unfolding rows_of
row_at width height y set h = get_or-map-range_with_len _ 0 height y y [] h (omega arith)

-- a place inside the frame is dark where the set says so
pub dark_at-inside : (width height x y : ℕ) (set : Pixels) → x < width → y < height → dark_at (page_of width height set) (pos x) (pos y) ≡ set (pos x) (pos y)
dark_at-inside width height x y set l h =
    ap (λ (row : List Bool). get_or row x false) (row_at width height y set h)
    ∙ get_or-map-range_with_len _ 0 width x x false l (omega arith)

-- a place beside the frame is light
pub dark_at-beside : (width height x y : ℕ) (set : Pixels) → width ≤ x → dark_at (page_of width height set) (pos x) (pos y) ≡ false
dark_at-beside width height x y set l =
    by_lt_z (pos y) (pos height)
    (λ h.
    let within : y < height = omega (arith, ints) in
    ap (λ (row : List Bool). get_or row x false) (row_at width height y set within)
    ∙ get_or_past _ x false (omega (arith, length-map-range_with_len (λ (x : ℕ). set (pos x) (pos y)) 0 width)))
    (λ h.
    let past : height ≤ y = omega (arith, ints) in
    ap (λ (row : List Bool). get_or row x false) (get_or_past (rows_of width height set) y [] (omega (arith, length-rows_of width height set))))

-- a place under the frame is light
pub dark_at-under : (width height x y : ℕ) (set : Pixels) → height ≤ y → dark_at (page_of width height set) (pos x) (pos y) ≡ false
dark_at-under width height x y set h =
    ap (λ (row : List Bool). get_or row x false) (get_or_past (rows_of width height set) y [] (omega (arith, length-rows_of width height set)))

-- the dark places of a page make it again
pub page_of-dark_at : (width height : ℕ) (set : Pixels) → page_of width height (dark_at (page_of width height set)) ≡ page_of width height set
page_of-dark_at width height set = page_of-same width height _ set (λ x y l h. dark_at-inside width height x y set l h)

-- painting two shapes that agree in the frame makes one page
pub painted-same : (page : Page) (a b : Pixels) → ((x y : ℕ) → x < page.width → y < page.height → a (pos x) (pos y) ≡ b (pos x) (pos y)) → painted page a ≡ painted page b
painted-same page a b same = page_of-same page.width page.height _ _ (λ x y l h. ap (λ (t : Bool). dark_at page (pos x) (pos y) || t) (same x y l h))

or_assoc : (a b c : Bool) → (a || b) || c ≡ a || (b || c)
or_assoc true b c = refl
or_assoc false b c = refl

or_false : (a : Bool) → a || false ≡ a
or_false true = refl
or_false false = refl

or_cases : {P : Type 0} (a b : Bool) → a || b ≡ true → (a ≡ true → P) → (b ≡ true → P) → P
or_cases true b h left right = left refl
or_cases false b h left right = right h

or_left : (a b : Bool) → a ≡ true → a || b ≡ true
or_left true b h = refl
or_left false b h = absurd (cc)

or_right : (a b : Bool) → b ≡ true → a || b ≡ true
or_right true b h = refl
or_right false b h = h

-- painting a union is painting one after the other
pub painted-union : (page : Page) (a b : Pixels) → painted page (union a b) ≡ painted (painted page a) b
painted-union page a b =
    page_of-same page.width page.height _ _ (λ x y l h.
    sym (ap (λ (t : Bool). t || b (pos x) (pos y)) (dark_at-inside page.width page.height x y (union (dark_at page) a) l h)
    ∙ or_assoc (dark_at page (pos x) (pos y)) (a (pos x) (pos y)) (b (pos x) (pos y))))

-- painting nothing that lies in the frame leaves the page
pub painted-none : (page : Page) (shape : Pixels) → page ≡ page_of page.width page.height (dark_at page) → ((x y : ℕ) → x < page.width → y < page.height → shape (pos x) (pos y) ≡ false) → painted page shape ≡ page
painted-none page shape whole none =
    page_of-same page.width page.height _ (dark_at page) (λ x y l h. ap (λ (t : Bool). dark_at page (pos x) (pos y) || t) (none x y l h) ∙ or_false (dark_at page (pos x) (pos y)))
    ∙ sym whole

-- one set more of a family
pub in_any-more : (n : ℕ) (family : ℕ → Pixels) (u v : ℤ) → in_any (n + 1) family u v ≡ in_any n family u v || family n u v
in_any-more n family u v = rw add-one refl

-- painting one set more of a family
pub painted-in_any_more : (page : Page) (n : ℕ) (family : ℕ → Pixels) → painted page (in_any (n + 1) family) ≡ painted (painted page (in_any n family)) (family n)
painted-in_any_more page n family =
    painted-same page _ (union (in_any n family) (family n)) (λ x y l h. in_any-more n family (pos x) (pos y))
    ∙ painted-union page (in_any n family) (family n)

-- a place of the first n sets lies in one of them
pub in_any-some : (n : ℕ) (family : ℕ → Pixels) (u v : ℤ) → in_any n family u v ≡ true → (k : ℕ) × (k < n) × (family k u v ≡ true)
in_any-some zero family u v h = absurd (cc)
in_any-some (suc n) family u v h =
    or_cases (in_any n family u v) (family n u v) h
    (λ before. let some : (k : ℕ) × (k < n) × (family k u v ≡ true) = in_any-some n family u v before in (some.0, omega (arith, some.1), some.2))
    (λ here. (n, omega arith, here))

-- a place of one of the first n sets is among them
pub in_any-one : (n k : ℕ) (family : ℕ → Pixels) (u v : ℤ) → k < n → family k u v ≡ true → in_any n family u v ≡ true
in_any-one zero k family u v l h = absurd (omega arith)
in_any-one (suc n) k family u v l h =
    ⊎_elim
    (λ before. or_left (in_any n family u v) (family n u v) (in_any-one n k family u v before h))
    (λ here. let at : n ≡ k = omega arith in or_right (in_any n family u v) (family n u v) (ap (λ (i : ℕ). family i u v) at ∙ h))
    (cases_lt k n)

-- a place between the sides of a rectangle lies in it
pub rectangle-inside : (left top : ℤ) (width height : ℕ) (u v : ℤ) → left ≤ℤ u → u <ℤ (left +ℤ pos width) → top ≤ℤ v → v <ℤ (top +ℤ pos height) → rectangle left top width height u v ≡ true
rectangle-inside left top width height u v a b c d = grind (arith, ints)

-- a place of a rectangle stands between its sides
pub rectangle-sides : (left top : ℤ) (width height : ℕ) (u v : ℤ) → rectangle left top width height u v ≡ true → (left ≤ℤ u) × (u <ℤ (left +ℤ pos width)) × (top ≤ℤ v) × (v <ℤ (top +ℤ pos height))
rectangle-sides left top width height u v h = grind (arith, ints)

-- a place that isn't between the sides of a rectangle isn't in it
pub rectangle-outside : (left top : ℤ) (width height : ℕ) (u v : ℤ) → (u <ℤ left) ⊎ ((left +ℤ pos width) ≤ℤ u) ⊎ (v <ℤ top) ⊎ ((top +ℤ pos height) ≤ℤ v) → rectangle left top width height u v ≡ false
rectangle-outside left top width height u v h = grind (arith, ints)

-- one row more is the rectangle and its new row
pub rectangle-row_more : (left top : ℤ) (width height : ℕ) (u v : ℤ) → rectangle left top width (height + 1) u v ≡ rectangle left top width height u v || rectangle left (top +ℤ pos height) width 1 u v
rectangle-row_more left top width height u v = grind (arith, ints)

-- a rectangle of one place
pub rectangle-one : (x y u v : ℤ) → rectangle x y 1 1 u v ≡ int_eq u x && int_eq v y
rectangle-one x y u v = grind (arith, ints)

put : (here old : Bool) → cond here true old ≡ old || here
put true true = refl
put true false = refl
put false true = refl
put false false = refl

no_rows : (left top : ℤ) (width : ℕ) (u v : ℤ) → rectangle left top width 0 u v ≡ false
no_rows left top width u v = grind (arith, ints)

-- a place of the plane inside the frame is dark where the set says so
pub dark_at-in_frame : (width height : ℕ) (set : Pixels) (u v : ℤ) → pos 0 ≤ℤ u → u <ℤ pos width → pos 0 ≤ℤ v → v <ℤ pos height → dark_at (page_of width height set) u v ≡ set u v
dark_at-in_frame width height set (pos u) (pos v) a b c d = dark_at-inside width height u v set (omega (arith, ints)) (omega (arith, ints))
dark_at-in_frame width height set (pos u) (negsuc v) a b c d = absurd (omega (arith, ints))
dark_at-in_frame width height set (negsuc u) v a b c d = absurd (omega (arith, ints))

-- a place of the plane outside the frame is light
pub dark_at-out_of_frame : (width height : ℕ) (set : Pixels) (u v : ℤ) → (u <ℤ pos 0) ⊎ (pos width ≤ℤ u) ⊎ (v <ℤ pos 0) ⊎ (pos height ≤ℤ v) → dark_at (page_of width height set) u v ≡ false
dark_at-out_of_frame width height set (pos u) (pos v) h =
    elim (cases_lt u width) [
      | inl beside ↦ elim (cases_lt v height) [ inl under ↦ absurd (omega (arith, ints)) | inr under ↦ dark_at-under width height u v set under ]
      | inr beside ↦ dark_at-beside width height u v set beside
    ]
dark_at-out_of_frame width height set (pos u) (negsuc v) h = refl
dark_at-out_of_frame width height set (negsuc u) v h = refl

-- painting one row more of a rectangle
pub painted-row_more : (page : Page) (left top : ℤ) (width height : ℕ) → painted page (rectangle left top width (height + 1)) ≡ painted (painted page (rectangle left top width height)) (rectangle left (top +ℤ pos height) width 1)
painted-row_more page left top width height =
    painted-same page _ (union (rectangle left top width height) (rectangle left (top +ℤ pos height) width 1)) (λ x y l h. rectangle-row_more left top width height (pos x) (pos y))
    ∙ painted-union page (rectangle left top width height) (rectangle left (top +ℤ pos height) width 1)

-- a rectangle without rows or without columns paints nothing
pub painted-no_rows : (page : Page) (left top : ℤ) (width : ℕ) → page ≡ page_of page.width page.height (dark_at page) → painted page (rectangle left top width 0) ≡ page
painted-no_rows page left top width whole = painted-none page _ whole (λ x y l h. no_rows left top width (pos x) (pos y))

at : (a b : ℕ) → int_eq (pos a) (pos b) ≡ true → a ≡ b
at a b h = let e : pos a ≡ pos b = (Decides-int_eq (pos a) (pos b)).0 h in cc

elsewhere : (a b dark old : Bool) → (a ≡ true → b ≡ true → ⊥) → cond (a && b) dark old ≡ old
elsewhere true true dark old h = absurd (h refl refl)
elsewhere true false dark old h = refl
elsewhere false b dark old h = refl

-- the pixel that was put, and every other one
pub with_pixel-here : (set : Pixels) (x y : ℕ) (dark : Bool) → with_pixel set (pos x) (pos y) dark (pos x) (pos y) ≡ dark
with_pixel-here set x y dark =
    let across : int_eq (pos x) (pos x) ≡ true = (Decides-int_eq (pos x) (pos x)).1 refl in
    let down : int_eq (pos y) (pos y) ≡ true = (Decides-int_eq (pos y) (pos y)).1 refl in
    ap₂ (λ (a b : Bool). cond (a && b) dark (set (pos x) (pos y))) across down

pub with_pixel-elsewhere : (set : Pixels) (x y u v : ℕ) (dark : Bool) → (u ≡ x → v ≡ y → ⊥) → with_pixel set (pos x) (pos y) dark (pos u) (pos v) ≡ set (pos u) (pos v)
with_pixel-elsewhere set x y u v dark apart = elsewhere (int_eq (pos u) (pos x)) (int_eq (pos v) (pos y)) dark (set (pos u) (pos v)) (λ a b. apart (at u x a) (at v y b))

-- the places of two lists, one after the other
pub any_of-append : {A : Type 0} (xs ys : List A) (set : A → Pixels) (u v : ℤ) → any_of (xs ++ ys) set u v ≡ any_of xs set u v || any_of ys set u v
any_of-append [] ys set u v = refl
any_of-append (x ∷ xs) ys set u v =
    ap (λ (t : Bool). set x u v || t) (any_of-append xs ys set u v)
    ∙ sym (or_assoc (set x u v) (any_of xs set u v) (any_of ys set u v))

-- the places of a list with one element more at its end
pub any_of-push : {A : Type 0} (xs : List A) (x : A) (set : A → Pixels) (u v : ℤ) → any_of (xs ++ x ∷ []) set u v ≡ any_of xs set u v || set x u v
any_of-push xs x set u v =
    any_of-append xs (x ∷ []) set u v ∙ ap (λ (t : Bool). any_of xs set u v || t) (or_false (set x u v))

-- the places of one element more of a list
pub any_of-take_more : {A : Type 0} (xs : List A) (i : ℕ) (d : A) (set : A → Pixels) (u v : ℤ) → i < length xs → any_of (take (i + 1) xs) set u v ≡ any_of (take i xs) set u v || set (get_or xs i d) u v
any_of-take_more {A = A} xs i d set u v h =
    ap (λ (ys : List A). any_of ys set u v) (take_more xs i d h) ∙ any_of-push (take i xs) (get_or xs i d) set u v

-- a place of a list's sets lies in the set of one of its elements
pub any_of-some : {A : Type 0} (xs : List A) (d : A) (set : A → Pixels) (u v : ℤ) → any_of xs set u v ≡ true → (k : ℕ) × (k < length xs) × (set (get_or xs k d) u v ≡ true)
any_of-some [] d set u v h = absurd (cc)
any_of-some (x ∷ xs) d set u v h =
    or_cases (set x u v) (any_of xs set u v) h
    (λ here. (0, omega arith, here))
    (λ after. let some : (k : ℕ) × (k < length xs) × (set (get_or xs k d) u v ≡ true) = any_of-some xs d set u v after in (suc some.0, omega (arith, some.1), some.2))

-- a place of the set of one of a list's elements is among them
pub any_of-one : {A : Type 0} (xs : List A) (k : ℕ) (d : A) (set : A → Pixels) (u v : ℤ) → k < length xs → set (get_or xs k d) u v ≡ true → any_of xs set u v ≡ true
any_of-one [] k d set u v l h = absurd (omega arith)
any_of-one (x ∷ xs) zero d set u v l h = or_left (set x u v) (any_of xs set u v) h
any_of-one (x ∷ xs) (suc k) d set u v l h = or_right (set x u v) (any_of xs set u v) (any_of-one xs k d set u v (omega arith) h)

-- painting the set of one element more of a list
pub painted-any_of_more : {A : Type 0} (page : Page) (xs : List A) (i : ℕ) (d : A) (set : A → Pixels) → i < length xs → painted page (any_of (take (i + 1) xs) set) ≡ painted (painted page (any_of (take i xs) set)) (set (get_or xs i d))
painted-any_of_more page xs i d set h =
    painted-same page _ (union (any_of (take i xs) set) (set (get_or xs i d))) (λ x y l m. any_of-take_more xs i d set (pos x) (pos y) h)
    ∙ painted-union page (any_of (take i xs) set) (set (get_or xs i d))
