-- Laws of rasters: packed rows, one after another.
use Rattle.std.proofs.Common.{◌≡◌, ◌+◌, ◌-◌, ◌*◌, ◌/◌, ◌%◌, ◌^◌, ◌<◌, ◌≤◌, ◌==◌, ℕ, suc, Bool, false, List, [], ◌∷◌, ◌++◌, length, take, drop, get_or, bit_and, pos, arith, refl, ap, sym, subst, ◌∙◌, length-append, zero-add}
use Rattle.std.specs.Int.{bit_at}
use Rattle.std.specs.List.{flat_map}
use Rattle.std.proofs.Math.Seq.{take-add}
use Rattle.std.proofs.lemmas.List.{flat_map_more, get_or-take, length-take-le, take_all, take_more}
use Rattle.std.proofs.lemmas.List.Concat.{get_or-flat_map}
use Rattle.std.proofs.lemmas.List.FromFn.{length-map-range_with_len}
use Rattle.vx_plane.specs.Plane.{Page, page_of, dark_at}
use Rattle.vx_plane.proofs.Pages.{length-rows_of, page_of-same, row_at}
use Rattle.vx_bits.specs.Packed.{stride_of, padding_of, packed_pixel, packed_pixels, packed_page, unpacked, packed_row, raster_of}
use Rattle.vx_bits.proofs.Packing.{packed-row, packed_row-padded, length-packed_row, packed_row-pixel}

-- a row whose padding is light is packed as it stands
pub packed_row-light : (width : ℕ) (bytes : List ℕ) → length bytes ≡ stride_of width → 0 < length bytes → ((i : ℕ) → get_or bytes i 0 < 256) → bit_and (get_or bytes (length bytes - 1) 0) (255 * 2 ^ padding_of width % 256) ≡ get_or bytes (length bytes - 1) 0 → packed_row (unpacked width bytes) ≡ bytes
packed_row-light width bytes sized some small light =
    let last : length bytes - 1 + 1 ≡ length bytes = omega arith in
    packed_row-padded width (padding_of width) bytes _ refl sized (omega arith) (omega arith) (omega arith) small
    ∙ ap (λ b. take (length bytes - 1) bytes ++ b ∷ []) light
    ∙ sym (take_more bytes (length bytes - 1) 0 (omega arith))
    ∙ ap (λ n. take n bytes) last
    ∙ take_all (length bytes) bytes (omega arith)

-- a page has as many rows as it is high
pub length-rows : (page : Page) → page ≡ page_of page.width page.height (dark_at page) → length page.rows ≡ page.height
length-rows page whole = ap (λ (p : Page). length p.rows) whole ∙ length-rows_of page.width page.height (dark_at page)

-- one row more
pub row_more : (front before after : List ℕ) (rows : List (List Bool)) (v : ℕ) → v < length rows → before ≡ front ++ flat_map packed_row (take v rows) → after ≡ before ++ packed_row (get_or rows v []) → after ≡ front ++ flat_map packed_row (take (v + 1) rows)
row_more front before after rows v inside is_before is_after =
    is_after
    ∙ (ap (λ s. s ++ packed_row (get_or rows v [])) is_before
    ∙ (flat_map_more packed_row front (take v rows) (get_or rows v [])
    ∙ ap (λ s. front ++ flat_map packed_row s) (sym (take_more rows v [] inside))))

-- packed rows that are a raster so far, and one row more that is packed
raster-more : (width height v : ℕ) (bytes : List ℕ) → v < height → flat_map packed_row (take v (packed_page width height bytes).rows) ≡ take (v * stride_of width) bytes → packed_row (unpacked width (take (stride_of width) (drop (v * stride_of width) bytes))) ≡ take (stride_of width) (drop (v * stride_of width) bytes) → flat_map packed_row (take (v + 1) (packed_page width height bytes).rows) ≡ take ((v + 1) * stride_of width) bytes
raster-more width height v bytes inside so_far row =
    let pixels : unpacked width (take (stride_of width) (drop (v * stride_of width) bytes)) ≡ get_or (packed_page width height bytes).rows v [] = packed-row width height v (stride_of width) bytes (packed_page width height bytes) refl inside refl in
    let next : (v + 1) * stride_of width ≡ v * stride_of width + stride_of width = omega arith in
    let rows : length (packed_page width height bytes).rows ≡ height = length-rows_of width height (packed_pixels width bytes) in
    sym (row_more [] (take (v * stride_of width) bytes) (take ((v + 1) * stride_of width) bytes) (packed_page width height bytes).rows v (omega (arith, rows)) (sym so_far)
    (ap (λ n. take n bytes) next ∙ take-add (v * stride_of width) (stride_of width) bytes
    ∙ ap (λ s. take (v * stride_of width) bytes ++ s) (sym row ∙ ap packed_row pixels)))

-- the same, by what the code knows
pub raster-more_at : (width height v size n : ℕ) (bytes : List ℕ) → size ≡ stride_of width → n ≡ size → v < height → flat_map packed_row (take v (packed_page width height bytes).rows) ≡ take (v * stride_of width) bytes → packed_row (unpacked width (take n (drop (v * size) bytes))) ≡ take n (drop (v * size) bytes) → flat_map packed_row (take (v + 1) (packed_page width height bytes).rows) ≡ take ((v + 1) * stride_of width) bytes
raster-more_at width height v size n bytes sized more inside so_far row =
    raster-more width height v bytes inside so_far
    (subst (λ (k : ℕ). packed_row (unpacked width (take k (drop (v * k) bytes))) ≡ take k (drop (v * k) bytes)) sized
    (subst (λ (k : ℕ). packed_row (unpacked width (take k (drop (v * size) bytes))) ≡ take k (drop (v * size) bytes)) more row))

-- pieces of one length
even_pieces : (f : List Bool → List ℕ) (rows : List (List Bool)) (size : ℕ) → ((i : ℕ) → i < length rows → length (f (get_or rows i [])) ≡ size) → length (flat_map f rows) ≡ length rows * size
even_pieces f [] size each = omega arith
even_pieces f (row ∷ rows) size each =
    let first : length (f row) ≡ size = each 0 (omega arith) in
    let others : length (flat_map f rows) ≡ length rows * size = even_pieces f rows size (λ i h. each (suc i) (omega arith)) in
    omega (arith, length-append (f row) (flat_map f rows), first, others)

row_length : (page : Page) (v : ℕ) → page ≡ page_of page.width page.height (dark_at page) → v < page.height → length (packed_row (get_or page.rows v [])) ≡ stride_of page.width
row_length page v whole inside =
    length-packed_row (get_or page.rows v [])
    ∙ ap stride_of (ap (λ (p : Page). length (get_or p.rows v [])) whole
    ∙ (ap length (row_at page.width page.height v (dark_at page) inside)
    ∙ length-map-range_with_len (λ x. dark_at page (pos x) (pos v)) 0 page.width))

-- a raster has its rows' bytes, and so have its first rows
front_length : (page : Page) (v : ℕ) → page ≡ page_of page.width page.height (dark_at page) → v ≤ page.height → length (flat_map packed_row (take v page.rows)) ≡ v * stride_of page.width
front_length page v whole inside =
    let rows : length page.rows ≡ page.height = length-rows page whole in
    let front : length (take v page.rows) ≡ v = length-take-le v page.rows (omega (arith, rows)) in
    even_pieces packed_row (take v page.rows) (stride_of page.width) (λ i h.
    ap (λ (row : List Bool). length (packed_row row)) (get_or-take v page.rows i [] (omega (arith, front)))
    ∙ row_length page i whole (omega (arith, rows, front)))
    ∙ ap (λ n. n * stride_of page.width) front

pub raster-size : (page : Page) → page ≡ page_of page.width page.height (dark_at page) → length (raster_of page) ≡ page.height * stride_of page.width
unfolding raster_of
raster-size page whole =
    ap (λ (rows : List (List Bool)). length (flat_map packed_row rows)) (sym (take_all page.height page.rows (omega (arith, length-rows page whole))))
    ∙ front_length page page.height whole (omega arith)

pixel_back : (page : Page) (u v : ℕ) → page ≡ page_of page.width page.height (dark_at page) → u < page.width → v < page.height → packed_pixel (flat_map packed_row page.rows) (v * stride_of page.width) u ≡ get_or (get_or page.rows v []) u false
pixel_back page u v whole left top =
    let row : List Bool = get_or page.rows v [] in
    let long : length (get_or page.rows v []) ≡ page.width =
    ap (λ (p : Page). length (get_or p.rows v [])) whole
    ∙ (ap length (row_at page.width page.height v (dark_at page) top)
    ∙ length-map-range_with_len (λ x. dark_at page (pos x) (pos v)) 0 page.width) in
    let rows : length page.rows ≡ page.height = length-rows page whole in
    let bytes : length (packed_row (get_or page.rows v [])) ≡ stride_of page.width = row_length page v whole top in
    let byte : get_or (flat_map packed_row page.rows) (v * stride_of page.width + u / 8) 0 ≡ get_or (packed_row (get_or page.rows v [])) (u / 8) 0 =
    ap (λ n. get_or (flat_map packed_row page.rows) (n + u / 8) 0) (sym (front_length page v whole (omega arith)))
    ∙ get_or-flat_map packed_row page.rows v (u / 8) [] 0 (omega (arith, rows)) (omega (arith, bytes)) in
    ap (λ b. bit_at b (7 - u % 8) == 1) (byte ∙ ap (λ n. get_or (packed_row (get_or page.rows v [])) n 0) (sym (zero-add (u / 8))))
    ∙ packed_row-pixel (get_or page.rows v []) u (omega (arith, long))

-- a raster shows its page
pub raster-shows : (page : Page) → page ≡ page_of page.width page.height (dark_at page) → packed_page page.width page.height (raster_of page) ≡ page
unfolding raster_of
raster-shows page whole =
    page_of-same page.width page.height (packed_pixels page.width (flat_map packed_row page.rows)) (dark_at page) (λ u v l m. pixel_back page u v whole l m)
    ∙ sym whole
