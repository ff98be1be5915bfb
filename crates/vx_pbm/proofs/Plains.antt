-- Laws of plain rasters.
use Rattle.std.proofs.Common.{◌≡◌, ◌≢◌, ◌+◌, ◌*◌, ◌-◌, ◌/◌, ◌%◌, ◌<◌, ◌≤◌, ◌==◌, ℕ, Bool, true, false, cond, List, [], ◌∷◌, ◌++◌, length, take, drop, map, get_or, pos, inl, inr, Result, Ok, Err, arith, refl, ap, ap₂, sym, ◌∙◌, subst}
use Rattle.std.specs.List.{filter}
use Rattle.std.proofs.lemmas.Bool.{cases_eq, cases_lt, ne_eqb, eq-eqb}
use Rattle.std.proofs.lemmas.List.{take_more, drop_more, map-append, append-nil, get_or_at, get_or_append_left, get_or_past, length-append}
use Rattle.std.proofs.lemmas.List.Elements.{filter-append}
use Rattle.std.proofs.lemmas.Nat.{same_from_place}
use Rattle.vx_plane.specs.Plane.{Page, page_of, dark_at, nowhere, with_pixel}
use Rattle.vx_plane.proofs.Pages.{page_of-same, dark_at-inside, with_pixel-here, with_pixel-elsewhere}
use Rattle.vx_pbm.specs.declared.fault.PbmFault.{PbmFault}
use Rattle.vx_pbm.specs.declared.fault.PbmFault.TheVariants.{Truncated, BadPixel}
use Rattle.vx_pbm.specs.declared.header.Header.{Header}
use Rattle.vx_pbm.specs.Header.{is_space, header_at}
use Rattle.vx_pbm.specs.Raster.{is_pixel, raster_end, pixels_in, listed, in_size, plain_raster, plain_image}

second : {X : Type 0} (t u : Bool) (x y z : X) → t ≡ false → u ≡ true → cond t x (cond u y z) ≡ y
second t u x y z a b = rw (a, b) refl

third : {X : Type 0} (t u v : Bool) (x y z w : X) → t ≡ false → u ≡ false → v ≡ true → cond t x (cond u y (cond v z w)) ≡ z
third t u v x y z w a b c = rw (a, b, c) refl

filter_one : (byte : ℕ) (pixel : Bool) → is_pixel byte ≡ pixel → filter is_pixel (byte ∷ []) ≡ cond pixel (byte ∷ []) []
filter_one byte pixel e = ap (λ t. cond t (byte ∷ []) []) e

pixels_more : (raster : List ℕ) (i : ℕ) → i < length raster → pixels_in (take (i + 1) raster) ≡ pixels_in (take i raster) ++ map (λ (byte : ℕ). byte == 49) (filter is_pixel (get_or raster i 0 ∷ []))
pixels_more raster i inside =
    ap pixels_in (take_more raster i 0 inside)
    ∙ (ap (map (λ (byte : ℕ). byte == 49)) (filter-append is_pixel (take i raster) (get_or raster i 0 ∷ []))
    ∙ map-append (λ (byte : ℕ). byte == 49) _ _)

past_or_before : (pixels : List Bool) (dark : Bool) (n : ℕ) → n ≢ length pixels → get_or pixels n false ≡ get_or (pixels ++ dark ∷ []) n false
past_or_before pixels dark n other =
    elim (cases_lt n (length pixels)) [
      | inl before ↦ sym (get_or_append_left pixels (dark ∷ []) false n before)
      | inr past ↦ get_or_past pixels n false past ∙ sym (get_or_past (pixels ++ dark ∷ []) n false (omega (arith, length-append pixels (dark ∷ []))))
    ]

division : (k width : ℕ) → 0 < width → (k / width) * width + k % width ≡ k
division k width some = omega arith

-- a page with one pixel more of those that are listed
pub listed_more : (width height k : ℕ) (pixels : List Bool) (dark : Bool) → 0 < width → k ≡ length pixels → page_of width height (with_pixel (dark_at (page_of width height (listed width pixels))) (pos (k % width)) (pos (k / width)) dark) ≡ page_of width height (listed width (pixels ++ dark ∷ []))
listed_more width height k pixels dark some is =
    let before = dark_at (page_of width height (listed width pixels)) in
    page_of-same width height _ _ (λ u v m g.
    elim (cases_eq (v * width + u) k) [
      | inl e ↦
          let offset : (v ≡ k / width) × (u ≡ k % width) = same_from_place v u (k / width) (k % width) width m (omega arith) (e ∙ sym (division k width some)) in
          ap₂ (λ i j. with_pixel before (pos (k % width)) (pos (k / width)) dark (pos i) (pos j)) offset.1 offset.0
          ∙ (with_pixel-here before (k % width) (k / width) dark
          ∙ sym (ap (λ n. get_or (pixels ++ dark ∷ []) n false) e ∙ get_or_at pixels dark [] false k (sym is)))
      | inr ne ↦
          with_pixel-elsewhere before (k % width) (k / width) u v dark (λ a b. ne (ap₂ (λ j i. j * width + i) b a ∙ division k width some))
          ∙ (dark_at-inside width height u v (listed width pixels) m g
          ∙ past_or_before pixels dark (v * width + u) (λ h. ne (h ∙ sym is)))
    ])

-- one light pixel more of those that are listed changes nothing
listed_light : (width height : ℕ) (pixels : List Bool) → page_of width height (listed width pixels) ≡ page_of width height (listed width (pixels ++ false ∷ []))
listed_light width height pixels =
    page_of-same width height (listed width pixels) (listed width (pixels ++ false ∷ [])) (λ u v m g.
    elim (cases_eq (v * width + u) (length pixels)) [
      | inl e ↦ get_or_past pixels (v * width + u) false (omega arith) ∙ sym (get_or_at pixels false [] false (v * width + u) (sym e))
      | inr ne ↦ past_or_before pixels false (v * width + u) ne
    ])

-- the page after a pixel that was made dark where it is
put_more : (width height k : ℕ) (pixels : List Bool) (dark : Bool) (page after : Page) → 0 < width → k ≡ length pixels → page ≡ page_of width height (listed width pixels) → after ≡ cond dark (page_of page.width page.height (with_pixel (dark_at page) (pos (k % page.width)) (pos (k / page.width)) true)) page → after ≡ page_of width height (listed width (pixels ++ dark ∷ []))
put_more width height k pixels true page after some is shown e =
    subst (λ (p : Page). after ≡ page_of p.width p.height (with_pixel (dark_at p) (pos (k % p.width)) (pos (k / p.width)) true)) shown e
    ∙ listed_more width height k pixels true some is
put_more width height k pixels false page after some is shown e = e ∙ (shown ∙ listed_light width height pixels)

-- a page that shows the first bytes of a raster, and what is left of it
pub record Filled (width height offset need : ℕ) (raster : List ℕ) (i : ℕ) (page : Page) (have : ℕ) : Type 0 where
  pub page_is : page ≡ page_of width height (listed width (pixels_in (take i raster)))
  pub have_is : have ≡ length (pixels_in (take i raster))
  pub few : have ≤ need
  pub rest : raster_end need have (offset + i) (drop i raster) ≡ raster_end need 0 offset raster

-- the same with one pixel more
pub filled_pixel : (width height offset need : ℕ) (raster : List ℕ) (i : ℕ) (page after : Page) (have : ℕ) → 0 < width → i < length raster → have ≢ need → is_pixel (get_or raster i 0) ≡ true → Filled width height offset need raster i page have → after ≡ cond (get_or raster i 0 == 49) (page_of page.width page.height (with_pixel (dark_at page) (pos (have % page.width)) (pos (have / page.width)) true)) page → Filled width height offset need raster (i + 1) after (have + 1)
filled_pixel width height offset need raster i page after have some inside more pixel filled is =
    let one : pixels_in (take (i + 1) raster) ≡ pixels_in (take i raster) ++ (get_or raster i 0 == 49) ∷ [] =
    pixels_more raster i inside ∙ ap (λ ys. pixels_in (take i raster) ++ map (λ (byte : ℕ). byte == 49) ys) (filter_one (get_or raster i 0) true pixel) in
    record {
      page_is = put_more width height have (pixels_in (take i raster)) (get_or raster i 0 == 49) page after some filled.have_is filled.page_is is
          ∙ ap (λ ps. page_of width height (listed width ps)) (sym one);
      have_is = omega (arith, filled.have_is, ap length one, length-append (pixels_in (take i raster)) ((get_or raster i 0 == 49) ∷ []));
      few = omega (arith, filled.few);
      rest =
          ap (λ at. raster_end need (have + 1) at (drop (i + 1) raster)) (omega arith)
          ∙ (sym (ap (raster_end need have (offset + i)) (drop_more raster i 0 inside) ∙ second (have == need) (is_pixel (get_or raster i 0)) _ _ _ (ne_eqb have need more) pixel)
          ∙ filled.rest);
    }

-- the same with whitespace more
pub filled_space : (width height offset need : ℕ) (raster : List ℕ) (i : ℕ) (page : Page) (have : ℕ) → i < length raster → have ≢ need → is_pixel (get_or raster i 0) ≡ false → is_space (get_or raster i 0) ≡ true → Filled width height offset need raster i page have → Filled width height offset need raster (i + 1) page have
filled_space width height offset need raster i page have inside more other space filled =
    let none : pixels_in (take (i + 1) raster) ≡ pixels_in (take i raster) ++ [] =
    pixels_more raster i inside ∙ ap (λ ys. pixels_in (take i raster) ++ map (λ (byte : ℕ). byte == 49) ys) (filter_one (get_or raster i 0) false other) in
    let same : pixels_in (take (i + 1) raster) ≡ pixels_in (take i raster) = none ∙ append-nil (pixels_in (take i raster)) in
    record {
      page_is = filled.page_is ∙ ap (λ ps. page_of width height (listed width ps)) (sym same);
      have_is = filled.have_is ∙ ap length (sym same);
      few = filled.few;
      rest =
          ap (λ at. raster_end need have at (drop (i + 1) raster)) (omega arith)
          ∙ (sym (ap (raster_end need have (offset + i)) (drop_more raster i 0 inside) ∙ third (have == need) (is_pixel (get_or raster i 0)) (is_space (get_or raster i 0)) _ _ _ _ (ne_eqb have need more) other space)
          ∙ filled.rest);
    }

ended_at_need : (need have at : ℕ) (text : List ℕ) → have ≡ need → raster_end need have at text ≡ Ok at
ended_at_need need have at [] e = ap (λ t. cond t (Ok at) (Err (Truncated have need))) (eq-eqb have need e)
ended_at_need need have at (byte ∷ rest) e = ap (λ t. cond t (Ok at) (cond (is_pixel byte) (raster_end need (have + 1) (at + 1) rest) (cond (is_space byte) (raster_end need have (at + 1) rest) (Err (BadPixel at))))) (eq-eqb have need e)

-- where all pixels were read, the raster ends
pub whole_raster : (width height offset need : ℕ) (raster : List ℕ) (i : ℕ) (page : Page) (have wanted : ℕ) → need ≡ wanted → have ≡ need → Filled width height offset need raster i page have → Ok (offset + i) ≡ raster_end wanted 0 offset raster
whole_raster width height offset need raster i page have wanted same all filled =
    sym (ended_at_need need have (offset + i) (drop i raster) all) ∙ (filled.rest ∙ ap (λ n. raster_end n 0 offset raster) same)

light_raster : (header : Header) (text part : List ℕ) (page : Page) (end : Result ℕ PbmFault) → page ≡ page_of header.width header.height nowhere → part ≡ drop header.size text → end ≡ raster_end (page.height * page.width) 0 header.size part → raster_end (header.height * header.width) 0 header.size (drop header.size text) ≡ end
light_raster header text part page end light is e =
    sym (e ∙ (ap (λ (p : Page). raster_end (p.height * p.width) 0 header.size part) light ∙ ap (raster_end (header.height * header.width) 0 header.size) is))

-- where the header was read, a fault of the raster is that of the image
pub plain_fault : (header : Header) (text part : List ℕ) (page : Page) (fault : PbmFault) → Ok header ≡ in_size 0 (header_at text) → page ≡ page_of header.width header.height nowhere → part ≡ drop header.size text → Err fault ≡ raster_end (page.height * page.width) 0 header.size part → plain_image text ≡ Err fault
unfolding plain_image plain_raster
plain_fault header text part page fault read light is e =
    rw (← read, light_raster header text part page (Err fault) light is e) refl

-- and its end gives the page
pub plain_found : (header : Header) (text part : List ℕ) (page after : Page) (end : ℕ) → Ok header ≡ in_size 0 (header_at text) → page ≡ page_of header.width header.height nowhere → part ≡ drop header.size text → Ok end ≡ raster_end (page.height * page.width) 0 header.size part → after ≡ page_of page.width page.height (listed page.width (pixels_in (take (end - header.size) part))) → plain_image text ≡ Ok (after, end)
unfolding plain_image plain_raster
plain_found header text part page after end read light is e filled =
    let all : after ≡ page_of header.width header.height (listed header.width (pixels_in (take (end - header.size) (drop header.size text)))) =
    filled
    ∙ (ap (λ (p : Page). page_of p.width p.height (listed p.width (pixels_in (take (end - header.size) part)))) light
    ∙ ap (λ bytes. page_of header.width header.height (listed header.width (pixels_in (take (end - header.size) bytes)))) is) in
    rw (← read, light_raster header text part page (Ok end) light is e, all) refl
