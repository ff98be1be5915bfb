-- Laws of painting one shape after the other.
use Rattle.std.proofs.Common.{◌≡◌, ℕ, ◌+◌, ◌<◌, List, length, take, get_or, Bool, true, false, cond, ◌||◌, ℤ, pos, refl, ap, sym, ◌∙◌}
use Rattle.std.proofs.Math.Bool.{or-false}
use Rattle.vx_plane.specs.Plane.{Pixels, Page, page_of, dark_at, nowhere, union, painted, in_any, any_of}
use Rattle.vx_plane.proofs.Pages.{page_of-same, dark_at-inside, painted-union, in_any-more, painted-none, painted-same, painted-any_of_more, painted-in_any_more}

-- before the first shape nothing is painted
pub painted-begun : (page : Page) → page ≡ page_of page.width page.height (dark_at page) → page ≡ painted page nowhere
painted-begun page whole = sym (painted-none page nowhere whole (λ x y l h. refl))

-- one element's shape more
pub painted-next_of_list : {A : Type 0} (start before after : Page) (xs : List A) (i : ℕ) (d : A) (set : A → Pixels) → i < length xs → before ≡ painted start (any_of (take i xs) set) → after ≡ painted before (set (get_or xs i d)) → after ≡ painted start (any_of (take (i + 1) xs) set)
painted-next_of_list start before after xs i d set h so_far next =
    next
    ∙ (ap (λ (p : Page). painted p (set (get_or xs i d))) so_far
    ∙ sym (painted-any_of_more start xs i d set h))

-- one shape of a family more
pub painted-next_of_family : (start before after : Page) (n : ℕ) (family : ℕ → Pixels) → before ≡ painted start (in_any n family) → after ≡ painted before (family n) → after ≡ painted start (in_any (n + 1) family)
painted-next_of_family start before after n family so_far next =
    next
    ∙ (ap (λ (p : Page). painted p (family n)) so_far
    ∙ sym (painted-in_any_more start n family))

-- a shape of a family that has no place
pub painted-none_of_family : (start : Page) (n : ℕ) (family : ℕ → Pixels) → ((u v : ℤ) → family n u v ≡ false) → painted start (in_any n family) ≡ painted start (in_any (n + 1) family)
painted-none_of_family start n family none =
    painted-same start _ _ (λ x y l h.
    sym (in_any-more n family (pos x) (pos y)
    ∙ (ap (λ (t : Bool). in_any n family (pos x) (pos y) || t) (none (pos x) (pos y))
    ∙ or-false (in_any n family (pos x) (pos y)))))

-- the shapes of a family that are there where a test says so
abbrev pub chosen : (ℕ → Bool) → (ℕ → Pixels) → ℕ → Pixels
chosen test family n = cond (test n) (family n) nowhere

-- one of them that is there
pub painted-next_chosen : (start before after : Page) (n : ℕ) (test : ℕ → Bool) (family : ℕ → Pixels) → test n ≡ true → before ≡ painted start (in_any n (chosen test family)) → after ≡ painted before (family n) → after ≡ painted start (in_any (n + 1) (chosen test family))
painted-next_chosen start before after n test family there so_far next =
    painted-next_of_family start before after n (chosen test family) so_far
    (next ∙ ap (λ (t : Bool). painted before (cond t (family n) nowhere)) (sym there))

-- one of them that isn't there
pub painted-not_chosen : (start before after : Page) (n : ℕ) (test : ℕ → Bool) (family : ℕ → Pixels) → test n ≡ false → before ≡ painted start (in_any n (chosen test family)) → after ≡ before → after ≡ painted start (in_any (n + 1) (chosen test family))
painted-not_chosen start before after n test family missing so_far same =
    same
    ∙ (so_far
    ∙ painted-none_of_family start n (chosen test family) (λ u v. ap (λ (t : Bool). cond t (family n) nowhere u v) missing))

-- a shape painted on a light page
painted-on_light : (width height : ℕ) (shape : Pixels) → painted (page_of width height nowhere) shape ≡ page_of width height shape
painted-on_light width height shape =
    page_of-same width height _ shape (λ x y l h. ap (λ (t : Bool). t || shape (pos x) (pos y)) (dark_at-inside width height x y nowhere l h))

-- two pairs of shapes painted one after the other, on a light page
pub painted-in_turn : (width height : ℕ) (light first second third page : Page) (a b c d : Pixels) → light ≡ page_of width height nowhere → first ≡ painted light a → second ≡ painted first b → third ≡ painted second c → page ≡ painted third d → page ≡ page_of width height (union (union a b) (union c d))
painted-in_turn width height light first second third page a b c d is_light by_a by_b by_c by_d =
    by_d
    ∙ (ap (λ (p : Page). painted p d) (by_c ∙ ap (λ (p : Page). painted p c) (by_b ∙ ap (λ (p : Page). painted p b) by_a))
    ∙ (sym (painted-union light (union a b) (union c d)
    ∙ (painted-union (painted light (union a b)) c d
    ∙ ap (λ (p : Page). painted (painted p c) d) (painted-union light a b)))
    ∙ (ap (λ (p : Page). painted p (union (union a b) (union c d))) is_light
    ∙ painted-on_light width height (union (union a b) (union c d)))))
