-- The ink of a page never leaves its paper.
use Rattle.std.proofs.Common.{◌≡◌, ℕ, true, List, length, ℤ, ap, sym, ◌∙◌}
use Rattle.std.specs.Prelude.{All}
use Rattle.vx_base.proofs.Booleans.{or-cases}
use Rattle.vx_plane.specs.Plane.{Pixels, Page, page_of, dark_at, in_any}
use Rattle.vx_plane.proofs.Pages.{in_any-some, page_of-dark_at}
use Rattle.vx_grid.specs.Paper.{page_width, page_height}
use Rattle.vx_layout.specs.declared.pages.PagePlan.{PagePlan}
use Rattle.vx_layout.specs.Pages.{IsOnGrid}
use Rattle.vx_scan_model.specs.Ink.{bubble_at}
use Rattle.vx_simulate.specs.declared.ink.Ink.{Ink}
use Rattle.vx_simulate.specs.Ink.{inked_bubble, inked}
use Rattle.vx_simulate.proofs.Inking.{no_bubble, ink-boxed}
use Rattle.vx_simulate.proofs.Printing.{IsOnPage, dark-all, dark-framed, box-on_page}

-- a page of a size is that of its own dark places
pub whole-of : (width height : ℕ) (set : Pixels) (page : Page) → page ≡ page_of width height set → page ≡ page_of width height (dark_at page)
whole-of width height set page is = is ∙ sym (page_of-dark_at width height set) ∙ ap (λ (p : Page). page_of width height (dark_at p)) (sym is)

module _ (plan : PagePlan) (inks : List Ink) (page : Page) (grid : All (IsOnGrid plan.paper) plan.bubbles)
    (whole : page ≡ page_of page_width (page_height plan.paper) (dark_at page)) where
  on-paper : (x y : ℤ) → inked plan inks (dark_at page) x y ≡ true → IsOnPage page_width (page_height plan.paper) x y
  unfolding inked
  on-paper x y h =
      or-cases (dark_at page x y) (in_any (length plan.bubbles) (inked_bubble plan inks) x y) h
      (λ printed. dark-framed page_width (page_height plan.paper) (dark_at page) x y (ap (λ (p : Page). dark_at p x y) (sym whole) ∙ printed))
      (λ some. let k = in_any-some (length plan.bubbles) (inked_bubble plan inks) x y some in
      box-on_page plan.paper (bubble_at plan k.0) x y (grid k.0 no_bubble k.1) (ink-boxed plan inks k.0 x y k.2))

  -- so the paper shows all of its print and its ink
  pub paper-shows : (x y : ℤ) → dark_at (page_of page.width page.height (inked plan inks (dark_at page))) x y ≡ inked plan inks (dark_at page) x y
  paper-shows x y =
      ap (λ (p : Page). dark_at (page_of p.width p.height (inked plan inks (dark_at page))) x y) whole
      ∙ dark-all page_width (page_height plan.paper) (inked plan inks (dark_at page)) on-paper x y
