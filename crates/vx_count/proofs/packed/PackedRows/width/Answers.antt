use Rattle.std.proofs.Common.{◌≡◌, subst, sym}
use Rattle.vx_plane.specs.Plane.{Page, page_of, dark_at}
use Rattle.vx_plane.proofs.Pages.{page_of-dark_at}
use Rattle.vx_count.proofs.packed.PackedRows.width.Goals as goal

pub returns-clause-whole : goal.returns-clause-whole
returns-clause-whole c =
    subst (λ (p : Page). p ≡ page_of p.width p.height (dark_at p)) c.self.view_is (sym (page_of-dark_at c.self.inside.width c.self.inside.height _))
