use Rattle.vx_gray.proofs.Light.{slowly_shown, levels_fall}
use Rattle.vx_gray.proofs.laws.shown_scans_fit.Goals as goal

pub returns-clause-slowly : goal.returns-clause-slowly
returns-clause-slowly c scan paper ink whole light falls = slowly_shown scan paper ink light falls

pub returns-clause-levels : goal.returns-clause-levels
returns-clause-levels c scan paper ink whole light least most dark =
    slowly_shown scan (λ u v. paper) (λ u v. ink) light (levels_fall scan.width scan.height paper ink least most dark)

pub returns-clause-scans : goal.returns-clause-scans
returns-clause-scans c election scan printed plan marks paper ink whole fits light falls = record {
  scan = scan;
  whole = whole;
  shows = slowly_shown scan paper ink light falls;
  fits = fits;
}
