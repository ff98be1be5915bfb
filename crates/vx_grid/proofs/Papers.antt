-- What both papers have in common.
use Rattle.std.proofs.Common.{◌≡◌, ◌+◌, ◌*◌, ◌≤◌, lit≤, refl}
use Rattle.vx_grid.specs.declared.paper.Paper.{Paper}
use Rattle.vx_grid.specs.declared.paper.Paper.TheVariants.{Letter, Legal}
use Rattle.vx_grid.specs.Paper.{page_height, last_row, first_y}

-- the last row is not too low and not too high
pub last-row_low : (paper : Paper) → 40 ≤ last_row paper
last-row_low Letter = lit≤ tt
last-row_low Legal = lit≤ tt

pub last-row_high : (paper : Paper) → last_row paper ≤ 51
last-row_high Letter = lit≤ tt
last-row_high Legal = lit≤ tt

-- row 0 is as far from the top as anything reaches
pub first-y_low : (paper : Paper) → 60 ≤ first_y paper
first-y_low Letter = lit≤ tt
first-y_low Legal = lit≤ tt

pub first-y_high : (paper : Paper) → first_y paper ≤ 74
first-y_high Letter = lit≤ tt
first-y_high Legal = lit≤ tt

-- the height of a page is what its rows say
pub height-is : (paper : Paper) → page_height paper ≡ first_y paper + first_y paper + 52 * last_row paper
height-is Letter = refl
height-is Legal = refl
