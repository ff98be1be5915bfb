-- The laws of the crates below that those of readings stand on.
use Rattle.vx_mark_model.specs.Laws.{CornerIsFollowed, FollowedGrows}
use Rattle.vx_code.specs.Code.{CodesAreGivenBack, NoBitIsRefused}
use Rattle.vx_layout.specs.Printed.{PrintedKeepClear, PrintedHaveCodes, PrintedHavePaper}
use Rattle.vx_margin.specs.Laws.{TimingMarksAreMarks, BordersAreFound, GridPlacesLieNear, WindowsHold, FollowedAreChains, TurnedChainsLieAtMarks, TurnedWindowsHold}

-- those by which a scan that fits as it lies is read
pub record AreLaws : Type 0 where
  pub marks_are : TimingMarksAreMarks
  pub found : BordersAreFound
  pub places : GridPlacesLieNear
  pub windows : WindowsHold
  pub clear : PrintedKeepClear
  pub codes : PrintedHaveCodes
  pub paper : PrintedHavePaper
  pub given_back : CodesAreGivenBack
  pub corner : CornerIsFollowed
  pub grows : FollowedGrows

-- the further ones by which a scan that fits when it is turned isn't read as it lies
pub record AreTurnedLaws : Type 0 where
  pub chains : FollowedAreChains
  pub at_marks : TurnedChainsLieAtMarks
  pub windows : TurnedWindowsHold
  pub no_bit : NoBitIsRefused
