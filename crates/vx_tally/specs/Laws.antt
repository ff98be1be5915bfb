-- What records sum up to doesn't depend on their order.
use Rattle.std.specs.Prelude.{◌≡◌, List}
use Rattle.std.specs.List.Sorted.{IsPermutation}
use Rattle.vx_tally.specs.declared.report.CvrRecord.{CvrRecord}
use Rattle.vx_tally.specs.Totals.{summed_of}

abbrev pub SumsAreOfAnyOrder : Type 0
SumsAreOfAnyOrder = (one other : List CvrRecord) → IsPermutation one other → summed_of one ≡ summed_of other
