-- Names of members, each under a word of its own, which no proof spells out.
use Rattle.std.specs.Prelude.{ℕ, List, codes}

-- whether a contest has write-in slots
unfoldable pub allow_write_ins : List ℕ
allow_write_ins = codes "allowWriteIns"

-- what a yes/no contest asks
unfoldable pub description : List ℕ
description = codes "description"

-- the ballot styles
unfoldable pub ballot_styles : List ℕ
ballot_styles = codes "ballotStyles"

-- the thresholds, in thousandths
unfoldable pub mark_thousandths : List ℕ
mark_thousandths = codes "vxMarkThousandths"
