-- The paper of an election.
use Rattle.std.specs.Prelude.{ℕ, List, bytes_eq, if◌then◌else◌, Option, Some, None, Result, codes, ok_or}
use Rattle.serde_json.specs.Data.{Data}
use Rattle.serde_json.specs.Find.{get}
use Rattle.vx_base.specs.Results.{◌>>=◌}
use Rattle.vx_grid.specs.declared.paper.Paper.{Paper}
use Rattle.vx_grid.specs.declared.paper.Paper.TheVariants.{Letter, Legal}
use Rattle.vx_json.specs.Reading.{string_in}
use Rattle.vx_election.specs.declared.fault.ElectionFault.{ElectionFault}
use Rattle.vx_election.specs.declared.fault.ElectionFault.TheVariants.{OutOfRange}
use Rattle.vx_election.specs.Faults.{of_json}
use Rattle.vx_election.specs.Members.{optional}

-- the paper of a name
abbrev pub paper_named : List ℕ → Option Paper
paper_named text = if bytes_eq text (codes "letter") then Some Letter else if bytes_eq text (codes "legal") then Some Legal else None

-- a text that names a paper
unfoldable pub stated_paper_in : Data → List ℕ → Result Paper ElectionFault
stated_paper_in value path = do
  text ← of_json (string_in value path)
  ok_or (paper_named text) (OutOfRange path)

-- the paper of an election, letter where it names none
unfoldable pub paper_in : Data → Result Paper ElectionFault
paper_in value = optional (get (codes "vxPaper") value) (λ member. stated_paper_in member (codes "vxPaper")) Letter
