-- What each command does, which inputs it takes, and which devices it touches when.
use Rattle.std.specs.Prelude.{ℕ, Bool, true, false, List, [], ◌∷◌}
use Rattle.vx_io.specs.Outside.{Files}
use Rattle.vx_command.specs.Acts.{Outcome, finished}
use Rattle.vx_command_print.specs.Outcome.{print_outcome}
use Rattle.vx_command_read.specs.Outcome.{read_outcome}
use Rattle.vx_command_check.specs.Outcome.{check_outcome}
use Rattle.vx_command_count.specs.Outcome.{count_outcome}
use Rattle.vx_command_decide.specs.Outcome.{decide_outcome}
use Rattle.vx_command_queue.specs.Outcome.{queue_outcome}
use Rattle.vx_command_export.specs.Outcome.{export_outcome}
use Rattle.vx_command_demo.specs.Outcome.{demo_outcome}
use Rattle.vx_command_try.specs.Outcome.{try_outcome}
use Rattle.vx_command_cards.specs.Outcome.{cards_outcome}
use Rattle.vx_results.specs.Outcome.{results_outcome, summary_outcome}
use Rattle.vx_sampling.specs.SampleOutcome.{sample_outcome}
use Rattle.vx_command_desk.specs.Outcome.{desk_outcome}
use Rattle.vx_board.specs.Outcome.{board_outcome}
use Rattle.vx_sampling.specs.RiskOutcome.{risk_outcome}
use Rattle.vx_words.specs.declared.command.Command.{Command}
use Rattle.vx_words.specs.declared.command.Command.TheVariants.{Print, Read, Check, Count, Decide, Queue, Export, Demo, Center, Try, Cards, Results, Sample, Desk, Summary, Board, Risk}

-- what a command does, by the files and the records of the journal; the acts of `center`, which its history tells besides, stand
-- in its own `Centers`, and nothing here
abbrev pub outcome_of : Command → Files → List (List ℕ) → Outcome
outcome_of (Print election card kind test) files records =
    print_outcome election (record { card = card; kind = kind; test = test }) files
outcome_of (Read election scans) files records = read_outcome election scans files
outcome_of (Check election scans readings) files records = check_outcome election scans readings files
outcome_of (Count election batch workers scans) files records = count_outcome election batch scans files records
outcome_of (Decide election script) files records = decide_outcome election script files records
outcome_of (Queue election) files records = queue_outcome election files records
outcome_of (Export election moment device) files records = export_outcome election moment device files records
outcome_of (Demo seed sheets) files records = demo_outcome seed sheets
outcome_of (Center election moment device items) files records = finished
outcome_of (Try election scans) files records = try_outcome election scans files
outcome_of (Cards election) files records = cards_outcome election files
outcome_of (Results election) files records = results_outcome election files records
outcome_of (Sample election seed size hand) files records = sample_outcome election seed size hand files records
outcome_of (Desk election batch scans) files records = desk_outcome election batch scans files records
outcome_of (Summary election) files records = summary_outcome election files records
outcome_of (Board election seed size) files records = board_outcome election seed size files records
outcome_of (Risk election seed size hand limit) files records = risk_outcome election seed size hand limit files records

-- a command that has an act of the keeper
abbrev pub uses_keeper : Command → Bool
uses_keeper (Print election card kind test) = false
uses_keeper (Read election scans) = false
uses_keeper (Check election scans readings) = false
uses_keeper (Demo seed sheets) = false
uses_keeper (Try election scans) = false
uses_keeper (Cards election) = false
uses_keeper command = true

-- a command that appends to the journal
abbrev pub appends : Command → Bool
appends (Count election batch workers scans) = true
appends (Decide election script) = true
appends (Center election moment device items) = true
appends command = false

-- a command that takes all its inputs before it writes
abbrev pub takes_first : Command → Bool
takes_first (Print election card kind test) = true
takes_first (Check election scans readings) = true
takes_first (Center election moment device items) = true
takes_first (Cards election) = true
takes_first command = false

-- the names of the inputs that a command takes, in order; those of `center` stand in its own `AsksAsCenter`
abbrev pub inputs_of : Command → List (List ℕ)
inputs_of (Print election card kind test) = election ∷ []
inputs_of (Read election scans) = election ∷ scans
inputs_of (Check election scans readings) = election ∷ scans ∷ readings ∷ []
inputs_of (Count election batch workers scans) = election ∷ scans
inputs_of (Decide election script) = election ∷ script ∷ []
inputs_of (Queue election) = election ∷ []
inputs_of (Export election moment device) = election ∷ []
inputs_of (Demo seed sheets) = []
inputs_of (Center election moment device items) = []
inputs_of (Try election scans) = election ∷ scans
inputs_of (Cards election) = election ∷ []
inputs_of (Results election) = election ∷ []
inputs_of (Sample election seed size hand) = election ∷ hand ∷ []
inputs_of (Desk election batch scans) = election ∷ scans
inputs_of (Summary election) = election ∷ []
inputs_of (Board election seed size) = election ∷ []
inputs_of (Risk election seed size hand limit) = election ∷ hand ∷ []
