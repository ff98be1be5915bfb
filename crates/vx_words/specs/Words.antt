-- Which words are which command: this program's own positions and spellings.
use Rattle.std.specs.Prelude.{⊤, Bool, false, ◌≡◌, ◌≢◌, ◌≤◌, ◌<◌, ◌^◌, All, ℕ, List, ◌∷◌, [], length, map, slice_index, true, Some, slice_get, Result, Ok, Err, drop}
use Rattle.std.specs.Fmt.{decimal}
use Rattle.vx_grid.specs.declared.kind.Kind.{Kind}
use Rattle.vx_grid.specs.declared.kind.Kind.TheVariants.{Other}
use Rattle.vx_grid.specs.Kinds.{kind_word}
use Rattle.vx_events.specs.Fits.{is_batch}
use Rattle.vx_words.specs.declared.command.Command.{Command}
use Rattle.vx_words.specs.declared.command.Command.TheVariants.{Print, Read, Check, Count, Decide, Queue, Export, Demo, Center, Try, Cards, Results, Sample, Desk, Summary, Board, Risk}
use Rattle.vx_words.specs.declared.command.ItemWord.{ItemWord}
use Rattle.vx_words.specs.declared.fault.UsageFault.{UsageFault}
use Rattle.vx_words.specs.declared.fault.UsageFault.TheVariants.{Usage, OutOfMemory}
use Rattle.vx_words.specs.declared.name.Name.{Name}
use Rattle.vx_words.specs.declared.name.Name.TheVariants as names
use Rattle.vx_words.specs.Names.{name_word, row_of}
use Rattle.vx_words.specs.Moments.{is_moment}
use Rattle.vx_words.specs.Samples.{IsLimit, IsSeed, IsSize, seed_bytes}
use Rattle.vx_words.specs.Devices.{device_of}
use Rattle.vx_words.specs.Items.{AreItemWords, item_word}

-- a command's row in the table
abbrev pub name_of : Command → Name
name_of (Print election card kind test) = names.Print
name_of (Read election scans) = names.Read
name_of (Check election scans readings) = names.Check
name_of (Count election batch workers scans) = names.Count
name_of (Decide election script) = names.Decide
name_of (Queue election) = names.Queue
name_of (Export election moment named) = names.Export
name_of (Demo seed sheets) = names.Demo
name_of (Center election moment named items) = names.Center
name_of (Try election scans) = names.Try
name_of (Cards election) = names.Cards
name_of (Results election) = names.Results
name_of (Sample election seed size hand) = names.Sample
name_of (Desk election batch scans) = names.Desk
name_of (Summary election) = names.Summary
name_of (Board election seed size) = names.Board
name_of (Risk election seed size hand limit) = names.Risk

-- the words behind a command's name, where the word that names its device is this one
abbrev pub behind_name : List ℕ → Command → List (List ℕ)
behind_name device (Print election card kind test) = election ∷ decimal card ∷ kind_word kind test ∷ []
behind_name device (Read election scans) = election ∷ scans
behind_name device (Check election scans readings) = election ∷ scans ∷ readings ∷ []
behind_name device (Count election batch workers scans) = election ∷ batch ∷ decimal workers ∷ scans
behind_name device (Decide election script) = election ∷ script ∷ []
behind_name device (Queue election) = election ∷ []
behind_name device (Export election moment named) = election ∷ moment ∷ device ∷ []
behind_name device (Demo seed sheets) = decimal seed ∷ decimal sheets ∷ []
behind_name device (Center election moment named items) = election ∷ moment ∷ device ∷ map item_word items
behind_name device (Try election scans) = election ∷ scans
behind_name device (Cards election) = election ∷ []
behind_name device (Results election) = election ∷ []
behind_name device (Sample election seed size hand) = election ∷ seed ∷ decimal size ∷ hand ∷ []
behind_name device (Desk election batch scans) = election ∷ batch ∷ scans
behind_name device (Summary election) = election ∷ []
behind_name device (Board election seed size) = election ∷ seed ∷ decimal size ∷ []
behind_name device (Risk election seed size hand limit) = election ∷ seed ∷ decimal size ∷ hand ∷ decimal limit ∷ []

-- the words of a command
abbrev pub words_with : List ℕ → Command → List (List ℕ)
words_with device command = name_word (name_of command) ∷ behind_name device command

-- a word that may be an argument: it isn't empty and doesn't begin with `-`
pub record IsArgument (word : List ℕ) : Type 0 where
  pub some : 0 < length word
  pub no_option : slice_index word 0 ≢ 45

-- a card of an election, and a kind that is printed
pub record IsSoundPrint (election : List ℕ) (card : ℕ) (kind : Kind) : Type 0 where
  pub is_argument : IsArgument election
  pub card_in_range : card ≤ 1023
  pub kind_in_range : kind ≢ Other

-- 1 to 64 scans
pub record AreScans (scans : List (List ℕ)) : Type 0 where
  pub some : 1 ≤ length scans
  pub few : length scans ≤ 64
  pub are_arguments : All IsArgument scans

pub record IsSoundRead (election : List ℕ) (scans : List (List ℕ)) : Type 0 where
  pub is_argument : IsArgument election
  pub are_scans : AreScans scans

-- a batch, and 1 to 64 workers
pub record IsSoundCount (election batch : List ℕ) (workers : ℕ) (scans : List (List ℕ)) : Type 0 where
  pub is_argument : IsArgument election
  pub batch_is_argument : IsArgument batch
  pub batch_in_range : is_batch batch ≡ true
  pub some_worker : 1 ≤ workers
  pub few_workers : workers ≤ 64
  pub are_scans : AreScans scans

-- a moment, and a device that a word names
pub record IsSoundExport (election moment device named : List ℕ) : Type 0 where
  pub is_argument : IsArgument election
  pub moment_is_argument : IsArgument moment
  pub is_moment : is_moment moment ≡ true
  pub device_is_argument : IsArgument device
  pub is_named : device_of device ≡ Some named

-- a seed, and 1 to 1,000 sheets
pub record IsSoundDemo (seed sheets : ℕ) : Type 0 where
  pub seed_in_range : seed < 2 ^ 64
  pub some_sheet : 1 ≤ sheets
  pub few_sheets : sheets ≤ 1000

-- the same, and 1 to 16 items
pub record IsSoundCenter (election moment device named : List ℕ) (items : List ItemWord) : Type 0 where
  pub as_export : IsSoundExport election moment device named
  pub are_items : AreItemWords items

-- a seed, a size, and what hands read
pub record IsSoundSample (election seed : List ℕ) (size : ℕ) (hand : List ℕ) : Type 0 where
  pub is_argument : IsArgument election
  pub seed_is_argument : IsArgument seed
  pub is_seed : IsSeed seed (seed_bytes seed)
  pub is_size : IsSize (decimal size) size
  pub hand_is_argument : IsArgument hand

-- a seed and a size
pub record IsSoundBoard (election seed : List ℕ) (size : ℕ) : Type 0 where
  pub is_argument : IsArgument election
  pub seed_is_argument : IsArgument seed
  pub is_seed : IsSeed seed (seed_bytes seed)
  pub is_size : IsSize (decimal size) size

-- the words of a sample, and the risk that is allowed
pub record IsSoundRisk (election seed : List ℕ) (size : ℕ) (hand : List ℕ) (limit : ℕ) : Type 0 where
  pub as_sample : IsSoundSample election seed size hand
  pub is_limit : IsLimit (decimal limit) limit

-- a batch and its scans
pub record IsSoundDesk (election batch : List ℕ) (scans : List (List ℕ)) : Type 0 where
  pub is_argument : IsArgument election
  pub batch_is_argument : IsArgument batch
  pub batch_in_range : is_batch batch ≡ true
  pub are_scans : AreScans scans

-- the parts of a command are in their ranges
abbrev pub IsSound : List ℕ → Command → Type 0
IsSound device (Print election card kind test) = IsSoundPrint election card kind
IsSound device (Read election scans) = IsSoundRead election scans
IsSound device (Check election scans readings) = All IsArgument (election ∷ scans ∷ readings ∷ [])
IsSound device (Count election batch workers scans) = IsSoundCount election batch workers scans
IsSound device (Decide election script) = All IsArgument (election ∷ script ∷ [])
IsSound device (Queue election) = IsArgument election
IsSound device (Export election moment named) = IsSoundExport election moment device named
IsSound device (Demo seed sheets) = IsSoundDemo seed sheets
IsSound device (Center election moment named items) = IsSoundCenter election moment device named items
IsSound device (Try election scans) = IsSoundRead election scans
IsSound device (Cards election) = IsArgument election
IsSound device (Results election) = IsArgument election
IsSound device (Sample election seed size hand) = IsSoundSample election seed size hand
IsSound device (Desk election batch scans) = IsSoundDesk election batch scans
IsSound device (Summary election) = IsArgument election
IsSound device (Board election seed size) = IsSoundBoard election seed size
IsSound device (Risk election seed size hand limit) = IsSoundRisk election seed size hand limit

-- The words are this command. It has one spelling, but for the word that names a device, which has several.
pub record Spells (words : List (List ℕ)) (command : Command) : Type 0 where
  pub device : List ℕ
  pub words_are : words ≡ words_with device command
  pub sound : IsSound device command

-- the words are no command
abbrev pub NoCommand : List (List ℕ) → Type 0
NoCommand words = (command : Command) → Spells words command → ⊥

-- the command that the words spell; Usage exactly where they spell none; memory runs out only where they spell one
abbrev pub Parses : List (List ℕ) → Result Command UsageFault → Type 0
Parses words (Ok command) = Spells words command
Parses words (Err Usage) = NoCommand words
Parses words (Err OutOfMemory) = (command : Command) × Spells words command

-- the same, but that memory may run out at any words
abbrev pub Reads : List (List ℕ) → Result Command UsageFault → Type 0
Reads words (Ok command) = Spells words command
Reads words (Err Usage) = NoCommand words
Reads words (Err OutOfMemory) = ⊤

-- whether the words spell a command
abbrev pub Decides : List (List ℕ) → Bool → Type 0
Decides words true = (command : Command) × Spells words command
Decides words false = NoCommand words

-- the words begin with a command's name; the others may be arguments, and there are as many as the command has
pub record HasName (words : List (List ℕ)) (name : Name) : Type 0 where
  pub first : slice_get words 0 ≡ Some (name_word name)
  pub enough : (row_of name).least ≤ length words
  pub no_more : length words ≤ (row_of name).most
  pub arguments : All IsArgument (drop 1 words)

-- words spell one command only
abbrev pub WordsSpellOneCommand : Type 0
WordsSpellOneCommand = (words : List (List ℕ)) (a b : Command) → Spells words a → Spells words b → a ≡ b
