-- Items as they are taken.
use Rattle.std.specs.Prelude.{◌≡◌, ℕ, List, [], ◌∷◌, ◌++◌, length, Option, None, Some, Result, Ok, Err}
use Rattle.vx_base.specs.Refusals.{Unless}
use Rattle.vx_plane.specs.Plane.{Page}
use Rattle.vx_io.specs.Outside.{Files}
use Rattle.vx_pbm.specs.declared.fault.PbmFault.{PbmFault}
use Rattle.vx_election_model.specs.declared.election.Election.{Election}
use Rattle.vx_events.specs.declared.event.Event.{Event}
use Rattle.vx_words.specs.declared.command.ItemWord.{ItemWord}
use Rattle.vx_command.specs.declared.halt.Halt.{Halt}
use Rattle.vx_command.specs.declared.halt.Halt.TheVariants.{Pbm}
use Rattle.vx_command.specs.Acts.{Answer, Outcome, Take}
use Rattle.vx_command.specs.Done.{BreaksAt, Taken, WritesTo, IsWritten}
use Rattle.vx_command.specs.Steps.{is_no_memory}
use Rattle.vx_command_center.specs.declared.item.Item.{Item}
use Rattle.vx_command_center.specs.Outcome.{events_in_line, items_outcome, items_taken}

-- the events of a line stand behind others, or a command halts there
abbrev pub AddsLine : Election → ℕ → List ℕ → List Event → List Event → Answer → Type 0
AddsLine election number line events events_now (Ok done) =
    (said : List Event) × (events_in_line election number line ≡ Ok said) × (events_now ≡ events ++ said)
AddsLine election number line events events_now (Err cause) =
    Unless (is_no_memory cause) (events_in_line election number line ≡ Err cause)

-- how many images the scan of a word has, unless they leave the grammar
abbrev pub images_counted : ℕ → List Page → Option PbmFault → Result ℕ Halt
images_counted word pages None = Ok (length pages)
images_counted word pages (Some fault) = Err (Pbm word fault)

-- what a command halts with before the first item is taken: a fault of the inputs, or want of memory
abbrev pub BreaksBefore : Halt → Type 0
BreaksBefore cause = BreaksAt cause (Take 4 ∷ []) [] []

-- the items were taken, and the command has come to what is done with them; or it halts at one of them
abbrev pub TakesItems : Election → Files → List ItemWord → Result (List Item) Halt → Type 0
TakesItems election files words (Ok items) =
    (items_taken election files 4 0 words ≡ Ok items)
    × ((rest : List Item → Outcome) (taken : Taken)
    → WritesTo (items_outcome election files 4 0 words rest) (rest items) taken taken)
TakesItems election files words (Err cause) =
    (rest : List Item → Outcome) (taken : Taken)
    → IsWritten (items_outcome election files 4 0 words rest) taken taken (Err cause)
