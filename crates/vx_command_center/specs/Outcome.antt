-- What `center` does, by the history of its shared center: it takes its election, reads its journal and takes its
-- items; then it appends what was done, and writes the history, the lines of the sheets without an event and the report.
use Rattle.std.specs.Prelude.{ℕ, ◌+◌, ◌/◌, nat_lt, if◌then◌else◌, List, [], ◌∷◌, ◌++◌, codes, length, map, Option, Some, None, Result, Ok, Err}
use Rattle.std.specs.List.{flat_map}
use Rattle.std.specs.Fmt.{decimal}
use Rattle.vx_base.specs.Results.{◌>>=◌}
use Rattle.vx_io.specs.Outside.{Files}
use Rattle.vx_plane.specs.Plane.{Page}
use Rattle.vx_pbm.specs.declared.fault.PbmFault.{PbmFault}
use Rattle.vx_pbm.specs.Images.{images_of}
use Rattle.vx_election_model.specs.declared.election.Election.{Election}
use Rattle.vx_events.specs.declared.event.Event.{Event}
use Rattle.vx_refusals.specs.declared.decision.DecisionFault.TheVariants.{Bad}
use Rattle.vx_refusals.specs.declared.reply.Reply.{Reply}
use Rattle.vx_refusals.specs.ReplyTexts.{reply_text}
use Rattle.vx_script.specs.Script.{event_in, lines_of, script_limit}
use Rattle.vx_records.specs.Records.{record_of}
use Rattle.vx_shared.specs.declared.history.Entry.{Entry}
use Rattle.vx_shared.specs.Legal.{done_events}
use Rattle.vx_cvr.specs.Report.{report_of}
use Rattle.vx_words.specs.declared.command.ItemWord.{ItemWord}
use Rattle.vx_words.specs.declared.command.ItemWord.TheVariants as word
use Rattle.vx_command.specs.declared.halt.Halt.{Halt}
use Rattle.vx_command.specs.declared.halt.Halt.TheVariants.{Decision, Pbm, TooManyEvents}
use Rattle.vx_command.specs.Acts.{Act, Append, Write, Outcome, input_limit, input_of, taking, work}
use Rattle.vx_command.specs.Elections.{once_election, once_planned}
use Rattle.vx_journal.specs.declared.journal.Journal.{Journal}
use Rattle.vx_journal.specs.Keeping.{begin_acts}
use Rattle.vx_journal.specs.Steps.{once_read}
use Rattle.vx_command_center.specs.declared.item.Item.{Item}
use Rattle.vx_command_center.specs.declared.item.Item.TheVariants.{Script, Scan}
use Rattle.vx_command_center.specs.Items.{lines_of_item, possible_of}

-- the event of a line with a number, or that the line is bad
abbrev pub said_by : ℕ → Option Event → Result (List Event) Halt
said_by number None = Err (Decision number Bad)
said_by number (Some event) = Ok (event ∷ [])

-- the events of a line: one, or none of an empty line
abbrev pub events_in_line : Election → ℕ → List ℕ → Result (List Event) Halt
events_in_line election number [] = Ok []
events_in_line election number (b ∷ line) = said_by number (event_in election (b ∷ line))

-- the events of lines, the first of which has a number
abbrev pub events_in_lines : Election → ℕ → List (List ℕ) → Result (List Event) Halt
events_in_lines election number [] = Ok []
events_in_lines election number (line ∷ lines) =
    events_in_line election number line
    >>= (λ said. events_in_lines election (number + 1) lines >>= (λ events. Ok (said ++ events)))

-- the scan of a word, unless its images leave the grammar
abbrev pub scan_unless : ℕ → List ℕ → List ℕ → List Page → Option PbmFault → Result Item Halt
scan_unless word batch bytes pages None = Ok (Scan batch bytes (length pages / 2))
scan_unless word batch bytes pages (Some fault) = Err (Pbm word fault)

-- the item of a word by the bytes that were taken for it
abbrev pub item_in : Election → ℕ → ItemWord → List ℕ → Result Item Halt
item_in election at (word.Script name) bytes =
    events_in_lines election 1 (lines_of bytes) >>= (λ events. Ok (Script events))
item_in election at (word.Scan batch name) bytes =
    scan_unless at batch bytes (images_of bytes).pages (images_of bytes).fault

-- the most events that a shared center takes
abbrev pub event_limit : ℕ
event_limit = 1000000

-- an item, unless the items up to it may have too many events
abbrev pub within_limit : ℕ → ℕ → Item → Result Item Halt
within_limit word before item =
    if nat_lt event_limit (before + possible_of item)
    then Err (TooManyEvents word (before + possible_of item))
    else Ok item

-- the name of an item's input, and the most bytes that it may have
abbrev pub name_in : ItemWord → List ℕ
name_in (word.Script name) = name
name_in (word.Scan batch name) = name

abbrev pub limit_of : ItemWord → ℕ
limit_of (word.Script name) = script_limit
limit_of (word.Scan batch name) = input_limit

-- the item of a word, behind others that may have so many events, as it is taken from its input
abbrev pub taken_item : Election → ℕ → ℕ → ItemWord → Option (List ℕ) → Result Item Halt
taken_item election word before item file =
    input_of word (limit_of item) file >>= item_in election word item >>= within_limit word before

-- the items that the words from one on name, behind others that may have so many events
abbrev pub items_taken : Election → Files → ℕ → ℕ → List ItemWord → Result (List Item) Halt
items_taken election files word before [] = Ok []
items_taken election files word before (item ∷ items) =
    taken_item election word before item (files (name_in item))
    >>= (λ taken. items_taken election files (word + 1) (before + possible_of taken) items
    >>= (λ others. Ok (taken ∷ others)))

-- they are taken in order, and then comes what is done with them
abbrev pub items_outcome : Election → Files → ℕ → ℕ → List ItemWord → (List Item → Outcome) → Outcome
items_outcome election files word before [] rest = rest []
items_outcome election files word before (item ∷ items) rest =
    taking word (taken_item election word before item (files (name_in item)))
    (λ taken. items_outcome election files (word + 1) (before + possible_of taken) items
    (λ others. rest (taken ∷ others)))

-- what stands before the record of a call in a place: `event P REPLY : `
abbrev pub event_head : ℕ → Reply → List ℕ
event_head place reply = codes "event " ++ decimal place ++ 32 ∷ reply_text reply ++ codes " : "

-- the line of such a call: `event P REPLY : RECORD`
abbrev pub event_line : ℕ → Entry → List ℕ
event_line place call = event_head place call.reply ++ record_of call.event ++ 10 ∷ []

-- the lines of a history, the first call of which has a place
abbrev pub history_acts : ℕ → List Entry → List Act
history_acts place [] = []
history_acts place (call ∷ history) = Write (event_line place call) ∷ history_acts (place + 1) history

-- the records of events are appended
abbrev pub append_acts : List Event → List Act
append_acts events = map (λ (event : Event). Append (record_of event)) events

-- the line before the report
abbrev pub report_line : List ℕ
report_line = codes "report" ++ 10 ∷ []

-- what is done of a history besides the report: its accepted events are appended, and its lines are written, and then
-- those of the sheets without an event
abbrev pub kept_acts : List Entry → List ℕ → List Act
kept_acts history text = append_acts (done_events history) ++ (history_acts 0 history ++ Write text ∷ [])

-- what is written when all items have ended with a history: its lines, those of the sheets without an event, and the
-- report of the events that are kept then
abbrev pub written_acts : Election → List Event → List Entry → List ℕ → List ℕ → List ℕ → List Act
written_acts election kept history text moment device =
    history_acts 0 history ++ Write text ∷ Write report_line ∷ Write (report_of election kept moment device) ∷ []

-- what is done then: the journal is begun where it is empty, the accepted events are appended, and all is written
abbrev pub end_acts : Election → Journal → List ℕ → List ℕ → List Item → List Entry → List Act
end_acts election journal moment device items history =
    begin_acts journal
    ++ (append_acts (done_events history)
    ++ written_acts election (journal.center.events ++ done_events history) history
    (flat_map (lines_of_item election) items) moment device)

-- what is done behind a journal that was read
abbrev pub journal_outcome : Election → List ℕ → List ℕ → List ItemWord → Files → List Entry → Journal
    → Outcome
journal_outcome election moment device words files history journal =
    items_outcome election files 4 0 words (λ items. work (end_acts election journal moment device items history))

-- `center` of the items that words name for the election under a name, with a moment and a device, with these files and
-- records, where its shared center has this history
abbrev pub center_outcome : List ℕ → List ℕ → List ℕ → List ItemWord → Files → List (List ℕ) → List Entry
    → Outcome
center_outcome election moment device words files records history =
    once_election (files election)
    (λ given. once_planned given (once_read given records (journal_outcome given moment device words files history)))
