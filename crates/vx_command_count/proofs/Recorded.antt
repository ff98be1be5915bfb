-- The records that `count` appends: those of the sheets of all images, behind the header.
use Rattle.std.proofs.Common.{◌≡◌, ℕ, ◌+◌, Bool, true, false, cond, List, [], ◌∷◌, ◌++◌, Option, None, Some, Result, Ok, Err, refl, ap, ap₂, ◌∙◌, append_assoc}
use Rattle.std.specs.List.{flat_map}
use Rattle.std.proofs.lemmas.Grind.{flat_map-append}
use Rattle.std.proofs.lemmas.List.{append-nil}
use Rattle.vx_plane.specs.Plane.{Page}
use Rattle.vx_election_model.specs.declared.election.Election.{Election}
use Rattle.vx_events.specs.declared.event.Event.{Event}
use Rattle.vx_io.specs.Outside.{Files}
use Rattle.vx_layout.specs.declared.plan.CardPlan.{CardPlan}
use Rattle.vx_pbm.specs.declared.fault.PbmFault.{PbmFault}
use Rattle.vx_pbm.specs.Images.{images_of}
use Rattle.vx_records.specs.Records.{header_of}
use Rattle.vx_sheet.specs.Events.{event_of}
use Rattle.vx_sheet.specs.Lines.{lines_of}
use Rattle.vx_command.specs.declared.halt.Halt.{Halt}
use Rattle.vx_command.specs.Acts.{Act, Append, Write, Outcome, goes_on, input_limit, input_of, records_of, taking}
use Rattle.vx_command.specs.Elections.{election_in, once_planned, plans_in}
use Rattle.vx_command.specs.Images.{images_and, images_in, unless_faulty, unless_faulty_before}
use Rattle.vx_journal.specs.declared.journal.Journal.{Journal}
use Rattle.vx_journal.specs.Keeping.{begin_acts, has_none, journal_in, journal_read}
use Rattle.vx_journal.specs.Replay.{replay_of}
use Rattle.vx_journal.specs.Steps.{once_read}
use Rattle.vx_command_count.specs.declared.counting.Counting.{Counting}
use Rattle.vx_command_count.specs.Gathering.{waits}
use Rattle.vx_command_count.specs.Margin.{header_if_none}
use Rattle.vx_command_count.specs.Outcome.{count_outcome, journal_outcome, read_next, scan_outcome, scans_outcome, with_images}
use Rattle.vx_command_count.specs.Sheets.{came_if, counted_with, keep_if}
use Rattle.vx_command_count.specs.Tally.{next_number, none_counted}

-- the records that the sheets of images append, of two images each
abbrev pub sheet_records : Election → List ℕ → Counting → List Page → List (List ℕ)
sheet_records election batch counting [] = []
sheet_records election batch counting (single ∷ []) = []
sheet_records election batch counting (first ∷ (second ∷ images)) =
    flat_map records_of (keep_if counting.journal (event_of batch (next_number counting.tally) (read_next election counting first second)))
    ++ sheet_records election batch (counted_with batch counting (read_next election counting first second)) images

-- how far a count has come when it begins
abbrev pub begun : Election → List (List ℕ) → List Event → Counting
begun election records events =
    record { journal = record { center = record { election = election; events = events }; is_new = has_none records }; tally = none_counted }

module _ (election : Election) (batch : List ℕ) where
  -- the sheets of some images, and then those of what comes next with the image that is left over
  images-records : (images : List Page) (counting : Counting) (more : List Page) (rest : Counting → List Page → Outcome)
      → ((now : Counting) (left : Option Page) → flat_map records_of (rest now (waits left)).acts ≡ sheet_records election batch now (waits left ++ more))
      → flat_map records_of (with_images election batch counting images rest).acts ≡ sheet_records election batch counting (images ++ more)
  images-records [] counting more rest is = is counting None
  images-records (single ∷ []) counting more rest is = is counting (Some single)
  images-records (first ∷ (second ∷ images)) counting more rest is =
      let read = read_next election counting first second in
      let kept : List Act = keep_if counting.journal (event_of batch (next_number counting.tally) read) in
      let told : List Act = Write (lines_of election batch (next_number counting.tally) (came_if counting.journal (event_of batch (next_number counting.tally) read))) ∷ [] in
      flat_map-append records_of (kept ++ told) (with_images election batch (counted_with batch counting read) images rest).acts
      ∙ ap₂ (λ (a b : List (List ℕ)). a ++ b)
      (flat_map-append records_of kept told ∙ append-nil (flat_map records_of kept))
      (images-records images (counted_with batch counting read) more rest is)

  -- one image is no sheet
  short-records : (counting : Counting) (left : Option Page) → [] ≡ sheet_records election batch counting (waits left ++ [])
  short-records counting None = refl
  short-records counting (Some single) = refl

  unless-records : (word : ℕ) (fault : Option PbmFault) (next : Outcome) (counting : Counting) (left : Option Page) (more : List Page)
      → flat_map records_of next.acts ≡ sheet_records election batch counting (waits left ++ more)
      → flat_map records_of (unless_faulty word fault next).acts ≡ sheet_records election batch counting (waits left ++ unless_faulty_before fault more)
  unless-records word None next counting left more is = is
  unless-records word (Some fault) next counting left more is = short-records counting left

  given-records : (given : Result (List ℕ) Halt) (rest : List ℕ → Outcome) (counting : Counting) (left : Option Page) (more : List Page)
      → ((bytes : List ℕ) → flat_map records_of (rest bytes).acts ≡ sheet_records election batch counting (waits left ++ ((images_of bytes).pages ++ unless_faulty_before (images_of bytes).fault more)))
      → flat_map records_of (goes_on given rest).acts ≡ sheet_records election batch counting (waits left ++ images_and given more)
  given-records (Err cause) rest counting left more is = short-records counting left
  given-records (Ok bytes) rest counting left more is = is bytes

  -- scan after scan, where an image may wait
  scans-records : (names : List (List ℕ)) (files : Files) (word : ℕ) (counting : Counting) (left : Option Page)
      → flat_map records_of (scans_outcome election batch files word counting (waits left) names).acts
      ≡ sheet_records election batch counting (waits left ++ images_in files word names)
  scans-records [] files word counting None = refl
  scans-records [] files word counting (Some single) = refl
  scans-records (name ∷ names) files word counting left =
      let more = images_in files (word + 1) names in
      given-records (input_of word input_limit (files name))
      (λ (bytes : List ℕ). scan_outcome election batch word counting (waits left) (images_of bytes) (λ now left_now. scans_outcome election batch files (word + 1) now left_now names))
      counting left more
      (λ (bytes : List ℕ).
      images-records (waits left ++ (images_of bytes).pages) counting (unless_faulty_before (images_of bytes).fault more)
      (λ now left_now. unless_faulty word (images_of bytes).fault (scans_outcome election batch files (word + 1) now left_now names))
      (λ now left_now. unless-records word (images_of bytes).fault (scans_outcome election batch files (word + 1) now (waits left_now) names) now left_now more
      (scans-records names files (word + 1) now left_now))
      ∙ ap (sheet_records election batch counting) (append_assoc (waits left) (images_of bytes).pages (unless_faulty_before (images_of bytes).fault more)))

header-records : (none : Bool) (header : List ℕ) → flat_map records_of (cond none (Append header ∷ []) []) ≡ cond none (header ∷ []) []
header-records true header = refl
header-records false header = refl

-- all records of a count
pub count-records : (name batch : List ℕ) (scans : List (List ℕ)) (files : Files) (records : List (List ℕ))
    (election : Election) (plans : List CardPlan) (events : List Event)
    → election_in (files name) ≡ Ok election → plans_in election ≡ Ok plans → replay_of election records ≡ Ok events
    → flat_map records_of (count_outcome name batch scans files records).acts
    ≡ header_if_none election records ++ sheet_records election batch (begun election records events) (images_in files 4 scans)
count-records name batch scans files records election plans events is planned replayed =
    let journal : Journal = (begun election records events).journal in
    let read : journal_in election records ≡ Ok journal = ap (journal_read election (has_none records)) replayed in
    let rest : List Act = (scans_outcome election batch files 4 (begun election records events) [] scans).acts in
    ap (λ (given : Result Election Halt). flat_map records_of (taking 1 given (λ (some : Election). once_planned some (once_read some records (journal_outcome some batch scans files)))).acts) is
    ∙ ap (λ (made : Result (List CardPlan) Halt). flat_map records_of (goes_on made (λ (cards : List CardPlan). once_read election records (journal_outcome election batch scans files))).acts) planned
    ∙ ap (λ (given : Result Journal Halt). flat_map records_of (goes_on given (journal_outcome election batch scans files)).acts) read
    ∙ flat_map-append records_of (begin_acts journal) rest
    ∙ ap₂ (λ (a b : List (List ℕ)). a ++ b) (header-records (has_none records) (header_of election)) (scans-records election batch scans files 4 (begun election records events) None)
