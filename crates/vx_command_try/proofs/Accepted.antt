-- What a `try` that did its work has read: sheets, two by two; and how a `count` of the same scans ends.
use Rattle.std.proofs.Common.{◌≡◌, ℕ, ◌+◌, ◌-◌, ◌*◌, Bool, true, false, cond, List, [], ◌∷◌, ◌++◌, length, Option, Some, None, Result, Ok, Err, refl, sym, ap, subst, ◌∙◌, append_assoc, arith, length-append}
use Rattle.std.specs.Prelude.{nat_lt}
use Rattle.std.proofs.lemmas.List.{append-nil}
use Rattle.vx_plane.specs.Plane.{Page}
use Rattle.vx_election_model.specs.declared.election.Election.{Election}
use Rattle.vx_events.specs.declared.event.Event.{Event}
use Rattle.vx_io.specs.Outside.{Files}
use Rattle.vx_layout.specs.declared.plan.CardPlan.{CardPlan}
use Rattle.vx_pbm.specs.declared.fault.PbmFault.{PbmFault}
use Rattle.vx_pbm.specs.Images.{images_of}
use Rattle.vx_rules.specs.declared.marks.SheetMarks.{SheetMarks}
use Rattle.vx_scan_model.specs.declared.fault.PageFault.{PageFault}
use Rattle.vx_scan_model.specs.declared.reading.PageReading.{PageReading}
use Rattle.vx_scan_model.specs.Reading.{reading_of}
use Rattle.vx_sheet.specs.declared.came.Came.{Came}
use Rattle.vx_sheet.specs.Came.{sheet_read}
use Rattle.vx_command.specs.declared.halt.Halt.{Halt}
use Rattle.vx_command.specs.declared.halt.Halt.TheVariants.{TooLong}
use Rattle.vx_command.specs.Acts.{Outcome, goes_on, input_limit, input_of}
use Rattle.vx_command.specs.Elections.{election_in, once_planned, plans_in}
use Rattle.vx_command.specs.Images.{images_and, images_in, unless_faulty, unless_faulty_before}
use Rattle.vx_command.specs.Texts.{texts_of}
use Rattle.vx_journal.specs.declared.journal.Journal.{Journal}
use Rattle.vx_journal.specs.Keeping.{has_none, journal_in, journal_read}
use Rattle.vx_journal.specs.Replay.{replay_of}
use Rattle.vx_journal.specs.Steps.{once_read}
use Rattle.vx_command_count.specs.Added.{AreSheets, SheetsAreAdded}
use Rattle.vx_command_count.specs.Outcome as count
use Rattle.vx_command_count.specs.Outcome.{journal_outcome, read_next, with_images}
use Rattle.vx_command_count.specs.Sheets.{counted_with}
use Rattle.vx_command_try.specs.Laws.{Accepted, TriedSheetsAreAdded, sheet_lines}
use Rattle.vx_command_try.specs.Lines.{sheet_line, tried_line}
use Rattle.vx_command_try.specs.Outcome.{end_outcome, sheet_outcome, sheet_step, tried_outcome}
use Rattle.vx_walk.specs.Walk as walk

-- lines one after another
lines-append : (number : ℕ) (xs ys : List SheetMarks) → sheet_lines number (xs ++ ys) ≡ sheet_lines number xs ++ sheet_lines (number + length xs) ys
lines-append number [] ys =
    let same : number ≡ number + 0 = omega arith in
    ap (λ (n : ℕ). sheet_lines n ys) same
lines-append number (x ∷ xs) ys =
    let same : number + 1 + length xs ≡ number + length (x ∷ xs) = omega arith in
    ap (λ (more : List ℕ). sheet_line number x ++ more) (lines-append (number + 1) xs ys)
    ∙ sym (append_assoc (sheet_line number x) (sheet_lines (number + 1) xs) (sheet_lines (number + 1 + length xs) ys))
    ∙ ap (λ (n : ℕ). (sheet_line number x ++ sheet_lines (number + 1) xs) ++ sheet_lines n ys) same

-- what is there for one word is there for another
same-input : (one other : ℕ) (file : Option (List ℕ)) (bytes : List ℕ) → input_of one input_limit file ≡ Ok bytes → input_of other input_limit file ≡ Ok bytes
same-input one other None bytes is = absurd cc
same-input one other (Some held) bytes is = by (nat_lt input_limit (length held)) is
  where
    by : (b : Bool) → cond b (Err (TooLong one (length held))) (Ok held) ≡ Ok bytes → cond b (Err (TooLong other (length held))) (Ok held) ≡ Ok bytes
    by true is = absurd cc
    by false is = is

-- no fault ended the images of a scan
record NotFaulty (word : ℕ) (fault : Option PbmFault) (next : Outcome) : Type 0 where
  none : fault ≡ None
  ends : next.ends ≡ Ok tt
  told : texts_of (unless_faulty word fault next) ≡ texts_of next

not-faulty : (word : ℕ) (fault : Option PbmFault) (next : Outcome) → (unless_faulty word fault next).ends ≡ Ok tt → NotFaulty word fault next
not-faulty word None next ends = record { none = refl; ends = ends; told = refl }
not-faulty word (Some fault) next ends = absurd cc

-- all scans are there, and none leaves the grammar
record IsTaken (files : Files) (word : ℕ) (name : List ℕ) : Type 0 where
  bytes : List ℕ
  there : input_of word input_limit (files name) ≡ Ok bytes
  whole : (images_of bytes).fault ≡ None

abbrev AreTaken : Files → ℕ → List (List ℕ) → Type 0
AreTaken files word [] = Unit {0}
AreTaken files word (name ∷ names) = IsTaken files word name × AreTaken files (word + 1) names

module _ (election : Election) where
  abbrev images-tried : ℕ → List Page → (ℕ → List Page → Outcome) → Outcome
  images-tried = walk.with_images (sheet_step election)

  -- a sheet is one whatever number its images have
  any-number : (one other : ℕ) (first second : Result PageReading PageFault) (sheet : SheetMarks) → sheet_read election one first second ≡ Ok sheet → sheet_read election other first second ≡ Ok sheet
  any-number one other (Err fault) second sheet is = absurd cc
  any-number one other (Ok first) (Err fault) sheet is = absurd cc
  any-number one other (Ok first) (Ok second) sheet is = is

  -- images were sheets, behind so many, but for what is left; and what comes next ends well
  record AreRead (before : ℕ) (images : List Page) (rest : ℕ → List Page → Outcome) : Type 0 where
    sheets : List SheetMarks
    left : List Page
    now : ℕ
    counts : now ≡ before + length sheets
    are : (more : List Page) (others : List SheetMarks) → AreSheets election (left ++ more) others → AreSheets election (images ++ more) (sheets ++ others)
    ends : (rest now left).ends ≡ Ok tt
    told : texts_of (images-tried before images rest) ≡ sheet_lines (before + 1) sheets ++ texts_of (rest now left)

  one-read : (first second : Page) (images : List Page) (before : ℕ) (rest : ℕ → List Page → Outcome) (read : Result SheetMarks Came)
      → sheet_read election (2 * (before + 1) - 1) (reading_of election first) (reading_of election second) ≡ read
      → (sheet_outcome (before + 1) read (images-tried (before + 1) images rest)).ends ≡ Ok tt
      → ((images-tried (before + 1) images rest).ends ≡ Ok tt → AreRead (before + 1) images rest)
      → AreRead before (first ∷ (second ∷ images)) rest
  one-read first second images before rest (Err came) is ends further = absurd cc
  one-read first second images before rest (Ok sheet) is ends further =
      let it : AreRead (before + 1) images rest = further ends in
      let behind : List ℕ = texts_of (rest it.now it.left) in
      record {
        sheets = sheet ∷ it.sheets;
        left = it.left;
        now = it.now;
        counts = omega (arith, it.counts);
        are = λ more others they.
            ((λ image. any-number (2 * (before + 1) - 1) image (reading_of election first) (reading_of election second) sheet is), it.are more others they);
        ends = it.ends;
        told =
            ap (λ (some : Result SheetMarks Came). texts_of (sheet_outcome (before + 1) some (images-tried (before + 1) images rest))) is
            ∙ ap (λ (more : List ℕ). sheet_line (before + 1) sheet ++ more) it.told
            ∙ sym (append_assoc (sheet_line (before + 1) sheet) (sheet_lines (before + 1 + 1) it.sheets) behind);
      }

  images-read : (images : List Page) (before : ℕ) (rest : ℕ → List Page → Outcome) → (images-tried before images rest).ends ≡ Ok tt → AreRead before images rest
  images-read [] before rest ends =
      record { sheets = []; left = []; now = before; counts = omega arith; are = λ more others they. they; ends = ends; told = refl }
  images-read (single ∷ []) before rest ends =
      record { sheets = []; left = single ∷ []; now = before; counts = omega arith; are = λ more others they. they; ends = ends; told = refl }
  images-read (first ∷ (second ∷ images)) before rest ends =
      one-read first second images before rest (sheet_read election (2 * (before + 1) - 1) (reading_of election first) (reading_of election second)) refl ends
      (images-read images (before + 1) rest)

  module _ (files : Files) where
    abbrev scans-tried : ℕ → ℕ → List Page → List (List ℕ) → Outcome
    scans-tried = walk.scans_outcome (λ (scan : List ℕ). sheet_step election) end_outcome files

    -- the images of scans, behind some that were left, are sheets, and the text tells them
    record Scans (word before : ℕ) (left : List Page) (names : List (List ℕ)) : Type 0 where
      sheets : List SheetMarks
      are : (other : ℕ) → AreSheets election (left ++ images_in files other names) sheets
      told : texts_of (scans-tried word before left names) ≡ sheet_lines (before + 1) sheets ++ tried_line (before + length sheets)
      taken : AreTaken files word names

    -- what comes behind a scan
    abbrev next-scans : ℕ → List (List ℕ) → ℕ → List Page → Outcome
    next-scans word names now left = scans-tried (word + 1) now left names

    abbrev scan-rest : ℕ → ℕ → List Page → List (List ℕ) → List ℕ → Outcome
    scan-rest word before waiting names bytes = walk.scan_outcome (sheet_step election) word before waiting (images_of bytes) (next-scans word names)

    -- the images of a scan that was taken, and those behind it
    images-parted : (other : ℕ) (bytes : List ℕ) (left : List Page) (name : List ℕ) (names : List (List ℕ)) → input_of other input_limit (files name) ≡ Ok bytes → (images_of bytes).fault ≡ None
        → left ++ images_in files other (name ∷ names) ≡ (left ++ (images_of bytes).pages) ++ images_in files (other + 1) names
    images-parted other bytes left name names there whole =
        let more : List Page = images_in files (other + 1) names in
        ap (λ (given : Result (List ℕ) Halt). left ++ images_and given more) there
        ∙ ap (λ (fault : Option PbmFault). left ++ ((images_of bytes).pages ++ unless_faulty_before fault more)) whole
        ∙ sym (append_assoc left (images_of bytes).pages more)

    scan-read : (word before : ℕ) (left : List Page) (name : List ℕ) (names : List (List ℕ)) (given : Result (List ℕ) Halt)
        → input_of word input_limit (files name) ≡ given
        → (goes_on given (scan-rest word before left names)).ends ≡ Ok tt
        → ((now : ℕ) (over : List Page) → (next-scans word names now over).ends ≡ Ok tt → Scans (word + 1) now over names)
        → Scans word before left (name ∷ names)
    scan-read word before left name names (Err cause) there ends further = absurd cc
    scan-read word before left name names (Ok bytes) there ends further =
        let pages : List Page = (images_of bytes).pages in
        let rest : ℕ → List Page → Outcome = λ now over. unless_faulty word (images_of bytes).fault (next-scans word names now over) in
        let it : AreRead before (left ++ pages) rest = images-read (left ++ pages) before rest ends in
        let clean : NotFaulty word (images_of bytes).fault (next-scans word names it.now it.left) = not-faulty word (images_of bytes).fault (next-scans word names it.now it.left) it.ends in
        let then : Scans (word + 1) it.now it.left names = further it.now it.left clean.ends in
        let next-number : it.now + 1 ≡ before + 1 + length it.sheets = omega (arith, it.counts) in
        let all : it.now + length then.sheets ≡ before + length (it.sheets ++ then.sheets) = omega (arith, it.counts, length-append it.sheets then.sheets) in
        let last : List ℕ = tried_line (it.now + length then.sheets) in
        record {
          sheets = it.sheets ++ then.sheets;
          are = λ other.
              let Are : List Page → Type 0 = λ images. AreSheets election images (it.sheets ++ then.sheets) in
              subst Are (sym (images-parted other bytes left name names (same-input word other (files name) bytes there) clean.none))
              (it.are (images_in files (other + 1) names) then.sheets (then.are (other + 1)));
          told =
              ap (λ (some : Result (List ℕ) Halt). texts_of (goes_on some (scan-rest word before left names))) there
              ∙ it.told
              ∙ ap (λ (more : List ℕ). sheet_lines (before + 1) it.sheets ++ more) (clean.told ∙ then.told)
              ∙ sym (append_assoc (sheet_lines (before + 1) it.sheets) (sheet_lines (it.now + 1) then.sheets) last)
              ∙ ap (λ (n : ℕ). (sheet_lines (before + 1) it.sheets ++ sheet_lines n then.sheets) ++ last) next-number
              ∙ ap (λ (lines : List ℕ). lines ++ last) (sym (lines-append (before + 1) it.sheets then.sheets))
              ∙ ap (λ (n : ℕ). sheet_lines (before + 1) (it.sheets ++ then.sheets) ++ tried_line n) all;
          taken = (record { bytes = bytes; there = there; whole = clean.none }, then.taken);
        }

    scans-read : (names : List (List ℕ)) (word before : ℕ) (left : List Page) → (scans-tried word before left names).ends ≡ Ok tt → Scans word before left names
    scans-read [] word before [] ends =
        let same : before ≡ before + 0 = omega arith in
        record { sheets = []; are = λ other. tt; told = append-nil (tried_line before) ∙ ap tried_line same; taken = tt }
    scans-read [] word before (single ∷ left) ends = absurd cc
    scans-read (name ∷ names) word before left ends =
        scan-read word before left name names (input_of word input_limit (files name)) refl ends (scans-read names (word + 1))

    -- a count of scans that are all there, and none of which leaves the grammar, ends well
    module _ (batch : List ℕ) where
      counts-well : (images : List Page) (counting : _) (rest : _ → List Page → Outcome) → ((now : _) (over : List Page) → (rest now over).ends ≡ Ok tt)
          → (with_images election batch counting images rest).ends ≡ Ok tt
      counts-well [] counting rest well = well counting []
      counts-well (single ∷ []) counting rest well = well counting (single ∷ [])
      counts-well (first ∷ (second ∷ images)) counting rest well = counts-well images (counted_with batch counting (read_next election counting first second)) rest well

      scans-count : (names : List (List ℕ)) (word other : ℕ) (counting : _) (waiting : List Page) → AreTaken files word names
          → (count.scans_outcome election batch files other counting waiting names).ends ≡ Ok tt
      scans-count [] word other counting waiting taken = refl
      scans-count (name ∷ names) word other counting waiting taken =
          let bytes : List ℕ = taken.0.bytes in
          ap (λ (given : Result (List ℕ) Halt).
          (goes_on given (λ (some : List ℕ). count.scan_outcome election batch other counting waiting (images_of some) (λ now over. count.scans_outcome election batch files (other + 1) now over names))).ends)
          (same-input word other (files name) bytes taken.0.there)
          ∙ counts-well (waiting ++ (images_of bytes).pages) counting
          (λ now over. unless_faulty other (images_of bytes).fault (count.scans_outcome election batch files (other + 1) now over names))
          (λ now over.
          ap (λ (fault : Option PbmFault). (unless_faulty other fault (count.scans_outcome election batch files (other + 1) now over names)).ends) taken.0.whole
          ∙ scans-count names (word + 1) (other + 1) now over taken.1)

module _ (law : SheetsAreAdded) (name : List ℕ) (scans : List (List ℕ)) (files : Files) where
  -- how a count ends over records that replay
  count-well : (batch : List ℕ) (records : List (List ℕ)) (election : Election) (plans : List CardPlan) (events : List Event)
      → election_in (files name) ≡ Ok election → plans_in election ≡ Ok plans → replay_of election records ≡ Ok events → AreTaken files 2 scans
      → (count.count_outcome name batch scans files records).ends ≡ Ok tt
  count-well batch records election plans events is planned replays taken =
      let journal : Journal = record { center = record { election = election; events = events }; is_new = has_none records } in
      let read : journal_in election records ≡ Ok journal = ap (journal_read election (has_none records)) replays in
      ap (λ (given : Result Election Halt).
      (goes_on given (λ some. once_planned some (once_read some records (journal_outcome some batch scans files)))).ends) is
      ∙ ap (λ (given : Result (List CardPlan) Halt). (goes_on given (λ some. once_read election records (journal_outcome election batch scans files))).ends) planned
      ∙ ap (λ (given : Result Journal Halt). (goes_on given (journal_outcome election batch scans files)).ends) read
      ∙ scans-count election files batch scans 2 4 _ [] taken

  once-planned : (election : Election) (planned : Result (List CardPlan) Halt) → election_in (files name) ≡ Ok election → plans_in election ≡ planned
      → (goes_on planned (λ plans. tried_outcome election files scans)).ends ≡ Ok tt → Accepted name scans files
  once-planned election (Err cause) is planned ends = absurd cc
  once-planned election (Ok plans) is planned ends =
      let it : Scans election files 2 0 [] scans = scans-read election files scans 2 0 [] ends in
      let all : 0 + length it.sheets ≡ length it.sheets = omega arith in
      record {
        election = election;
        taken = is;
        sheets = it.sheets;
        are = it.are 2;
        told =
            ap (λ (given : Result Election Halt). texts_of (goes_on given (λ some. once_planned some (tried_outcome some files scans)))) is
            ∙ ap (λ (given : Result (List CardPlan) Halt). texts_of (goes_on given (λ cards. tried_outcome election files scans))) planned
            ∙ it.told
            ∙ ap (λ (n : ℕ). sheet_lines 1 it.sheets ++ tried_line n) all;
        added = λ batch records events replays may.
            record {
              appended = law name batch scans files records election plans events it.sheets is planned replays (it.are 4) may;
              ends = count-well batch records election plans events is planned replays it.taken;
            };
      }

  once-taken : (given : Result Election Halt) → election_in (files name) ≡ given
      → (goes_on given (λ some. once_planned some (tried_outcome some files scans))).ends ≡ Ok tt → Accepted name scans files
  once-taken (Err cause) is ends = absurd cc
  once-taken (Ok election) is ends = once-planned election (plans_in election) is refl ends

-- what a `try` accepted that did its work
pub accepted : SheetsAreAdded → TriedSheetsAreAdded
accepted law name scans files ends = once-taken law name scans files (election_in (files name)) refl ends
