-- Each sheet with a contest that waits is told once.
use Rattle.std.proofs.Common.{◌≡◌, ℕ, ◌≤◌, ◌==◌, Bool, true, false, cond, List, [], refl, sym, ap, ◌∙◌, subst}
use Rattle.std.specs.Prelude.{◌&&◌, bytes_eq, count_by, nat_le, nat_lt, slice_get, Option, None, Some}
use Rattle.std.specs.List.{list_all}
use Rattle.vx_base.proofs.Booleans.{and-both, and-left, and-right, not-both}
use Rattle.vx_base.proofs.Numbers.{at_most-from_yes, equal-from_yes, equal-yes}
use Rattle.vx_plane.specs.Plane.{Page}
use Rattle.vx_election_model.specs.declared.election.Election.{Election}
use Rattle.vx_election_model.specs.Lists.{card_count}
use Rattle.vx_rules.specs.declared.marks.SheetMarks.{SheetMarks}
use Rattle.vx_rules.specs.Reasons.{is_blank_sheet}
use Rattle.vx_events.specs.declared.event.Event.{Event}
use Rattle.vx_events.specs.declared.key.Key.{Key}
use Rattle.vx_events.specs.Ascending.{is_ascending}
use Rattle.vx_events.specs.Fits.{contests_of, is_batch, is_read}
use Rattle.vx_center.specs.Histories.{IsHistory}
use Rattle.vx_center.specs.Sheets.{Added, has_key, key_of, same_key, sheet_in, sheet_of, sheets_in}
use Rattle.vx_center.specs.Waiting.{contest_waits}
use Rattle.vx_center.specs.Laws.{AddedSheetsFit, SameKeysAreEqual, SheetsHaveOwnKeys, SheetsHaveOwnPlaces}
use Rattle.vx_markup.specs.Escaped.{data_line}
use Rattle.vx_desk.specs.Lines.{line_of, missing_of, sheet_data, sheet_text}
use Rattle.vx_desk.specs.Waits.{any_waits, sheet_waits, waiting_of, waits_in}
use Rattle.vx_desk.specs.Told.{IsPassed, IsTold, WaitingIsToldOnce, times}
use Rattle.vx_desk.proofs.Once.{count_alone, count_none, fewer_ascend, find_alone, times_chosen}

-- the line of a sheet of which a contest waits, and that of one of which none does
line_there : (election : Election) (kept : List Event) (key : Key) (scan : List ℕ) (first second : Page) (sheet : SheetMarks) → any_waits election kept key (Some sheet) ≡ true
    → line_of election kept key scan first second (Some sheet) ≡ data_line (sheet_data election kept key scan sheet first second)
line_there election kept key scan first second sheet waits =
    ap (λ (b : Bool). cond b (data_line (sheet_data election kept key scan sheet first second)) []) waits

line_none : (election : Election) (kept : List Event) (key : Key) (scan : List ℕ) (first second : Page) (sheet : Option SheetMarks) → any_waits election kept key sheet ≡ false
    → line_of election kept key scan first second sheet ≡ []
line_none election kept key scan first second None silent = refl
line_none election kept key scan first second (Some sheet) silent =
    ap (λ (b : Bool). cond b (data_line (sheet_data election kept key scan sheet first second)) []) silent

-- whether a sheet of a batch is one with a number that waits behind so many
abbrev is_it : Election → List Event → List ℕ → ℕ → ℕ → Added → Bool
is_it election kept batch sheets number added = waits_in election kept batch added && (nat_lt sheets added.key.number && (added.key.number == number))

missing_times : (election : Election) (kept : List Event) (batch : List ℕ) (sheets number : ℕ)
    → times number (missing_of election kept batch sheets) ≡ count_by (is_it election kept batch sheets number) (sheets_in kept)
missing_times election kept batch sheets number =
    times_chosen (λ (added : Added). nat_lt sheets added.key.number) (waits_in election kept batch) (λ (added : Added). added.key.number) number (sheets_in kept)

module _ (same : SameKeysAreEqual) (keys : SheetsHaveOwnKeys) (places : SheetsHaveOwnPlaces) (fit : AddedSheetsFit)
    (election : Election) (kept : List Event) (batch : List ℕ) (history : IsHistory election kept) where
  -- a sheet of the batch has the key of its number
  own_key : (added : Added) → waits_in election kept batch added ≡ true → added.key ≡ key_of batch added.key.number
  own_key added waits =
      same added.key (key_of batch added.key.number)
      (and-both (bytes_eq added.key.batch batch) (added.key.number == added.key.number)
      (and-left (bytes_eq added.key.batch batch) (any_waits election kept added.key (Some added.sheet)) waits)
      (equal-yes added.key.number added.key.number refl))

  -- it is the one that is found with its key
  found : (place : ℕ) (added : Added) → slice_get (sheets_in kept) place ≡ Some added → same_key added.key added.key ≡ true → sheet_in kept added.key ≡ Some added.sheet
  found place added at itself =
      ap sheet_of
      (find_alone (has_key added.key) (sheets_in kept) place added at itself
      (λ j other there passes. keys election kept j place other added history there at (sym (same added.key other.key passes))))

  found_number : (place : ℕ) (added : Added) → slice_get (sheets_in kept) place ≡ Some added → waits_in election kept batch added ≡ true
      → sheet_in kept (key_of batch added.key.number) ≡ Some added.sheet
  found_number place added at waits =
      let key : added.key ≡ key_of batch added.key.number = own_key added waits in
      let Itself : Key → Type 0 = λ other. same_key added.key other ≡ true in
      let itself : same_key added.key added.key ≡ true =
      subst Itself (sym key)
      (and-both (bytes_eq added.key.batch batch) (added.key.number == added.key.number)
      (and-left (bytes_eq added.key.batch batch) (any_waits election kept added.key (Some added.sheet)) waits)
      (equal-yes added.key.number added.key.number refl)) in
      ap (sheet_in kept) (sym key) ∙ found place added at itself

  waits_there : (added : Added) → waits_in election kept batch added ≡ true → any_waits election kept (key_of batch added.key.number) (Some added.sheet) ≡ true
  waits_there added waits =
      ap (λ (key : Key). any_waits election kept key (Some added.sheet)) (sym (own_key added waits))
      ∙ and-right (bytes_eq added.key.batch batch) (any_waits election kept added.key (Some added.sheet)) waits

  line : (place : ℕ) (added : Added) → slice_get (sheets_in kept) place ≡ Some added → waits_in election kept batch added ≡ true
      → (scan : List ℕ) (first second : Page)
      → sheet_text election kept batch scan added.key.number first second ≡ data_line (sheet_data election kept added.key scan added.sheet first second)
  unfolding sheet_text
  line place added at waits scan first second =
      ap (line_of election kept (key_of batch added.key.number) scan first second) (found_number place added at waits)
      ∙ line_there election kept (key_of batch added.key.number) scan first second added.sheet (waits_there added waits)
      ∙ ap (λ (key : Key). data_line (sheet_data election kept key scan added.sheet first second)) (sym (own_key added waits))

  -- of the sheets of the batch that wait one at most has a number
  alone : (place : ℕ) (added : Added) → slice_get (sheets_in kept) place ≡ Some added → waits_in election kept batch added ≡ true
      → (j : ℕ) (other : Added) → slice_get (sheets_in kept) j ≡ Some other → waits_in election kept batch other ≡ true → other.key.number ≡ added.key.number → j ≡ place
  alone place added at waits j other there also number =
      places election kept j place other added history there at
      (own_key other also ∙ ap (key_of batch) number ∙ sym (own_key added waits))

  missing : (sheets place : ℕ) (added : Added) → slice_get (sheets_in kept) place ≡ Some added → waits_in election kept batch added ≡ true
      → times added.key.number (missing_of election kept batch sheets) ≡ cond (nat_lt sheets added.key.number) 1 0
  missing sheets place added at waits =
      missing_times election kept batch sheets added.key.number ∙ by (nat_lt sheets added.key.number) refl
    where
      it : Added → Bool
      it = is_it election kept batch sheets added.key.number

      number_of : (other : Added) → it other ≡ true → other.key.number ≡ added.key.number
      number_of other passes =
          equal-from_yes other.key.number added.key.number
          (and-right (nat_lt sheets other.key.number) (other.key.number == added.key.number)
          (and-right (waits_in election kept batch other) (nat_lt sheets other.key.number && (other.key.number == added.key.number)) passes))

      waits_of : (other : Added) → it other ≡ true → waits_in election kept batch other ≡ true
      waits_of other passes = and-left (waits_in election kept batch other) (nat_lt sheets other.key.number && (other.key.number == added.key.number)) passes

      behind_of : (other : Added) → it other ≡ true → nat_lt sheets other.key.number ≡ true
      behind_of other passes =
          and-left (nat_lt sheets other.key.number) (other.key.number == added.key.number)
          (and-right (waits_in election kept batch other) (nat_lt sheets other.key.number && (other.key.number == added.key.number)) passes)

      by : (b : Bool) → nat_lt sheets added.key.number ≡ b → count_by it (sheets_in kept) ≡ cond b 1 0
      by true behind =
          count_alone it (sheets_in kept) place added at
          (and-both (waits_in election kept batch added) (nat_lt sheets added.key.number && (added.key.number == added.key.number)) waits
          (and-both (nat_lt sheets added.key.number) (added.key.number == added.key.number) behind (equal-yes added.key.number added.key.number refl)))
          (λ j other there passes. alone place added at waits j other there (waits_of other passes) (number_of other passes))
      by false before =
          count_none it (sheets_in kept)
          (λ j other there passes.
          not-both (nat_lt sheets added.key.number) (sym (ap (nat_lt sheets) (number_of other passes)) ∙ behind_of other passes) before)

  from_one : (place : ℕ) (added : Added) → slice_get (sheets_in kept) place ≡ Some added → 1 ≤ added.key.number
  from_one place added at =
      at_most-from_yes 1 added.key.number
      (and-left (nat_le 1 added.key.number) (nat_le added.key.number 999999)
      (and-right (is_batch added.key.batch) (nat_le 1 added.key.number && nat_le added.key.number 999999) (fit election kept place added history at).key))

  ascend : (place : ℕ) (added : Added) → slice_get (sheets_in kept) place ≡ Some added → is_ascending (contests_of (waiting_of election kept added)) ≡ true
  ascend place added at =
      let a : Bool = nat_lt added.sheet.card (card_count election.styles) in
      fewer_ascend (contest_waits election kept added.key (is_blank_sheet added.sheet)) 0 added.sheet.contests
      (and-right _ (is_ascending (contests_of added.sheet.contests))
      (and-left _ (list_all (is_read election) added.sheet.contests) (fit election kept place added history at).sheet))

  told : (sheets place : ℕ) (added : Added) → slice_get (sheets_in kept) place ≡ Some added → waits_in election kept batch added ≡ true → IsTold election kept batch sheets added
  told sheets place added at waits = record {
    from_one = from_one place added at;
    line = line place added at waits;
    missing = missing sheets place added at waits;
    ascend = ascend place added at;
  }

  -- a number of which no sheet waits
  passed : (sheets number : ℕ) → sheet_waits election kept batch number ≡ false → IsPassed election kept batch sheets number
  unfolding sheet_text sheet_waits
  passed sheets number silent = record {
    line = λ scan first second. line_none election kept (key_of batch number) scan first second (sheet_in kept (key_of batch number)) silent;
    missing =
        missing_times election kept batch sheets number
        ∙ count_none (is_it election kept batch sheets number) (sheets_in kept)
        (λ j other there passes.
        let waits : waits_in election kept batch other ≡ true = and-left (waits_in election kept batch other) (nat_lt sheets other.key.number && (other.key.number == number)) passes in
        let is : other.key.number ≡ number =
        equal-from_yes other.key.number number
        (and-right (nat_lt sheets other.key.number) (other.key.number == number)
        (and-right (waits_in election kept batch other) (nat_lt sheets other.key.number && (other.key.number == number)) passes)) in
        let Waits : ℕ → Type 0 = λ n. any_waits election kept (key_of batch n) (sheet_in kept (key_of batch n)) ≡ true in
        not-both (any_waits election kept (key_of batch number) (sheet_in kept (key_of batch number)))
        (subst Waits is (ap (any_waits election kept (key_of batch other.key.number)) (found_number j other there waits) ∙ waits_there other waits))
        silent);
  }

pub told_once : SameKeysAreEqual → SheetsHaveOwnKeys → SheetsHaveOwnPlaces → AddedSheetsFit → WaitingIsToldOnce
told_once same keys places fit = record {
  told = λ election kept batch sheets place added history at waits. told same keys places fit election kept batch history sheets place added at waits;
  passed = λ election kept batch sheets number history silent. passed same keys places fit election kept batch history sheets number silent;
}
