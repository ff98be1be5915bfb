-- What the words have that were written into slots.
use Rattle.std.proofs.Common.{◌≡◌, ℕ, Bool, true, false, cond, ◌==◌, List, [], ◌∷◌}
use Rattle.std.specs.Prelude.{⊤, Option, Some, None, slice_get}
use Rattle.std.specs.List.{AllByRecursion, range_with_len}
use Rattle.vx_election_model.specs.declared.contest.Contest.{Contest}
use Rattle.vx_election_model.specs.declared.election.Election.{Election}
use Rattle.vx_rules.specs.declared.marks.ContestMarks.{ContestMarks}
use Rattle.vx_rules.specs.declared.marks.SheetMarks.{SheetMarks}
use Rattle.vx_rules.specs.Reasons.{is_blank_sheet}
use Rattle.vx_events.specs.declared.decision.Decision.{Decision}
use Rattle.vx_events.specs.declared.decision.Decision.TheVariants.{Selections, RuledOvervote, AcceptRead, NameWriteIn}
use Rattle.vx_events.specs.declared.decision.WriteInName.{WriteInName}
use Rattle.vx_events.specs.declared.decision.WriteInName.TheVariants.{Words, Candidate}
use Rattle.vx_events.specs.declared.event.Event.{Event}
use Rattle.vx_events.specs.declared.event.Event.TheVariants.{Add, Claim, Release, Decide}
use Rattle.vx_events.specs.declared.key.Key.{Key}
use Rattle.vx_center.specs.declared.decided.Decided.{Decided}
use Rattle.vx_center.specs.declared.rows.Final.{Final}
use Rattle.vx_center.specs.Decisions.{decided_by, decided_of, of_contest, decisions_on, name_after, name_of}
use Rattle.vx_center.specs.Exports.{final_in, final_if_exported, finals_by}
use Rattle.vx_center.specs.Finals.{slots_of}
use Rattle.vx_center.specs.Histories.{IsHistory}
use Rattle.vx_center.specs.Sheets.{same_key}
use Rattle.vx_center.specs.Waiting.{exports_by}
use Rattle.vx_cvr.specs.Rows.{rows_of}
use Rattle.vx_report_read.proofs.Each.{each-at, each-any, each-weaker, each-map, each-flat_map, fold-keeps}
use Rattle.vx_report_read.proofs.Known.{NamesHave}
use Rattle.vx_report_read.proofs.Parts.{NameHas}
use Rattle.vx_report_read.proofs.RowsOf.{each-row}

module _ (P : List ℕ → Type 0) where
  -- the words of a decision
  abbrev WordsHave : Decision → Type 0
  WordsHave (Selections options) = ⊤
  WordsHave RuledOvervote = ⊤
  WordsHave AcceptRead = ⊤
  WordsHave (NameWriteIn slot name) = NameHas P (Some name)

  -- the words that were written
  abbrev pub AreWritten : List Event → Type 0
  AreWritten kept =
      (place station contest slot : ℕ) (key : Key) (words : List ℕ)
      → slice_get kept place ≡ Some (Decide station key contest (NameWriteIn slot (Words words))) → P words

  if-same : (b : Bool) (one : Decided) → WordsHave one.decision → AllByRecursion (λ (one : Decided). WordsHave one.decision) (cond b (one ∷ []) [])
  if-same true one is = (is, tt)
  if-same false one is = tt

  words-at : (kept : List Event) (place station contest : ℕ) (key : Key) (decision : Decision) → AreWritten kept
      → slice_get kept place ≡ Some (Decide station key contest decision) → WordsHave decision
  words-at kept place station contest key (Selections options) are there = tt
  words-at kept place station contest key RuledOvervote are there = tt
  words-at kept place station contest key AcceptRead are there = tt
  words-at kept place station contest key (NameWriteIn slot (Words words)) are there = are place station contest slot key words there
  words-at kept place station contest key (NameWriteIn slot (Candidate number)) are there = tt

  decided-words : (kept : List Event) (key : Key) → AreWritten kept → AllByRecursion (λ (one : Decided). WordsHave one.decision) (decided_of kept key)
  decided-words kept key are =
      each-flat_map (λ (one : Decided). WordsHave one.decision) (decided_by key) kept
      (each-at (λ (event : Event). AllByRecursion (λ (one : Decided). WordsHave one.decision) (decided_by key event)) kept by)
    where
      by : (place : ℕ) (event : Event) → slice_get kept place ≡ Some event → AllByRecursion (λ (one : Decided). WordsHave one.decision) (decided_by key event)
      by place (Add other sheet) there = tt
      by place (Claim station other) there = tt
      by place (Release station other) there = tt
      by place (Decide station other contest decision) there =
          if-same (same_key key other) (record { contest = contest; decision = decision }) (words-at kept place station contest other decision are there)

  decisions-words : (number : ℕ) (decided : List Decided) → AllByRecursion (λ (one : Decided). WordsHave one.decision) decided
      → AllByRecursion WordsHave (decisions_on number decided)
  decisions-words number decided all =
      each-flat_map WordsHave (of_contest number) decided
      (each-weaker (λ (one : Decided). WordsHave one.decision) (λ (one : Decided). AllByRecursion WordsHave (of_contest number one)) decided
      (λ one is. by (one.contest == number) one.decision is) all)
    where
      by : (b : Bool) (decision : Decision) → WordsHave decision → AllByRecursion WordsHave (cond b (decision ∷ []) [])
      by true decision is = (is, tt)
      by false decision is = tt

  slot-words : (slot : ℕ) (decisions : List Decision) → AllByRecursion WordsHave decisions → NameHas P (name_of slot decisions)
  slot-words slot decisions all = fold-keeps (NameHas P) WordsHave (name_after slot) decisions None step tt all
    where
      if-that : (b : Bool) (before : Option WriteInName) (name : WriteInName) → NameHas P before → NameHas P (Some name)
          → NameHas P (cond b (Some name) before)
      if-that true before name was is = is
      if-that false before name was is = was

      step : (before : Option WriteInName) (decision : Decision) → NameHas P before → WordsHave decision → NameHas P (name_after slot before decision)
      step before (Selections options) was is = was
      step before RuledOvervote was is = was
      step before AcceptRead was is = was
      step before (NameWriteIn other name) was is = if-that (other == slot) before name was is

  finals-words : (election : Election) (sheet : SheetMarks) (decided : List Decided) → AllByRecursion (λ (one : Decided). WordsHave one.decision) decided
      → AllByRecursion (λ (final : Final). AllByRecursion (NameHas P) final.names) (finals_by election sheet decided)
  finals-words election sheet decided all =
      each-flat_map (λ (final : Final). AllByRecursion (NameHas P) final.names) (final_if_exported election (is_blank_sheet sheet) decided) sheet.contests
      (each-any (λ (marks : ContestMarks). AllByRecursion (λ (final : Final). AllByRecursion (NameHas P) final.names)
      (final_if_exported election (is_blank_sheet sheet) decided marks))
      sheet.contests (λ marks. by marks (exports_by election (is_blank_sheet sheet) decided marks)))
    where
      inside : (marks : ContestMarks) (o : Option Contest)
          → AllByRecursion (λ (final : Final). AllByRecursion (NameHas P) final.names) (final_in marks (decisions_on marks.contest decided) o)
      inside marks None = tt
      inside marks (Some contest) = (
        each-map (NameHas P) (λ slot. name_of slot (decisions_on marks.contest decided)) (range_with_len 0 (slots_of contest))
            (each-any (λ (slot : ℕ). NameHas P (name_of slot (decisions_on marks.contest decided))) (range_with_len 0 (slots_of contest))
            (λ slot. slot-words slot (decisions_on marks.contest decided) (decisions-words marks.contest decided all))),
        tt,
      )

      by : (marks : ContestMarks) (b : Bool) → AllByRecursion (λ (final : Final). AllByRecursion (NameHas P) final.names)
          (cond b (final_in marks (decisions_on marks.contest decided) (slice_get election.contests marks.contest)) [])
      by marks true = inside marks (slice_get election.contests marks.contest)
      by marks false = tt

  pub rows-words : (election : Election) (kept : List Event) → IsHistory election kept → AreWritten kept → AllByRecursion (NamesHave P) (rows_of election kept)
  rows-words election kept history are =
      each-row (NamesHave P) election kept history
      (λ added is. finals-words election added.sheet (decided_of kept added.key) (decided-words kept added.key are))
