-- Contests of which nothing was decided.
use Rattle.std.proofs.Common.{◌≡◌, ◌⊎◌, inl, inr, ℕ, zero, suc, ◌-◌, Bool, true, false, cond, List, [], ◌∷◌, length, map, refl, ap, ap₂, subst, ◌∙◌}
use Rattle.std.specs.Prelude.{codes, ◌&&◌, ◌||◌, not, slice_get, slice_index_or, Option, Some, None, Ok}
use Rattle.std.specs.List.{list_any}
use Rattle.serde_json.specs.Data.{Data}
use Rattle.vx_base.proofs.Booleans.{or-left, or-right}
use Rattle.vx_base.proofs.Numbers.{below-no, below-yes}
use Rattle.vx_grid.specs.declared.state.State.{State}
use Rattle.vx_election_model.specs.declared.contest.Contest.{Contest}
use Rattle.vx_election_model.specs.declared.election.Election.{Election}
use Rattle.vx_election_model.specs.declared.reason.Reason.{Reason}
use Rattle.vx_election_model.specs.declared.reason.Reason.TheVariants.{Overvote, Undervote, MarginalMark, BlankBallot, WriteIn}
use Rattle.vx_election_model.specs.declared.reason.ReasonSet.{ReasonSet}
use Rattle.vx_rules.specs.declared.marks.ContestMarks.{ContestMarks}
use Rattle.vx_rules.specs.declared.marks.SheetMarks.{SheetMarks}
use Rattle.vx_rules.specs.Reasons.{is_blank_sheet, is_marginal, is_reason, reasons_of}
use Rattle.vx_events.specs.declared.decision.Decision.{Decision}
use Rattle.vx_events.specs.declared.decision.WriteInName.{WriteInName}
use Rattle.vx_events.specs.declared.event.Event.{Event}
use Rattle.vx_events.specs.declared.key.Key.{Key}
use Rattle.vx_sheet.specs.Margin.{MarkedSheet, sheet_marked}
use Rattle.vx_center.specs.declared.rows.Final.{Final}
use Rattle.vx_center.specs.Decisions.{decisions_of}
use Rattle.vx_center.specs.Exports.{final_in, final_of, row_of}
use Rattle.vx_center.specs.Finals.{marked_options}
use Rattle.vx_center.specs.Waiting.{exports_with, has_any, is_exported}
use Rattle.vx_cvr.specs.Json.{described, list, text, whole}
use Rattle.vx_cvr.specs.Names.{contest_name}
use Rattle.vx_cvr.specs.Report.{class, counted, selected}
use Rattle.vx_cvr.specs.Votes.{candidate_in, is_overvoted, is_repeated, is_slot, name_of, overvotes, status_words, undervotes, votes_of, write_ins}
use Rattle.vx_app.specs.Journals.{Run}
use Rattle.vx_journal.specs.Replay.{replay_of}
use Rattle.vx_headline.specs.Counted.{CountedBy}
use Rattle.vx_headline.specs.Exported.{Exports, IsExport, MarkedPagesAreExported, final_if}
use Rattle.vx_headline.specs.Undecided.{CountsAsMarked, IsUndecided, UndecidedContestsAreExportedAsMarked, UndecidedReasonsWait, WroteFinals, counted_with, selected_with}

or-none : (a b : Bool) → a ≡ false → b ≡ false → a || b ≡ false
or-none true b one other = absurd cc
or-none false b one other = other

and-true : (b : Bool) → b && true ≡ false → b ≡ false
and-true true h = h
and-true false h = refl

-- no reason: nothing is marginal, and none is enabled
module _ (contest : Contest) (states : List State) (blank : Bool) (enabled : ReasonSet)
    (none : (reason : Reason) → is_reason contest states blank enabled reason ≡ false) where
  not-any : has_any (reasons_of contest states blank enabled) ≡ false
  not-any =
      or-none (test Overvote || test Undervote || test MarginalMark || test BlankBallot) (test WriteIn)
      (or-none (test Overvote || test Undervote || test MarginalMark) (test BlankBallot)
      (or-none (test Overvote || test Undervote) (test MarginalMark) (or-none (test Overvote) (test Undervote) (none Overvote) (none Undervote))
      (none MarginalMark))
      (none BlankBallot))
      (none WriteIn)
    where
      test : Reason → Bool
      test reason = is_reason contest states blank enabled reason

  pub exported : is_exported contest enabled blank states [] ≡ true
  exported = ap₂ (λ (a b : Bool). not a && not b) (and-true (list_any is_marginal states) (none MarginalMark)) not-any

-- a reason: one of them is enabled
and-none : (b : Bool) → b && false ≡ false
and-none true = refl
and-none false = refl

module _ (contest : Contest) (states : List State) (blank : Bool) (enabled : ReasonSet) where
  abbrev test : Reason → Bool
  test reason = is_reason contest states blank enabled reason

  abbrev none-but : Bool → Bool → Bool → Bool → Bool → Bool
  none-but a b c d e = a || b || c || d || e

  any : (a b c d e : Bool) → (a ≡ true) ⊎ ((b ≡ true) ⊎ ((c ≡ true) ⊎ ((d ≡ true) ⊎ (e ≡ true)))) → none-but a b c d e ≡ true
  any a b c d e (inl h) = or-left (a || b || c || d) e (or-left (a || b || c) d (or-left (a || b) c (or-left a b h)))
  any a b c d e (inr (inl h)) = or-left (a || b || c || d) e (or-left (a || b || c) d (or-left (a || b) c (or-right a b h)))
  any a b c d e (inr (inr (inl h))) = or-left (a || b || c || d) e (or-left (a || b || c) d (or-right (a || b) c h))
  any a b c d e (inr (inr (inr (inl h)))) = or-left (a || b || c || d) e (or-right (a || b || c) d h)
  any a b c d e (inr (inr (inr (inr h)))) = or-right (a || b || c || d) e h

  is-any : (reason : Reason) → test reason ≡ true → has_any (reasons_of contest states blank enabled) ≡ true
  is-any Overvote h = any (test Overvote) (test Undervote) (test MarginalMark) (test BlankBallot) (test WriteIn) (inl h)
  is-any Undervote h = any (test Overvote) (test Undervote) (test MarginalMark) (test BlankBallot) (test WriteIn) (inr (inl h))
  is-any MarginalMark h = any (test Overvote) (test Undervote) (test MarginalMark) (test BlankBallot) (test WriteIn) (inr (inr (inl h)))
  is-any BlankBallot h = any (test Overvote) (test Undervote) (test MarginalMark) (test BlankBallot) (test WriteIn) (inr (inr (inr (inl h))))
  is-any WriteIn h = any (test Overvote) (test Undervote) (test MarginalMark) (test BlankBallot) (test WriteIn) (inr (inr (inr (inr h))))

  pub not-exported : (reason : Reason) → test reason ≡ true → is_exported contest enabled blank states [] ≡ false
  not-exported reason h =
      ap (λ (some : Bool). not (list_any is_marginal states) && not some) (is-any reason h)
      ∙ and-none (not (list_any is_marginal states))

-- no slot has a name
abbrev unnamed_slot : ℕ → Option WriteInName
unnamed_slot slot = None

no-names : (slots : List ℕ) (n : ℕ) → slice_index_or (map unnamed_slot slots) n None ≡ None
no-names [] n = refl
no-names (slot ∷ slots) zero = refl
no-names (slot ∷ slots) (suc n) = no-names slots n

-- the same of each element, the same list
map-each : {X Y : Type 0} (f g : X → Y) (xs : List X) → ((x : X) → f x ≡ g x) → map f xs ≡ map g xs
map-each f g [] same = refl
map-each {Y = Y} f g (x ∷ xs) same = ap₂ (λ (y : Y) (ys : List Y). y ∷ ys) (same x) (map-each f g xs same)

module _ (contest : Contest) (marks : ContestMarks) where
  abbrev final : Final
  final = final_of contest marks []

  unnamed : (option : ℕ) → name_of contest final option ≡ None
  unnamed option = by (is_slot contest option)
    where
      by : (b : Bool) → cond b (slice_index_or final.names (option - length contest.choices) None) None ≡ None
      by true = no-names _ (option - length contest.choices)
      by false = refl

  each-vote : (b : Bool) → is_overvoted contest final ≡ b → (option : ℕ) → votes_of contest final option ≡ cond b 0 1
  each-vote b over option =
      ap₂ (λ (over : Bool) (name : Option WriteInName). cond over 0 (cond (is_repeated contest final option (candidate_in name)) 0 1)) over (unnamed option)

  abbrev shape : List Data → ℕ → ℕ → Data
  shape selections over under = described
      (class (codes "CVRContest")
      ∷ (codes "CVRContestSelection", list selections)
      ∷ (codes "ContestId", text (contest_name contest.id))
      ∷ (codes "Overvotes", whole over)
      ∷ (codes "Status", list (map text (status_words contest final)))
      ∷ (codes "Undervotes", whole under)
      ∷ (codes "WriteIns", whole (write_ins contest final)) ∷ [])

  in-text : (votes over under : ℕ) → ((option : ℕ) → votes_of contest final option ≡ votes) → overvotes contest final ≡ over
      → undervotes contest final ≡ under → counted contest final ≡ counted_with votes over under contest final
  in-text votes over under each is_over is_under =
      ap₂ (λ (selections : List Data) (some : ℕ). shape selections some (undervotes contest final))
      (map-each (selected contest final) (selected_with votes contest final) final.selected
      (λ option. ap (λ (some : ℕ). selected_with some contest final option) (each option)))
      is_over
      ∙ ap (λ (some : ℕ). shape (map (selected_with votes contest final) final.selected) over some) is_under

  pub as-marked : CountsAsMarked contest marks.states final
  as-marked = record {
    selected = refl;
    unruled = refl;
    within = λ few.
        let not_over : is_overvoted contest final ≡ false = below-no contest.seats (length (marked_options marks.states)) few in
        in-text 1 0 (contest.seats - length (marked_options marks.states)) (each-vote false not_over)
        (ap (λ (b : Bool). cond b contest.seats 0) not_over)
        (ap (λ (b : Bool). cond b 0 (contest.seats - length (marked_options marks.states))) not_over);
    beyond = λ many.
        let over : is_overvoted contest final ≡ true = below-yes contest.seats (length (marked_options marks.states)) many in
        in-text 0 contest.seats 0 (each-vote true over)
        (ap (λ (b : Bool). cond b contest.seats 0) over)
        (ap (λ (b : Bool). cond b 0 (contest.seats - length (marked_options marks.states))) over);
  }

module _ (law : MarkedPagesAreExported) (election : Election) (runs : List Run) (left : List (List ℕ)) (last : Run) (moment device : List ℕ)
    (key : Key) (sheet : MarkedSheet) (marks : ContestMarks) (contest : Contest) (it : IsExport election runs left last moment device) where
  abbrev all : Exports election runs left last moment device
  all = law election runs left last moment device it

  abbrev finals_where : Bool → List Decision → Option Contest → List Final
  finals_where blank decisions found =
      cond (exports_with election blank decisions marks.states found) (final_in marks decisions found) []

  module _ (kept : List Event) (u : IsUndecided election runs left kept key sheet marks contest) where
    same : all.kept ≡ kept
    same = let one = all.are_kept in let other : replay_of election left ≡ Ok kept = assumption u.are_kept in cc

    -- what stands of the contest, of the events that the export itself read
    stand : (finals : List Final) → finals_where (is_blank_sheet (sheet_marked sheet)) [] (Some contest) ≡ finals
        → WroteFinals election last moment device kept key marks.contest finals
    stand finals are =
        let by : CountedBy election [] runs key sheet = assumption u.counted in
        let added = (all.marked key sheet by).0 in
        let stands = (all.marked key sheet by).1 in
        let on : slice_get added.sheet.contests u.place ≡ Some marks =
        ap (λ (some : SheetMarks). slice_get some.contests u.place) stands.marked ∙ assumption u.is_on in
        let none : decisions_of all.kept added.key marks.contest ≡ [] =
        ap₂ (λ (events : List Event) (some : Key). decisions_of events some marks.contest) same stands.keyed ∙ assumption u.undecided in
        let blank : is_blank_sheet added.sheet ≡ is_blank_sheet (sheet_marked sheet) = ap is_blank_sheet stands.marked in
        let given : final_if election all.kept added marks ≡ finals =
        ap₂ (λ (b : Bool) (decisions : List Decision). finals_where b decisions (slice_get election.contests marks.contest)) blank none
        ∙ ap (finals_where (is_blank_sheet (sheet_marked sheet)) []) (let is : slice_get election.contests marks.contest ≡ Some contest = assumption u.is_contest in is) ∙ are in
        let Wrote : List Event → Type 0 = λ events. WroteFinals election last moment device events key marks.contest finals in
        subst Wrote same (record {
          report = all.report;
          row = row_of election all.kept added;
          one_row = stands.one_row;
          finals_are = stands.contests u.place marks on ∙ given;
        })

pub exported-as-marked : MarkedPagesAreExported → UndecidedContestsAreExportedAsMarked
exported-as-marked law election runs left last moment device kept key sheet marks contest it u none =
    let blank = is_blank_sheet (sheet_marked sheet) in
    let one : Final = final_of contest marks [] in (
      one,
      as-marked contest marks,
      stand law election runs left last moment device key sheet marks contest it kept u (one ∷ [])
          (ap (λ (b : Bool). cond b (one ∷ []) []) (exported contest marks.states blank election.reasons none)),
    )

pub waits : MarkedPagesAreExported → UndecidedReasonsWait
waits law election runs left last moment device kept key sheet marks contest reason it u is =
    stand law election runs left last moment device key sheet marks contest it kept u []
    (ap (λ (b : Bool). cond b (final_of contest marks [] ∷ []) [])
    (not-exported contest marks.states (is_blank_sheet (sheet_marked sheet)) election.reasons reason is))
