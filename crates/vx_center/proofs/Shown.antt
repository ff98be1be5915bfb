-- What an export of a history shows.
use Rattle.std.proofs.Common.{◌≡◌, ◌⊎◌, inl, inr, Bool, true, false, cond, List, [], ◌∷◌, ◌++◌, refl, sym, ap, ◌∙◌, subst}
use Rattle.std.specs.Prelude.{◌&&◌, ◌||◌, Option, Some, None, filter, not, slice_get}
use Rattle.std.specs.List.{flat_map, list_any}
use Rattle.std.proofs.lemmas.Option.{same_Some}
use Rattle.vx_base.proofs.Booleans.{or-left, or-right}
use Rattle.vx_election_model.specs.declared.contest.Contest.{Contest}
use Rattle.vx_election_model.specs.declared.election.Election.{Election}
use Rattle.vx_election_model.specs.declared.reason.Reason.{Reason}
use Rattle.vx_election_model.specs.declared.reason.Reason.TheVariants.{Overvote, Undervote, MarginalMark, BlankBallot, WriteIn}
use Rattle.vx_election_model.specs.declared.reason.ReasonSet.{ReasonSet}
use Rattle.vx_grid.specs.declared.state.State.{State}
use Rattle.vx_rules.specs.declared.marks.SheetMarks.{SheetMarks}
use Rattle.vx_rules.specs.Reasons.{is_blank_sheet, is_marginal, is_reason, reasons_of}
use Rattle.vx_events.specs.declared.decision.Decision.{Decision}
use Rattle.vx_events.specs.declared.event.Event.{Event}
use Rattle.vx_events.specs.declared.event.Event.TheVariants.{Decide}
use Rattle.vx_center.specs.Decisions.{decisions_of}
use Rattle.vx_center.specs.Histories.{IsHistory}
use Rattle.vx_center.specs.Sheets.{marks_on, sheet_in, sheet_of}
use Rattle.vx_center.specs.Waiting.{exports, exports_with, has_any, is_decided, is_exported}
use Rattle.vx_center.specs.Shown.{ExportedStand, MarginalAreRuled, ReasonsWait, finals_with, is_ruling}
use Rattle.vx_center.specs.Laws.{HistoriesAreShown}
use Rattle.vx_center.proofs.Histories.{done-there}
use Rattle.vx_center.proofs.OwnSheets.{contest-found, own-sheets, sheet-stays}
use Rattle.vx_center.proofs.FirstDecided.{IsFirst, first-decision, on-sheet, rules-first}

-- the finals of some contests are those of the ones that pass
only-passing : {X Y : Type 0} (test : X → Bool) (gives : X → List Y) (xs : List X) → flat_map (λ (x : X). cond (test x) (gives x) []) xs ≡ flat_map gives (filter test xs)
only-passing test gives [] = refl
only-passing {X} {Y} test gives (x ∷ xs) = by (test x) refl (only-passing test gives xs)
  where
    by : (b : Bool) → test x ≡ b → flat_map (λ (y : X). cond (test y) (gives y) []) xs ≡ flat_map gives (filter test xs) → cond (test x) (gives x) [] ++ flat_map (λ (y : X). cond (test y) (gives y) []) xs ≡ flat_map gives (cond (test x) (x ∷ filter test xs) (filter test xs))
    by true is rest = rw is (ap (λ (ys : List Y). gives x ++ ys) rest)
    by false is rest = rw is rest

exported-stand : (election : Election) (kept : List Event) → ExportedStand election kept
exported-stand election kept added = only-passing (exports election kept added) (finals_with election kept added) added.sheet.contests

-- nothing was decided of a contest with a marginal option: it isn't exported
marginal-waits : (contest : Option Contest) (election : Election) (blank : Bool) (states : List State) (decisions : List Decision) → decisions ≡ [] → list_any is_marginal states ≡ true → exports_with election blank decisions states contest ≡ true → ⊥
marginal-waits None election blank states decisions none some h = cc
marginal-waits (Some contest) election blank states decisions none some h =
    let nothing : false ≡ true =
    sym (ap (λ (marginal : Bool). is_decided [] || (not marginal && not (has_any (reasons_of contest states blank election.reasons)))) some)
    ∙ ap (λ (some : List Decision). is_exported contest election.reasons blank states some) (sym none) ∙ h in
    cc

module _ (election : Election) (kept : List Event) (history : IsHistory election kept) where
  marginal-ruled : MarginalAreRuled election kept
  marginal-ruled sheet contest added marks there on exported some = by (first-decision added.key marks.contest kept)
    where
      by : (decisions_of kept added.key marks.contest ≡ []) ⊎ IsFirst added.key marks.contest kept → list_any is_ruling (decisions_of kept added.key marks.contest) ≡ true
      by (inl none) = absurd (marginal-waits (slice_get election.contests marks.contest) election (is_blank_sheet added.sheet) marks.states (decisions_of kept added.key marks.contest) none some exported)
      by (inr first) =
          let event : Event = Decide first.station added.key marks.contest first.decision in
          let Is : List Event → Type 0 = λ events. IsHistory election events in
          let done = done-there election first.front event first.back (subst Is first.are history) in
          let right = on-sheet election first.front first.station added.key marks.contest first.decision done in
          let own = (own-sheets election kept history).each sheet added there in
          let Same : List Event → Type 0 = λ events. sheet_in events added.key ≡ Some right.sheet in
          let found : sheet_in kept added.key ≡ Some right.sheet = subst Same (sym first.are) (sheet-stays first.front (event ∷ first.back) added.key right.sheet right.there) in
          let same : added.sheet ≡ right.sheet = same_Some added.sheet right.sheet (sym (ap sheet_of own.found) ∙ found) in
          let On : SheetMarks → Type 0 = λ one. marks_on one marks.contest ≡ Some marks in
          let rules = rules-first election (decisions_of first.front added.key marks.contest) marks.contest first.decision right.sheet marks first.none
          (subst On same (contest-found election added.sheet own.fits contest marks on)) some right.right in
          ap (list_any is_ruling) first.first ∙ or-left (is_ruling first.decision) (list_any is_ruling (decisions_of first.back added.key marks.contest)) rules

-- one of five
module _ (a b c d e : Bool) where
  abbrev any : Bool
  any = a || b || c || d || e

  third : a || b || c ≡ true → any ≡ true
  third h = or-left (a || b || c || d) e (or-left (a || b || c) d h)

  second : a || b ≡ true → any ≡ true
  second h = third (or-left (a || b) c h)

-- a reason that is in a set of them
module _ (contest : Contest) (states : List State) (blank : Bool) (enabled : ReasonSet) where
  abbrev test : Reason → Bool
  test reason = is_reason contest states blank enabled reason

  one-of : (reason : Reason) → test reason ≡ true → has_any (reasons_of contest states blank enabled) ≡ true
  one-of Overvote h = second (test Overvote) (test Undervote) (test MarginalMark) (test BlankBallot) (test WriteIn) (or-left (test Overvote) (test Undervote) h)
  one-of Undervote h = second (test Overvote) (test Undervote) (test MarginalMark) (test BlankBallot) (test WriteIn) (or-right (test Overvote) (test Undervote) h)
  one-of MarginalMark h = third (test Overvote) (test Undervote) (test MarginalMark) (test BlankBallot) (test WriteIn) (or-right (test Overvote || test Undervote) (test MarginalMark) h)
  one-of BlankBallot h =
      or-left (test Overvote || test Undervote || test MarginalMark || test BlankBallot) (test WriteIn)
      (or-right (test Overvote || test Undervote || test MarginalMark) (test BlankBallot) h)
  one-of WriteIn h = or-right (test Overvote || test Undervote || test MarginalMark || test BlankBallot) (test WriteIn) h

reason-waits : (contest : Contest) (election : Election) (blank : Bool) (states : List State) (decisions : List Decision) → decisions ≡ [] → has_any (reasons_of contest states blank election.reasons) ≡ true → is_exported contest election.reasons blank states decisions ≡ false
reason-waits contest election blank states decisions none some =
    ap (λ (some : List Decision). is_exported contest election.reasons blank states some) none
    ∙ ap (λ (any : Bool). not (list_any is_marginal states) && not any) some
    ∙ never (not (list_any is_marginal states))
  where
    never : (b : Bool) → b && false ≡ false
    never true = refl
    never false = refl

reasons-wait : (election : Election) (kept : List Event) → ReasonsWait election kept
reasons-wait election kept added marks contest reason there is none =
    let blank = is_blank_sheet added.sheet in
    ap (exports_with election blank (decisions_of kept added.key marks.contest) marks.states) there
    ∙ reason-waits contest election blank marks.states (decisions_of kept added.key marks.contest) none (one-of contest marks.states blank election.reasons reason is)

pub shown : HistoriesAreShown
shown election kept history = record {
  stand = exported-stand election kept;
  ruled = marginal-ruled election kept history;
  wait = reasons-wait election kept;
}
