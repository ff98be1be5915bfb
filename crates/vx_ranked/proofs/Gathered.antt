-- The sheets that events add, one after another.
use Rattle.std.proofs.Common.{◌≡◌, ◌<◌, ◌+◌, ◌∙◌, ℕ, Bool, false, cond, List, ◌++◌, length, take, drop, get_or, sym, ap, ap₂, append_assoc}
use Rattle.std.specs.List.{flat_map}
use Rattle.std.proofs.lemmas.List.{at_drop_more}
use Rattle.std.proofs.lemmas.List.Sums.{sum_by_more}
use Rattle.std.proofs.lemmas.Option.{slice_get-get_or}
use Rattle.vx_base.proofs.Lists.{flat_map-take_more}
use Rattle.vx_election_model.specs.declared.election.Election.{Election}
use Rattle.vx_rules.specs.declared.marks.SheetMarks.{SheetMarks}
use Rattle.vx_events.specs.declared.event.Event.{Event}
use Rattle.vx_center.specs.declared.rows.Final.{Final}
use Rattle.vx_center.specs.Decisions.{decided_of}
use Rattle.vx_center.specs.Places.{no_sheet, sheet_at}
use Rattle.vx_center.specs.Sheets.{Added, sheets_in}
use Rattle.vx_ranked.specs.declared.groups.Group.{Group}
use Rattle.vx_ranked.specs.declared.sheets.SheetRankings.{SheetRankings}
use Rattle.vx_ranked.specs.Rankings.{finals_of, is_waiting, ranked_by, rankings_by, rankings_on, waits_on}
use Rattle.vx_ranked.proofs.Whole.{none_waits}

-- a turn of a walk over a list that makes lists
pub next-listed : {X Y : Type 0} (f : X → List Y) (xs : List X) (i : ℕ) (x : X) (before now total : List Y) → i < length xs → x ≡ get_or xs i x
    → before ++ flat_map f (drop i xs) ≡ total → now ≡ before ++ f x → now ++ flat_map f (drop (i + 1) xs) ≡ total
next-listed {X} {Y} f xs i x before now total lt is so_far pushed =
    ap (λ (some : List Y). some ++ flat_map f (drop (i + 1) xs)) pushed
    ∙ append_assoc before (f x) (flat_map f (drop (i + 1) xs))
    ∙ ap (λ (one : X). before ++ (f one ++ flat_map f (drop (i + 1) xs))) is
    ∙ ap (λ (some : List Y). before ++ some) (sym (at_drop_more (λ (left : List X). flat_map f left) xs i x lt)) ∙ so_far

-- a sheet that was read so, with those exported contests, is the one at a place
module _ (election : Election) (kept : List Event) (place : ℕ) (contests : List ℕ) (sheet : SheetMarks) (finals : List Final)
    (read : sheet ≡ (sheet_at kept place).sheet) (exported : finals ≡ finals_of election kept (sheet_at kept place)) where
  abbrev added : Added
  added = sheet_at kept place

  pub whole-ready : length finals ≡ length sheet.contests → is_waiting contests sheet finals ≡ false
  whole-ready full =
      ap₂ (λ (one : SheetMarks) (some : List Final). is_waiting contests one some) read exported
      ∙ none_waits election added.sheet (decided_of kept added.key) contests
      (sym (ap (λ (some : List Final). length some) exported) ∙ full ∙ ap (λ (one : SheetMarks). length one.contests) read)

  -- and one sheet more
  module _ (group : Group) (of : contests ≡ group.contests) (there : place < length (sheets_in kept)) (old : SheetRankings)
      (so_far : old ≡ ranked_by election kept (take place (sheets_in kept)) group) where
    pub more-rankings : (now : List (List ℕ)) → now ≡ old.rankings ++ rankings_by contests sheet finals
        → now ≡ flat_map (rankings_on election kept group.contests) (take (place + 1) (sheets_in kept))
    more-rankings now told =
        told
        ∙ ap₂ (λ (some : List (List ℕ)) (more : List (List ℕ)). some ++ more) (ap (λ (one : SheetRankings). one.rankings) so_far)
        (ap (λ (some : List ℕ). rankings_by some sheet finals) of
        ∙ ap₂ (λ (one : SheetMarks) (some : List Final). rankings_by group.contests one some) read exported)
        ∙ sym (flat_map-take_more (rankings_on election kept group.contests) (sheets_in kept) place added
        (slice_get-get_or (sheets_in kept) place no_sheet there))

    pub more-waiting : (now : ℕ) → now ≡ old.waiting + cond (is_waiting contests sheet finals) 1 0
        → now ≡ (ranked_by election kept (take (place + 1) (sheets_in kept)) group).waiting
    more-waiting now told =
        told
        ∙ ap₂ (λ (n : ℕ) (b : Bool). n + cond b 1 0) (ap (λ (one : SheetRankings). one.waiting) so_far)
        (ap (λ (some : List ℕ). is_waiting some sheet finals) of
        ∙ ap₂ (λ (one : SheetMarks) (some : List Final). is_waiting group.contests one some) read exported)
        ∙ sym (sum_by_more (λ (one : Added). cond (waits_on election kept group.contests one) 1 0) (sheets_in kept) place no_sheet
        there)

    pub sheet-more : (new : SheetRankings) → new.rankings ≡ old.rankings ++ rankings_by contests sheet finals
        → new.waiting ≡ old.waiting + cond (is_waiting contests sheet finals) 1 0
        → new ≡ ranked_by election kept (take (place + 1) (sheets_in kept)) group
    sheet-more new rankings waiting =
        ap₂ (λ (some : List (List ℕ)) (n : ℕ). let one : SheetRankings = record { rankings = some; waiting = n } in one)
        (more-rankings new.rankings rankings) (more-waiting new.waiting waiting)
