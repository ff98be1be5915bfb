-- What the rows of a history have: cards that are there, and contests that ascend, with options that are there.
use Rattle.std.proofs.Common.{◌≡◌, ℕ, ◌+◌, ◌<◌, ◌≤◌, ◌%◌, Bool, true, false, cond, ◌==◌, List, [], ◌∷◌, ◌++◌, length, map, refl, sym, ap, subst, ◌∙◌, arith, length-append}
use Rattle.std.specs.Prelude.{◌&&◌, Option, Some, None, slice_get, nat_lt, nat_le}
use Rattle.std.specs.List.{AllByRecursion, flat_map, list_all}
use Rattle.std.proofs.lemmas.List.Sums.{sum_by-cons}
use Rattle.std.proofs.lemmas.Option.{slice_get_within, get_or_from_slice_get}
use Rattle.vx_base.proofs.Booleans.{and-both, and-left, and-right}
use Rattle.vx_base.proofs.Numbers.{at_most-yes, at_most-from_yes, below-from_yes}
use Rattle.vx_election_model.specs.declared.contest.Contest.{Contest}
use Rattle.vx_election_model.specs.declared.election.Election.{Election}
use Rattle.vx_election_model.specs.declared.style.Style.{Style}
use Rattle.vx_election_model.specs.Lists.{card_count}
use Rattle.vx_election_model.specs.Valid.{IsValid}
use Rattle.vx_styles.specs.Cards.{cards_of_style, cards_from}
use Rattle.vx_rules.specs.declared.marks.ContestMarks.{ContestMarks}
use Rattle.vx_rules.specs.declared.marks.SheetMarks.{SheetMarks}
use Rattle.vx_rules.specs.Reasons.{is_blank_sheet}
use Rattle.vx_events.specs.declared.event.Event.{Event}
use Rattle.vx_events.specs.Ascending.{ascends_from, is_ascending}
use Rattle.vx_events.specs.Fits.{is_read, is_sheet, contests_of}
use Rattle.vx_center.specs.declared.decided.Decided.{Decided}
use Rattle.vx_center.specs.declared.rows.Final.{Final}
use Rattle.vx_center.specs.Decisions.{decided_of, decisions_on}
use Rattle.vx_center.specs.Exports.{final_in, final_if_exported, row_of}
use Rattle.vx_center.specs.Histories.{IsHistory}
use Rattle.vx_center.specs.Sheets.{Added}
use Rattle.vx_center.specs.Waiting.{exports_by}
use Rattle.vx_cvr.specs.Rows.{rows_of}
use Rattle.vx_cvr.specs.Report.{no_contest}
use Rattle.vx_results.specs.Report.{contest_at}
use Rattle.vx_results.specs.Fitting.{AreOptions, IsSlotOf, IsFinalAt, IsRow, final_number}
use Rattle.vx_results.proofs.Each.{length-mapped, each-weaker}
use Rattle.vx_results.proofs.Kept.{IsFinal, IsAdded, row-finals}
use Rattle.vx_results.proofs.RowsOf.{each-row}

-- the numbers of elements
module _ {X : Type 0} (number : X → ℕ) where
  ascends-lower : (least more : ℕ) (xs : List X) → least ≤ more → ascends_from more (map number xs) ≡ true → ascends_from least (map number xs) ≡ true
  ascends-lower least more [] low up = refl
  ascends-lower least more (x ∷ xs) low up =
      and-both (nat_le least (number x)) (ascends_from (number x + 1) (map number xs))
      (at_most-yes least (number x) (omega (arith, low, at_most-from_yes more (number x) (and-left (nat_le more (number x)) _ up))))
      (and-right (nat_le more (number x)) (ascends_from (number x + 1) (map number xs)) up)

  pub ascends-room : (least most : ℕ) (xs : List X) → ascends_from least (map number xs) ≡ true → AllByRecursion (λ (x : X). number x < most) xs → least ≤ most
      → least + length xs ≤ most
  ascends-room least most [] up below room = omega (arith, room)
  ascends-room least most (x ∷ xs) up below room =
      let low = at_most-from_yes least (number x) (and-left (nat_le least (number x)) _ up) in
      let one : number x < most = below.0 in
      let rest = ascends-room (number x + 1) most xs (and-right (nat_le least (number x)) _ up) below.1 (omega (arith, one)) in
      omega (arith, low, rest)

-- the exported contests of a sheet ascend
finals-ascend : (election : Election) (blank : Bool) (decided : List Decided) (least : ℕ) (list : List ContestMarks)
    → ascends_from least (contests_of list) ≡ true
    → ascends_from least (map final_number (flat_map (final_if_exported election blank decided) list)) ≡ true
finals-ascend election blank decided least [] up = refl
finals-ascend election blank decided least (marks ∷ list) up =
    by (exports_by election blank decided marks)
    (at_most-from_yes least marks.contest (and-left (nat_le least marks.contest) _ up))
    (finals-ascend election blank decided (marks.contest + 1) list (and-right (nat_le least marks.contest) _ up))
  where
    rest : List Final
    rest = flat_map (final_if_exported election blank decided) list

    inside : (o : Option Contest) → least ≤ marks.contest → ascends_from (marks.contest + 1) (map final_number rest) ≡ true
        → ascends_from least (map final_number (final_in marks (decisions_on marks.contest decided) o ++ rest)) ≡ true
    inside None low up = ascends-lower final_number least (marks.contest + 1) rest (omega (arith, low)) up
    inside (Some contest) low up = and-both (nat_le least marks.contest) (ascends_from (marks.contest + 1) (map final_number rest))
        (at_most-yes least marks.contest low) up

    by : (b : Bool) → least ≤ marks.contest → ascends_from (marks.contest + 1) (map final_number rest) ≡ true
        → ascends_from least
        (map final_number (cond b (final_in marks (decisions_on marks.contest decided) (slice_get election.contests marks.contest)) [] ++ rest)) ≡ true
    by true low up = inside (slice_get election.contests marks.contest) low up
    by false low up = ascends-lower final_number least (marks.contest + 1) rest (omega (arith, low)) up

final-at : (election : Election) (final : Final) → IsFinal election final → IsFinalAt election final
final-at election final is =
    let same : is.contest ≡ contest_at election final = sym (get_or_from_slice_get election.contests final.contest is.contest no_contest is.there) in
    record {
      there = subst (λ (contest : Contest). slice_get election.contests final.contest ≡ Some contest) same is.there;
      options = subst (λ (contest : Contest). AreOptions contest final.selected) same is.options;
      names = subst (λ (contest : Contest). AllByRecursion (IsSlotOf contest) final.names) same is.names;
    }

-- there are as many cards as the styles have precincts
length-cards_from : (place : ℕ) (styles : List Style) → length (cards_from place styles) ≡ card_count styles
length-cards_from place [] = refl
length-cards_from place (style ∷ styles) =
    length-append (cards_of_style place style.precincts) (cards_from (place + 1) styles)
    ∙ ap (λ (n : ℕ). n + length (cards_from (place + 1) styles)) (length-mapped _ style.precincts)
    ∙ ap (λ (n : ℕ). length style.precincts + n) (length-cards_from (place + 1) styles)
    ∙ sym (sum_by-cons (λ (s : Style). length s.precincts) style styles)

-- a sheet is a card's that is there, by the first of what fits, and its contests ascend
abbrev sheet_head : Election → SheetMarks → Bool
sheet_head election sheet = nat_lt sheet.card (card_count election.styles) && (sheet.front % 2 == 1) && nat_lt sheet.front 64

sheet-card : (election : Election) (sheet : SheetMarks) → is_sheet election sheet ≡ true → nat_lt sheet.card (card_count election.styles) ≡ true
sheet-card election sheet fits =
    and-left (nat_lt sheet.card (card_count election.styles)) (sheet.front % 2 == 1)
    (and-left (nat_lt sheet.card (card_count election.styles) && (sheet.front % 2 == 1)) (nat_lt sheet.front 64)
    (and-left (sheet_head election sheet) (is_ascending (contests_of sheet.contests))
    (and-left (sheet_head election sheet && is_ascending (contests_of sheet.contests)) (list_all (is_read election) sheet.contests) fits)))

sheet-front : (election : Election) (sheet : SheetMarks) → is_sheet election sheet ≡ true → nat_lt sheet.front 64 ≡ true
sheet-front election sheet fits =
    and-right (nat_lt sheet.card (card_count election.styles) && (sheet.front % 2 == 1)) (nat_lt sheet.front 64)
    (and-left (sheet_head election sheet) (is_ascending (contests_of sheet.contests))
    (and-left (sheet_head election sheet && is_ascending (contests_of sheet.contests)) (list_all (is_read election) sheet.contests) fits))

pub sheet-ascends : (election : Election) (sheet : SheetMarks) → is_sheet election sheet ≡ true → is_ascending (contests_of sheet.contests) ≡ true
sheet-ascends election sheet fits =
    and-right (sheet_head election sheet) (is_ascending (contests_of sheet.contests))
    (and-left (sheet_head election sheet && is_ascending (contests_of sheet.contests)) (list_all (is_read election) sheet.contests) fits)

pub added-row : (election : Election) (kept : List Event) → IsValid election → IsHistory election kept → (added : Added) → IsAdded election added
    → IsRow election (row_of election kept added)
added-row election kept valid history added is = record {
  key = is.0;
  card = omega (arith, length-cards_from 0 election.styles, below-from_yes added.sheet.card (card_count election.styles) card);
  front = below-from_yes added.sheet.front 64 (sheet-front election added.sheet is.1);
  finals = finals;
  ascend = up;
  few = omega (arith, ascends-room final_number 0 (length election.contests) (row_of election kept added).finals up below (omega arith), valid.contests.few);
}
  where
    sheet : SheetMarks
    sheet = added.sheet

    card : nat_lt sheet.card (card_count election.styles) ≡ true
    card = sheet-card election sheet is.1

    finals : AllByRecursion (IsFinalAt election) (row_of election kept added).finals
    finals = each-weaker (IsFinal election) (IsFinalAt election) (row_of election kept added).finals (final-at election)
        (row-finals election kept added history is)

    up : ascends_from 0 (map final_number (row_of election kept added).finals) ≡ true
    up = finals-ascend election (is_blank_sheet sheet) (decided_of kept added.key) 0 sheet.contests (sheet-ascends election sheet is.1)

    below : AllByRecursion (λ (final : Final). final_number final < length election.contests) (row_of election kept added).finals
    below = each-weaker (IsFinalAt election) (λ (final : Final). final_number final < length election.contests) (row_of election kept added).finals
        (λ final at. slice_get_within election.contests final.contest (contest_at election final) at.there) finals

pub rows-are : (election : Election) (kept : List Event) → IsValid election → IsHistory election kept → AllByRecursion (IsRow election) (rows_of election kept)
rows-are election kept valid history = each-row (IsRow election) election kept history (added-row election kept valid history)
