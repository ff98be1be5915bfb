-- How many events, rows and contests there are at most.
use Rattle.std.proofs.Common.{◌≡◌, ℕ, suc, ◌+◌, ◌*◌, ◌<◌, ◌≤◌, Bool, true, false, cond, List, [], ◌∷◌, length, map, take, get_or, refl, sym, ap, ◌∙◌, arith, length-take, length-append}
use Rattle.std.specs.Prelude.{Option, Some, None, slice_get, nat_le, sum_by}
use Rattle.std.specs.List.{AllByRecursion, list_all}
use Rattle.std.specs.Ordering.{match_ordering}
use Rattle.std.specs.declared.cmp.Ordering.{Ordering}
use Rattle.std.specs.declared.cmp.Ordering.TheVariants.{Less, Equal, Greater}
use Rattle.std.proofs.lemmas.List.Sums.{sum_by-cons}
use Rattle.std.proofs.lemmas.Option.{slice_get-get_or, slice_get_within}
use Rattle.vx_base.proofs.Booleans.{and-right}
use Rattle.vx_base.proofs.Numbers.{below-no, at_most-from_yes}
use Rattle.vx_election_model.specs.declared.contest.Contest.{Contest}
use Rattle.vx_election_model.specs.declared.election.Election.{Election}
use Rattle.vx_election_model.specs.Valid.{IsValid}
use Rattle.vx_rules.specs.declared.marks.ContestMarks.{ContestMarks}
use Rattle.vx_rules.specs.declared.marks.SheetMarks.{SheetMarks}
use Rattle.vx_refusals.specs.declared.reply.Reply.TheVariants.{Done, Full}
use Rattle.vx_events.specs.declared.event.Event.{Event}
use Rattle.vx_events.specs.declared.event.Event.TheVariants.{Add, Claim, Release, Decide}
use Rattle.vx_events.specs.Fits.{has_options, is_read, is_sheet}
use Rattle.vx_center.specs.declared.rows.ExportSheet.{ExportSheet}
use Rattle.vx_center.specs.Exports.{key_order, row_of}
use Rattle.vx_center.specs.Histories.{IsHistory}
use Rattle.vx_center.specs.Replies.{event_limit, reply_with_room}
use Rattle.vx_center.specs.Sheets.{added_by, added_from, sheets_in}
use Rattle.vx_cvr.specs.Rows.{placed, in_order, rows_of}
use Rattle.vx_results.proofs.Each.{each-test, each-weaker, length-mapped}
use Rattle.vx_results.proofs.Fitting.{ascends-room, sheet-ascends}

-- how many there are
length-placed : (row : ExportSheet) (rows : List ExportSheet) → length (placed row rows) ≡ suc (length rows)
length-placed row [] = refl
length-placed row (other ∷ others) = by (key_order other.key row.key) (length-placed row others)
  where
    by : (o : Ordering) → length (placed row others) ≡ suc (length others)
        → length (match_ordering o (other ∷ placed row others) (row ∷ other ∷ others) (row ∷ other ∷ others)) ≡ suc (suc (length others))
    by Less rest = ap (λ (n : ℕ). suc n) rest
    by Equal rest = refl
    by Greater rest = refl

length-in_order : (rows : List ExportSheet) → length (in_order rows) ≡ length rows
length-in_order [] = refl
length-in_order (row ∷ rows) = length-placed row (in_order rows) ∙ ap (λ (n : ℕ). suc n) (length-in_order rows)

added-few : (place : ℕ) (events : List Event) → length (added_from place events) ≤ length events
added-few place [] = omega arith
added-few place (event ∷ events) =
    omega (arith, length-append (added_by place event) (added_from (place + 1) events), by event, added-few (place + 1) events)
  where
    by : (event : Event) → length (added_by place event) ≤ 1
    by (Add key sheet) = omega arith
    by (Claim station key) = omega arith
    by (Release station key) = omega arith
    by (Decide station key contest decision) = omega arith

some-there : (kept : List Event) → 1000000 < length kept → ((event : Event) → slice_get kept 1000000 ≡ Some event → ⊥) → ⊥
some-there [] more none = omega (arith, more)
some-there (event ∷ events) more none = none (get_or (event ∷ events) 1000000 event) (slice_get-get_or (event ∷ events) 1000000 event more)

events-few : (election : Election) (kept : List Event) → IsHistory election kept → length kept ≤ 1000000
unfolding event_limit
events-few election kept history = by (nat_le (length kept) 1000000) refl
  where
    past : (event : Event) → 1000000 < length kept → slice_get kept 1000000 ≡ Some event → ⊥
    past event more there =
        let size : length (take 1000000 kept) ≡ 1000000 = omega (arith, length-take 1000000 kept, more) in
        let done = history.done 1000000 event there in
        let full : Full 1000000 ≡ Done =
        sym (ap (λ (b : Bool). cond b (reply_with_room election (take 1000000 kept) event) (Full 1000000))
        (below-no (length (take 1000000 kept)) 1000000 (omega (arith, size)))) ∙ done in
        absurd cc

    at-least : (n : ℕ) → nat_le n 1000000 ≡ false → 1000000 < n
    at-least n h = grind (arith, h)

    by : (b : Bool) → nat_le (length kept) 1000000 ≡ b → length kept ≤ 1000000
    by true e = at_most-from_yes (length kept) 1000000 e
    by false e =
        let more = at-least (length kept) e in
        absurd (some-there kept more (λ event there. past event more there))

pub rows-few : (election : Election) (kept : List Event) → IsHistory election kept → length (rows_of election kept) ≤ 1000000
rows-few election kept history =
    omega (
      arith,
      length-in_order (map (row_of election kept) (sheets_in kept)),
      length-mapped (row_of election kept)
          (sheets_in kept),
      added-few 0 kept,
      events-few election kept history,
    )

-- a contest that was read is one of the election's
read-below : (election : Election) (marks : ContestMarks) → is_read election marks ≡ true → marks.contest < length election.contests
read-below election marks read = by (slice_get election.contests marks.contest) refl read
  where
    by : (o : Option Contest) → slice_get election.contests marks.contest ≡ o → has_options o (length marks.states) ≡ true
        → marks.contest < length election.contests
    by None there fits = absurd cc
    by (Some contest) there fits = slice_get_within election.contests marks.contest contest there

-- a sheet that fits has at most 500 contests
pub sheet-few : (election : Election) (sheet : SheetMarks) → IsValid election → is_sheet election sheet ≡ true → length sheet.contests ≤ 500
sheet-few election sheet valid fits =
    omega (
      arith,
      ascends-room (λ (marks : ContestMarks). marks.contest) 0 (length election.contests) sheet.contests (sheet-ascends election sheet fits) below
          (omega arith),
      valid.contests.few,
    )
  where
    read : list_all (is_read election) sheet.contests ≡ true
    read = and-right _ (list_all (is_read election) sheet.contests) fits

    below : AllByRecursion (λ (marks : ContestMarks). marks.contest < length election.contests) sheet.contests
    below = each-weaker (λ (marks : ContestMarks). is_read election marks ≡ true) (λ (marks : ContestMarks). marks.contest < length election.contests)
        sheet.contests (read-below election) (each-test (is_read election) sheet.contests read)

-- a sum of numbers none of which is above 1,000
pub sum-few : {X : Type 0} (f : X → ℕ) (xs : List X) → AllByRecursion (λ (x : X). f x ≤ 1000) xs → sum_by f xs ≤ 1000 * length xs
sum-few f [] each = omega arith
sum-few f (x ∷ xs) each = omega (arith, sum_by-cons f x xs, each.0, sum-few f xs each.1)
