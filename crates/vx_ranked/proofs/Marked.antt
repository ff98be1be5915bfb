-- Sheets of which nothing was decided are ranked as they were marked.
use Rattle.std.proofs.Common.{◌≡◌, ◌+◌, ◌<◌, ◌==◌, ◌&&◌, ◌||◌, ℕ, zero, suc, Bool, true, false, cond, not, List, [], ◌∷◌, ◌++◌, length, map, Option, Some, None, refl, sym, ap, subst, ◌∙◌, arith, nat_le, nat_lt}
use Rattle.std.specs.Prelude.{fold, slice_get, is_none}
use Rattle.std.specs.List.{flat_map, list_all, list_any}
use Rattle.vx_base.proofs.Booleans.{and-left, and-right, not-both, or-left, or-right}
use Rattle.vx_base.proofs.Numbers.{at_most-from_yes, equal-from_yes, equal-no, equal-yes}
use Rattle.vx_election_model.specs.declared.contest.Contest.{Contest}
use Rattle.vx_election_model.specs.declared.election.Election.{Election}
use Rattle.vx_rules.specs.declared.marks.ContestMarks.{ContestMarks}
use Rattle.vx_rules.specs.declared.marks.SheetMarks.{SheetMarks}
use Rattle.vx_rules.specs.Reasons.{is_blank_sheet}
use Rattle.vx_events.specs.declared.decision.Decision.{Decision}
use Rattle.vx_events.specs.declared.event.Event.{Event}
use Rattle.vx_events.specs.declared.event.Event.TheVariants.{Add, Claim, Release, Decide}
use Rattle.vx_events.specs.Ascending.{ascends_from, is_ascending}
use Rattle.vx_events.specs.Fits.{contests_of, is_key, is_read, is_sheet}
use Rattle.vx_center.specs.declared.decided.Decided.{Decided}
use Rattle.vx_center.specs.declared.rows.Final.{Final}
use Rattle.vx_center.specs.Decisions.{decided_of, decisions_on, ruling_of}
use Rattle.vx_center.specs.Exports.{final_in, final_if_exported, final_of}
use Rattle.vx_center.specs.Finals.{is_overvoted, selected_by}
use Rattle.vx_center.specs.Sheets.{Added, added_from}
use Rattle.vx_center.specs.Waiting.{exports_by}
use Rattle.vx_ranked.specs.Marked.{AreUndecided, UndecidedSheetsAreRankedAsMarked, final_as_marked, marked_ranking}
use Rattle.vx_ranked.specs.Members.{is_among}
use Rattle.vx_ranked.specs.Rankings.{ends_list, final_on, finals_of, is_of_group, is_ranked, is_waiting, joined, named_by, ranking_of, waits_in}
use Rattle.vx_ranked.proofs.Ranked.{listed, list-ends, list-goes}

or_no_left : (a b : Bool) → a || b ≡ false → a ≡ false
or_no_left true b is = is
or_no_left false b is = refl

or_no_right : (a b : Bool) → a || b ≡ false → b ≡ false
or_no_right true b is = absurd cc
or_no_right false b is = is

and_first : (a b : Bool) → a ≡ true → a && b ≡ false → b ≡ false
and_first true b is none = none
and_first false b is none = absurd cc

not_true : (b : Bool) → not b ≡ true → b ≡ false
not_true true is = absurd cc
not_true false is = refl

-- two ranks name the same, and end the list or don't
record Alike (one other : Option Final) : Type 0 where
  named : named_by one ≡ named_by other
  ends : ends_list one ≡ ends_list other

module _ (f g : ℕ → Option Final) (contest : ℕ) (contests ranking : List ℕ) (here : Alike (f contest) (g contest))
    (rest : (some : List ℕ) → listed some (map f contests) ≡ listed some (map g contests)) where
  one_alike : (ends : Bool) → ends_list (f contest) ≡ ends → listed ranking (map f (contest ∷ contests)) ≡ listed ranking (map g (contest ∷ contests))
  one_alike true ends =
      list-ends ranking (f contest) (map f contests) ends ∙ sym (list-ends ranking (g contest) (map g contests) (sym here.ends ∙ ends))
  one_alike false goes =
      list-goes ranking (f contest) (map f contests) goes
      ∙ ap (λ (named : List ℕ). listed (fold joined ranking named) (map f contests)) here.named
      ∙ rest (fold joined ranking (named_by (g contest)))
      ∙ sym (list-goes ranking (g contest) (map g contests) (sym here.ends ∙ goes))

-- the same ranks, the same list
listed-alike : (f g : ℕ → Option Final) (contests ranking : List ℕ) → ((contest : ℕ) → is_among contest contests ≡ true → Alike (f contest) (g contest))
    → listed ranking (map f contests) ≡ listed ranking (map g contests)
listed-alike f g [] ranking each = refl
listed-alike f g (contest ∷ contests) ranking each =
    one_alike f g contest contests ranking (each contest (or-left (contest == contest) (is_among contest contests) (equal-yes contest contest refl)))
    (λ some. listed-alike f g contests some (λ other among. each other (or-right (other == contest) (is_among other contests) among)))
    (ends_list (f contest)) refl

-- what is exported of the contests of a sheet
module _ (election : Election) (blank : Bool) (decided : List Decided) where
  abbrev exported : ContestMarks → List Final
  exported marks = final_if_exported election blank decided marks

  abbrev all_exported : List ContestMarks → List Final
  all_exported list = flat_map exported list

  module _ (contest : ℕ) where
    -- another contest is passed over
    passed_by : (marks : ContestMarks) (decisions : List Decision) (more : List Final) (b : Bool) (found : Option Contest) → (marks.contest == contest) ≡ false
        → final_on (cond b (final_in marks decisions found) [] ++ more) contest ≡ final_on more contest
    passed_by marks decisions more true None other = refl
    passed_by marks decisions more true (Some one) other =
        ap (λ (b : Bool). cond b (Some (final_of one marks decisions)) (final_on more contest)) other
    passed_by marks decisions more false found other = refl

    passed : (marks : ContestMarks) (more : List Final) → (marks.contest == contest) ≡ false → final_on (exported marks ++ more) contest ≡ final_on more contest
    passed marks more other =
        passed_by marks (decisions_on marks.contest decided) more (exports_by election blank decided marks) (slice_get election.contests marks.contest) other

    -- contests that come behind it
    none_later : (list : List ContestMarks) (least : ℕ) → ascends_from least (contests_of list) ≡ true → contest < least
        → final_on (all_exported list) contest ≡ None
    none_later [] least ascends low = refl
    none_later (marks ∷ list) least ascends low =
        let above = at_most-from_yes least marks.contest
        (and-left (nat_le least marks.contest) (ascends_from (marks.contest + 1) (contests_of list)) ascends) in
        let other = equal-no marks.contest contest (λ same. omega (arith, same, above, low)) in
        passed marks (all_exported list) other
        ∙ none_later list (marks.contest + 1) (and-right (nat_le least marks.contest) (ascends_from (marks.contest + 1) (contests_of list)) ascends)
        (omega (arith, above, low))

    -- the contest is on the list, so it is exported
    IsThere : List ContestMarks → Type 0
    IsThere list = (place : ℕ) (marks : ContestMarks) → slice_get list place ≡ Some marks → (marks.contest == contest) ≡ true
        → is_none (final_on (all_exported list) contest) ≡ false

    -- it counts as it was marked
    marked_by : (marks : ContestMarks) (decisions : List Decision) (more : List Final) (rest : List ContestMarks) (b : Bool) (found : Option Contest)
        → (marks.contest == contest) ≡ true → decisions ≡ [] → final_on more contest ≡ None
        → is_none (final_on (cond b (final_in marks decisions found) [] ++ more) contest) ≡ false
        → Alike (final_on (cond b (final_in marks decisions found) [] ++ more) contest) (final_on (map final_as_marked (marks ∷ rest)) contest)
    marked_by marks decisions more rest true None own none last there = absurd (not-both true refl (sym (ap is_none last) ∙ there))
    marked_by marks decisions more rest false found own none last there = absurd (not-both true refl (sym (ap is_none last) ∙ there))
    marked_by marks decisions more rest true (Some one) own none last there =
        let Like : Option Final → Option Final → Type 0 = λ a b. Alike a b in
        let left : final_on (final_of one marks decisions ∷ more) contest ≡ Some (final_of one marks decisions) =
        ap (λ (b : Bool). cond b (Some (final_of one marks decisions)) (final_on more contest)) own in
        let right : final_on (map final_as_marked (marks ∷ rest)) contest ≡ Some (final_as_marked marks) =
        ap (λ (b : Bool). cond b (Some (final_as_marked marks)) (final_on (map final_as_marked rest) contest)) own in
        let same : Alike (Some (final_of one marks decisions)) (Some (final_as_marked marks)) = record {
          named = ap (λ (some : List Decision). selected_by marks.states (ruling_of some)) none;
          ends = ap (λ (some : List Decision). is_overvoted (ruling_of some) || nat_lt 1 (length (selected_by marks.states (ruling_of some)))) none;
        } in
        subst (λ (a : Option Final). Alike a (final_on (map final_as_marked (marks ∷ rest)) contest)) (sym left)
        (subst (λ (b : Option Final). Alike (Some (final_of one marks decisions)) b) (sym right) same)

    each_alike : (list : List ContestMarks) (least : ℕ) → ascends_from least (contests_of list) ≡ true → decisions_on contest decided ≡ [] → IsThere list
        → Alike (final_on (all_exported list) contest) (final_on (map final_as_marked list) contest)
    unfolding IsThere
    each_alike [] least ascends none there = record { named = refl; ends = refl }
    each_alike (marks ∷ list) least ascends none there =
        let later = and-right (nat_le least marks.contest) (ascends_from (marks.contest + 1) (contests_of list)) ascends in
        by (marks.contest == contest) refl later
        (λ other. each_alike list (marks.contest + 1) later none
        (λ place one at own. sym (ap is_none (passed marks (all_exported list) other)) ∙ there (suc place) one at own))
      where
        by : (b : Bool) → (marks.contest == contest) ≡ b → ascends_from (marks.contest + 1) (contests_of list) ≡ true
            → ((marks.contest == contest) ≡ false → Alike (final_on (all_exported list) contest) (final_on (map final_as_marked list) contest))
            → Alike (final_on (all_exported (marks ∷ list)) contest) (final_on (map final_as_marked (marks ∷ list)) contest)
        by true own later rest =
            let same = equal-from_yes marks.contest contest own in
            marked_by marks (decisions_on marks.contest decided) (all_exported list) list (exports_by election blank decided marks)
            (slice_get election.contests marks.contest) own (ap (λ (n : ℕ). decisions_on n decided) same ∙ none)
            (none_later list (marks.contest + 1) later (omega (arith, same))) (there 0 marks refl own)
        by false other later rest =
            let left = passed marks (all_exported list) other in
            let right : final_on (map final_as_marked (marks ∷ list)) contest ≡ final_on (map final_as_marked list) contest =
            ap (λ (b : Bool). cond b (Some (final_as_marked marks)) (final_on (map final_as_marked list) contest)) other in
            subst (λ (a : Option Final). Alike a (final_on (map final_as_marked (marks ∷ list)) contest)) (sym left)
            (subst (λ (b : Option Final). Alike (final_on (all_exported list) contest) b) (sym right) (rest other))

-- no element passes, so this one doesn't
not_any : {X : Type 0} (p : X → Bool) (xs : List X) (place : ℕ) (x : X) → list_any p xs ≡ false → slice_get xs place ≡ Some x → p x ≡ false
not_any p [] place x none at = absurd cc
not_any p (first ∷ xs) zero x none at = let same : first ≡ x = cc in ap p (sym same) ∙ or_no_left (p first) (list_any p xs) none
not_any p (first ∷ xs) (suc place) x none at = not_any p xs place x (or_no_right (p first) (list_any p xs) none) at

module _ (election : Election) (kept : List Event) (contests : List ℕ) (added : Added) (ascends : is_ascending (contests_of added.sheet.contests) ≡ true)
    (undecided : AreUndecided kept added.key contests) where
  abbrev finals : List Final
  finals = finals_of election kept added

  ranked-alike : is_waiting contests added.sheet finals ≡ false → ranking_of finals contests ≡ marked_ranking added.sheet contests
  unfolding ranking_of IsThere
  ranked-alike ready =
      listed-alike (final_on finals) (final_on (map final_as_marked added.sheet.contests)) contests []
      (λ contest among. each_alike election (is_blank_sheet added.sheet) (decided_of kept added.key) contest added.sheet.contests 0 ascends
      (undecided.none contest among)
      (λ place marks at own.
      let same = equal-from_yes marks.contest contest own in
      let waits = not_any (waits_in finals contests) added.sheet.contests place marks ready at in
      let of_group : is_among marks.contest contests ≡ true = ap (λ (n : ℕ). is_among n contests) same ∙ among in
      sym (ap (λ (n : ℕ). is_none (final_on finals n)) same)
      ∙ and_first (is_among marks.contest contests) (is_none (final_on finals marks.contest)) of_group waits))

  ranked-by : (b : Bool) → is_ranked contests added.sheet finals ≡ b
      → cond b (ranking_of finals contests ∷ []) [] ≡ cond b (marked_ranking added.sheet contests ∷ []) []
  ranked-by true is =
      ap (λ (ranking : List ℕ). ranking ∷ [])
      (ranked-alike (not_true (is_waiting contests added.sheet finals)
      (and-right (list_any (is_of_group contests) added.sheet.contests) (not (is_waiting contests added.sheet finals)) is)))
  ranked-by false is = refl

-- the event of a sheet that was added
added_at : (from : ℕ) (kept : List Event) (place : ℕ) (added : Added) → slice_get (added_from from kept) place ≡ Some added
    → (at : ℕ) × (slice_get kept at ≡ Some (Add added.key added.sheet))
added_at from [] place added is = absurd cc
added_at from (Add key sheet ∷ events) zero added is =
    let same : record { at = from; key = key; sheet = sheet } ≡ added = cc in
    (0, ap (λ (one : Added). Some (Add one.key one.sheet)) same)
added_at from (Add key sheet ∷ events) (suc place) added is = let more = added_at (from + 1) events place added is in (suc more.0, more.1)
added_at from (Claim station key ∷ events) place added is = let more = added_at (from + 1) events place added is in (suc more.0, more.1)
added_at from (Release station key ∷ events) place added is = let more = added_at (from + 1) events place added is in (suc more.0, more.1)
added_at from (Decide station key contest decision ∷ events) place added is = let more = added_at (from + 1) events place added is in (suc more.0, more.1)

pub sheet-ascends : (election : Election) (sheet : SheetMarks) → is_sheet election sheet ≡ true → is_ascending (contests_of sheet.contests) ≡ true
sheet-ascends election sheet is = and-right _ (is_ascending (contests_of sheet.contests)) (and-left _ (list_all (is_read election) sheet.contests) is)

pub ranked-as-marked : UndecidedSheetsAreRankedAsMarked
ranked-as-marked election kept contests place added history at undecided =
    let event = added_at 0 kept place added at in
    let fits = history.fits event.0 (Add added.key added.sheet) event.1 in
    let ascends = sheet-ascends election added.sheet (and-right (is_key added.key) (is_sheet election added.sheet) fits) in
    ranked-by election kept contests added ascends undecided (is_ranked contests added.sheet (finals_of election kept added)) refl
