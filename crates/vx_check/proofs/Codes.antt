-- What the tests of the code and of the bubbles say.
use Rattle.std.proofs.Common.{◌≡◌, ◌⊎◌, inl, inr, ℕ, zero, suc, ◌+◌, ◌*◌, ◌/◌, ◌%◌, ◌^◌, ◌<◌, ◌==◌, ◌&&◌, Bool, true, false, cond, nat_lt, List, map, length, refl, ap, ◌∙◌, arith}
use Rattle.std.specs.Prelude.{slice_index, slice_index_or, slice_get, option_map, Result, Ok, Err}
use Rattle.std.specs.List.{range_with_len}
use Rattle.std.proofs.lemmas.Bool.Decides.{nat_tests}
use Rattle.std.proofs.lemmas.Bool.{and_parts, and_from}
use Rattle.std.proofs.lemmas.Option.{slice_get-map}
use Rattle.std.proofs.lemmas.List.{length-map}
use Rattle.std.proofs.lemmas.List.FromFn.{length-map-range_with_len}
use Rattle.vx_base.proofs.Numbers.{equal-from_yes, equal-yes, equal-no, below-from_yes, below-yes}
use Rattle.vx_plane.specs.Plane.{Page}
use Rattle.vx_grid.specs.declared.state.State.{State}
use Rattle.vx_grid.specs.declared.state.Thresholds.{Thresholds}
use Rattle.vx_grid.specs.Borders.{MarkPlaces}
use Rattle.vx_code.specs.declared.code.PageCode.{PageCode}
use Rattle.vx_code.specs.Code.{boxes_of, version_of, IsInRange, IsShown, Shows, CodesAreGivenBack, ReadCodesAreShown}
use Rattle.vx_score.specs.Score.{state_of}
use Rattle.vx_election_model.specs.declared.election.Election.{Election}
use Rattle.vx_layout.specs.declared.bubbles.Bubble.{Bubble}
use Rattle.vx_layout.specs.declared.pages.PagePlan.{PagePlan}
use Rattle.vx_scan_model.specs.declared.reading.PageReading.{PageReading}
use Rattle.vx_scan_model.specs.declared.fault.PageFault.{PageFault}
use Rattle.vx_scan_model.specs.Named.{named_plan}
use Rattle.vx_scan_model.specs.Reading.{box_count_of, code_read, bubble_score, scores_of, states_of}
use Rattle.vx_refusals.specs.declared.checking.CheckFault.{CheckFault}
use Rattle.vx_refusals.specs.declared.checking.CheckFault.TheVariants.{CodeAt}
use Rattle.vx_check.specs.Tests.{Tested, passes, in_order, no_bit, is_in_range, is_shown, shows_box, pair_tested, code_tested, or_no_bit, plan_tested, score_tested, scores_tested, state_tested, states_tested, bubbles_tested}
use Rattle.vx_check.proofs.Orders.{both-passed, after-passed, after-failed, passes-so, so-passes, not-passes, in_order-fails, in_order-passes, in_order-passed}
use Rattle.vx_check.proofs.Lists.{same-values, score-same, same-score, state-same, same-state}

-- the test of the ranges
pub range-of : (code : PageCode) → is_in_range code ≡ true → IsInRange code
range-of code h =
    let parts = and_parts (nat_lt code.version 8 && nat_lt code.card 1024) (nat_lt code.page 64 && nat_lt code.tag (2 ^ 20)) h in
    let first = and_parts (nat_lt code.version 8) (nat_lt code.card 1024) parts.0 in
    let second = and_parts (nat_lt code.page 64) (nat_lt code.tag (2 ^ 20)) parts.1 in
    record {
      version_fits = below-from_yes code.version 8 first.0;
      card_fits = below-from_yes code.card 1024 first.1;
      page_fits = below-from_yes code.page 64 second.0;
      tag_fits = below-from_yes code.tag (2 ^ 20) second.1;
    }

pub of-range : (code : PageCode) → IsInRange code → is_in_range code ≡ true
of-range code h =
    and_from (nat_lt code.version 8 && nat_lt code.card 1024) (nat_lt code.page 64 && nat_lt code.tag (2 ^ 20))
    (and_from (nat_lt code.version 8) (nat_lt code.card 1024) (below-yes code.version 8 h.version_fits) (below-yes code.card 1024 h.card_fits))
    (and_from (nat_lt code.page 64) (nat_lt code.tag (2 ^ 20)) (below-yes code.page 64 h.page_fits) (below-yes code.tag (2 ^ 20) h.tag_fits))

-- the test of a box
shown-from : (printed : Bool) (count : ℕ) → is_shown printed count ≡ true → IsShown printed count
shown-from true count h = grind (arith, nat_tests)
shown-from false count h = grind (arith, nat_tests)

shown-true : (printed : Bool) (count : ℕ) → IsShown printed count → is_shown printed count ≡ true
shown-true true count h = grind (arith, nat_tests)
shown-true false count h = grind (arith, nat_tests)

-- pairs that pass show their boxes
module _ (counts : List ℕ) (boxes : List Bool) where
  by-pair : (h : (n : ℕ) → n < 42 → (shows_box counts boxes (2 * n) ≡ true) × (shows_box counts boxes (2 * n + 1) ≡ true)) (n box : ℕ) → n < 42 → (box ≡ 2 * n) ⊎ (box ≡ 2 * n + 1) → shows_box counts boxes box ≡ true
  by-pair h n box few (inl e) = ap (shows_box counts boxes) e ∙ (h n few).0
  by-pair h n box few (inr e) = ap (shows_box counts boxes) e ∙ (h n few).1

  which : (box : ℕ) → (box ≡ 2 * (box / 2)) ⊎ (box ≡ 2 * (box / 2) + 1)
  which box = by_rest (box % 2) refl (omega arith)
    where
      by_rest : (r : ℕ) → box % 2 ≡ r → r < 2 → (box ≡ 2 * (box / 2)) ⊎ (box ≡ 2 * (box / 2) + 1)
      by_rest zero e less = inl (omega (arith, e))
      by_rest (suc zero) e less = inr (omega (arith, e))
      by_rest (suc (suc r)) e less = absurd (omega (arith, less))

  pub pairs-show : in_order (pair_tested counts boxes) 0 42 ≡ Ok tt → Shows counts boxes
  pairs-show h =
      let each : (n : ℕ) → n < 42 → (shows_box counts boxes (2 * n) ≡ true) × (shows_box counts boxes (2 * n + 1) ≡ true) =
      λ n few. and_parts (shows_box counts boxes (2 * n)) (shows_box counts boxes (2 * n + 1))
      (passes-so (shows_box counts boxes (2 * n) && shows_box counts boxes (2 * n + 1)) (CodeAt n)
      (in_order-passed (pair_tested counts boxes) 0 42 n h (omega arith) (omega (arith, few)))) in
      record {
        each = λ box few. shown-from (slice_index_or boxes box false) (slice_index counts box) (by-pair each (box / 2) box (omega (arith, few)) (which box));
      }

  pub show-pairs : Shows counts boxes → in_order (pair_tested counts boxes) 0 42 ≡ Ok tt
  show-pairs shows =
      in_order-passes (pair_tested counts boxes) 0 42
      (λ n from less.
      let few : n < 42 = omega (arith, less) in
      so-passes (shows_box counts boxes (2 * n) && shows_box counts boxes (2 * n + 1)) (CodeAt n)
      (and_from (shows_box counts boxes (2 * n)) (shows_box counts boxes (2 * n + 1))
      (shown-true (slice_index_or boxes (2 * n) false) (slice_index counts (2 * n)) (shows.each (2 * n) (omega (arith, few))))
      (shown-true (slice_index_or boxes (2 * n + 1) false) (slice_index counts (2 * n + 1)) (shows.each (2 * n + 1) (omega (arith, few))))))

module _ (page : Page) (border : MarkPlaces) (code : PageCode) where
  abbrev counts : List ℕ
  counts = map (box_count_of page border) (range_with_len 0 84)

  -- a code that passes is shown
  pub code-shown : code_tested page border code ≡ Ok tt → IsInRange code × Shows counts (boxes_of code)
  unfolding code_tested
  code-shown h =
      let parts = both-passed (passes (is_in_range code) (CodeAt no_bit)) (in_order (pair_tested counts (boxes_of code)) 0 42) tt h in
      (range-of code (passes-so (is_in_range code) (CodeAt no_bit) parts.0), pairs-show counts (boxes_of code) parts.1)

  pub shown-code : IsInRange code → Shows counts (boxes_of code) → code_tested page border code ≡ Ok tt
  unfolding code_tested
  shown-code range shows =
      after-passed (passes (is_in_range code) (CodeAt no_bit)) (in_order (pair_tested counts (boxes_of code)) 0 42) (so-passes (is_in_range code) (CodeAt no_bit) (of-range code range))
      ∙ show-pairs counts (boxes_of code) shows

  -- and read, where its version is that of the border's paper
  pub code-read : CodesAreGivenBack → code.version ≡ version_of border.paper → code_tested page border code ≡ Ok tt → code_read page border ≡ Ok code
  unfolding code_read
  code-read back version h =
      let shown = code-shown h in
      back border.paper counts code (length-map-range_with_len (box_count_of page border) 0 84) shown.0 version shown.1

  -- each answer
  pub code-out : is_in_range code ≡ false → code_tested page border code ≡ Err (CodeAt no_bit)
  unfolding code_tested
  code-out h = after-failed (passes (is_in_range code) (CodeAt no_bit)) (in_order (pair_tested counts (boxes_of code)) 0 42) (CodeAt no_bit) (not-passes (is_in_range code) (CodeAt no_bit) h)

  pub code-in : is_in_range code ≡ true → code_tested page border code ≡ in_order (pair_tested counts (boxes_of code)) 0 42
  unfolding code_tested
  code-in h = after-passed (passes (is_in_range code) (CodeAt no_bit)) (in_order (pair_tested counts (boxes_of code)) 0 42) (so-passes (is_in_range code) (CodeAt no_bit) h)

  -- a code that is read passes
  pub read-passes : ReadCodesAreShown → code_read page border ≡ Ok code → code_tested page border code ≡ Ok tt
  unfolding code_read
  read-passes shown h =
      let is = shown border.paper counts code (length-map-range_with_len (box_count_of page border) 0 84) h in
      shown-code is.0 is.1

-- the plan of the page that the said code names
same-plan : (a b : PagePlan) → ◌≡◌ {A = Result PagePlan CheckFault} (Ok a) (Ok b) → a ≡ b
same-plan a b e = cc

plan-from : (named : Result PagePlan PageFault) (plan : PagePlan) → or_no_bit named ≡ Ok plan → named ≡ Ok plan
plan-from (Ok found) plan h = ap Ok (same-plan found plan h)
plan-from (Err fault) plan h = absurd (cc)

module _ (election : Election) (code : PageCode) where
  by-version : (plan : PagePlan) (test : Bool) → (code.version == version_of election.paper) ≡ test → cond test (or_no_bit (named_plan election code)) (Err (CodeAt no_bit)) ≡ Ok plan
      → (code.version ≡ version_of election.paper) × (named_plan election code ≡ Ok plan)
  by-version plan true is h = (equal-from_yes code.version (version_of election.paper) is, plan-from (named_plan election code) plan h)
  by-version plan false is h = absurd (cc)

  pub plan-named : (plan : PagePlan) → plan_tested election code ≡ Ok plan → (code.version ≡ version_of election.paper) × (named_plan election code ≡ Ok plan)
  unfolding plan_tested
  plan-named plan h = by-version plan (code.version == version_of election.paper) refl h

  pub named-plan : (plan : PagePlan) → code.version ≡ version_of election.paper → named_plan election code ≡ Ok plan → plan_tested election code ≡ Ok plan
  unfolding plan_tested
  named-plan plan version named =
      let none : Result PagePlan CheckFault = Err (CodeAt no_bit) in
      ap (λ (b : Bool). cond b (or_no_bit (named_plan election code)) none) (equal-yes code.version (version_of election.paper) version)
      ∙ ap or_no_bit named

  pub plan-other : (code.version ≡ version_of election.paper → ⊥) → plan_tested election code ≡ Err (CodeAt no_bit)
  unfolding plan_tested
  plan-other h =
      let none : Result PagePlan CheckFault = Err (CodeAt no_bit) in
      ap (λ (b : Bool). cond b (or_no_bit (named_plan election code)) none) (equal-no code.version (version_of election.paper) h)

  pub plan-none : (fault : PageFault) → code.version ≡ version_of election.paper → named_plan election code ≡ Err fault → plan_tested election code ≡ Err (CodeAt no_bit)
  unfolding plan_tested
  plan-none fault version named =
      let none : Result PagePlan CheckFault = Err (CodeAt no_bit) in
      ap (λ (b : Bool). cond b (or_no_bit (named_plan election code)) none) (equal-yes code.version (version_of election.paper) version)
      ∙ ap or_no_bit named

-- what is said of the bubbles
module _ (page : Page) (border : MarkPlaces) (bubbles : List Bubble) (said : List ℕ) where
  abbrev test : ℕ → Tested
  test j = score_tested j (slice_get said j) (option_map (bubble_score page border) (slice_get bubbles j))

  pub scores-fail : (k : ℕ) (fault : CheckFault) → ((j : ℕ) → j < k → test j ≡ Ok tt) → k < length bubbles + 1 → test k ≡ Err fault → scores_tested page border bubbles said ≡ Err fault
  unfolding scores_tested
  scores-fail k fault passed less failed = in_order-fails test 0 (length bubbles + 1) k fault (λ j from before. passed j before) (omega arith) (omega (arith, less)) failed

  pub scores-pass : ((j : ℕ) → j < length bubbles + 1 → test j ≡ Ok tt) → scores_tested page border bubbles said ≡ Ok tt
  unfolding scores_tested
  scores-pass passed = in_order-passes test 0 (length bubbles + 1) (λ j from less. passed j (omega (arith, less)))

  pub scores-are : scores_tested page border bubbles said ≡ Ok tt → said ≡ scores_of page border bubbles
  unfolding scores_tested
  scores-are h =
      same-values (bubble_score page border) bubbles said
      (λ j less. score-same j (slice_get said j) (option_map (bubble_score page border) (slice_get bubbles j))
      (in_order-passed test 0 (length bubbles + 1) j h (omega arith) (omega (arith, less))))

  pub are-scores : said ≡ scores_of page border bubbles → scores_tested page border bubbles said ≡ Ok tt
  unfolding scores_tested
  are-scores h =
      in_order-passes test 0 (length bubbles + 1)
      (λ j from less. same-score j (slice_get said j) (option_map (bubble_score page border) (slice_get bubbles j))
      (ap (λ (xs : List ℕ). slice_get xs j) h ∙ slice_get-map (bubble_score page border) bubbles j))

module _ (thresholds : Thresholds) (bubbles : ℕ) (scores : List ℕ) (said : List State) where
  abbrev state_test : ℕ → Tested
  state_test j = state_tested thresholds j (slice_get said j) (slice_get scores j)

  abbrev stated : ℕ → State
  stated s = state_of s thresholds

  pub states-fail : (k : ℕ) (fault : CheckFault) → ((j : ℕ) → j < k → state_test j ≡ Ok tt) → k < bubbles + 1 → state_test k ≡ Err fault → states_tested thresholds bubbles scores said ≡ Err fault
  unfolding states_tested
  states-fail k fault passed less failed = in_order-fails state_test 0 (bubbles + 1) k fault (λ j from before. passed j before) (omega arith) (omega (arith, less)) failed

  pub states-pass : ((j : ℕ) → j < bubbles + 1 → state_test j ≡ Ok tt) → states_tested thresholds bubbles scores said ≡ Ok tt
  unfolding states_tested
  states-pass passed = in_order-passes state_test 0 (bubbles + 1) (λ j from less. passed j (omega (arith, less)))

  pub states-are : length scores ≡ bubbles → states_tested thresholds bubbles scores said ≡ Ok tt → said ≡ states_of thresholds scores
  unfolding states_tested
  states-are all h =
      same-values stated scores said
      (λ j less. state-same thresholds j (slice_get said j) (slice_get scores j)
      (in_order-passed state_test 0 (bubbles + 1) j h (omega arith) (omega (arith, less, all))))

  pub are-states : said ≡ states_of thresholds scores → states_tested thresholds bubbles scores said ≡ Ok tt
  unfolding states_tested
  are-states h =
      in_order-passes state_test 0 (bubbles + 1)
      (λ j from less. same-state thresholds j (slice_get said j) (slice_get scores j)
      (ap (λ (xs : List State). slice_get xs j) h ∙ slice_get-map stated scores j))

module _ (thresholds : Thresholds) (page : Page) (reading : PageReading) (plan : PagePlan) where
  abbrev first : Tested
  first = scores_tested page reading.border plan.bubbles reading.scores

  abbrev second : Tested
  second = states_tested thresholds (length plan.bubbles) reading.scores reading.states

  all-scored : reading.scores ≡ scores_of page reading.border plan.bubbles → length reading.scores ≡ length plan.bubbles
  all-scored h = ap length h ∙ length-map plan.bubbles (bubble_score page reading.border)

  pub bubbles-are : bubbles_tested thresholds page reading plan ≡ Ok tt → (reading.scores ≡ scores_of page reading.border plan.bubbles) × (reading.states ≡ states_of thresholds reading.scores)
  bubbles-are h =
      let parts = both-passed first second tt h in
      let scores : reading.scores ≡ scores_of page reading.border plan.bubbles = scores-are page reading.border plan.bubbles reading.scores parts.0 in
      (scores, states-are thresholds (length plan.bubbles) reading.scores reading.states (all-scored scores) parts.1)

  pub are-bubbles : reading.scores ≡ scores_of page reading.border plan.bubbles → reading.states ≡ states_of thresholds reading.scores → bubbles_tested thresholds page reading plan ≡ Ok tt
  are-bubbles scores states =
      after-passed first second (are-scores page reading.border plan.bubbles reading.scores scores)
      ∙ are-states thresholds (length plan.bubbles) reading.scores reading.states states
