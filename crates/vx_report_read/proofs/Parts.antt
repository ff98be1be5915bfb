-- Each part of a report is sound, where its texts have something that ASCII has.
use Rattle.std.proofs.Common.{◌≡◌, ℕ, zero, suc, ◌+◌, ◌-◌, ◌/◌, ◌<◌, ◌≤◌, ◌^◌, Bool, true, false, List, [], ◌∷◌, ◌++◌, length, map, refl, arith, decimal}
use Rattle.std.specs.Prelude.{Option, None, Some, if◌then◌else◌, codes, slice_index_or, nat_lt, ◌==◌, ⊤}
use Rattle.std.specs.List.{AllByRecursion, range_with_len}
use Rattle.json.proofs.Printed.Utf8.{are_ascii}
use Rattle.serde_json.specs.Data.{boolean}
use Rattle.serde_json.specs.View.{items_of}
use Rattle.vx_grid.specs.declared.state.State.{State}
use Rattle.vx_grid.specs.declared.state.State.TheVariants.{Marked, Marginal, Clear}
use Rattle.vx_election_model.specs.declared.choice.Choice.{Choice}
use Rattle.vx_election_model.specs.declared.contest.Contest.{Contest}
use Rattle.vx_election_model.specs.declared.election.Election.{Election}
use Rattle.vx_election_model.specs.declared.named.Named.{Named}
use Rattle.vx_election_model.specs.Options.{options_of}
use Rattle.vx_events.specs.declared.decision.WriteInName.{WriteInName}
use Rattle.vx_events.specs.declared.decision.WriteInName.TheVariants.{Words, Candidate}
use Rattle.vx_center.specs.declared.rows.ExportSheet.{ExportSheet}
use Rattle.vx_center.specs.declared.rows.Final.{Final}
use Rattle.vx_cvr.specs.Json.{text, whole, list, described}
use Rattle.vx_cvr.specs.Names.{hyphened, candidate_name, selection_name, contest_name, sheet_name, device_name}
use Rattle.vx_cvr.specs.Votes.{is_overvoted, write_ins, is_repeated, candidate_of, is_slot, name_of, status_words, indication, indication_of, allocable, votes_of, is_unnamed}
use Rattle.vx_cvr.specs.Report as spec
use Rattle.vx_results.specs.Report.{contest_at}
use Rattle.vx_report_read.proofs.Each.{length-filter_most}
use Rattle.vx_report_read.proofs.Sound.{IsSound, AreSound, AreSound-map_all, AreSound-flat_map_all}

-- what ASCII has, numbers have, and texts that are joined have
pub record IsKnown (P : List ℕ → Type 0) : Type 0 where
  pub plain : (text : List ℕ) → are_ascii text ≡ true → P text
  pub joined : (one other : List ℕ) → P one → P other → P (one ++ other)
  pub number : (n : ℕ) → n < 2 ^ 64 → P (decimal n)

-- the name of a slot, and whom it names
abbrev pub NameHas : (List ℕ → Type 0) → Option WriteInName → Type 0
NameHas P None = ⊤
NameHas P (Some (Words words)) = P words
NameHas P (Some (Candidate number)) = ⊤

-- the texts of a choice
abbrev pub ChoiceHas : (List ℕ → Type 0) → Choice → Type 0
ChoiceHas P choice = P choice.name × P choice.label

-- a contest with few options, whose texts have it
pub record ContestHas (P : List ℕ → Type 0) (contest : Contest) : Type 0 where
  pub id : P contest.id
  pub title : P contest.title
  pub choices : AllByRecursion (ChoiceHas P) contest.choices
  pub seats : contest.seats ≤ 50
  pub options : options_of contest ≤ 150

abbrev pub NamedHas : (List ℕ → Type 0) → Named → Type 0
NamedHas P named = P named.id × P named.name

-- an election whose texts have it
pub record ElectionHas (P : List ℕ → Type 0) (election : Election) : Type 0 where
  pub title : P election.title
  pub precincts : AllByRecursion (NamedHas P) election.precincts
  pub contests : AllByRecursion (ContestHas P) election.contests

-- an exported contest with few selected options, whose texts have it
pub record FinalHas (P : List ℕ → Type 0) (election : Election) (final : Final) : Type 0 where
  pub short : length final.selected ≤ 1000
  pub names : AllByRecursion (NameHas P) final.names
  pub voted : AllByRecursion (λ (option : ℕ). spec.voted_for option (candidate_of (contest_at election final) final option) < 2 ^ 64) final.selected

-- a row whose texts have it
pub record RowHas (P : List ℕ → Type 0) (election : Election) (row : ExportSheet) : Type 0 where
  pub batch : P row.key.batch
  pub number : row.key.number < 2 ^ 64
  pub leaf : (row.front + 1) / 2 < 2 ^ 64
  pub style : P (spec.style_at election row.card).id
  pub precinct : P (spec.precinct_at election row.card).id
  pub finals : AllByRecursion (FinalHas P election) row.finals

range-below : (a n : ℕ) (most : ℕ) → a + n ≤ most → AllByRecursion (λ (m : ℕ). m < most) (range_with_len a n)
range-below a zero most room = tt
range-below a (suc n) most room = (omega (arith, room), range-below (a + 1) n most (omega (arith, room)))

name-at : (P : List ℕ → Type 0) (names : List (Option WriteInName)) (slot : ℕ) → AllByRecursion (NameHas P) names → NameHas P (slice_index_or names slot None)
name-at P [] slot all = tt
name-at P (name ∷ names) zero all = all.0
name-at P (name ∷ names) (suc slot) all = name-at P names slot all.1

votes-small : (contest : Contest) (final : Final) (option : ℕ) → votes_of contest final option < 2 ^ 64
votes-small contest final option = by (is_overvoted contest final) (is_repeated contest final option (candidate_of contest final option))
  where
    by : (a b : Bool) → (if a then 0 else (if b then 0 else 1)) < 2 ^ 64
    by true b = omega arith
    by false true = omega arith
    by false false = omega arith

chosen-small : (b : Bool) (m n : ℕ) → m ≤ 1000 → n ≤ 1000 → (if b then m else n) < 2 ^ 64
chosen-small true m n few many = omega (arith, few)
chosen-small false m n few many = omega (arith, many)

module _ (P : List ℕ → Type 0) (known : IsKnown P) where
  choice-has : (choices : List Choice) (option : ℕ) → AllByRecursion (ChoiceHas P) choices → ChoiceHas P (slice_index_or choices option spec.no_choice)
  choice-has [] option all = (known.plain _ refl, known.plain _ refl)
  choice-has (choice ∷ choices) zero all = all.0
  choice-has (choice ∷ choices) (suc option) all = choice-has choices option all.1

  hyphened-has : (first : List ℕ) (n : ℕ) → P first → n < 2 ^ 64 → P (hyphened first (decimal n))
  hyphened-has first n has small = known.joined first (45 ∷ decimal n) has (known.joined (45 ∷ []) (decimal n) (known.plain _ refl) (known.number n small))

  candidate-name-has : (contest : List ℕ) (option : ℕ) → P contest → option < 2 ^ 64 → P (candidate_name contest option)
  candidate-name-has contest option has small = known.joined (codes "candidate-") (hyphened contest (decimal option)) (known.plain _ refl)
      (hyphened-has contest option has small)

  selection-name-has : (contest : List ℕ) (option : ℕ) → P contest → option < 2 ^ 64 → P (selection_name contest option)
  selection-name-has contest option has small = known.joined (codes "selection-") (hyphened contest (decimal option)) (known.plain _ refl)
      (hyphened-has contest option has small)

  candidates-sound : (contest : Contest) → ContestHas P contest → AreSound P (items_of (spec.candidates_of contest)) 8
  candidates-sound contest has = by contest.is_yes_no
    where
      by : (b : Bool) → AreSound P (items_of (if b then [] else map (spec.candidate contest) (range_with_len 0 (length contest.choices)))) 8
      by true = tt
      by false = AreSound-map_all P (λ (m : ℕ). m < 150) (spec.candidate contest) 8 (range_with_len 0 (length contest.choices))
          (range-below 0 (length contest.choices) 150 (omega (arith, has.options)))
          (λ option below. (
            refl,
            (
              candidate-name-has contest.id option has.id (omega (arith, below)),
              (known.plain _ refl, ((choice-has contest.choices option has.choices).0, tt)),
            ),
          ))

  selection-sound : (contest : Contest) (option : ℕ) → ContestHas P contest → option < 150 → IsSound P (spec.candidate_selection contest option) 6
  selection-sound contest option has below = by (is_slot contest option)
    where
      name : P (selection_name contest.id option)
      name = selection-name-has contest.id option has.id (omega (arith, below))

      by : (b : Bool) → IsSound P (described ((codes "@id", text (selection_name contest.id option)) ∷ spec.class (codes "CandidateSelection")
          ∷ (if b then (codes "IsWriteIn", boolean true) else (codes "CandidateIds", list (text (candidate_name contest.id option) ∷ []))) ∷ [])) 6
      by true = (refl, (name, (known.plain _ refl, (tt, tt))))
      by false = (refl, (name, (known.plain _ refl, ((candidate-name-has contest.id option has.id (omega (arith, below)), tt), tt))))

  answer-sound : (contest : Contest) (option : ℕ) → ContestHas P contest → option < 150 → IsSound P (spec.answer contest option) 6
  answer-sound contest option has below = (
    refl,
    (
      selection-name-has contest.id option has.id (omega (arith, below)),
      (known.plain _ refl, ((choice-has contest.choices option has.choices).1, tt)),
    ),
  )

  contest-sound : (given : Contest) → ContestHas P given → IsSound P (spec.contest given) 8
  contest-sound given has = by given.is_yes_no
    where
      name : P (contest_name given.id)
      name = known.joined (codes "contest-") given.id (known.plain _ refl) has.id

      below : AllByRecursion (λ (m : ℕ). m < 150) (range_with_len 0 (options_of given))
      below = range-below 0 (options_of given) 150 (omega (arith, has.options))

      by : (b : Bool) → IsSound P (if b then spec.measure given else spec.candidate_contest given) 8
      by true = (
        refl,
        (
          name,
          (
            known.plain _ refl,
            (
              AreSound-map_all P (λ (m : ℕ). m < 150) (spec.answer given) 6 (range_with_len 0 (options_of given)) below
                  (λ option is. answer-sound given option has is),
              (has.title, tt),
            ),
          ),
        ),
      )
      by false = (
        refl,
        (
          name,
          (
            known.plain _ refl,
            (
              AreSound-map_all P (λ (m : ℕ). m < 150) (spec.candidate_selection given) 6 (range_with_len 0 (options_of given)) below
                  (λ option is. selection-sound given option has is),
              (has.title, (omega (arith, has.seats), tt)),
            ),
          ),
        ),
      )

  election-sound : (given : Election) → ElectionHas P given → IsSound P (spec.election_object given) 10
  election-sound given has = (
    refl,
    (
      known.plain _ refl,
      (
        known.plain _ refl,
        (
          AreSound-flat_map_all P (ContestHas P) spec.candidates_of 8 given.contests has.contests candidates-sound,
          (AreSound-map_all P (ContestHas P) spec.contest 8 given.contests has.contests contest-sound, (known.plain _ refl, (has.title, tt))),
        ),
      ),
    ),
  )

  indication-has : (state : State) → P (indication state)
  indication-has Marked = known.plain _ refl
  indication-has Marginal = known.plain _ refl
  indication-has Clear = known.plain _ refl

  allocable-has : (contest : Contest) (final : Final) (option : ℕ) → P (allocable contest final option)
  allocable-has contest final option = by (is_overvoted contest final) (is_unnamed contest final option)
    where
      by : (a b : Bool) → P (if a then codes "no" else (if b then codes "unknown" else codes "yes"))
      by true b = known.plain _ refl
      by false true = known.plain _ refl
      by false false = known.plain _ refl

  status-has : (contest : Contest) (final : Final) → AllByRecursion P (status_words contest final)
  status-has contest final = by (is_overvoted contest final) (length final.selected == 0) (nat_lt (length final.selected) contest.seats)
    where
      by : (a b c : Bool) →
          AllByRecursion P (if a then codes "overvoted" ∷ [] else (if b then codes "not-indicated" ∷ [] else (if c then codes "undervoted" ∷ [] else [])))
      by true b c = (known.plain _ refl, tt)
      by false true c = (known.plain _ refl, tt)
      by false false true = (known.plain _ refl, tt)
      by false false false = tt

  position-sound : (contest : Contest) (final : Final) (option : ℕ) → ContestHas P contest → NameHas P (name_of contest final option)
      → IsSound P (spec.position contest final option) 2
  position-sound contest final option has named = by (name_of contest final option) named
    where
      votes : votes_of contest final option < 2 ^ 64
      votes = votes-small contest final option

      indicated : P (indication_of final option)
      indicated = indication-has (slice_index_or final.read option Clear)

      by : (name : Option WriteInName) → NameHas P name → IsSound P (described
          (spec.class (codes "SelectionPosition") ∷ spec.write_in contest name
          ++ (codes "HasIndication", text (indication_of final option))
          ∷ (codes "IsAllocable", text (allocable contest final option))
          ∷ (codes "NumberVotes", whole (votes_of contest final option)) ∷ [])) 2
      by None is = (refl, (known.plain _ refl, (indicated, (allocable-has contest final option, (votes, tt)))))
      by (Some (Words words)) is =
          (refl, (known.plain _ refl, ((refl, (known.plain _ refl, (is, tt))), (indicated, (allocable-has contest final option, (votes, tt))))))
      by (Some (Candidate number)) is = (
        refl,
        (
          known.plain _ refl,
          (
            (refl, (known.plain _ refl, ((choice-has contest.choices number has.choices).0, tt))),
            (indicated, (allocable-has contest final option, (votes, tt))),
          ),
        ),
      )

  slot-has : (contest : Contest) (final : Final) (option : ℕ) → AllByRecursion (NameHas P) final.names → NameHas P (name_of contest final option)
  slot-has contest final option all = by (is_slot contest option)
    where
      by : (b : Bool) → NameHas P (if b then slice_index_or final.names (option - length contest.choices) None else None)
      by true = name-at P final.names (option - length contest.choices) all
      by false = tt

  selected-sound : (contest : Contest) (final : Final) (option : ℕ) → ContestHas P contest → AllByRecursion (NameHas P) final.names
      → spec.voted_for option (candidate_of contest final option) < 2 ^ 64 → IsSound P (spec.selected contest final option) 4
  selected-sound contest final option has names small = (
    refl,
    (
      known.plain _ refl,
      (
        selection-name-has contest.id (spec.voted_for option (candidate_of contest final option)) has.id small,
        ((position-sound contest final option has (slot-has contest final option names), tt), tt),
      ),
    ),
  )

  counted-sound : (election : Election) (final : Final) → ContestHas P (contest_at election final) → FinalHas P election final
      → IsSound P (spec.counted_in election final) 6
  counted-sound election final given has = (
    refl,
    (
      known.plain _ refl,
      (
        AreSound-map_all P (λ (option : ℕ). spec.voted_for option (candidate_of contest final option) < 2 ^ 64) (spec.selected contest final) 4 final.selected
            has.voted (λ option small. selected-sound contest final option given has.names small),
        (
          known.joined (codes "contest-") contest.id (known.plain _ refl) given.id,
          (
            chosen-small (is_overvoted contest final) contest.seats 0 (omega (arith, given.seats)) (omega arith),
            (
              AreSound-map_all P P text 4 (status_words contest final) (status-has contest final) (λ word is. is),
              (
                chosen-small (is_overvoted contest final) 0 (contest.seats - length final.selected) (omega arith) (omega (arith, given.seats)),
                (small, tt),
              ),
            ),
          ),
        ),
      ),
    ),
  )
    where
      contest : Contest
      contest = contest_at election final

      small : write_ins contest final < 2 ^ 64
      small = omega (arith, has.short, length-filter_most (is_slot contest) final.selected)

  -- the contest of a final has it, and so has none that stands past the end
  contest-has : (contests : List Contest) (place : ℕ) → AllByRecursion (ContestHas P) contests → ContestHas P (slice_index_or contests place spec.no_contest)
  contest-has [] place all = record { id = known.plain _ refl; title = known.plain _ refl; choices = tt; seats = omega arith; options = omega arith }
  contest-has (contest ∷ contests) zero all = all.0
  contest-has (contest ∷ contests) (suc place) all = contest-has contests place all.1

  kind-has : (finals : List Final) → P (spec.snapshot_kind finals)
  kind-has finals = by (spec.is_modified finals)
    where
      by : (b : Bool) → P (if b then codes "modified" else codes "interpreted")
      by true = known.plain _ refl
      by false = known.plain _ refl

  sheet-name-has : (election : Election) (row : ExportSheet) → RowHas P election row → P (sheet_name row.key)
  sheet-name-has election row has = hyphened-has row.key.batch row.key.number has.batch has.number

  snapshot-sound : (election : Election) (row : ExportSheet) → ElectionHas P election → RowHas P election row → IsSound P (spec.snapshot election row) 8
  snapshot-sound election row given has = (
    refl,
    (
      known.joined (codes "snapshot-") (sheet_name row.key) (known.plain _ refl) (sheet-name-has election row has),
      (
        known.plain _ refl,
        (
          AreSound-map_all P (FinalHas P election) (spec.counted_in election) 6 row.finals has.finals
              (λ final is. counted-sound election final (contest-has election.contests final.contest given.contests) is),
          (kind-has row.finals, tt),
        ),
      ),
    ),
  )

  sheet-sound : (election : Election) (row : ExportSheet) → ElectionHas P election → RowHas P election row → IsSound P (spec.sheet election row) 10
  sheet-sound election row given has = (
    refl,
    (
      known.plain _ refl,
      (
        known.number ((row.front + 1) / 2) has.leaf,
        (
          has.style,
          (
            known.joined (codes "precinct-") (spec.precinct_at election row.card).id (known.plain _ refl) has.precinct,
            (
              has.batch,
              (
                (snapshot-sound election row given has, tt),
                (
                  known.joined (codes "snapshot-") (sheet_name row.key) (known.plain _ refl) (sheet-name-has election row has),
                  (known.plain _ refl, (sheet-name-has election row has, tt)),
                ),
              ),
            ),
          ),
        ),
      ),
    ),
  )

  precinct-sound : (named : Named) → NamedHas P named → IsSound P (spec.precinct named) 10
  precinct-sound named has =
      (refl, (known.joined (codes "precinct-") named.id (known.plain _ refl) has.0, (known.plain _ refl, (has.1, (known.plain _ refl, tt)))))

  pub report-sound : (election : Election) (rows : List ExportSheet) (moment id : List ℕ) → ElectionHas P election → AllByRecursion (RowHas P election) rows
      → P moment → P id → IsSound P (spec.report_over election rows moment id) 12
  report-sound election rows moment id given all at by = (
    refl,
    (
      known.plain _ refl,
      (
        AreSound-map_all P (RowHas P election) (spec.sheet election) 10 rows all (λ row. sheet-sound election row given),
        (
          (election-sound election given, tt),
          (
            at,
            (
              (
                (refl, (known.plain _ refl, (known.plain _ refl, (given.title, (known.plain _ refl, tt))))),
                AreSound-map_all P (NamedHas P) spec.precinct 10 election.precincts given.precincts precinct-sound,
              ),
              ((device, tt), (((refl, (device, (known.plain _ refl, tt))), tt), (known.plain _ refl, tt))),
            ),
          ),
        ),
      ),
    ),
  )
    where
      device : P (device_name id)
      device = known.joined (codes "device-") id (known.plain _ refl) by
