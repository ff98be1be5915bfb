-- What is counted of sheets, with one sheet more.
use Rattle.std.proofs.Common.{◌≡◌, ℕ, zero, suc, ◌+◌, ◌*◌, ◌<◌, Bool, true, false, cond, ◌==◌, List, [], ◌∷◌, ◌++◌, length, map, replicate, refl, sym, ap, subst, ◌∙◌, arith, append-nil, length-append, length-set, get_or-set_other}
use Rattle.std.specs.Prelude.{All, filter, slice_index_or}
use Rattle.std.specs.List.{flat_map}
use Rattle.std.proofs.lemmas.List.{map-append, length-replicate, get_or-replicate}
use Rattle.std.proofs.lemmas.List.Concat.{flat_map-append}
use Rattle.std.proofs.lemmas.List.Elements.{filter-append}
use Rattle.vx_base.proofs.Booleans.{and-both, and-left, and-right, not-both}
use Rattle.vx_base.proofs.Lists.{map-push}
use Rattle.vx_base.proofs.Numbers.{equal-from_yes, equal-yes}
use Rattle.vx_election_model.specs.declared.election.Election.{Election}
use Rattle.vx_events.specs.declared.event.Event.{Event}
use Rattle.vx_center.specs.declared.rows.ExportSheet.{ExportSheet}
use Rattle.vx_center.specs.Exports.{row_of}
use Rattle.vx_center.specs.Sheets.{Added}
use Rattle.vx_tally.specs.declared.report.CvrRecord.{CvrRecord}
use Rattle.vx_tally.specs.Running.{Running, SumsUp}
use Rattle.vx_results.specs.declared.summing.Figures.{Figures}
use Rattle.vx_results.specs.Counted.{AreFigures, ArePiles, IsCounted, WithRecord, left_on, none_kept, pile_at, pile_place, unit_count}
use Rattle.vx_results.specs.Figures.{batch_sheets, batch_waiting, is_at, names_of, records_of, sheet_record}
use Rattle.vx_results.specs.Firsts.{Numbered}
use Rattle.vx_results.specs.Kinds.{kind_of}
use Rattle.vx_results.specs.Named.{named_on}
use Rattle.vx_results.specs.Report.{record_of, unit_at}
use Rattle.vx_results.specs.Sums.{AreSums, raised}
use Rattle.vx_results.specs.Waiting.{waiting_on}
use Rattle.vx_results.proofs.Texts.{sums_more, sums_none}

-- ---- no sheet

pub replicate_more : {X : Type 0} (n : ℕ) (x : X) → replicate (n + 1) x ≡ replicate n x ++ x ∷ []
replicate_more n x = let on : n + 1 ≡ suc n = omega arith in ap (λ m. replicate m x) on ∙ behind n
  where
    behind : (m : ℕ) → replicate (suc m) x ≡ replicate m x ++ x ∷ []
    behind zero = refl
    behind (suc m) = ap (λ xs. x ∷ xs) (behind m)

pub figures_none : (election : Election) (kept : List Event) (figures : Figures)
    → length figures.piles.items ≡ 8 * unit_count election → All (SumsUp []) figures.piles.items → figures.sheets ≡ [] → figures.waits ≡ []
    → figures.names.items ≡ replicate (length election.contests) [] → figures.waiting ≡ 0
    → AreFigures election kept [] figures
figures_none election kept figures count none sheets waits names waiting = record {
  piles = record {
    count = count;
    each = λ kind unit low there. none (pile_place kind unit) none_kept (omega (arith, low, there, count));
  };
  sheets = subst (λ (entries : List Numbered). AreSums [] entries) (sym sheets) sums_none;
  waits = subst (λ (entries : List Numbered). AreSums [] entries) (sym waits) sums_none;
  names = record {
    count = ap length names ∙ length-replicate (length election.contests) [];
    each = λ contest there.
        subst (λ (entries : List Numbered). AreSums [] entries)
        (sym (ap (λ (all : List (List Numbered)). slice_index_or all contest []) names
        ∙ get_or-replicate (length election.contests) contest [] [] there)) sums_none;
  };
  waiting = waiting;
}

-- ---- one sheet more

module _ (election : Election) (kept : List Event) (sheets : List Added) (added : Added) where
  abbrev row : ExportSheet
  row = row_of election kept added

  abbrev unit : ℕ
  unit = unit_at election added.sheet.card

  abbrev kind : ℕ
  kind = kind_of added.sheet

  chosen : (b : Bool) → map (sheet_record election kept) (cond b (added ∷ []) []) ≡ cond b (record_of election row ∷ []) []
  chosen true = refl
  chosen false = refl

  -- the records of a kind in a unit
  records-more : (k u : ℕ)
      → records_of election kept (sheets ++ added ∷ []) k u
      ≡ records_of election kept sheets k u ++ cond (is_at election k u added) (record_of election row ∷ []) []
  records-more k u =
      ap (map (sheet_record election kept)) (filter-append (is_at election k u) sheets (added ∷ []))
      ∙ map-append (sheet_record election kept) (filter (is_at election k u) sheets) (filter (is_at election k u) (added ∷ []))
      ∙ ap (λ (more : List CvrRecord). records_of election kept sheets k u ++ more) (chosen (is_at election k u added))

  piles-more : (old new : List Running) → kind < 8 → unit < unit_count election
      → ArePiles election kept sheets old → WithRecord election kind row old new → ArePiles election kept (sheets ++ added ∷ []) new
  piles-more old new low there are changed = record {
    count = ap length changed.others ∙ length-set old (pile_place kind unit) (pile_at new (pile_place kind unit)) ∙ are.count;
    each = λ k u k_low u_there.
        subst (λ (records : List CvrRecord). SumsUp records (pile_at new (pile_place k u))) (sym (records-more k u))
        (by k u k_low u_there (is_at election k u added) refl);
  }
    where
      by : (k u : ℕ) → k < 8 → u < unit_count election → (b : Bool) → is_at election k u added ≡ b
          → SumsUp (records_of election kept sheets k u ++ cond b (record_of election row ∷ []) []) (pile_at new (pile_place k u))
      by k u k_low u_there true e =
          let same_kind : kind ≡ k = sym (equal-from_yes k kind (and-left (k == kind) (u == unit) e)) in
          let same_unit : unit ≡ u = sym (equal-from_yes u unit (and-right (k == kind) (u == unit) e)) in
          subst (λ (one : ℕ). SumsUp (records_of election kept sheets one u ++ record_of election row ∷ []) (pile_at new (pile_place one u))) same_kind
          (subst (λ (one : ℕ). SumsUp (records_of election kept sheets kind one ++ record_of election row ∷ []) (pile_at new (pile_place kind one)))
          same_unit (changed.pile (records_of election kept sheets kind unit) (are.each kind unit low there)))
      by k u k_low u_there false e =
          let same : pile_at new (pile_place k u) ≡ pile_at old (pile_place k u) =
          ap (λ (all : List Running). pile_at all (pile_place k u)) changed.others
          ∙ get_or-set_other old (pile_place kind unit) (pile_place k u) (pile_at new (pile_place kind unit)) none_kept
          (λ same. not-both (is_at election k u added)
          (and-both (k == kind) (u == unit) (equal-yes k kind (omega (arith, same, k_low, low))) (equal-yes u unit (omega (arith, same, k_low, low)))) e) in
          subst (λ (running : Running). SumsUp (records_of election kept sheets k u ++ []) running) (sym same)
          (subst (λ (records : List CvrRecord). SumsUp records (pile_at old (pile_place k u))) (sym (append-nil (records_of election kept sheets k u)))
          (are.each k u k_low u_there))

  names-more : (contest : ℕ) → names_of election kept (sheets ++ added ∷ []) contest ≡ names_of election kept sheets contest ++ named_on election contest row
  names-more contest =
      flat_map-append (λ (one : Added). named_on election contest (row_of election kept one)) sheets (added ∷ [])
      ∙ ap (λ (more : List Numbered). names_of election kept sheets contest ++ more) (append-nil (named_on election contest row))

  waiting-more : length (flat_map (waiting_on election kept) (sheets ++ added ∷ [])) ≡ length (flat_map (waiting_on election kept) sheets) + length (waiting_on election kept added)
  waiting-more =
      ap length (flat_map-append (waiting_on election kept) sheets (added ∷ []))
      ∙ length-append (flat_map (waiting_on election kept) sheets) (waiting_on election kept added ++ [])
      ∙ ap (λ n. length (flat_map (waiting_on election kept) sheets) + n) (ap length (append-nil (waiting_on election kept added)))

  pub figures_more : (old new : Figures) → kind < 8 → unit < unit_count election → left_on added.sheet row ≡ length (waiting_on election kept added)
      → AreFigures election kept sheets old → IsCounted election added.sheet row old new → AreFigures election kept (sheets ++ added ∷ []) new
  figures_more old new low there left are counted = record {
    piles = piles-more old.piles.items new.piles.items low there are.piles counted.piles;
    sheets =
        subst (λ (entries : List Numbered). AreSums (batch_sheets election kept (sheets ++ added ∷ [])) entries) (sym counted.sheets)
        (subst (λ (pairs : List Numbered). AreSums pairs (raised old.sheets added.key.batch 1))
        (sym (map-push (λ (one : Added). (one.key.batch, 1)) sheets added))
        (sums_more (batch_sheets election kept sheets) old.sheets added.key.batch 1 are.sheets));
    waits =
        subst (λ (entries : List Numbered). AreSums (batch_waiting election kept (sheets ++ added ∷ [])) entries)
        (sym (counted.waits ∙ ap (raised old.waits added.key.batch) left))
        (subst (λ (pairs : List Numbered). AreSums pairs (raised old.waits added.key.batch (length (waiting_on election kept added))))
        (sym (map-push (λ (one : Added). (one.key.batch, length (waiting_on election kept one))) sheets added))
        (sums_more (batch_waiting election kept sheets) old.waits added.key.batch (length (waiting_on election kept added)) are.waits));
    names = record {
      count = counted.names.count ∙ are.names.count;
      each = λ contest inside.
          subst (λ (pairs : List Numbered). AreSums pairs (slice_index_or new.names.items contest [])) (sym (names-more contest))
          (counted.names.each contest (omega (arith, inside, are.names.count)) (names_of election kept sheets contest) (are.names.each contest inside));
    };
    waiting = counted.waiting ∙ (λ i. are.waiting i + left i) ∙ sym waiting-more;
  }
