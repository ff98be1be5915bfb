use Rattle.std.proofs.Common.{◌≡◌, List, ap, arith, length, subst, sym, take, rules}
use Rattle.std.proofs.lemmas.List.{length-take, take_more}
use Rattle.vx_election_model.specs.declared.election.Election.{Election}
use Rattle.vx_rules.specs.declared.marks.SheetMarks.{SheetMarks}
use Rattle.vx_center.specs.declared.rows.ExportSheet.{ExportSheet}
use Rattle.vx_center.specs.Exports.{row_of}
use Rattle.vx_center.specs.Histories.{IsHistory}
use Rattle.vx_center.specs.Places.{no_sheet, sheet_at}
use Rattle.vx_center.specs.Sheets.{Added, sheets_in}
use Rattle.vx_cvr.specs.Report.{HasItsContests}
use Rattle.vx_tally.specs.Totals.{IsCountable, Summed}
use Rattle.vx_results.specs.Figures.{sheet_record}
use Rattle.vx_results.specs.Report.{record_of}
use Rattle.vx_results.specs.Telling.{AreCounted, HasSheet}
use Rattle.vx_results.proofs.Each.{length-mapped}
use Rattle.vx_results.proofs.Recorded.{sheet_more}
use Rattle.vx_results.proofs.Seen.{finals_few, is_countable, its_contests, left_waits}
use Rattle.vx_results.proofs.counting.count_sheet.Goals as goal

pub count_row-requires-clause-contests : goal.count_row-requires-clause-contests
count_row-requires-clause-contests c =
    let history = subst (λ (e : Election). IsHistory e c.args.center.now.events) c.requires.same c.events-kept.ensures.history in
    let row : c.in_ok-row.row ≡ row_of c.args.election.now c.args.center.now.events (sheet_at c.args.center.now.events c.args.place) = search rules in
    subst (λ (one : ExportSheet). HasItsContests c.args.election.now one) (sym row)
    (its_contests c.args.election.now c.args.center.now.events c.requires.valid history c.args.place c.requires.there)

pub count_row-requires-clause-few : goal.count_row-requires-clause-few
count_row-requires-clause-few c =
    let sheets = sheets_in c.args.center.now.events in
    omega (
      arith,
      ap (λ (summed : Summed). summed.count) c.requires.so_far.totals,
      length-mapped (sheet_record c.args.election.now c.args.center.now.events) (take c.args.place sheets),
      length-take c.args.place sheets,
      c.sheet_count-count.ensures.few,
      c.sheet_count-count.ensures.count,
      c.requires.there,
    )

pub count_row-requires-clause-countable : goal.count_row-requires-clause-countable
count_row-requires-clause-countable c =
    let history = subst (λ (e : Election). IsHistory e c.args.center.now.events) c.requires.same c.events-kept.ensures.history in
    let row : c.in_ok-row.row ≡ row_of c.args.election.now c.args.center.now.events (sheet_at c.args.center.now.events c.args.place) = search rules in
    subst (λ (one : ExportSheet). IsCountable (record_of c.args.election.now one)) (sym row)
    (is_countable c.args.election.now c.args.center.now.events c.requires.valid history c.args.place c.requires.there)

pub count_row-requires-clause-finals : goal.count_row-requires-clause-finals
count_row-requires-clause-finals c =
    let election = c.args.election.now in
    let kept = c.args.center.now.events in
    let history = subst (λ (e : Election). IsHistory e kept) c.requires.same c.events-kept.ensures.history in
    let row : c.in_ok-row.row ≡ row_of election kept (sheet_at kept c.args.place) = search rules in
    omega (
      arith,
      ap (λ (one : ExportSheet). length one.finals) row,
      ap (λ (one : SheetMarks). length one.contests) c.sheet_at-sheet.ensures,
      finals_few election kept c.requires.valid history c.args.place,
    )

pub returns : goal.returns
returns c =
    let election = c.args.election.now in
    let kept = c.args.center.now.events in
    let place = c.args.place in
    let added = sheet_at kept place in
    let history = subst (λ (e : Election). IsHistory e kept) c.requires.same c.events-kept.ensures.history in
    let row : c.in_ok-row.row ≡ row_of election kept added = search rules in
    let counted : HasSheet election added.sheet (row_of election kept added) c.args.counted.now c.count_row.new.counted =
    subst (λ (one : ExportSheet). HasSheet election added.sheet one c.args.counted.now c.count_row.new.counted) row
    (subst (λ (one : SheetMarks). HasSheet election one c.in_ok-row.row c.args.counted.now c.count_row.new.counted) c.sheet_at-sheet.ensures
    c.in_ok-count_row.ensures) in
    subst (λ (seen : List Added). AreCounted election kept seen c.count_row.new.counted) (sym (take_more (sheets_in kept) place no_sheet c.requires.there))
    (sheet_more election kept (take place (sheets_in kept)) added c.args.counted.now c.count_row.new.counted
    (left_waits election kept c.requires.valid history place) c.requires.so_far counted)
