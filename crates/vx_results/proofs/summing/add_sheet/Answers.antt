use Rattle.std.proofs.Common.{◌≡◌, List, ap, arith, length, subst, sym, take, rules}
use Rattle.std.proofs.lemmas.List.{length-take, take_more}
use Rattle.vx_election_model.specs.declared.election.Election.{Election}
use Rattle.vx_rules.specs.declared.marks.SheetMarks.{SheetMarks}
use Rattle.vx_center.specs.declared.rows.ExportSheet.{ExportSheet}
use Rattle.vx_center.specs.Exports.{row_of}
use Rattle.vx_center.specs.Histories.{IsHistory}
use Rattle.vx_center.specs.Places.{no_sheet, sheet_at}
use Rattle.vx_center.specs.Sheets.{Added, sheets_in}
use Rattle.vx_cvr.specs.Report.{HasItsContests}
use Rattle.vx_tally.specs.Totals.{IsCountable, Summed}
use Rattle.vx_results.specs.Counted.{AreFigures, IsCounted}
use Rattle.vx_results.specs.Kinds.{kind_of}
use Rattle.vx_results.specs.Report.{record_of, unit_at, unit_of}
use Rattle.vx_results.proofs.Figured.{figures_more}
use Rattle.vx_results.proofs.Seen.{contests_few, finals_few, is_countable, its_contests, kind_low, left_waits, records_few, unit_there}
use Rattle.vx_results.proofs.summing.add_sheet.Goals as goal

pub add_row-requires-clause-contests : goal.add_row-requires-clause-contests
add_row-requires-clause-contests c =
    let history = subst (λ (e : Election). IsHistory e c.args.center.now.events) c.requires.same c.events-kept.ensures.history in
    let row : c.in_ok-row.row ≡ row_of c.args.election.now c.args.center.now.events (sheet_at c.args.center.now.events c.args.place) = search rules in
    subst (λ (one : ExportSheet). HasItsContests c.args.election.now one) (sym row)
    (its_contests c.args.election.now c.args.center.now.events c.requires.valid history c.args.place c.requires.there)

pub add_row-requires-clause-there : goal.add_row-requires-clause-there
add_row-requires-clause-there c =
    let election = c.args.election.now in
    let history = subst (λ (e : Election). IsHistory e c.args.center.now.events) c.requires.same c.events-kept.ensures.history in
    let row : c.in_ok-row.row ≡ row_of election c.args.center.now.events (sheet_at c.args.center.now.events c.args.place) = search rules in
    let unit : unit_of election c.in_ok-row.row ≡ unit_at election (sheet_at c.args.center.now.events c.args.place).sheet.card =
    ap (λ (one : ExportSheet). unit_of election one) row in
    omega (
      arith,
      unit,
      kind_low c.sheet_at.result.now,
      unit_there election c.args.center.now.events c.requires.valid history c.args.place c.each_card_has_its_precinct.ensures c.requires.there,
      c.requires.so_far.piles.count,
    )

pub add_row-requires-clause-few : goal.add_row-requires-clause-few
add_row-requires-clause-few c =
    let election = c.args.election.now in
    let kept = c.args.center.now.events in
    let history = subst (λ (e : Election). IsHistory e kept) c.requires.same c.events-kept.ensures.history in
    let row : c.in_ok-row.row ≡ row_of election kept (sheet_at kept c.args.place) = search rules in
    let unit : unit_of election c.in_ok-row.row ≡ unit_at election (sheet_at kept c.args.place).sheet.card = ap (λ (one : ExportSheet). unit_of election one) row in
    let there = unit_there election kept c.requires.valid history c.args.place c.each_card_has_its_precinct.ensures c.requires.there in
    let pile = c.requires.so_far.piles.each (kind_of c.sheet_at.result.now) (unit_of election c.in_ok-row.row) (kind_low c.sheet_at.result.now)
    (omega (arith, unit, there)) in
    omega (
      arith,
      ap (λ (summed : Summed). summed.count) pile,
      records_few election kept (take c.args.place (sheets_in kept)) (kind_of c.sheet_at.result.now) (unit_of election c.in_ok-row.row),
      length-take c.args.place (sheets_in kept),
      c.sheet_count-count.ensures.few,
      c.sheet_count-count.ensures.count,
      c.requires.there,
    )

pub add_row-requires-clause-countable : goal.add_row-requires-clause-countable
add_row-requires-clause-countable c =
    let history = subst (λ (e : Election). IsHistory e c.args.center.now.events) c.requires.same c.events-kept.ensures.history in
    let row : c.in_ok-row.row ≡ row_of c.args.election.now c.args.center.now.events (sheet_at c.args.center.now.events c.args.place) = search rules in
    subst (λ (one : ExportSheet). IsCountable (record_of c.args.election.now one)) (sym row)
    (is_countable c.args.election.now c.args.center.now.events c.requires.valid history c.args.place c.requires.there)

pub add_row-requires-clause-finals : goal.add_row-requires-clause-finals
add_row-requires-clause-finals c =
    let election = c.args.election.now in
    let kept = c.args.center.now.events in
    let history = subst (λ (e : Election). IsHistory e kept) c.requires.same c.events-kept.ensures.history in
    let row : c.in_ok-row.row ≡ row_of election kept (sheet_at kept c.args.place) = search rules in
    omega (
      arith,
      ap (λ (one : ExportSheet). length one.finals) row,
      ap (λ (one : SheetMarks). length one.contests) c.sheet_at.ensures,
      finals_few election kept c.requires.valid history c.args.place,
    )

pub add_row-requires-clause-contests_few : goal.add_row-requires-clause-contests_few
add_row-requires-clause-contests_few c =
    let history = subst (λ (e : Election). IsHistory e c.args.center.now.events) c.requires.same c.events-kept.ensures.history in
    omega (
      arith,
      ap (λ (one : SheetMarks). length one.contests) c.sheet_at.ensures,
      contests_few c.args.election.now c.args.center.now.events c.requires.valid history c.args.place c.requires.there,
    )

pub returns : goal.returns
returns c =
    let election = c.args.election.now in
    let kept = c.args.center.now.events in
    let place = c.args.place in
    let added = sheet_at kept place in
    let history = subst (λ (e : Election). IsHistory e kept) c.requires.same c.events-kept.ensures.history in
    let row : c.in_ok-row.row ≡ row_of election kept added = search rules in
    let counted : IsCounted election added.sheet (row_of election kept added) c.args.figures.now c.add_row.new.figures =
    subst (λ (one : ExportSheet). IsCounted election added.sheet one c.args.figures.now c.add_row.new.figures) row
    (subst (λ (one : SheetMarks). IsCounted election one c.in_ok-row.row c.args.figures.now c.add_row.new.figures) c.sheet_at.ensures c.in_ok-add_row.ensures) in
    subst (λ (seen : List Added). AreFigures election kept seen c.add_row.new.figures) (sym (take_more (sheets_in kept) place no_sheet c.requires.there))
    (figures_more election kept (take place (sheets_in kept)) added c.args.figures.now c.add_row.new.figures (kind_low added.sheet)
    (unit_there election kept c.requires.valid history place c.each_card_has_its_precinct.ensures c.requires.there)
    (left_waits election kept c.requires.valid history place) c.requires.so_far counted)
