use Rattle.std.proofs.Common.{◌≡◌, ◌∙◌, true, List, ap, arith, length-take-le, subst, sym, take}
use Rattle.std.proofs.lemmas.List.Sums.{count_by-le-length}
use Rattle.std.proofs.lemmas.Option.{slice_get-get_or}
use Rattle.vx_center.specs.declared.rows.ExportSheet.{ExportSheet}
use Rattle.vx_center.specs.declared.rows.Final.{Final}
use Rattle.vx_center.specs.Places.{no_sheet, sheet_at}
use Rattle.vx_center.specs.Sheets.{sheets_in}
use Rattle.vx_ranked.specs.declared.sheets.SheetRankings.{SheetRankings}
use Rattle.vx_ranked.specs.Rankings.{are_ascending, finals_of, waits_on}
use Rattle.vx_ranked.proofs.Ascending.{finals-ascend}
use Rattle.vx_ranked.proofs.Gathered.{sheet-more, whole-ready}
use Rattle.vx_ranked.proofs.sheets.SheetRankings.take_place.Goals as goal

pub take_sheet-requires-clause-room : goal.take_sheet-requires-clause-room
take_sheet-requires-clause-room c =
    let election = c.args.center.now.election in
    let kept = c.args.center.now.events in
    let before = take c.args._place (sheets_in kept) in
    omega (
      arith,
      ap (λ (one : SheetRankings). one.waiting) c.requires.so_far,
      count_by-le-length (waits_on election kept c.args.group.now.contests) before,
      length-take-le c.args._place (sheets_in kept) (omega (arith, c.requires.there)),
      c.requires.there,
      c.sheet_count-count.ensures.count,
      c.sheet_count-count.ensures.few,
    )

pub take_sheet-requires-clause-ascending : goal.take_sheet-requires-clause-ascending
take_sheet-requires-clause-ascending c =
    let election = c.args.center.now.election in
    let kept = c.args.center.now.events in
    let place = c.args._place in
    let added = sheet_at kept place in
    let exported : c.as_slice-finals.result.now ≡ finals_of election kept added =
    c.as_slice-finals.ensures ∙ ap (λ (row : ExportSheet). row.finals) c.requires.row in
    let fits = c.added_sheets_fit.ensures election kept place added c.events-kept.ensures.history
    (slice_get-get_or (sheets_in kept) place no_sheet c.requires.there) in
    subst (λ (finals : List Final). are_ascending finals ≡ true) (sym exported) (finals-ascend election kept added fits.sheet)

pub take_sheet-requires-clause-whole : goal.take_sheet-requires-clause-whole
take_sheet-requires-clause-whole c =
    whole-ready c.args.center.now.election c.args.center.now.events c.args._place c.as_slice-contests.result.now c.args.sheet.now
    c.as_slice-finals.result.now c.requires.sheet
    (c.as_slice-finals.ensures ∙ ap (λ (row : ExportSheet). row.finals) c.requires.row)

pub returns : goal.returns
returns c =
    sheet-more c.args.center.now.election c.args.center.now.events c.args._place c.as_slice-contests.result.now c.args.sheet.now
    c.as_slice-finals.result.now c.requires.sheet
    (c.as_slice-finals.ensures ∙ ap (λ (row : ExportSheet). row.finals) c.requires.row)
    c.args.group.now c.as_slice-contests.ensures c.requires.there c.args.self.now c.requires.so_far c.take_sheet.new.self
    c.in_ok-take_sheet.ensures.rankings c.in_ok-take_sheet.ensures.waiting
