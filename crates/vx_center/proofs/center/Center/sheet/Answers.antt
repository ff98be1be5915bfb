use Rattle.std.proofs.Common.{sym}
use Rattle.vx_center.specs.Sheets.{key_of}
use Rattle.vx_center.proofs.Finding.{place_there, sheet_of_place}
use Rattle.vx_center.proofs.center.Center.sheet.Goals as goal

pub returns-in_err-found : goal.returns-in_err-found
returns-in_err-found c =
    absurd (place_there c.args.self.now.events (key_of c.args.batch.now c.args.number) c.in_ok-place_of.field-0
    (sym c.in_ok-place_of.ensures.place) c.in_err-found.ensures)

pub returns : goal.returns
returns c =
    sheet_of_place c.args.self.now.election c.args.self.now.events (key_of c.args.batch.now c.args.number) _ c.in_ok-place_of.field-0 _ _
    (sym c.in_ok-place_of.ensures.place) c.in_ok-found.ensures
