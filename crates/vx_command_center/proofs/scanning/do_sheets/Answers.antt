use Rattle.std.proofs.Common.{◌≡◌, ◌++◌, string_bytes, ap, subst, sym, ◌∙◌, arith}
use Rattle.std.proofs.lemmas.Result.{IfOk-at_ok}
use Rattle.vx_pbm.specs.Images.{Images, images_left, images_of, with_page}
use Rattle.vx_shared.specs.Gained.{MakesAlso}
use Rattle.vx_command_center.specs.Reads.{AreNext}
use Rattle.vx_command_center.specs.Sheets.{event_if, lines_unless, read_of}
use Rattle.vx_command_center.specs.declared.two.Two.{Two}
use Rattle.vx_command_center.proofs.Images.{all_left, few_images}
use Rattle.vx_command_center.proofs.Walking.{IsWalked, next_few, next_goes_on, next_may, walk_begins}
use Rattle.vx_command_center.proofs.scanning.do_sheets.Goals as goal

pub sheets-init : goal.sheets-init
sheets-init g c =
    let election = c.args.hands.now.election.now in
    let bytes = c.args.bytes.now in
    let left : images_left c.new-reader.result ≡ images_of bytes = ap images_left c.new-reader.ensures ∙ sym (all_left bytes) in
    record {
      walked = subst (λ (i : Images). IsWalked election c.args.batch.now c.args.pass (images_of bytes).pages (string_bytes c.args.text.now) 1 i.pages c.args.pass (string_bytes c.args.text.now)) (sym left)
          (walk_begins c.passes_gain_their_calls.ensures.nothing election c.args.batch.now c.args.pass (images_of bytes).pages (string_bytes c.args.text.now));
      whole = ap (λ (i : Images). i.fault) left ∙ c.requires.whole;
      some = omega arith;
    }

pub do_sheet-after-requires-clause-few : goal.do_sheet-after-requires-clause-few
do_sheet-after-requires-clause-few g c =
    let left = images_left c.sheets.reader in
    let later = images_left c.next_two.new.reader in
    let is : left ≡ with_page c.in-Ok-Both.first (with_page c.in-Ok-Both.second later) = subst (λ (two : Two). AreNext left two later) c.in-Ok-Both.field-0-is c.in-Ok-Both.ensures in
    let few = next_few c.args.hands.now.election.now c.args.batch.now c.args.pass (images_of c.args.bytes.now).pages (string_bytes c.args.text.now) c.sheets.number c.in-Ok-Both.first c.in-Ok-Both.second left later c.sheets.now (string_bytes c.sheets.text) is c.sheets.invariant.walked in
    let images = few_images c.args.bytes.now in
    omega (arith, few, images)

pub do_sheet-after-requires-clause-calls : goal.do_sheet-after-requires-clause-calls
do_sheet-after-requires-clause-calls g c =
    let left = images_left c.sheets.reader in
    let later = images_left c.next_two.new.reader in
    let is : left ≡ with_page c.in-Ok-Both.first (with_page c.in-Ok-Both.second later) = subst (λ (two : Two). AreNext left two later) c.in-Ok-Both.field-0-is c.in-Ok-Both.ensures in
    next_may c.args.hands.now.election.now c.args.batch.now c.args.pass (images_of c.args.bytes.now).pages (string_bytes c.args.text.now) c.sheets.number c.in-Ok-Both.first c.in-Ok-Both.second left later c.sheets.now (string_bytes c.sheets.text) is c.sheets.invariant.walked c.requires.calls

pub overflow_add-number : goal.overflow_add-number
overflow_add-number g c =
    let left = images_left c.sheets.reader in
    let later = images_left c.next_two.new.reader in
    let is : left ≡ with_page c.in-Ok-Both.first (with_page c.in-Ok-Both.second later) = subst (λ (two : Two). AreNext left two later) c.in-Ok-Both.field-0-is c.in-Ok-Both.ensures in
    let few = next_few c.args.hands.now.election.now c.args.batch.now c.args.pass (images_of c.args.bytes.now).pages (string_bytes c.args.text.now) c.sheets.number c.in-Ok-Both.first c.in-Ok-Both.second left later c.sheets.now (string_bytes c.sheets.text) is c.sheets.invariant.walked in
    let images = few_images c.args.bytes.now in
    omega (arith, few, images)

pub sheets-preserved : goal.sheets-preserved
sheets-preserved g c =
    let election = c.args.hands.now.election.now in
    let batch = c.args.batch.now in
    let left = images_left c.sheets.reader in
    let later = images_left c.next_two.new.reader in
    let first = c.in-Ok-Both.first in
    let second = c.in-Ok-Both.second in
    let number = c.sheets.number in
    let after = c.do_sheet-after.result.0 in
    let text = string_bytes c.sheets.text in
    let told = string_bytes c.do_sheet-after.new.text in
    let is : left ≡ with_page first (with_page second later) = subst (λ (two : Two). AreNext left two later) c.in-Ok-Both.field-0-is c.in-Ok-Both.ensures in
    let also : MakesAlso c.sheets.now (event_if batch number (read_of election number first second)) after =
    IfOk-at_ok (λ _. MakesAlso c.sheets.now (event_if batch number (read_of election number first second)) after) c.in-Ok.is c.do_sheet-after.ensures.made in
    let lines : told ≡ text ++ lines_unless election batch number (read_of election number first second) =
    IfOk-at_ok (λ _. told ≡ text ++ lines_unless election batch number (read_of election number first second)) c.in-Ok.is c.do_sheet-after.ensures.told in
    record {
      walked = next_goes_on election batch c.args.pass (images_of c.args.bytes.now).pages (string_bytes c.args.text.now) number first second left later c.sheets.now after text told is c.sheets.invariant.walked also lines;
      whole = sym (ap (λ (i : Images). i.fault) is) ∙ c.sheets.invariant.whole;
      some = omega arith;
    }
