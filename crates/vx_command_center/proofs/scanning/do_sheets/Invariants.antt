use Rattle.std.proofs.Common.{◌≡◌, ◌<◌, length, string_bytes}
use Rattle.std.specs.Prelude.{None}
use Rattle.vx_pbm.specs.Images.{images_left, images_of}
use Rattle.vx_command_center.proofs.Walking.{IsWalked}
use Rattle.vx_command_center.proofs.scanning.do_sheets.Given as goal

-- the sheets before the images that are left are told
abbrev pub invariant-sheets : goal.invariant-sheets
invariant-sheets g l = record {
  walked : IsWalked l.hands.election.now l.batch l.fn.pass (images_of l.bytes).pages (string_bytes l.initial.text) l.number (images_left l.reader).pages l.now (string_bytes l.text);
  whole : (images_left l.reader).fault ≡ None;
  some : 0 < l.number;
}

abbrev pub decreases-sheets : goal.decreases-sheets
decreases-sheets g l = length (images_left l.reader).pages
