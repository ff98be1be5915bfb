-- What a step finds, by what was read.
use Rattle.std.proofs.Common.{◌≡◌, ◌+◌, ◌≤◌, ℕ, Bool, true, false, List, length, drop, Err, ap, sym, ◌∙◌}
use Rattle.std.specs.Bool.{MatchBool}
use Rattle.vx_base.specs.Refusals.{Unless}
use Rattle.vx_pbm.specs.declared.fault.PbmFault.{PbmFault}
use Rattle.vx_pbm.specs.Faults.{is_no_memory}
use Rattle.vx_pbm.specs.Raster.{raw_image, plain_image, is_raw, is_plain}
use Rattle.vx_pbm.specs.Images.{unread_from, next_of, may_be_plain}
use Rattle.vx_pbm.specs.Step.{Finds}
use Rattle.vx_pbm.proofs.Steps.{next_plain_fault, next_raw_fault, raw_without_memory}

plain_found : (memory : Bool) (bytes : List ℕ) (fault : PbmFault) → is_plain bytes ≡ true → 2 ≤ length bytes → Unless memory (plain_image bytes ≡ Err fault) → MatchBool memory (may_be_plain (unread_from bytes 0 false) ≡ true) (next_of (unread_from bytes 0 false) ≡ Err fault)
plain_found true bytes fault magic room e = magic
plain_found false bytes fault magic room e = next_plain_fault bytes fault magic room e

-- a fault of a plain image
pub finds_plain_fault : (bytes : List ℕ) (fault : PbmFault) → is_plain bytes ≡ true → 2 ≤ length bytes → Unless (is_no_memory fault) (plain_image bytes ≡ Err fault) → Finds bytes (unread_from bytes 0 false) (Err fault)
finds_plain_fault bytes fault magic room e = plain_found (is_no_memory fault) bytes fault magic room e

other_match : (P Q : Type 0) (memory : Bool) → memory ≡ false → Q → MatchBool memory P Q
other_match P Q true e q = absurd cc
other_match P Q false e q = q

-- a fault of a raw image
pub finds_raw_fault : (bytes text : List ℕ) (at : ℕ) (fault : PbmFault) → text ≡ drop at bytes → is_raw (drop at bytes) ≡ true → at + 2 ≤ length bytes → Err fault ≡ raw_image at text → Finds bytes (unread_from bytes at false) (Err fault)
finds_raw_fault bytes text at fault is magic room e =
    other_match _ _ (is_no_memory fault) (raw_without_memory at text fault (sym e))
    (next_raw_fault bytes at fault magic room (sym (e ∙ ap (raw_image at) is)))
