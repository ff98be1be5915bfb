use Rattle.std.proofs.Common.{take}
use Rattle.std.specs.Prelude.{string_bytes}
use Rattle.vx_audit.proofs.Joined.{IsJoined}
use Rattle.vx_audit.proofs.marks.listed_text.Given as goal

abbrev pub invariant-loop-place : goal.invariant-loop-place
invariant-loop-place l = IsJoined l.ids (take l.place-index l.places) (string_bytes l.text) l.first
