use Rattle.std.proofs.Common.{◌≡◌, drop, map, string_bytes}
use Rattle.vx_io.specs.Fakes.{files_of}
use Rattle.vx_io.proofs.lists.NamedBytes.find.Given as goal

abbrev pub invariant-loop-other : goal.invariant-loop-other
invariant-loop-other l =
    files_of (map (λ file. (string_bytes file.0, file.1)) (drop l.other-index l.other-items)) l.name ≡ files_of (map (λ file. (string_bytes file.0, file.1)) l.other-items) l.name
