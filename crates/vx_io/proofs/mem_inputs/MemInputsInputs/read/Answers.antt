use Rattle.std.proofs.Common.{◌≡◌, ap, ◌∙◌}
use Rattle.vx_io.specs.Fakes.{HeldInputs, files_of}
use Rattle.vx_io.proofs.Found.{there_told}
use Rattle.vx_io.proofs.mem_inputs.MemInputsInputs.read.Goals as goal

pub rest-requires : goal.rest-requires
rest-requires c =
    let same : c.self.inside.files ≡ c.args.self.now.files = ap (λ (held : HeldInputs). held.files) (c.self.view_is ∙ c.call.ensures.counted) in
    rw same (there_told (files_of c.args.self.now.files) c.args.name.now c.args.at c.requires.there)
