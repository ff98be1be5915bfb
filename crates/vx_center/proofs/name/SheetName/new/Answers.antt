use Rattle.std.proofs.Common.{◌≡◌, ◌∙◌, ◌++◌, ap, ap₂, length, drop, replicate, ℕ, List}
use Rattle.std.proofs.lemmas.List.{drop-replicate}
use Rattle.vx_center.specs.declared.name.SheetName.{SheetName}
use Rattle.vx_center.proofs.name.SheetName.new.Goals as goal

pub returns : goal.returns
returns c =
    let given = c.args.batch.now in
    let bytes : c.as_bytes-bytes.result.now ≡ given = c.as_bytes-bytes.ensures.value in
    let zeros = ap (λ (b : List ℕ). drop (length b) (replicate 32 0)) bytes ∙ drop-replicate (length given) 32 0 in
    let batch = ap₂ (λ (a b : List ℕ). a ++ b) (c.copy_from_slice.ensures.after ∙ bytes) zeros in
    ap₂ (λ (batch : List ℕ) (size : ℕ). record { batch = batch; size = size; number = c.args.number }) batch (ap length bytes)
