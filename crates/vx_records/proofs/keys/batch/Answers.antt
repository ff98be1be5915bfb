use Rattle.std.proofs.lemmas.Str.{IsUtf8-from_ascii}
use Rattle.vx_records.proofs.Loops.{batch_ascii}
use Rattle.vx_records.proofs.keys.batch.Goals as goal

pub text_of-requires : goal.text_of-requires
text_of-requires c = IsUtf8-from_ascii c.in_ok-name.name.now (batch_ascii c.in_ok-name.name.now c.in_ok-name.ensures.letters)
