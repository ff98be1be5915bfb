use Rattle.std.proofs.Common.{refl, ap, Err}
use Rattle.vx_journal.proofs.Recorded.{was_appended, failed_to_append, no_memory_to_append}
use Rattle.vx_journal.proofs.keeping.append.Goals as goal

pub returns-in-Ok-clause-done : goal.returns-in-Ok-clause-done
returns-in-Ok-clause-done g c = was_appended c.args.body.now _ _ c.in-Ok.ensures.appended

pub returns-in-Err-Failed-clause-done : goal.returns-in-Err-Failed-clause-done
returns-in-Err-Failed-clause-done g c = failed_to_append c.args.body.now _ _ (c.in-Err-Failed.ensures.failed (ap Err c.in-Err-Failed.field-0-is))

pub returns-in-Err-OutOfMemory-clause-done : goal.returns-in-Err-OutOfMemory-clause-done
returns-in-Err-OutOfMemory-clause-done g c = no_memory_to_append _ _ _ (c.in-Err-OutOfMemory.ensures.refused (ap Err c.in-Err-OutOfMemory.field-0-is))
