use Rattle.std.proofs.Common.{Err, subst}
use Rattle.vx_words.specs.declared.fault.UsageFault.{UsageFault}
use Rattle.vx_words.specs.Words.{NoCommand, Parses}
use Rattle.vx_program.proofs.journal.words_only_read.Goals as goal

pub returns-in-Err-Usage : goal.returns-in-Err-Usage
returns-in-Err-Usage c =
    let none : NoCommand c.args.words.now =
    subst (λ (fault : UsageFault). Parses c.args.words.now (Err fault)) c.in-Err-Usage.field-0-is c.in-Err-Usage.ensures in
    λ command spells. absurd (none command spells)
