use Rattle.std.proofs.Common.{rules}
use Rattle.vx_words.proofs.Spellings.{no_command, read_spelled, check_spelled, decide_spelled, queue_spelled, try_spelled, cards_spelled, results_spelled, summary_spelled}
use Rattle.vx_words.proofs.deciding.is_command.Goals as goal

pub returns-in_default : goal.returns-in_default
returns-in_default c = no_command c.args.words.now c.in_default.ensures

pub returns-in-Read : goal.returns-in-Read
returns-in-Read c = (_, read_spelled c.args.words.now (search rules))

pub returns-in-Check : goal.returns-in-Check
returns-in-Check c = (_, check_spelled c.args.words.now (search rules))

pub returns-in-Decide : goal.returns-in-Decide
returns-in-Decide c = (_, decide_spelled c.args.words.now (search rules))

pub returns-in-Queue : goal.returns-in-Queue
returns-in-Queue c = (_, queue_spelled c.args.words.now (search rules))

pub returns-in-Try : goal.returns-in-Try
returns-in-Try c = (_, try_spelled c.args.words.now (search rules))

pub returns-in-Cards : goal.returns-in-Cards
returns-in-Cards c = (_, cards_spelled c.args.words.now (search rules))

pub returns-in-Results : goal.returns-in-Results
returns-in-Results c = (_, results_spelled c.args.words.now (search rules))

pub returns-in-Summary : goal.returns-in-Summary
returns-in-Summary c = (_, summary_spelled c.args.words.now (search rules))
