use Rattle.vx_io.proofs.Asking.{Asked-nil, Asked-append}
use Rattle.vx_io.proofs.laws.questions_asked.Goals as goal

pub returns : goal.returns
returns c = record { nothing = Asked-nil; append = Asked-append }
