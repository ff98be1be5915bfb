use Rattle.vx_io.proofs.Texts.{Took-nil, Took-append, TookFront-nil, TookFront-whole, TookFront-append, TookFront-longer}
use Rattle.vx_io.proofs.laws.texts_taken.Goals as goal

pub returns-clause-texts : goal.returns-clause-texts
returns-clause-texts c = record { nothing = Took-nil; append = Took-append }

pub returns-clause-fronts : goal.returns-clause-fronts
returns-clause-fronts c =
    record { nothing = TookFront-nil; whole = TookFront-whole; append = TookFront-append; longer = TookFront-longer }
