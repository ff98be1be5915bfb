use Rattle.std.proofs.Common.{arith}
use Rattle.vx_records.specs.Letters.{is_letter}
use Rattle.vx_records.proofs.Loops.{letters_few, letters_many, letters_some, letters_all}
use Rattle.vx_records.proofs.letters.letters_at.Goals as goal

pub returns-then-count-least-clause-exact : goal.returns-then-count-least-clause-exact
returns-then-count-least-clause-exact c =
    letters_few (is_letter c.args.letters) c.args.least c.args.most c.letters_here-count.result c.args.text.now c.letters_here-count.ensures.exact (omega arith)

pub returns-then-most-count-clause-exact : goal.returns-then-most-count-clause-exact
returns-then-most-count-clause-exact c =
    letters_many (is_letter c.args.letters) c.args.least c.args.most c.letters_here-count.result c.args.text.now c.letters_here-count.ensures.exact (omega arith) (omega arith)

pub returns-clause-exact : goal.returns-clause-exact
returns-clause-exact c =
    letters_some (is_letter c.args.letters) c.args.least c.args.most c.letters_here-count.result c.args.text.now c.split_at.result.0.now c.split_at.result.1.now
    c.letters_here-count.ensures.exact (omega arith) (omega arith) c.split_at.ensures.front c.split_at.ensures.back

pub returns-clause-letters : goal.returns-clause-letters
returns-clause-letters c = letters_all (is_letter c.args.letters) c.args.least c.args.most c.args.text.now c.split_at.result.0.now c.split_at.result.1.now (returns-clause-exact c)
