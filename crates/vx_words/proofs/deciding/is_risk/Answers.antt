use Rattle.vx_words.proofs.Drawn.{risk_spelled}
use Rattle.vx_words.proofs.deciding.is_risk.Goals as goal

pub returns : goal.returns
returns c = (
  _,
  risk_spelled c.args.words.now c.word.result.now c.word-2.result.now c.word-3.result.now _ _ _ c.requires c.word.ensures c.word-2.ensures c.word-3.ensures
      (record { is_seed = c.in-Some.ensures; is_size = c.in-Some-sample_size.ensures; is_limit = c.in-Some-risk_limit.ensures }),
)
