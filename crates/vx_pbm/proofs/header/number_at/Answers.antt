use Rattle.vx_pbm.proofs.Headers.{digits_first}
use Rattle.vx_pbm.proofs.header.number_at.Goals as goal

pub number_of-number-requires-clause-digits : goal.number_of-number-requires-clause-digits
number_of-number-requires-clause-digits c = digits_first _ _ c.digit_count-count.ensures.count
