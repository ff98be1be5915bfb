use Rattle.vx_scan_model.proofs.Certificates.{certificates-say}
use Rattle.vx_scan_model.proofs.laws.certificates_say_what_fits.Goals as goal

pub returns : goal.returns
returns c = certificates-say c.laws_below.ensures.upright c.laws_below.ensures.turned c.corner_chains_lie_at_marks.ensures c.turned_twice_is_as_before.ensures
