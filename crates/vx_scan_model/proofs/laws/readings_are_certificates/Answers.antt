use Rattle.vx_scan_model.proofs.Certificates.{readings-certified}
use Rattle.vx_scan_model.proofs.laws.readings_are_certificates.Goals as goal

pub returns : goal.returns
returns c = readings-certified (record {
  corner = c.a_list_is_followed.ensures.corner;
  grows = c.a_list_is_followed.ensures.grows;
  chains = c.followed_places_are_chains.ensures;
})
