use Rattle.vx_scan_model.proofs.Accepting.{in_from, in_true, accepted_from, accepted_true}
use Rattle.vx_scan_model.proofs.laws.places_are_tested.Goals as goal

pub returns : goal.returns
returns c = record {
  region = λ region p. (in_from region p, in_true region p);
  accepted = λ page p. (accepted_from page p, accepted_true page p);
}
