-- What the tests accept.
use Rattle.std.specs.Prelude.{◌≡◌, Ok}
use Rattle.vx_plane.specs.Plane.{Page}
use Rattle.vx_election_model.specs.declared.election.Election.{Election}
use Rattle.vx_election_model.specs.Valid.{IsValid}
use Rattle.vx_scan_model.specs.declared.reading.PageReading.{PageReading}
use Rattle.vx_scan_model.specs.Certificate.{Certifies}
use Rattle.vx_check.specs.Tests.{tested}

-- a reading that passes all tests of a page is a certificate of it
abbrev pub AcceptedAreCertificates : Type 0
AcceptedAreCertificates =
    (election : Election) (page : Page) (reading : PageReading) → IsValid election
    → tested election page reading ≡ Ok tt → Certifies election page reading

-- a certificate of a page passes all tests of it
abbrev pub CertificatesAreAccepted : Type 0
CertificatesAreAccepted =
    (election : Election) (page : Page) (reading : PageReading) → IsValid election → Certifies election page reading
    → tested election page reading ≡ Ok tt
