use Rattle.vx_layout.specs.Plans.{plans_of}
use Rattle.vx_certified.proofs.Demos.{demo-true, defined, planned}
use Rattle.vx_certified.proofs.DemoPages.{page-true}
use Rattle.vx_certified.proofs.demo.demo_pages_are_true.Goals as goal

pub returns : goal.returns
returns c seed sheets election plans is made =
    let valid = defined c.defined_elections_are_valid.ensures election is in
    demo-true election plans valid (c.plans_of_are_plans.ensures.each election plans (planned (plans_of election) plans made))
    c.plans_are_numbered.ensures c.planned_pages_can_be_printed.ensures.planned
    (λ card plan g at. page-true c.simulated_scans_fit.ensures c.fitting_scans_are_read.ensures.read c.readings_are_certificates.ensures c.certificates_are_accepted.ensures election card plan g valid at)
    seed sheets
