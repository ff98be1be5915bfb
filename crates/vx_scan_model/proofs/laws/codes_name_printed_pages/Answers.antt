use Rattle.vx_scan_model.proofs.Plans.{named-printed, planned-named}
use Rattle.vx_scan_model.proofs.laws.codes_name_printed_pages.Goals as goal

pub returns : goal.returns
returns c = record { printed = named-printed; named = planned-named }
