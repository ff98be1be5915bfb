use Rattle.vx_records.proofs.OptionParts.{options_ascend, some_found}
use Rattle.std.proofs.Common.{ap, ◌∙◌, sym, List, ℕ}
use Rattle.vx_records.specs.Parts.{behind, each_in}
use Rattle.vx_records.specs.Reading.{next_option, option_in}
use Rattle.vx_records.proofs.options.some_options.Goals as goal

pub from_ascending-requires : goal.from_ascending-requires
from_ascending-requires c =
    options_ascend c.args.text.now c.further_options.new.options.items
    (some_found c.args.text.now c.in_ok-first.rest.now c.further_options.new.options.items c.in_ok-first.first c.in_ok-first.ensures.exact
    (rw (sym c.in_ok-options.ensures.items) c.in_ok-further_options.ensures))
