use Rattle.std.proofs.Common.{◌≡◌, ◌-◌, ◌≤◌}
use Rattle.vx_records.specs.Parts.{behind, each_in}
use Rattle.vx_records.specs.Reading.{next_option, option_in}
use Rattle.vx_records.proofs.options.further_options.Given as goal

-- the options so far, and those that follow
abbrev pub invariant-loop-left : goal.invariant-loop-left
invariant-loop-left l =
    behind l.initial.options.items (each_in option_in next_option 1000 l.least l.text)
    ≡ behind l.options.items (each_in option_in next_option (1000 - l._left) l.next l.rest)
