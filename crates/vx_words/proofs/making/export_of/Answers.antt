use Rattle.std.proofs.Common.{arith, rules}
use Rattle.vx_words.proofs.Made.{export_made, no_device_made, no_moment_made, not_three, nowhere}
use Rattle.vx_words.proofs.making.export_of.Goals as goal

pub returns-then-arguments-ne3 : goal.returns-then-arguments-ne3
returns-then-arguments-ne3 c = not_three c.args.arguments.now (λ three. search rules)

pub returns-then-not-is_moment : goal.returns-then-not-is_moment
returns-then-not-is_moment c = no_moment_made c.args.arguments.now nowhere (omega arith) (search rules)

pub returns-in_default : goal.returns-in_default
returns-in_default c = no_device_made c.args.arguments.now nowhere (omega arith) (search rules)

pub returns : goal.returns
returns c =
    rw (c.in_ok-election.ensures, c.in_ok-moment.ensures)
    (export_made c.args.arguments.now nowhere c.in-Some.device (omega arith) c.requires (search rules) (search rules))
