use Rattle.std.proofs.Common.{ap₂, subst, ℕ, List}
use Rattle.std.specs.Prelude.{IfNone}
use Rattle.vx_events.specs.declared.key.Key.{Key}
use Rattle.vx_center.specs.Sheets.{key_of}
use Rattle.vx_center.specs.States.{IsUnknown}
use Rattle.vx_center.proofs.center.Center.place.Goals as goal

pub returns-clause-unknown : goal.returns-clause-unknown
returns-clause-unknown c =
    subst (λ (key : Key). IfNone c.place_of.result (IsUnknown c.args.self.now.events key))
    (ap₂ key_of c.as_str.ensures c.from.ensures) c.place_of.ensures.unknown
