use Rattle.vx_app.proofs.Named.{is_other, no_other}
use Rattle.vx_app.proofs.laws.commands_are_named.Goals as goal

pub returns : goal.returns
returns c = record {
  center = λ words first none command spelled. no_other words command first spelled none;
  other = λ words other none command spelled. none command (record { spells = spelled; is_run = is_other words command other spelled });
}
