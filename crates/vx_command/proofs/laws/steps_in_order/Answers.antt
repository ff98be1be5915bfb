use Rattle.vx_command.proofs.Acts.{comes_taking, halted_taking, comes_on, halted_here}
use Rattle.vx_command.proofs.laws.steps_in_order.Goals as goal

pub returns : goal.returns
returns g c = record {
  taken = λ word defined given rest taken is. comes_taking word defined rest given taken is;
  not_taken = λ word defined cause rest taken gives held. halted_taking word defined rest cause taken held gives;
  given = λ defined given rest taken is. comes_on defined rest given taken is;
  not_given = λ defined cause rest taken gives held. halted_here defined rest cause taken held gives;
}
