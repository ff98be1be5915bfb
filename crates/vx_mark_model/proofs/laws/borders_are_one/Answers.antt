use Rattle.vx_mark_model.proofs.Once.{followed_once, answers_once}
use Rattle.vx_mark_model.proofs.laws.borders_are_one.Goals as goal

pub returns : goal.returns
returns c = record {
  followed = followed_once c.the_corner_is_one.ensures c.the_best_place_is_one.ensures;
  answer = answers_once c.the_corner_is_one.ensures c.the_best_place_is_one.ensures;
}
