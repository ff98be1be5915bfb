use Rattle.vx_mark_model.proofs.Follow.{followed_one, followed_grows, followed_same}
use Rattle.vx_mark_model.proofs.laws.a_list_is_followed.Goals as goal

pub returns : goal.returns
returns c = record { corner = followed_one; grows = followed_grows; same = followed_same }
