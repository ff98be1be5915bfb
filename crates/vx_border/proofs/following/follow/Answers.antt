use Rattle.std.proofs.Common.{◌≡◌, ℕ, List, arith, ap, subst, ◌∙◌, length-set}
use Rattle.vx_grid.specs.declared.places.Point.{Point}
use Rattle.vx_grid.specs.Paper.{last_row}
use Rattle.vx_grid.specs.Places.{point_at}
use Rattle.vx_mark_model.specs.Best.{IsBest}
use Rattle.vx_mark_model.specs.Following.{leader_of, prediction_of, expected_from}
use Rattle.vx_border.proofs.Follow.{followed_within, followed_more}
use Rattle.vx_border.proofs.following.follow.Goals as goal

-- what was computed is where the mark is expected
expected_is : (last : ℕ) (places : List Point) (k leader : ℕ) (p : Point) → p ≡ expected_from last k (point_at places leader) → leader ≡ leader_of last k → p ≡ prediction_of last places k
expected_is last places k leader p is leads = is ∙ ap (λ i. expected_from last k (point_at places i)) leads

pub expected-predicted-requires : goal.expected-predicted-requires
expected-predicted-requires c =
    followed_within c.accepted_places_are_framed.ensures c.args.counter.now 8900 (last_row c.args.paper) c.loop-k.k c.leader_of.result c.loop-k.places
    (omega arith) (omega arith) c.loop-k.invariant.followed c.leader_of.ensures.before

pub loop-k-preserved : goal.loop-k-preserved
loop-k-preserved c =
    let is =
    expected_is (last_row c.args.paper) c.loop-k.places c.loop-k.k c.leader_of.result c.expected-predicted.result
    c.expected-predicted.ensures.exact c.leader_of.ensures.exact in
    let Best : Point → Type 0 = λ q. IsBest c.args.counter.now q c.in-Some.place in
    record {
      all = length-set c.loop-k.places c.loop-k.k c.in-Some.place ∙ c.loop-k.invariant.all;
      followed =
          followed_more c.a_list_is_followed.ensures.grows c.args.counter.now (last_row c.args.paper) c.loop-k.k c.loop-k.places c.in-Some.place
          (omega arith) (omega arith) c.loop-k.invariant.followed (subst Best is c.in-Some.ensures);
    }
