use Rattle.std.proofs.Common.{◌∙◌, sym, ap, List, ℕ}
use Rattle.vx_tally.specs.Ids.{place_in}
use Rattle.vx_tally.proofs.Finding.{position-behind}
use Rattle.std.specs.Prelude.{bytes_eq}
use Rattle.vx_tally.proofs.contests.push_own_ids.Goals as goal

pub push-requires : goal.push-requires
push-requires c =
    let id = c.in_ok-id.id.now in
    record {
      is_new = position-behind (bytes_eq id) c.args.all.now c.loop-value.found
          (ap (λ (ids : List (List ℕ)). place_in id ids) (sym c.loop-value.invariant.all_are) ∙ c.in_ok-id.ensures.is_new);
    }
