use Rattle.std.proofs.Common.{◌≡◌, ℕ, ◌*◌, IfOk, OnOk, ap, subst}
use Rattle.std.specs.List.{range_with_len}
use Rattle.vx_simulate.specs.Draws.{draw_all, draw_places}
use Rattle.vx_simulate.proofs.flips.draw_in_tiles.Goals as goal

pub returns-clause-lists : goal.returns-clause-lists
returns-clause-lists c =
    subst (λ (many : ℕ). IfOk c.draw_lists.result (λ drawn. drawn.items ≡ (draw_all (λ (n : ℕ). draw_places 5 46 22) (range_with_len 0 many) c.args.rng.now).0)) (ap (λ (rows : ℕ). 40 * rows) c.tile_rows-tiles.ensures) c.draw_lists.ensures.lists

pub returns-clause-next : goal.returns-clause-next
returns-clause-next c =
    subst (λ (many : ℕ). OnOk c.draw_lists.result (c.draw_lists.new.rng ≡ (draw_all (λ (n : ℕ). draw_places 5 46 22) (range_with_len 0 many) c.args.rng.now).1)) (ap (λ (rows : ℕ). 40 * rows) c.tile_rows-tiles.ensures) c.draw_lists.ensures.next
