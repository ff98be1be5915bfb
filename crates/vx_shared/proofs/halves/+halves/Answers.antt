use Rattle.std.proofs.Common.{rules, ◌≡◌, ℕ, ◌+◌, ◌*◌, ◌++◌, ◌∷◌, [], ◌/◌, ◌≤◌, ◌<◌, List, map, take, length, ap, subst, sym, ◌∙◌, arith, length-append, take-append-drop}
use Rattle.std.proofs.lemmas.List.{append-nil, map-append}
use Rattle.std.proofs.lemmas.Grind.{flat_map-append}
use Rattle.std.specs.List.{flat_map}
use Rattle.vx_shared.specs.Gained.{HasEnded, MayRun, calls_in}
use Rattle.vx_shared.proofs.Halving.{fewer_calls, fewer_shares, may_low, may_high}
use Rattle.vx_shared.proofs.Rejoining.{cut, kept, halves_end, one_ends, single}
use Rattle.vx_shared.proofs.Mixing.{Lists}
use Rattle.vx_shared.proofs.halves.+halves.Goals as goal

pub returns-then-items-eq1 : goal.returns-then-items-eq1
returns-then-items-eq1 g t c =
    let events = g.W.Work.events c.args.work.now in
    let text = g.W.Work.text c.args.work.now in
    let item = c.index-items-0.result in
    let one : HasEnded c.args.pass (events item ∷ []) (text item) c.run.result.0 c.run.result.1 =
    one_ends c.args.pass c.run.result.0 (events item) (text item) c.run.result.1 c.run.ensures.made c.run.ensures.told c.run.ensures.front in
    let is : item ∷ [] ≡ c.args.items.now = single c.args.items.now item c.if-items-eq1.true c.index-items-0.is in
    let lists : HasEnded c.args.pass (map events c.args.items.now) (text item) c.run.result.0 c.run.result.1 =
    subst (λ (l : Lists). HasEnded c.args.pass l (text item) c.run.result.0 c.run.result.1) (ap (λ l. map events l) is) one in
    subst (λ (l : List ℕ). HasEnded c.args.pass (map events c.args.items.now) l c.run.result.0 c.run.result.1)
    (sym (append-nil (text item)) ∙ ap (λ l. flat_map text l) is) lists

pub join-mine-requires-after_bounds : goal.join-mine-requires-after_bounds
join-mine-requires-after_bounds g t c κs within =
    let need = g.W.Work.calls c.args.work.now in
    let fits = g.W.Work.may c.args.work.now in
    let of = g.S.Desk.id c.args.shared.now in
    let old = c.args.pass in
    let low = c.split_at.result.0.now in
    let high = c.split_at.result.1.now in
    let items = c.args.items.now in
    let whole : low ++ high ≡ items =
    ap (λ l. l ++ high) c.split_at.ensures.front
    ∙ (ap (λ l. take (length items / 2) items ++ l) c.split_at.ensures.back ∙ take-append-drop (length items / 2) items) in
    let long = length-append low high in
    let count : length (low ++ high) ≡ length items = ap length whole in
    let some_low : 0 < length low = omega (arith, c.split_at.ensures.front_len, c.if-items-eq1.false, c.requires.may.some) in
    let some_high : 0 < length high = omega (arith, c.split_at.ensures.front_len, c.if-items-eq1.false, c.requires.may.some, long, count) in
    let is : c.calls_for.result ≡ calls_in need high = c.calls_for.ensures in
    let low_may : MayRun of need fits c.split-mine.result.0 low =
    may_low need fits of old low high items c.requires.may whole c.split-mine.result.0 some_low (c.split-mine.ensures.first ∙ ap (λ n. kept old (length high) n) is) in
    let high_may : MayRun of need fits c.split-mine.result.1 high =
    may_high need fits of old low high items c.requires.may whole c.split-mine.result.1 some_high (c.split-mine.ensures.second ∙ ap (λ n. cut old (length high) n) is) in
    let low_number : c.args.number + length low < 4294967296 = omega (arith, c.requires.numbers, long, count) in
    let high_number : c.args.number + length items / 2 + length high < 4294967296 = omega (arith, c.requires.numbers, c.split_at.ensures.front_len, long, count) in
    let less_low : 2 * length low + 1 < 2 * length items = omega (arith, long, count, some_high) in
    let less_high : 2 * length high + 1 < 2 * length items = omega (arith, long, count, some_low) in (
      (search rules, (λ a m. m, (λ a m. m, (λ a m. m, (λ a m. m, (λ a m. m, (c.requires.sync, (low_number, (low_may, c.requires.sync))))))))),
      (search rules, (λ a m. m, (λ a m. m, (λ a m. m, (λ a m. m, (λ a m. m, (c.requires.sync, (high_number, (high_may, c.requires.sync))))))))),
    )

pub returns : goal.returns
returns g t c =
    let events = g.W.Work.events c.args.work.now in
    let text = g.W.Work.text c.args.work.now in
    let need = g.W.Work.calls c.args.work.now in
    let fits = g.W.Work.may c.args.work.now in
    let of = g.S.Desk.id c.args.shared.now in
    let old = c.args.pass in
    let low = c.split_at.result.0.now in
    let high = c.split_at.result.1.now in
    let items = c.args.items.now in
    let whole : low ++ high ≡ items =
    ap (λ l. l ++ high) c.split_at.ensures.front
    ∙ (ap (λ l. take (length items / 2) items ++ l) c.split_at.ensures.back ∙ take-append-drop (length items / 2) items) in
    let some_low : 0 < length low = omega (arith, c.split_at.ensures.front_len, c.if-items-eq1.false, c.requires.may.some) in
    let shares : length high < old.shares = fewer_shares need fits of old low high items c.requires.may whole some_low in
    let calls : calls_in need high ≤ old.calls = fewer_calls need fits of old low high items c.requires.may whole in
    let lists : map events low ++ map events high ≡ map events items = sym (map-append events low high) ∙ ap (λ l. map events l) whole in
    let texts : flat_map text low ++ flat_map text high ≡ flat_map text items = sym (flat_map-append text low high) ∙ ap (λ l. flat_map text l) whole in
    halves_end old c.split-mine.result.0 c.split-mine.result.1 c.join-mine.result.0.0 c.join-mine.result.1.0 c.join.result (length high) c.calls_for.result
    (map events low) (map events high) (map events items) (flat_map text low) (flat_map text high) (flat_map text items)
    c.join-mine.result.0.1 c.join-mine.result.1.1 c.both.result c.split-mine.ensures.first c.split-mine.ensures.second
    (omega (arith, shares)) (omega (arith, calls, c.calls_for.ensures)) lists texts c.join-mine.ensures.first c.join-mine.ensures.second c.join.ensures c.both.ensures
