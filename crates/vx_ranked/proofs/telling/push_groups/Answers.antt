use Rattle.std.proofs.Common.{◌≡◌, ◌++◌, ◌+◌, ◌∙◌, Some, List, ap, drop, flat_map, length, refl, string_bytes}
use Rattle.std.specs.Prelude.{slice_get}
use Rattle.std.proofs.lemmas.Option.{slice_get_read}
use Rattle.vx_ranked.specs.declared.sheets.SheetRankings.{SheetRankings}
use Rattle.vx_ranked.specs.Rankings.{group_ranked, none_ranked}
use Rattle.vx_ranked.specs.Texts.{told_of}
use Rattle.vx_ranked.proofs.Gathered.{next-listed}
use Rattle.vx_ranked.proofs.Turned.{left-behind, taken-out}
use Rattle.vx_ranked.proofs.telling.push_groups.Goals as goal

pub push_ranked-requires-clause-ranked : goal.push_ranked-requires-clause-ranked
push_ranked-requires-clause-ranked c =
    let groups = c.args.groups.now in
    let place = c.loop-index.index in
    let group = c.index-groups-index.result in
    let there : slice_get groups place ≡ Some group =
    slice_get_read groups (length groups) place group refl c.loop-index-test.true c.index-groups-index.is in
    taken-out (group_ranked c.args.center.now.election c.args.center.now.events) groups c.loop-index.ranked.items place
    c.loop-index.invariant.left group there c.take_out-counted.result c.take_out-counted.ensures.taken

pub loop-index-preserved : goal.loop-index-preserved
loop-index-preserved c =
    let kept = c.args.center.now.events in
    let groups = c.args.groups.now in
    let ranked = c.loop-index.ranked.items in
    let place = c.loop-index.index in
    let group = c.index-groups-index.result in
    let told = told_of c.args.election.now kept in
    let there : slice_get groups place ≡ Some group =
    slice_get_read groups (length groups) place group refl c.loop-index-test.true c.index-groups-index.is in
    record {
      text =
          next-listed told groups place group (string_bytes c.loop-index.text) (string_bytes c.push_ranked.new.text)
          (string_bytes c.args.text.now ++ flat_map told groups) c.loop-index-test.true c.index-groups-index.is
          c.loop-index.invariant.text c.in_ok-push_ranked.ensures;
      left =
          ap (λ (some : List SheetRankings). drop (place + 1) some) c.take_out-counted.ensures.left
          ∙ left-behind (group_ranked c.args.center.now.election kept) groups ranked place c.loop-index.invariant.left group there
          none_ranked;
    }
