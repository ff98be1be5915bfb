use Rattle.std.proofs.Common.{◌≡◌, ◌∙◌, ◌++◌, ◌∷◌, [], ap₂, sym, arith, List}
use Rattle.std.specs.Prelude.{Option}
use Rattle.std.proofs.lemmas.List.FromFn.{map-range_with_len_more}
use Rattle.vx_events.specs.declared.decision.WriteInName.{WriteInName}
use Rattle.vx_center.specs.Decisions.{decisions_on, name_of}
use Rattle.vx_center.proofs.exporting.names.Goals as goal

pub loop-slot-preserved : goal.loop-slot-preserved
loop-slot-preserved c =
    let slot = c.loop-slot.slot in
    c.in_ok-push.ensures.items
    ∙ ap₂ (λ (names : List (Option WriteInName)) (name : Option WriteInName). names ++ name ∷ []) c.loop-slot.invariant (c.in_ok-copy_name.ensures ∙ c.name_on.ensures)
    ∙ sym (map-range_with_len_more (λ slot. name_of slot (decisions_on c.args.number c.args.decided.now)) 0 slot slot (omega arith))
