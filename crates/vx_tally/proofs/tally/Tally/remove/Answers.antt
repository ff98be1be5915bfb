use Rattle.std.proofs.Common.{◌≡◌, ◌∙◌, List, Some, ap, sym, subst, rules}
use Rattle.std.specs.Prelude.{is_some}
use Rattle.std.specs.List.{list_any}
use Rattle.vx_tally.specs.Totals.{same_record, without_first}
use Rattle.vx_tally.specs.Kept.{Entry, records_of, IsKept}
use Rattle.vx_tally.proofs.KeptRecords.{found-in, found-there, gone-allows, kept-less, records-less}
use Rattle.vx_tally.proofs.tally.Tally.remove.Goals as goal

pub unwrap-key-requires : goal.unwrap-key-requires
unwrap-key-requires c =
    ap is_some c.key_of.ensures.first ∙ found-in c.args.cvr.now c.self.inside.next c.self.inside.records.entries c.self.invariant.kept
    ∙ ap (list_any (same_record c.args.cvr.now)) c.self.view_is ∙ c.requires

pub unwrap-gone-requires : goal.unwrap-gone-requires
unwrap-gone-requires c =
    let key : c.key_of.result ≡ Some c.unwrap-key.result = search rules in
    ap is_some c.remove.ensures.value
    ∙ found-there c.args.cvr.now c.self.inside.next c.self.inside.records.entries c.self.invariant.kept c.key_of.ensures.ordered
    c.unwrap-key.result (sym c.key_of.ensures.first ∙ key)

pub change_record-requires : goal.change_record-requires
change_record-requires c =
    let key : c.key_of.result ≡ Some c.unwrap-key.result = search rules in
    let gone : c.remove.result ≡ Some c.unwrap-gone.result = search rules in
    gone-allows c.args.cvr.now c.self.inside.next c.self.inside.records.entries c.self.invariant.kept c.key_of.ensures.ordered
    c.unwrap-key.result (sym c.key_of.ensures.first ∙ key) c.unwrap-gone.result (sym c.remove.ensures.value ∙ gone)
    c.self.inside.sums c.self.invariant.summed

pub invariant_of-self : goal.invariant_of-self
invariant_of-self c =
    let key : c.key_of.result ≡ Some c.unwrap-key.result = search rules in
    let gone : c.remove.result ≡ Some c.unwrap-gone.result = search rules in
    subst (λ (left : List Entry). IsKept left c.self.inside.next c.change_record.new.sums) (sym c.remove.ensures.entries)
    (kept-less c.args.cvr.now c.self.inside.next c.self.inside.records.entries c.self.invariant.kept c.key_of.ensures.ordered
    c.unwrap-key.result (sym c.key_of.ensures.first ∙ key) c.unwrap-gone.result (sym c.remove.ensures.value ∙ gone)
    c.self.inside.sums c.change_record.new.sums c.self.invariant.summed c.change_record.ensures)

pub returns : goal.returns
returns c =
    let key : c.key_of.result ≡ Some c.unwrap-key.result = search rules in
    ap records_of c.remove.ensures.entries
    ∙ records-less c.args.cvr.now c.self.inside.next c.self.inside.records.entries c.self.invariant.kept c.key_of.ensures.ordered
    c.unwrap-key.result (sym c.key_of.ensures.first ∙ key)
    ∙ ap (without_first c.args.cvr.now) c.self.view_is
