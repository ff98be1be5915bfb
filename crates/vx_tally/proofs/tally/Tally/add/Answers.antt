use Rattle.std.proofs.Common.{◌≡◌, ◌≤◌, ◌<◌, ◌+◌, ◌*◌, ◌∙◌, ◌++◌, ◌∷◌, [], ℕ, List, length, ap, ap₂, sym, subst, rules, arith}
use Rattle.std.specs.BTreeMap.{insert_entry}
use Rattle.indexmap.specs.IndexMap.{spare}
use Rattle.vx_tally.specs.declared.report.CvrRecord.{CvrRecord}
use Rattle.vx_tally.specs.Totals.{size_of, record_count_limit}
use Rattle.vx_tally.specs.Kept.{Entry, key_cmp, mark_of, records_of, IsKept}
use Rattle.vx_tally.proofs.Bounds.{allows-more}
use Rattle.vx_tally.proofs.KeptRecords.{kept-more, records-more}
use Rattle.vx_tally.proofs.tally.Tally.add.Goals as goal

pub change_record-requires : goal.change_record-requires
change_record-requires c =
    let records = records_of c.self.inside.records.entries in
    let few : length records < record_count_limit =
    subst (λ (records : List CvrRecord). length records < record_count_limit) (sym c.self.view_is) c.requires.few in
    let free : 2 * size_of c.args.cvr.now ≤ spare c.reserve.new.self = omega (arith, c.size_of.ensures, c.in_ok-reserve.ensures.ok) in
    allows-more records c.args.cvr.now c.self.inside.sums c.reserve.new.self c.self.invariant.summed few
    c.requires.countable c.in_ok-reserve.ensures.entries free

pub invariant_of-self-2 : goal.invariant_of-self-2
invariant_of-self-2 c =
    let one = c.args.cvr.now in
    let next = c.self.inside.next in
    let es = c.self.inside.records.entries in
    let few : length (records_of es) < record_count_limit =
    subst (λ (records : List CvrRecord). length records < record_count_limit) (sym c.self.view_is) c.requires.few in
    let entries : c.insert.new.self.entries ≡ insert_entry key_cmp es (mark_of one.unique, next) one =
    c.in_ok-insert.ensures.entries
    ∙ ap₂ (λ (mark : ℕ) (copy : CvrRecord). insert_entry key_cmp es (mark, next) copy) (c.mark_of-mark.ensures ∙ ap mark_of c.as_str.ensures) c.in_ok-copy.ensures in
    let raised : c.in_ok-next.next ≡ next + 1 = search rules in
    let kept = kept-more one next es c.self.invariant.kept c.self.inside.sums c.reserve.new.self c.change_record.new.sums
    c.self.invariant.summed few c.requires.countable c.in_ok-reserve.ensures.entries c.change_record.ensures in
    subst (λ (more : List Entry). IsKept more c.in_ok-next.next c.change_record.new.sums) (sym entries)
    (subst (λ (n : ℕ). IsKept (insert_entry key_cmp es (mark_of one.unique, next) one) n c.change_record.new.sums) (sym raised) kept)

pub returns : goal.returns
returns c =
    let one = c.args.cvr.now in
    let next = c.self.inside.next in
    let es = c.self.inside.records.entries in
    let entries : c.insert.new.self.entries ≡ insert_entry key_cmp es (mark_of one.unique, next) one =
    c.in_ok-insert.ensures.entries
    ∙ ap₂ (λ (mark : ℕ) (copy : CvrRecord). insert_entry key_cmp es (mark, next) copy) (c.mark_of-mark.ensures ∙ ap mark_of c.as_str.ensures) c.in_ok-copy.ensures in
    ap records_of entries ∙ records-more one next es c.self.invariant.kept ∙ ap (λ (records : List CvrRecord). records ++ one ∷ []) c.self.view_is
