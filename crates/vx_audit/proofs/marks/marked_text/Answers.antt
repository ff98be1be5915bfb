use Rattle.std.proofs.Common.{◌≡◌, ◌∙◌, ap, subst, List, ℕ}
use Rattle.vx_audit.specs.Ascending.{IsAscending, ids_at}
use Rattle.vx_audit.specs.Pairs.{listed}
use Rattle.std.specs.Prelude.{string_bytes}
use Rattle.vx_audit.proofs.Marked.{all-marked}
use Rattle.vx_audit.proofs.marks.marked_text.Goals as goal

pub returns : goal.returns
returns c =
    let ids = c.args.selections.now in
    let sorted = c.put_in_order.new.places.items in
    let order = subst (λ (places : List ℕ). IsAscending places sorted) c.in_ok-sorted.ensures.items c.put_in_order.ensures in
    let value = c.as_slice.ensures.value in
    let listed_is = c.in_ok-text.ensures in
    let text : string_bytes c.in_ok-text.text ≡ listed (ids_at ids sorted) = cc in
    text ∙ ap listed (all-marked ids c.args.places.now sorted order)
