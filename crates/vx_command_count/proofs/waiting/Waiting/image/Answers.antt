use Rattle.std.proofs.Common.{◌≡◌, Ok, Err, ap, ◌∙◌, sym, subst}
use Rattle.vx_pbm.specs.Images.{Unread, whole, Walks}
use Rattle.vx_command_count.specs.Gathering.{waits}
use Rattle.vx_command_count.proofs.Waits.{fault-first, first_of, read-first, whole-first}
use Rattle.vx_command_count.proofs.waiting.Waiting.image.Goals as goal

first-is : (c : goal.In-Ok) → first_of c.self.inside.bitmap ≡ waits c.in-Ok.found
first-is c =
    let bytes = c.self.inside.bitmap in
    let Walked : Unread → Type 0 = λ unread. Walks unread (Ok c.in-Ok.found) c.next.new.self in
    read-first bytes c.in-Ok.found c.next.new.self (subst Walked (c.new-reader.ensures ∙ ap whole c.as_slice.ensures) c.in-Ok.ensures.images)

pub returns-in-Ok-clause-found : goal.returns-in-Ok-clause-found
returns-in-Ok-clause-found c = sym c.self.view_is ∙ first-is c

pub returns-in-Ok-clause-whole : goal.returns-in-Ok-clause-whole
returns-in-Ok-clause-whole c = whole-first c.images_are_whole.ensures c.self.inside.bitmap (waits c.in-Ok.found) (first-is c)

pub returns-else-is_no_memory-clause-found : goal.returns-else-is_no_memory-clause-found
returns-else-is_no_memory-clause-found c =
    let bytes = c.self.inside.bitmap in
    let fault = c.in-Err.fault in
    let Walked : Unread → Type 0 = λ unread. Walks unread (Err fault) c.next.new.self in
    sym c.self.view_is
    ∙ fault-first bytes fault c.next.new.self (sym c.is_no_memory.ensures ∙ c.if-is_no_memory.false) (subst Walked (c.new-reader.ensures ∙ ap whole c.as_slice.ensures) c.in-Err.ensures.images)
