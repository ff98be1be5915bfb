use Rattle.std.proofs.Common.{◌≡◌, ◌∙◌, ap, sym, List, ℕ}
use Rattle.std.specs.Prelude.{bytes_eq, string_bytes}
use Rattle.std.specs.Map.{lookup}
use Rattle.std.specs.String.{string_eq}
use Rattle.indexmap.specs.IndexMap.{get_by}
use Rattle.indexmap.proofs.CallerLemmas.{insert_entry-new}
use Rattle.vx_audit.proofs.Indexed.{lookup-push}
use Rattle.vx_audit.proofs.finding.Index.put.Goals as goal

pub returns-in_ok-insert-in-None : goal.returns-in_ok-insert-in-None
returns-in_ok-insert-in-None c = λ other.
    let old = c.args.self.now.places in
    let key = c.in_ok-from_str-in-None.field-0 in
    let named : string_bytes key ≡ c.args.id.now = c.in_ok-from_str-in-None.ensures.ok in
    let none = ap (λ (bytes : List ℕ). get_by (λ known. bytes_eq bytes (string_bytes known)) old) named ∙ sym c.find.ensures ∙ c.in-None.is in
    let last = c.in_ok-insert-in-None.ensures.entries ∙ insert_entry-new string_eq old key c.args.place none in
    ap (lookup (λ known. bytes_eq other (string_bytes known))) last
    ∙ lookup-push (λ known. bytes_eq other (string_bytes known)) old.entries (key, c.args.place) other c.args.id.now (ap (bytes_eq other) named)
