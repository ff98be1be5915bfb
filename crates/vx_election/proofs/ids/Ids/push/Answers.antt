use Rattle.std.proofs.Common.{◌≡◌, ℕ, List, Some, None, cond, rules}
use Rattle.std.specs.Prelude.{bytes_eq, string_bytes}
use Rattle.std.specs.BTreeMap.{get_by_text}
use Rattle.std.proofs.lemmas.Map.Text.{btree_map_updates_text}
use Rattle.vx_election.specs.Ids.{place_in}
use Rattle.vx_election.proofs.Places.{places-push}
use Rattle.vx_election.proofs.ids.Ids.push.Goals as goal

pub invariant_of-self-2 : goal.invariant_of-self-2
invariant_of-self-2 c =
    let key : string_bytes c.in_ok-key.key ≡ c.args.id.now = c.in_ok-key.ensures.ok in
    let none : place_in c.args.id.now c.self.inside.ids.items ≡ None = rw c.self.view_is c.requires.is_new in
    let changed : (id : List ℕ) → get_by_text c.insert.new.self id ≡ cond (bytes_eq c.args.id.now id) (Some c.len-place.result) (get_by_text c.self.inside.places id) = λ id. rw key at (btree_map_updates_text (string_bytes c.in_ok-key.key) c.self.inside.places c.insert.new.self (Some c.len-place.result) c.in_ok-insert.ensures.updates id) in
    places-push (get_by_text c.self.inside.places) (get_by_text c.insert.new.self) c.self.inside.ids.items c.push.new.self.items c.args.id.now c.len-place.result c.self.invariant changed (search rules) (search rules) none
