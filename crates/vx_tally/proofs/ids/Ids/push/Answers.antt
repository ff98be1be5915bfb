use Rattle.std.proofs.Common.{◌≡◌, ◌∙◌, ◌++◌, ◌∷◌, [], List, ℕ, false, ap, ap₂, map}
use Rattle.std.specs.Prelude.{bytes_eq, string_bytes}
use Rattle.std.specs.List.{list_any}
use Rattle.std.proofs.lemmas.List.{map_push}
use Rattle.vx_tally.proofs.Finding.{none-any, any-map, inserted-new}
use Rattle.vx_tally.proofs.ids.Ids.push.Goals as goal

pub returns : goal.returns
returns c =
    let ids = c.self.inside.set.keys in
    let new = c.in_ok-from_str.field-0 in
    let key : string_bytes new ≡ c.args.id.now = c.in_ok-from_str.ensures.ok in
    let held : map string_bytes ids ≡ c.args.self.now = c.self.view_is in
    let none : list_any (bytes_eq (string_bytes new)) (map string_bytes ids) ≡ false =
    ap₂ (λ (id : List ℕ) (all : List (List ℕ)). list_any (bytes_eq id) all) key held ∙ none-any (bytes_eq c.args.id.now) c.args.self.now c.requires.is_new in
    let apart = any-map (bytes_eq (string_bytes new)) string_bytes ids ∙ none in
    ap (map string_bytes) (c.in_ok-insert.ensures.keys ∙ inserted-new _ ids (ids ++ new ∷ []) apart)
    ∙ map_push string_bytes ids new
    ∙ ap₂ (λ (all : List (List ℕ)) (id : List ℕ). all ++ id ∷ []) held key
