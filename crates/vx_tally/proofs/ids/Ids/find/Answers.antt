use Rattle.std.proofs.Common.{◌∙◌, List, ℕ, ap}
use Rattle.std.specs.Prelude.{bytes_eq, string_bytes, position}
use Rattle.vx_tally.proofs.Finding.{position-map}
use Rattle.vx_tally.proofs.ids.Ids.find.Goals as goal

pub returns-clause-place : goal.returns-clause-place
returns-clause-place c =
    c.get_index_of.ensures.index
    ∙ position-map (bytes_eq c.args.id.now) string_bytes c.self.inside.set.keys
    ∙ ap (λ (ids : List (List ℕ)). position (bytes_eq c.args.id.now) ids) c.self.view_is
