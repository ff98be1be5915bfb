use Rattle.std.proofs.Common.{◌≡◌, ◌∙◌, ◌++◌, ◌∷◌, [], List, ℕ, false, ap}
use Rattle.vx_tally.specs.Ids.{is_among}
use Rattle.vx_tally.proofs.Finding.{inserted-new}
use Rattle.vx_tally.proofs.ids.Places.push.Goals as goal

pub returns : goal.returns
returns c =
    let places = c.self.inside.set.keys in
    let held : places ≡ c.args.self.now = c.self.view_is in
    let apart : is_among c.args.place places ≡ false = ap (is_among c.args.place) held ∙ c.requires in
    c.in_ok-insert.ensures.keys ∙ inserted-new _ places (places ++ c.args.place ∷ []) apart
    ∙ ap (λ (all : List ℕ). all ++ c.args.place ∷ []) held
