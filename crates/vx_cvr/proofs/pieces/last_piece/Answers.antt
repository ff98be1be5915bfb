use Rattle.std.proofs.Common.{rules, ◌≡◌, ◌++◌, ◌∷◌, [], ℕ, List, true, ap, ◌∙◌}
use Rattle.serde_json.specs.Written.{has_float, members_text}
use Rattle.serde_json.proofs.OnLiterals.{serde_json_on_literals}
use Rattle.vx_cvr.specs.Json.{members}
use Rattle.vx_cvr.specs.Pieces.{last_piece}
use Rattle.vx_cvr.specs.Report.{behind_sheets}
use Rattle.vx_cvr.proofs.Floatless as floatless
use Rattle.vx_cvr.proofs.pieces.last_piece.Goals as goal

pub push_members-requires : goal.push_members-requires
push_members-requires c =
    ap has_float c.in_ok-behind.ensures ∙ floatless.behind c.args.election.now c.args.moment.now c.args.device.now

pub returns : goal.returns
unfolding last_piece serde_json_on_literals
returns c =
    let behind : List ℕ = members_text true (members (behind_sheets c.args.election.now c.args.moment.now c.args.device.now)) in
    let pushed : c.push.new.self ≡ c.push_members.new.text ++ 10 ∷ [] = search rules in
    pushed
    ∙ ap (λ (text : List ℕ). text ++ 10 ∷ [])
    (c.in_ok-push_members.ensures _ _ _ c.in_ok-behind.ensures ∙ ap (λ (text : List ℕ). text ++ behind) c.in_ok-text.ensures)
