use Rattle.std.proofs.Common.{◌≡◌, ◌++◌, ◌∷◌, [], ℕ, List, true, rules, ap, ◌∙◌, append_assoc}
use Rattle.std.specs.Prelude.{OnOk}
use Rattle.std.proofs.lemmas.Result.{on_ok_weaker}
use Rattle.serde_json.specs.Written.{has_float, members_text}
use Rattle.vx_markup.specs.Escaped.{escaped}
use Rattle.vx_markup.specs.Json.{members}
use Rattle.vx_desk.specs.Lines as lines
use Rattle.vx_desk.proofs.Floatless.{behind}
use Rattle.vx_desk.proofs.data.push_behind.Goals as goal

pub push_members-requires : goal.push_members-requires
push_members-requires c = ap has_float c.in_ok-behind.ensures ∙ behind c.args.center.now.events c.args.key.now c.args.scan.now

pub returns : goal.returns
returns c =
    let members : List ℕ = escaped (members_text true (members (lines.behind_contests c.args.center.now.events c.args.key.now c.args.scan.now))) in
    let ended : OnOk c.push.result (c.push.new.self ≡ c.push_members.new.text ++ 10 ∷ []) = search rules in
    on_ok_weaker c.push.result
    (λ pushed. pushed
    ∙ (ap (λ (text : List ℕ). text ++ 10 ∷ []) (c.in_ok-push_members.ensures _ _ _ c.in_ok-behind.ensures)
    ∙ append_assoc c.args.text.now members (10 ∷ [])))
    ended
