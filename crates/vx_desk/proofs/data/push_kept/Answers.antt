use Rattle.std.proofs.Common.{◌≡◌, ◌++◌, ◌∷◌, [], ℕ, List, true, codes, ap, sym, rules, ◌∙◌, append_assoc}
use Rattle.std.proofs.lemmas.Result.{on_ok_weaker}
use Rattle.serde_json.specs.Written.{compact_text, members_text}
use Rattle.serde_json.proofs.OnLiterals.{serde_json_on_literals}
use Rattle.vx_markup.specs.Escaped.{escaped}
use Rattle.vx_markup.specs.Json.{members}
use Rattle.vx_desk.specs.Lines as lines
use Rattle.vx_desk.proofs.Texts.{escaped_joined}
use Rattle.vx_desk.proofs.data.push_kept.Goals as goal

pub returns : goal.returns
unfolding serde_json_on_literals
returns c =
    let before : List ℕ = c.args.text.now in
    let front : List ℕ = codes "{\"contests\":" in
    let contests : List ℕ =
    compact_text (lines.contests_of c.args.election.now c.args.center.now.events c.args.key.now c.args.sheet.now c.args.first.now c.args.second.now) in
    let behind : List ℕ = members_text true (members (lines.behind_contests c.args.center.now.events c.args.key.now c.args.scan.now)) in
    let end : List ℕ = 10 ∷ [] in
    let fronted : c.extend_from_slice.new.self ≡ before ++ front = search rules in
    on_ok_weaker c.push_behind.result
    (λ pushed. pushed
    ∙ (ap (λ (text : List ℕ). text ++ (escaped behind ++ end))
    (c.in_ok-push_contests.ensures ∙ ap (λ (text : List ℕ). text ++ escaped contests) fronted)
    ∙ (append_assoc (before ++ front) (escaped contests) (escaped behind ++ end)
    ∙ (append_assoc before front (escaped contests ++ (escaped behind ++ end))
    ∙ ap (λ (text : List ℕ). before ++ (front ++ text))
    (sym (append_assoc (escaped contests) (escaped behind) end)
    ∙ ap (λ (text : List ℕ). text ++ end) (sym (escaped_joined contests behind)))))))
    c.push_behind.ensures
