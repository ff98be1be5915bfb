use Rattle.std.proofs.Common.{◌++◌, ◌∷◌, [], ℕ, List, sym, ap, ◌∙◌, append-nil}
use Rattle.json.specs.Print.{escape}
use Rattle.serde_json.proofs.OnLiterals.{serde_json_on_literals}
use Rattle.vx_cvr.proofs.Added.{add, add_closed, at_ok}
use Rattle.vx_cvr.proofs.sheets.push_write_in.Goals as goal

pub returns-in_ok-push_text-in-Some : goal.returns-in_ok-push_text-in-Some
unfolding serde_json_on_literals
returns-in_ok-push_text-in-Some c =
    let name : List ℕ = escape c.written_name.result.now in
    at_ok c.push_bytes-in-Some.result _ _ c.push_bytes-in-Some.ensures
    (λ last.
    rw (c.in-Some.is, sym c.written_name.ensures)
    (add c.args.text.now _ _ c.push_bytes.new.text _ c.in_ok-push_bytes-in-Some.ensures
    (add_closed c.push_bytes.new.text name 34 (125 ∷ []) c.push_text.new.text _ c.in_ok-push_text-in-Some.ensures last
    ∙ ap (λ (text : List ℕ). c.push_bytes.new.text ++ text) (sym (append-nil ((name ++ 34 ∷ []) ++ 125 ∷ []))))))
