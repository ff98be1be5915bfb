use Rattle.std.proofs.Common.{rules, ◌≡◌, ◌++◌, ℕ, List, sym, ap, ◌∙◌}
use Rattle.json.specs.Print.{escape}
use Rattle.serde_json.proofs.OnLiterals.{serde_json_on_literals}
use Rattle.vx_center.specs.declared.rows.Final.{Final}
use Rattle.vx_cvr.specs.Report.{counted_in, snapshot_kind}
use Rattle.vx_cvr.specs.Texts.{items}
use Rattle.vx_cvr.proofs.Added.{add, add_closed, at_ok}
use Rattle.vx_cvr.proofs.Worded.{kind}
use Rattle.vx_cvr.proofs.sheets.push_snapshot.Goals as goal

pub returns : goal.returns
unfolding serde_json_on_literals
returns c =
    let finals : List Final = c.args.row.now.finals in
    let contests : c.push_contests.new.text ≡ c.push_bytes-2.new.text ++ items (counted_in c.args.election.now) finals = search rules in
    let word : c.push_bytes-4.new.text ≡ c.push_bytes-3.new.text ++ snapshot_kind finals = search rules in
    at_ok c.push_bytes-5.result _ _ c.push_bytes-5.ensures
    (λ last.
    add c.args.text.now _ _ c.push_bytes.new.text _ c.in_ok-push_bytes.ensures
    (add_closed c.push_bytes.new.text _ 34 _ c.push_name.new.text _ c.in_ok-push_name.ensures
    (add c.push_name.new.text _ _ c.push_bytes-2.new.text _ c.in_ok-push_bytes-2.ensures
    (add c.push_bytes-2.new.text _ _ c.push_contests.new.text _ contests
    (add c.push_contests.new.text _ _ c.push_bytes-3.new.text _ c.in_ok-push_bytes-3.ensures
    (add_closed c.push_bytes-3.new.text (escape (snapshot_kind finals)) 34 _ c.push_bytes-4.new.text _
    (word ∙ ap (λ (kind : List ℕ). c.push_bytes-3.new.text ++ kind) (sym (kind finals))) last))))))
