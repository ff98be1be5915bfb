use Rattle.std.proofs.Common.{rules, ◌≡◌, ◌++◌, ℕ, decimal}
use Rattle.json.specs.Print.{escape}
use Rattle.serde_json.proofs.OnLiterals.{serde_json_on_literals}
use Rattle.vx_cvr.specs.Names.{hyphened}
use Rattle.vx_cvr.specs.Report.{voted_for}
use Rattle.vx_cvr.specs.Votes.{candidate_of}
use Rattle.vx_cvr.proofs.Added.{add, add_closed, at_ok}
use Rattle.vx_cvr.proofs.sheets.push_selected.Goals as goal

pub returns : goal.returns
unfolding serde_json_on_literals
returns c =
    let option : ℕ = voted_for c.args.option (candidate_of c.args.contest.now c.args.counted.now c.args.option) in
    let named : c.push_numbered.new.text ≡ c.push_bytes.new.text ++ escape (hyphened c.args.contest.now.id (decimal option)) = search rules in
    at_ok c.push_bytes-3.result _ _ c.push_bytes-3.ensures
    (λ last.
    add c.args.text.now _ _ c.push_bytes.new.text _ c.in_ok-push_bytes.ensures
    (add_closed c.push_bytes.new.text _ 34 _ c.push_numbered.new.text _ named
    (add c.push_numbered.new.text _ _ c.push_bytes-2.new.text _ c.in_ok-push_bytes-2.ensures
    (add_closed c.push_bytes-2.new.text _ 93 _ c.push_position.new.text _ c.in_ok-push_position.ensures last))))
