use Rattle.std.proofs.Common.{rules, ◌≡◌, ◌++◌, ◌+◌, ◌/◌, decimal}
use Rattle.std.specs.Prelude.{slice_index_or}
use Rattle.json.specs.Print.{escape}
use Rattle.serde_json.proofs.OnLiterals.{serde_json_on_literals}
use Rattle.vx_election_model.specs.declared.election.Election.{Election}
use Rattle.vx_styles.specs.Cards.{no_style}
use Rattle.vx_cvr.specs.Report.{no_precinct}
use Rattle.vx_cvr.proofs.Added.{add, add_closed, at_ok}
use Rattle.vx_cvr.proofs.sheets.push_origin.Goals as goal

pub returns : goal.returns
unfolding serde_json_on_literals
returns c =
    let election : Election = c.args.election.now in
    let leaf : c.push_digits.new.text ≡ c.push_bytes.new.text ++ escape (decimal ((c.args.row.now.front + 1) / 2)) = search rules in
    let style : c.push_text.new.text ≡ c.push_bytes-2.new.text ++ escape (slice_index_or election.styles c.args.card.style no_style).id = search rules in
    let precinct : c.push_text-2.new.text ≡ c.push_bytes-3.new.text ++ escape (slice_index_or election.precincts c.args.card.precinct no_precinct).id = search rules in
    let batch : c.push_text-3.new.text ≡ c.push_bytes-4.new.text ++ escape c.args.row.now.key.batch = search rules in
    at_ok c.push_bytes-5.result _ _ c.push_bytes-5.ensures
    (λ last.
    add c.args.text.now _ _ c.push_bytes.new.text _ c.in_ok-push_bytes.ensures
    (add_closed c.push_bytes.new.text _ 34 _ c.push_digits.new.text _ leaf
    (add c.push_digits.new.text _ _ c.push_bytes-2.new.text _ c.in_ok-push_bytes-2.ensures
    (add_closed c.push_bytes-2.new.text _ 34 _ c.push_text.new.text _ style
    (add c.push_text.new.text _ _ c.push_bytes-3.new.text _ c.in_ok-push_bytes-3.ensures
    (add_closed c.push_bytes-3.new.text _ 34 _ c.push_text-2.new.text _ precinct
    (add c.push_text-2.new.text _ _ c.push_bytes-4.new.text _ c.in_ok-push_bytes-4.ensures
    (add_closed c.push_bytes-4.new.text _ 34 _ c.push_text-3.new.text _ batch last))))))))
