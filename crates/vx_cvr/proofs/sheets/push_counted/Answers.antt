use Rattle.std.proofs.Common.{rules, ◌≡◌, ◌++◌, decimal}
use Rattle.json.specs.Print.{escape}
use Rattle.serde_json.proofs.OnLiterals.{serde_json_on_literals}
use Rattle.vx_center.specs.declared.rows.Final.{Final}
use Rattle.vx_election_model.specs.declared.contest.Contest.{Contest}
use Rattle.vx_cvr.specs.Json.{text}
use Rattle.vx_cvr.specs.Texts.{items}
use Rattle.vx_cvr.specs.Votes.{overvotes, status_words, undervotes, write_ins}
use Rattle.vx_cvr.proofs.Added.{add, add_closed, at_ok}
use Rattle.vx_cvr.proofs.sheets.push_counted.Goals as goal

pub returns : goal.returns
unfolding serde_json_on_literals
returns c =
    let contest : Contest = c.args.contest.now in
    let final : Final = c.args.counted.now in
    let named : c.push_text.new.text ≡ c.push_bytes-2.new.text ++ escape contest.id = search rules in
    let over : c.push_number.new.text ≡ c.push_bytes-3.new.text ++ decimal (overvotes contest final) = search rules in
    let words : c.push_bytes-5.new.text ≡ c.push_bytes-4.new.text ++ items text (status_words contest final) = search rules in
    let under : c.push_number-2.new.text ≡ c.push_bytes-6.new.text ++ decimal (undervotes contest final) = search rules in
    let slots : c.push_number-3.new.text ≡ c.push_bytes-7.new.text ++ decimal (write_ins contest final) = search rules in
    at_ok c.push_bytes-8.result _ _ c.push_bytes-8.ensures
    (λ last.
    add c.args.text.now _ _ c.push_bytes.new.text _ c.in_ok-push_bytes.ensures
    (add c.push_bytes.new.text _ _ c.push_selections.new.text _ c.in_ok-push_selections.ensures
    (add c.push_selections.new.text _ _ c.push_bytes-2.new.text _ c.in_ok-push_bytes-2.ensures
    (add_closed c.push_bytes-2.new.text _ 34 _ c.push_text.new.text _ named
    (add c.push_text.new.text _ _ c.push_bytes-3.new.text _ c.in_ok-push_bytes-3.ensures
    (add c.push_bytes-3.new.text _ _ c.push_number.new.text _ over
    (add c.push_number.new.text _ _ c.push_bytes-4.new.text _ c.in_ok-push_bytes-4.ensures
    (add c.push_bytes-4.new.text _ _ c.push_bytes-5.new.text _ words
    (add c.push_bytes-5.new.text _ _ c.push_bytes-6.new.text _ c.in_ok-push_bytes-6.ensures
    (add c.push_bytes-6.new.text _ _ c.push_number-2.new.text _ under
    (add c.push_number-2.new.text _ _ c.push_bytes-7.new.text _ c.in_ok-push_bytes-7.ensures
    (add c.push_bytes-7.new.text _ _ c.push_number-3.new.text _ slots last))))))))))))
