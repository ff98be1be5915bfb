use Rattle.std.proofs.Common.{rules, ◌≡◌, ◌++◌, ◌∷◌, [], ℕ, List, sym, ap, ◌∙◌, decimal}
use Rattle.std.specs.Prelude.{codes}
use Rattle.json.specs.Print.{escape}
use Rattle.serde_json.specs.Data.{Data}
use Rattle.serde_json.proofs.OnLiterals.{serde_json_on_literals}
use Rattle.vx_center.specs.declared.rows.Final.{Final}
use Rattle.vx_election_model.specs.declared.contest.Contest.{Contest}
use Rattle.vx_cvr.specs.Json.{text, whole}
use Rattle.vx_cvr.specs.Report.{write_in}
use Rattle.vx_cvr.specs.Texts.{later_members}
use Rattle.vx_cvr.specs.Votes.{allocable, indication_of, name_of, votes_of}
use Rattle.vx_cvr.proofs.Added.{add, add_closed, add_later, at_ok}
use Rattle.vx_cvr.proofs.Worded.{allocated, indicated}
use Rattle.vx_cvr.proofs.sheets.push_position.Goals as goal

-- the members behind the name of a write-in slot
abbrev behind_name : Contest → Final → ℕ → List (List ℕ × Data)
behind_name contest final option =
    (codes "HasIndication", text (indication_of final option))
    ∷ (codes "IsAllocable", text (allocable contest final option))
    ∷ (codes "NumberVotes", whole (votes_of contest final option)) ∷ []

pub returns : goal.returns
unfolding serde_json_on_literals
returns c =
    let contest : Contest = c.args.contest.now in
    let final : Final = c.args.counted.now in
    let option : ℕ = c.args.option in
    let named : c.push_write_in.new.text ≡ c.push_bytes.new.text ++ later_members (write_in contest (name_of contest final option)) = search rules in
    let read : c.push_bytes-3.new.text ≡ c.push_bytes-2.new.text ++ indication_of final option = search rules in
    let given : c.push_bytes-5.new.text ≡ c.push_bytes-4.new.text ++ allocable contest final option = search rules in
    let votes : c.push_number.new.text ≡ c.push_bytes-6.new.text ++ decimal (votes_of contest final option) = search rules in
    at_ok c.push_bytes-7.result _ _ c.push_bytes-7.ensures
    (λ last.
    add c.args.text.now _ _ c.push_bytes.new.text _ c.in_ok-push_bytes.ensures
    (add_later c.push_bytes.new.text (write_in contest (name_of contest final option)) (behind_name contest final option) c.push_write_in.new.text _ named
    (add c.push_write_in.new.text _ _ c.push_bytes-2.new.text _ c.in_ok-push_bytes-2.ensures
    (add_closed c.push_bytes-2.new.text (escape (indication_of final option)) 34 _ c.push_bytes-3.new.text _
    (read ∙ ap (λ (word : List ℕ). c.push_bytes-2.new.text ++ word) (sym (indicated final option)))
    (add c.push_bytes-3.new.text _ _ c.push_bytes-4.new.text _ c.in_ok-push_bytes-4.ensures
    (add_closed c.push_bytes-4.new.text (escape (allocable contest final option)) 34 _ c.push_bytes-5.new.text _
    (given ∙ ap (λ (word : List ℕ). c.push_bytes-4.new.text ++ word) (sym (allocated contest final option)))
    (add c.push_bytes-5.new.text _ _ c.push_bytes-6.new.text _ c.in_ok-push_bytes-6.ensures
    (add c.push_bytes-6.new.text _ _ c.push_number.new.text _ votes last))))))))
