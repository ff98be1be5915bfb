use Rattle.std.proofs.Common.{rules, ◌≡◌, ◌++◌, ◌∷◌, [], ℕ, List, ap, ◌∙◌}
use Rattle.std.specs.Prelude.{codes}
use Rattle.serde_json.specs.Data.{Data}
use Rattle.serde_json.proofs.OnLiterals.{serde_json_on_literals}
use Rattle.vx_center.specs.declared.rows.ExportSheet.{ExportSheet}
use Rattle.vx_election_model.specs.declared.election.Election.{Election}
use Rattle.vx_styles.specs.declared.card.Card.{Card}
use Rattle.vx_styles.specs.Cards.{card_at}
use Rattle.vx_cvr.specs.Json.{list, text}
use Rattle.vx_cvr.specs.Names.{sheet_name, snapshot_name}
use Rattle.vx_cvr.specs.Report.{snapshot}
use Rattle.vx_cvr.specs.Texts.{later_members, origin}
use Rattle.vx_cvr.proofs.Added.{add, add_closed, add_later, at_ok}
use Rattle.vx_cvr.proofs.sheets.push_sheet.Goals as goal

-- the members behind those that tell of the card and the batch
abbrev behind_origin : Election → ExportSheet → List (List ℕ × Data)
behind_origin election row =
    (codes "CVRSnapshot", list (snapshot election row ∷ []))
    ∷ (codes "CurrentSnapshotId", text (snapshot_name row.key))
    ∷ (codes "ElectionId", text (codes "election"))
    ∷ (codes "UniqueId", text (sheet_name row.key)) ∷ []

pub returns : goal.returns
unfolding serde_json_on_literals
returns c =
    let election : Election = c.args.election.now in
    let row : ExportSheet = c.args.row.now in
    let card : c.card_at-card.result ≡ card_at election row.card = search rules in
    let told : c.push_origin.new.text ≡ c.push_bytes.new.text ++ later_members (origin election (card_at election row.card) row) =
    c.in_ok-push_origin.ensures ∙ ap (λ (card : Card). c.push_bytes.new.text ++ later_members (origin election card row)) card in
    at_ok c.push_bytes-5.result _ _ c.push_bytes-5.ensures
    (λ last.
    add c.args.text.now _ _ c.push_bytes.new.text _ c.in_ok-push_bytes.ensures
    (add_later c.push_bytes.new.text (origin election (card_at election row.card) row) (behind_origin election row) c.push_origin.new.text _ told
    (add c.push_origin.new.text _ _ c.push_bytes-2.new.text _ c.in_ok-push_bytes-2.ensures
    (add_closed c.push_bytes-2.new.text _ 93 _ c.push_snapshot.new.text _ c.in_ok-push_snapshot.ensures
    (add c.push_snapshot.new.text _ _ c.push_bytes-3.new.text _ c.in_ok-push_bytes-3.ensures
    (add_closed c.push_bytes-3.new.text _ 34 _ c.push_name.new.text _ c.in_ok-push_name.ensures
    (add c.push_name.new.text _ _ c.push_bytes-4.new.text _ c.in_ok-push_bytes-4.ensures
    (add_closed c.push_bytes-4.new.text _ 34 _ c.push_name-2.new.text _ c.in_ok-push_name-2.ensures last))))))))
