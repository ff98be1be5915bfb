use Rattle.std.proofs.Common.{◌∙◌, ◌++◌, ℕ, List, map, ap}
use Rattle.vx_board.specs.Ballots.{ballot_of}
use Rattle.vx_board.specs.Data.{data_text, page_text}
use Rattle.vx_board.specs.Page.{head, tail}
use Rattle.vx_board.proofs.boarding.page_of.Goals as goal

pub returns : goal.returns
unfolding page_text
returns c =
    let lines : List ℕ = data_text c.args.election.now (map ballot_of c.args.rows.now) c.args.word.now c.args.size in
    c.in_ok-push_tail.ensures
    ∙ ap (λ (text : List ℕ). text ++ tail)
    (c.in_ok-push_data.ensures
    ∙ ap (λ (text : List ℕ). text ++ lines)
    (c.in_ok-push_head.ensures ∙ ap (λ (text : List ℕ). text ++ head) c.new-text.ensures))
