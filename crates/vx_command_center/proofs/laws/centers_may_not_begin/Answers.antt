use Rattle.vx_command.specs.Elections.{election_in}
use Rattle.vx_journal.specs.Replay.{replay_of}
use Rattle.vx_command_center.specs.Outcome.{center_outcome, items_taken}
use Rattle.vx_command_center.proofs.Chosen.{chosen}
use Rattle.vx_command_center.proofs.laws.centers_may_not_begin.Goals as goal

pub returns : goal.returns
returns c name moment device words files records taken held =
    let it = chosen c.lists_have_histories.ensures (election_in (files name)) (λ election. replay_of election records) (λ election. items_taken election files 4 0 words) in
    record {
      history = it.history;
      of_items = it.of_items;
      done = c.acts_in_order.ensures.no_memory (center_outcome name moment device words files records it.history) taken held;
    }
