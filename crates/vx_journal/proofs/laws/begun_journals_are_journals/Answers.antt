use Rattle.vx_base.proofs.Results.{is-ok_from}
use Rattle.vx_journal.specs.Replay.{replay_of}
use Rattle.vx_journal.proofs.laws.begun_journals_are_journals.Goals as goal

pub returns : goal.returns
returns c election records events begun = is-ok_from (replay_of election records) events begun.replays
