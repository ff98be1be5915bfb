use Rattle.vx_records.specs.Records.{record_of}
use Rattle.std.proofs.Common.{[], ◌∷◌, ◌++◌}
use Rattle.vx_journal.proofs.Growing.{grows, reads_event}
use Rattle.vx_journal.proofs.laws.journals_grow.Goals as goal

pub returns : goal.returns
returns c election records events event begun fit held done =
    grows election (record_of event) events (events ++ event ∷ []) (reads_event election events event (c.records_are_read.ensures.given_back event held) fit done) records begun
