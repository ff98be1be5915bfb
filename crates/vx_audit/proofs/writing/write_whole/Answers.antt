use Rattle.vx_audit.proofs.Acts.{written_late, written_stops}
use Rattle.vx_audit.proofs.writing.write_whole.Goals as goal

pub status_of_halt-requires : goal.status_of_halt-requires
status_of_halt-requires g c = written_stops _ _ _ c.in-Err.cause c.in-Err.ensures.sink.no_keeper_fault c.in-Err.ensures.done

pub returns-in-Err-clause-late : goal.returns-in-Err-clause-late
returns-in-Err-clause-late g c =
    written_late _ _ _ c.in-Err.cause c.status_of_halt.result c.in-Err.ensures.sink.no_read_fault c.in-Err.ensures.done c.status_of_halt.ensures
