use Rattle.vx_command_gray.proofs.top.run_gray.Goals as goal

pub returns-clause-margin : goal.returns-clause-margin
returns-clause-margin g c files told scans spells = record {
  wrote = c.bitmaps_are_written.ensures.written files scans (g.S.Sink.taken c.args.out.now) (g.S.Sink.taken c.gray_words.new.out) c.gray_words.result
      (c.gray_words.ensures.done files told scans spells);
  read_back = c.bitmaps_are_written.ensures.read_back files scans;
  fit = c.bitmaps_are_written.ensures.fit files scans;
}
