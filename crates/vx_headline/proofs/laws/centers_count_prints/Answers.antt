use Rattle.vx_headline.proofs.Centered.{centers-count-prints}
use Rattle.vx_headline.proofs.laws.centers_count_prints.Goals as goal

pub returns : goal.returns
returns c =
    centers-count-prints c.clean_prints_fit.ensures.clean c.fitting_sheets_are_read.ensures c.raw_images_join.ensures c.what_is_written_reads_back.ensures
    c.centers_count_stacks.ensures
