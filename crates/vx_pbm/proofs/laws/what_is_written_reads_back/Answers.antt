use Rattle.vx_pbm.proofs.Backs.{reads_back}
use Rattle.vx_pbm.proofs.laws.what_is_written_reads_back.Goals as goal

pub returns : goal.returns
returns c = reads_back c.rasters_show_their_pages.ensures
