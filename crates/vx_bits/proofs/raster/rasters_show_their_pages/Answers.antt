use Rattle.vx_bits.proofs.Rasters.{raster-size, raster-shows}
use Rattle.vx_bits.proofs.raster.rasters_show_their_pages.Goals as goal

pub returns : goal.returns
returns c = record { size = raster-size; shows = raster-shows }
