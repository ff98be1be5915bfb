use Rattle.std.proofs.Common.{◌∷◌, ◌∙◌, ap, sym, map, List}
use Rattle.std.specs.Prelude.{slice_get}
use Rattle.std.specs.Option.{option_map}
use Rattle.std.proofs.lemmas.Option.{slice_get-map}
use Rattle.vx_plane.specs.Plane.{Page}
use Rattle.vx_gray.specs.Gray.{bits_of}
use Rattle.vx_command.specs.Images.{images_in}
use Rattle.vx_command_gray.specs.Bitmaps.{grays_in}
use Rattle.vx_gray_read.proofs.Told.{hold-images, in-front}
use Rattle.vx_gray_read.proofs.laws.gray_scans_are_told.Goals as goal

pub returns-clause-images : goal.returns-clause-images
returns-clause-images c = hold-images c.bitmaps_are_written.ensures.written c.bitmaps_are_written.ensures.read_back

pub returns-clause-told : goal.returns-clause-told
returns-clause-told c scans files bitmaps later hold name more taken taken_now held held_now answer done election plans is_election are_plans
    place gray printed plan marks at fits =
    let images = hold-images c.bitmaps_are_written.ensures.written c.bitmaps_are_written.ensures.read_back scans files bitmaps later hold more in
    let found = c.bitmaps_are_written.ensures.fit files scans place gray election printed plan marks at fits in
    c.fitting_scans_are_told.ensures name (bitmaps ∷ more) later taken taken_now held held_now answer done election plans is_election are_plans
    place found.0 printed plan marks
    (ap (λ (pages : List Page). slice_get pages place) images
    ∙ in-front (map bits_of (grays_in files 1 scans)) (images_in later 3 more) place found.0
    (ap (λ images. slice_get images.pages place) (sym (c.bitmaps_are_written.ensures.read_back files scans)) ∙ found.1))
    found.2
