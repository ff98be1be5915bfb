use Rattle.std.proofs.Common.{List, ℕ, None, ap, subst, ◌∙◌}
use Rattle.std.specs.Prelude.{slice_get}
use Rattle.std.specs.Option.{option_map}
use Rattle.std.proofs.lemmas.Option.{slice_get-map}
use Rattle.vx_pbm.specs.Images.{Images}
use Rattle.vx_gray.specs.Gray.{bits_of}
use Rattle.vx_command.specs.Texts.{Wrote}
use Rattle.vx_command_gray.specs.Bitmaps.{grays_in}
use Rattle.vx_command_gray.specs.Outcome.{as_command, gray_outcome}
use Rattle.vx_command_gray.specs.Status.{answer_of}
use Rattle.vx_command_gray.proofs.Bitmaps.{scans-texts, grays-sized, reads-bits}
use Rattle.vx_command_gray.proofs.laws.bitmaps_are_written.Goals as goal

pub returns-clause-written : goal.returns-clause-written
returns-clause-written c files scans taken taken_now status done =
    subst (λ (text : List ℕ). Wrote text taken taken_now (answer_of status)) (scans-texts files 1 scans)
    (c.texts_in_order.ensures (as_command (gray_outcome scans files)) taken taken_now None None (answer_of status) (done.acts None))

pub returns-clause-read_back : goal.returns-clause-read_back
returns-clause-read_back c files scans =
    reads-bits c.raw_images_join.ensures c.what_is_written_reads_back.ensures (grays_in files 1 scans) (grays-sized c.images_are_sized.ensures files 1 scans)

pub returns-clause-fit : goal.returns-clause-fit
returns-clause-fit c files scans place gray election printed plan marks at fits = (
  bits_of gray,
  ap (λ (images : Images). slice_get images.pages place)
      (reads-bits c.raw_images_join.ensures c.what_is_written_reads_back.ensures (grays_in files 1 scans)
      (grays-sized c.images_are_sized.ensures files 1 scans))
      ∙ (slice_get-map bits_of (grays_in files 1 scans) place ∙ ap (option_map bits_of) at),
  c.bits_fit.ensures.fit election gray printed plan marks fits,
)
