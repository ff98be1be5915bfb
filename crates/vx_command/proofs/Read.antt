-- What a command reads: an election that is valid, and images that are whole.
use Rattle.std.proofs.Common.{◌≡◌, ℕ, ◌+◌, List, [], ◌∷◌, Option, Some, None, Result, Ok, Err, ap, subst}
use Rattle.std.specs.Prelude.{All, slice_get}
use Rattle.std.proofs.lemmas.List.Elements.{All-nil, All-append}
use Rattle.std.proofs.lemmas.Option.{get_or_from_slice_get, slice_get_within}
use Rattle.vx_base.proofs.Results.{bind_ok}
use Rattle.vx_plane.specs.Plane.{Page}
use Rattle.vx_election_model.specs.declared.election.Election.{Election}
use Rattle.vx_election.specs.declared.fault.ElectionFault.{ElectionFault}
use Rattle.vx_election.specs.Laws.{DefinedElectionsAreValid}
use Rattle.vx_election.specs.Reading.{election_of}
use Rattle.vx_io.specs.Outside.{Files}
use Rattle.vx_pbm.specs.declared.fault.PbmFault.{PbmFault}
use Rattle.vx_pbm.specs.Images.{images_of, ImagesAreWhole, IsWholePage}
use Rattle.vx_command.specs.declared.halt.Halt.{Halt}
use Rattle.vx_command.specs.Acts.{input_limit, input_of}
use Rattle.vx_command.specs.Elections.{election_read}
use Rattle.vx_command.specs.Images.{ScannedImagesAreWhole, images_and, images_in, unless_faulty_before}
use Rattle.vx_command.specs.Laws.{TakenElectionsAreValid}

-- the election that is read is one that bytes define
defined-read : (defined : Result Election ElectionFault) (election : Election) → election_read defined ≡ Ok election → defined ≡ Ok election
defined-read (Ok given) election is = let same : given ≡ election = cc in ap Ok same
defined-read (Err fault) election is = absurd cc

pub read-valid : DefinedElectionsAreValid → TakenElectionsAreValid
read-valid valid file election is =
    let step : (bytes : List ℕ) × (input_of 1 input_limit file ≡ Ok bytes) × (election_read (election_of bytes) ≡ Ok election) =
    bind_ok (input_of 1 input_limit file) (λ (bytes : List ℕ). election_read (election_of bytes)) election is in
    valid step.0 election (defined-read (election_of step.0) election step.2)

unless-whole : (fault : Option PbmFault) (more : List Page) → All IsWholePage more → All IsWholePage (unless_faulty_before fault more)
unless-whole None more all = all
unless-whole (Some fault) more all = All-nil IsWholePage

and-whole : ImagesAreWhole → (given : Result (List ℕ) Halt) (more : List Page) → All IsWholePage more → All IsWholePage (images_and given more)
and-whole whole (Err cause) more all = All-nil IsWholePage
and-whole whole (Ok bytes) more all =
    All-append IsWholePage (images_of bytes).pages (unless_faulty_before (images_of bytes).fault more) (whole bytes) (unless-whole (images_of bytes).fault more all)

in-whole : ImagesAreWhole → (files : Files) (word : ℕ) (names : List (List ℕ)) → All IsWholePage (images_in files word names)
in-whole whole files word [] = All-nil IsWholePage
in-whole whole files word (name ∷ names) =
    and-whole whole (input_of word input_limit (files name)) (images_in files (word + 1) names) (in-whole whole files (word + 1) names)

pub scanned-whole : ImagesAreWhole → ScannedImagesAreWhole
scanned-whole whole files word names place image at =
    subst IsWholePage (get_or_from_slice_get (images_in files word names) place image image at)
    (in-whole whole files word names place image (slice_get_within (images_in files word names) place image at))
