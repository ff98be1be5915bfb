-- Whole walks.
use Rattle.std.proofs.Common.{◌≡◌, ℕ, Bool, true, false, List, [], ◌∷◌, ◌++◌, Some, None, Err, ap, sym, ◌∙◌}
use Rattle.std.proofs.lemmas.List.{append-nil}
use Rattle.std.specs.Bool.{MatchBool}
use Rattle.vx_plane.specs.Plane.{Page}
use Rattle.vx_pbm.specs.declared.fault.PbmFault.{PbmFault}
use Rattle.vx_pbm.specs.Faults.{is_no_memory}
use Rattle.vx_pbm.specs.Images.{Unread, whole, may_be_plain, next_of, Images, with_page, ended, onwards, images_left, images_of, Gave, EndsWalk}
use Rattle.vx_pbm.proofs.Walks.{images_step, walks_page, walks_end}

-- the pages that a reader gave are the first ones of what was left
gave_first : (old new : Unread) (pages : List Page) → Gave old pages new → images_left old ≡ record { pages = pages ++ (images_left new).pages; fault = (images_left new).fault }
gave_first old new [] gave = ap images_left (sym gave)
gave_first old new (page ∷ pages) gave =
    walks_page old gave.0 page gave.1 ∙ ap (with_page page) (gave_first gave.0 new pages gave.2)

faulted : (memory : Bool) (unread : Unread) (fault : PbmFault) → memory ≡ false → MatchBool memory (may_be_plain unread ≡ true) (next_of unread ≡ Err fault) → images_left unread ≡ ended (Some fault)
faulted true unread fault other e = absurd cc
faulted false unread fault other e = images_step unread ∙ ap (onwards images_left) e

pages_and : List Page → Images → Images
pages_and pages images = record { pages = pages ++ images.pages; fault = images.fault }

-- a whole walk gives the images of the bytes
pub walks_all : (bytes : List ℕ) (pages : List Page) (unread : Unread) → Gave (whole bytes) pages unread → EndsWalk bytes pages unread
unfolding images_of pages_and
walks_all bytes pages unread gave =
    let first : images_left (whole bytes) ≡ pages_and pages (images_left unread) = gave_first (whole bytes) unread pages gave in
    record {
      at_end = λ e. first
          ∙ (ap (pages_and pages) (walks_end unread e.0)
          ∙ ap (λ ps. record { pages = ps; fault = None }) (append-nil pages));
      at_fault = λ fault other e. first
          ∙ (ap (pages_and pages) (faulted (is_no_memory fault) unread fault other e.0)
          ∙ ap (λ ps. record { pages = ps; fault = Some fault }) (append-nil pages));
    }
