-- Histories, event after event.
use Rattle.std.proofs.Common.{◌≡◌, List, [], ◌∷◌, ◌++◌, length, refl, sym, ap, ◌∙◌, subst, append_assoc, append-nil}
use Rattle.vx_base.proofs.Lists.{at-seam, take-front}
use Rattle.vx_election_model.specs.declared.election.Election.{Election}
use Rattle.vx_events.specs.declared.event.Event.{Event}
use Rattle.vx_events.specs.Fits.{Fits}
use Rattle.vx_refusals.specs.declared.reply.Reply.TheVariants.{Done}
use Rattle.vx_center.specs.Histories.{IsHistory}
use Rattle.vx_center.specs.Replies.{reply_of}

module _ (election : Election) (front : List Event) (event : Event) (back : List Event) (history : IsHistory election (front ++ event ∷ back)) where
  -- an event of a history fits, and was answered with Done
  pub fits-there : Fits election event
  fits-there = history.fits (length front) event (at-seam front event back)

  pub done-there : reply_of election front event ≡ Done
  done-there =
      ap (λ (before : List Event). reply_of election before event) (sym (take-front front (event ∷ back) (length front) refl))
      ∙ history.done (length front) event (at-seam front event back)

-- what holds of no event, and of one more where it holds of those before, holds of a history
module _ (election : Election) (P : List Event → Type 0) (more : (kept : List Event) (event : Event) → P kept → Fits election event → reply_of election kept event ≡ Done → P (kept ++ event ∷ [])) where
  behind : (front back : List Event) → P front → IsHistory election (front ++ back) → P (front ++ back)
  behind front [] so history = subst P (sym (append-nil front)) so
  behind front (event ∷ back) so history =
      let split : (front ++ event ∷ []) ++ back ≡ front ++ event ∷ back = append_assoc front (event ∷ []) back in
      let Is : List Event → Type 0 = λ events. IsHistory election events in
      subst P split
      (behind (front ++ event ∷ []) back
      (more front event so (fits-there election front event back history) (done-there election front event back history))
      (subst Is (sym split) history))

  pub over-history : (kept : List Event) → P [] → IsHistory election kept → P kept
  over-history kept none history = behind [] kept none history
