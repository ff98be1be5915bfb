-- Answers that keep their event, and those that don't.
use Rattle.std.proofs.Common.{◌≡◌, true, false, refl}
use Rattle.vx_refusals.specs.declared.reply.Reply.{Reply}
use Rattle.vx_refusals.specs.declared.reply.Reply.TheVariants.{Done, Repeated, NoSheet, HeldBy, NotHeld, NotOnSheet, NotAnOption, OverSeats, StillMarginal, NoWriteIn, Full}
use Rattle.vx_center.specs.Replies.{is_done}
use Rattle.vx_center.specs.Laws.{RepliesAreDoneOrRefuse}

done-is : (reply : Reply) → is_done reply ≡ true → reply ≡ Done
done-is Done is = refl
done-is (Repeated place) is = absurd cc
done-is NoSheet is = absurd cc
done-is (HeldBy station) is = absurd cc
done-is NotHeld is = absurd cc
done-is (NotOnSheet contest) is = absurd cc
done-is (NotAnOption option) is = absurd cc
done-is (OverSeats given seats) is = absurd cc
done-is (StillMarginal option) is = absurd cc
done-is (NoWriteIn slot) is = absurd cc
done-is (Full count) is = absurd cc

is-refusal : (reply : Reply) → (reply ≡ Done → ⊥) → is_done reply ≡ false
is-refusal Done never = absurd (never refl)
is-refusal (Repeated place) never = refl
is-refusal NoSheet never = refl
is-refusal (HeldBy station) never = refl
is-refusal NotHeld never = refl
is-refusal (NotOnSheet contest) never = refl
is-refusal (NotAnOption option) never = refl
is-refusal (OverSeats given seats) never = refl
is-refusal (StillMarginal option) never = refl
is-refusal (NoWriteIn slot) never = refl
is-refusal (Full count) never = refl

pub done-or_refused : RepliesAreDoneOrRefuse
done-or_refused = record { done = done-is; refused = is-refusal }
