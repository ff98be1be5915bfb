-- What is answered to an event, as text: a refusal's number, its words and its values.
use Rattle.std.specs.Prelude.{ℕ, List, ◌++◌, ◌∷◌, codes}
use Rattle.std.specs.Fmt.{decimal}
use Rattle.vx_refusals.specs.declared.reply.Reply.{Reply}
use Rattle.vx_refusals.specs.declared.reply.Reply.TheVariants.{Done, Repeated, NoSheet, HeldBy, NotHeld, NotOnSheet, NotAnOption, OverSeats, StillMarginal, NoWriteIn, Full}

abbrev pub reply_text : Reply → List ℕ
reply_text Done = codes "done"
reply_text (Repeated place) = codes "1 repeated " ++ decimal place
reply_text NoSheet = codes "2 no sheet"
reply_text (HeldBy station) = codes "3 held by " ++ decimal station
reply_text NotHeld = codes "4 not held"
reply_text (NotOnSheet contest) = codes "5 not on sheet " ++ decimal contest
reply_text (NotAnOption option) = codes "6 not an option " ++ decimal option
reply_text (OverSeats given seats) = codes "7 over seats " ++ decimal given ++ 32 ∷ decimal seats
reply_text (StillMarginal option) = codes "8 still marginal " ++ decimal option
reply_text (NoWriteIn slot) = codes "9 no write-in " ++ decimal slot
reply_text (Full most) = codes "10 full " ++ decimal most
