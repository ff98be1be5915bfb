-- What a command wrote, as one text: the texts of its acts in order, so far as the acts are done.
use Rattle.std.specs.Prelude.{◌≡◌, ℕ, Bool, true, false, List, Err}
use Rattle.std.specs.List.{flat_map}
use Rattle.vx_io.specs.Outside.{Took, TookFront}
use Rattle.vx_command.specs.declared.halt.Halt.TheVariants.{ReadFault, WriteFault, KeeperFault, NoMemory}
use Rattle.vx_command.specs.Acts.{Answer, Outcome, text_of}
use Rattle.vx_command.specs.Done.{Taken, Held, IsDone}

-- the answer of a command that broke off: a device failed, or memory ran out
abbrev pub broke_off : Answer → Bool
broke_off (Err ReadFault) = true
broke_off (Err WriteFault) = true
broke_off (Err KeeperFault) = true
broke_off (Err NoMemory) = true
broke_off answer = false

-- a sink has taken a front of a text, and the whole of it unless the command broke off
pub record Wrote (text : List ℕ) (taken taken_now : Taken) (answer : Answer) : Type 0 where
  pub front : TookFront taken taken_now text
  pub whole : broke_off answer ≡ false → Took taken taken_now text

-- the texts that an outcome's acts write, one after another
abbrev pub texts_of : Outcome → List ℕ
texts_of outcome = flat_map text_of outcome.acts

-- however far a command has come, it wrote the texts of its acts in order
abbrev pub TextsInOrder : Type 0
TextsInOrder =
    (outcome : Outcome) (taken taken_now : Taken) (held held_now : Held) (answer : Answer)
    → IsDone outcome taken taken_now held held_now answer → Wrote (texts_of outcome) taken taken_now answer
