-- Steps that have no act of the sink, as far as they are done.
use Rattle.std.proofs.Common.{◌≡◌, ◌⊎◌, inl, inr, ℕ, List, [], ◌∷◌, ◌++◌, Some, None, Ok, Err, refl, sym, ap, subst}
use Rattle.std.proofs.lemmas.List.{append-nil}
use Rattle.vx_io.specs.Outside.{Took, Appends, MayAppend}
use Rattle.vx_command.specs.declared.halt.Halt.{Halt}
use Rattle.vx_command.specs.declared.halt.Halt.TheVariants.{KeeperFault, NoMemory}
use Rattle.vx_command.specs.Acts.{Act, Answer, ReadJournal, Append, Outcome, work}
use Rattle.vx_command.specs.Done.{Taken, Held, Keeps, BreaksAt, IsDone}
use Rattle.vx_journal.specs.Steps.{IsRecorded}

took_nothing : (taken : Taken) → Took taken taken []
took_nothing None = refl
took_nothing (Some before) = ap Some (sym (append-nil before))

kept_nothing : (held : Held) → Keeps held held []
kept_nothing None = refl
kept_nothing (Some records) = ap Some (sym (append-nil records))

-- a command that broke off before its first act
pub broke_before : (acts : List Act) (taken : Taken) (held : Held) (cause : Halt) → BreaksAt cause acts [] [] → IsDone (work acts) taken taken held held (Err cause)
broke_before acts taken held cause broke = record {
  done = [];
  left = acts;
  are_acts = refl;
  text = [];
  records = [];
  took = took_nothing taken;
  kept = kept_nothing held;
  ends = inr broke;
}

-- the journal was read
pub was_read : (taken : Taken) (held : Held) → IsDone (work (ReadJournal ∷ [])) taken taken held held (Ok tt)
was_read taken held = record {
  done = ReadJournal ∷ [];
  left = [];
  are_acts = refl;
  text = [];
  records = [];
  took = took_nothing taken;
  kept = kept_nothing held;
  ends = inl (record { all = refl; no_more = (refl, refl); same_answer = refl });
}

-- nothing was to be done
pub nothing_to_do : (held : Held) → IsRecorded [] held held (Ok tt)
nothing_to_do held taken = record {
  done = [];
  left = [];
  are_acts = refl;
  text = [];
  records = [];
  took = took_nothing taken;
  kept = kept_nothing held;
  ends = inl (record { all = refl; no_more = (refl, refl); same_answer = refl });
}

-- a record was appended
pub was_appended : (body : List ℕ) (held held_now : Held) → Appends held held_now body → IsRecorded (Append body ∷ []) held held_now (Ok tt)
was_appended body held held_now appends taken = record {
  done = Append body ∷ [];
  left = [];
  are_acts = refl;
  text = [];
  records = [];
  took = took_nothing taken;
  kept = appends;
  ends = inl (record { all = refl; no_more = (refl, refl); same_answer = refl });
}

-- the keeper failed: the record may have been appended
pub failed_to_append : (body : List ℕ) (held held_now : Held) → MayAppend held held_now body → IsRecorded (Append body ∷ []) held held_now (Err KeeperFault)
failed_to_append body held held_now (inl same) taken =
    let Done : Held → Type 0 = λ now. IsDone (work (Append body ∷ [])) taken taken held now (Err KeeperFault) in
    subst Done (sym same) (broke_before (Append body ∷ []) taken held KeeperFault (refl, inl refl))
failed_to_append body held held_now (inr appends) taken = record {
  done = [];
  left = Append body ∷ [];
  are_acts = refl;
  text = [];
  records = body ∷ [];
  took = took_nothing taken;
  kept = appends;
  ends = inr (refl, inr refl);
}

-- memory ran out
pub no_memory_to_append : (acts : List Act) (held held_now : Held) → held_now ≡ held → IsRecorded acts held held_now (Err NoMemory)
no_memory_to_append acts held held_now same taken =
    let Done : Held → Type 0 = λ now. IsDone (work acts) taken taken held now (Err NoMemory) in
    subst Done (sym same) (broke_before acts taken held NoMemory (refl, refl))
