-- Acts that are done in order, and steps between them.
use Rattle.std.proofs.Common.{◌≡◌, ◌⊎◌, inl, inr, ℕ, Bool, true, false, List, [], ◌∷◌, ◌++◌, Option, Some, None, Result, Ok, Err, refl, sym, ap, subst, ◌∙◌, append_assoc}
use Rattle.std.specs.Prelude.{MatchOption}
use Rattle.std.specs.List.{flat_map}
use Rattle.std.proofs.lemmas.List.{append-nil}
use Rattle.std.proofs.lemmas.Grind.{flat_map-append}
use Rattle.vx_base.specs.Refusals.{Gives}
use Rattle.vx_io.specs.Outside.{Took, TookFront}
use Rattle.vx_command.specs.declared.halt.Halt.{Halt}
use Rattle.vx_command.specs.declared.halt.Halt.TheVariants.{NoInput, TooLong, Election, Layout, Pbm, ReadFault, WriteFault, KeeperFault, NoMemory}
use Rattle.vx_command.specs.Acts.{Act, Answer, Take, ReadJournal, Write, Append, Outcome, text_of, records_of, work, writing, halted, after, goes_on, taking}
use Rattle.vx_command.specs.Done.{Taken, Held, BreaksAt, BreaksOff, IsWhole, IsDone, ComesTo, WritesTo}
use Rattle.vx_command.specs.Steps.{is_no_memory, GivesTaking}

-- what has grown at its end, as a sink's bytes and a keeper's records do; whether it tells doesn't change
abbrev Grew : {A : Type 0} → Option (List A) → Option (List A) → List A → Type 0
Grew old new more = MatchOption old (new ≡ None) (λ before. new ≡ Some (before ++ more))

grew_by_nothing : {A : Type 0} (told : Option (List A)) → Grew told told []
grew_by_nothing None = refl
grew_by_nothing (Some before) = ap Some (sym (append-nil before))

grew_twice : {A : Type 0} (a b c : Option (List A)) (s t : List A) → Grew a b s → Grew b c t → Grew a c (s ++ t)
grew_twice {A} None b c s t p q = let q' = subst (λ (o : Option (List A)). Grew o c t) p q in q'
grew_twice {A} (Some before) b c s t p q =
    let q' = subst (λ (o : Option (List A)). Grew o c t) p q in q' ∙ ap Some (append_assoc before s t)

-- where all acts are done and nothing of another stands, what stands is all that they make
all_made : {A : Type 0} (made_by : Act → List A) (acts done left : List Act) (part : List A) → acts ≡ done ++ left → left ≡ [] → part ≡ [] → flat_map made_by done ++ part ≡ flat_map made_by acts
all_made {A} made_by acts done left part are none nothing =
    ap (λ (s : List A). flat_map made_by done ++ s) nothing
    ∙ append-nil (flat_map made_by done)
    ∙ ap (flat_map made_by) (sym (append-nil done))
    ∙ ap (λ (l : List Act). flat_map made_by (done ++ l)) (sym none)
    ∙ ap (flat_map made_by) (sym are)

-- what acts make, and then what stands of others
made_then : {A : Type 0} (made_by : Act → List A) (acts done : List Act) (part : List A) → flat_map made_by acts ++ (flat_map made_by done ++ part) ≡ flat_map made_by (acts ++ done) ++ part
made_then {A} made_by acts done part =
    sym (append_assoc (flat_map made_by acts) (flat_map made_by done) part)
    ∙ ap (λ (s : List A). s ++ part) (sym (flat_map-append made_by acts done))

-- what grew by all that acts make, and then by what stands of others
grew_then : {A : Type 0} (made_by : Act → List A) (acts first left done : List Act) (nothing part : List A) (a b c : Option (List A)) → acts ≡ first ++ left → left ≡ [] → nothing ≡ [] → Grew a b (flat_map made_by first ++ nothing) → Grew b c (flat_map made_by done ++ part) → Grew a c (flat_map made_by (acts ++ done) ++ part)
grew_then {A} made_by acts first left done nothing part a b c are none is_nothing p q =
    let By : List A → Type 0 = λ s. Grew a c s in
    let Whole : List A → Type 0 = λ s. Grew a b s in
    subst By (made_then made_by acts done part)
    (grew_twice a b c (flat_map made_by acts) (flat_map made_by done ++ part) (subst Whole (all_made made_by acts first left nothing are none is_nothing) p) q)

whole_of : {P : Type 0} → P ⊎ ⊥ → P
whole_of (inl p) = p
whole_of (inr never) = absurd never

-- acts that are done, and then what is done of the rest
pub done_then : (acts : List Act) (rest : Outcome) (taken taken_now taken_then : Taken) (held held_now held_then : Held) (answer : Answer) → IsDone (work acts) taken taken_now held held_now (Ok tt) → IsDone rest taken_now taken_then held_now held_then answer → IsDone (after acts rest) taken taken_then held held_then answer
done_then acts rest taken taken_now taken_then held held_now held_then answer first second =
    let whole = whole_of first.ends in
    record {
      done = acts ++ second.done;
      left = second.left;
      are_acts = ap (λ (more : List Act). acts ++ more) second.are_acts ∙ sym (append_assoc acts second.done second.left);
      text = second.text;
      records = second.records;
      took = grew_then text_of acts first.done first.left second.done first.text second.text taken taken_now taken_then first.are_acts whole.all whole.no_more.0 first.took second.took;
      kept = grew_then records_of acts first.done first.left second.done first.records second.records held held_now held_then first.are_acts whole.all whole.no_more.1 first.kept second.kept;
      ends = second.ends;
    }

-- a break-off before some acts is one before more of them
breaks_longer : (cause : Halt) (acts more : List Act) (text : List ℕ) (records : List (List ℕ)) → BreaksAt cause acts text records → BreaksAt cause (acts ++ more) text records
breaks_longer ReadFault (Take word ∷ acts) more text records broke = broke
breaks_longer WriteFault (Write whole ∷ acts) more text records broke = broke
breaks_longer KeeperFault (ReadJournal ∷ acts) more text records broke = broke
breaks_longer KeeperFault (Append body ∷ acts) more text records broke = broke
breaks_longer NoMemory acts more text records broke = broke
breaks_longer cause acts more text records broke = absurd broke

broke_of : (cause : Halt) (left : List Act) (text : List ℕ) (records : List (List ℕ)) → IsWhole (Ok tt) (Err cause) left text records ⊎ BreaksOff (Err cause) left text records → BreaksAt cause left text records
broke_of cause left text records (inl whole) = let never = whole.same_answer in cc
broke_of cause left text records (inr broke) = broke

-- acts that broke off break the command off
pub broken_then : (acts : List Act) (rest : Outcome) (taken taken_now : Taken) (held held_now : Held) (cause : Halt) → IsDone (work acts) taken taken_now held held_now (Err cause) → IsDone (after acts rest) taken taken_now held held_now (Err cause)
broken_then acts rest taken taken_now held held_now cause first = record {
  done = first.done;
  left = first.left ++ rest.acts;
  are_acts = ap (λ (some : List Act). some ++ rest.acts) first.are_acts ∙ append_assoc first.done first.left rest.acts;
  text = first.text;
  records = first.records;
  took = first.took;
  kept = first.kept;
  ends = inr (breaks_longer cause first.left rest.acts first.text first.records (broke_of cause first.left first.text first.records first.ends));
}

-- acts that leave nothing behind are done
nothing_left : (done : List Act) (ends : Answer) (taken : Taken) (held : Held) → flat_map text_of done ++ [] ≡ [] → flat_map records_of done ++ [] ≡ [] → IsDone (record { acts = done; ends = ends }) taken taken held held ends
nothing_left done ends taken held no_text no_records =
    let Took : List ℕ → Type 0 = λ s. Grew taken taken s in
    let Kept : List (List ℕ) → Type 0 = λ s. Grew held held s in
    record {
      done = done;
      left = [];
      are_acts = sym (append-nil done);
      text = [];
      records = [];
      took = subst Took (sym no_text) (grew_by_nothing taken);
      kept = subst Kept (sym no_records) (grew_by_nothing held);
      ends = inl (record { all = refl; no_more = (refl, refl); same_answer = refl });
    }

-- a command that ends here is done
pub ended_here : (ends : Answer) (taken : Taken) (held : Held) → IsDone (record { acts = []; ends = ends }) taken taken held held ends
ended_here ends taken held = nothing_left [] ends taken held refl refl

-- an input that is taken
took_input : (word : ℕ) (taken : Taken) (held : Held) → IsDone (work (Take word ∷ [])) taken taken held held (Ok tt)
took_input word taken held = nothing_left (Take word ∷ []) (Ok tt) taken held refl refl

-- a command that broke off before its first act
broke_here : (outcome : Outcome) (taken : Taken) (held : Held) (cause : Halt) → BreaksAt cause outcome.acts [] [] → IsDone outcome taken taken held held (Err cause)
broke_here outcome taken held cause broke = record {
  done = [];
  left = outcome.acts;
  are_acts = refl;
  text = [];
  records = [];
  took = grew_by_nothing taken;
  kept = grew_by_nothing held;
  ends = inr broke;
}

-- memory may run out before any act
pub no_memory_here : (outcome : Outcome) (taken : Taken) (held : Held) → IsDone outcome taken taken held held (Err NoMemory)
no_memory_here outcome taken held = broke_here outcome taken held NoMemory (refl, refl)

-- a text that is written whole
pub wrote_text : (text : List ℕ) (taken taken_now : Taken) (held : Held) → Took taken taken_now text → IsDone (writing text) taken taken_now held held (Ok tt)
wrote_text text taken taken_now held took =
    let Whole : List ℕ → Type 0 = λ s. Took taken taken_now s in
    record {
      done = Write text ∷ [];
      left = [];
      are_acts = refl;
      text = [];
      records = [];
      took = subst Whole (sym (append-nil (text ++ []) ∙ append-nil text)) took;
      kept = grew_by_nothing held;
      ends = inl (record { all = refl; no_more = (refl, refl); same_answer = refl });
    }

-- one of which a front is written
pub wrote_front : (text : List ℕ) (taken taken_now : Taken) (held : Held) → TookFront taken taken_now text → IsDone (writing text) taken taken_now held held (Err WriteFault)
wrote_front text taken taken_now held front = record {
  done = [];
  left = Write text ∷ [];
  are_acts = refl;
  text = front.front;
  records = [];
  took = front.took;
  kept = grew_by_nothing held;
  ends = inr (front.is_prefix, refl);
}

module _ {A : Type 0} (word : ℕ) (defined : Result A Halt) (rest : A → Outcome) where
  -- a step that took its input and gives something
  pub comes_taking : (given : A) (taken : Taken) → defined ≡ Ok given → WritesTo (taking word defined rest) (rest given) taken taken
  comes_taking given taken is held taken_then held_then answer done =
      let Done : Result A Halt → Type 0 = λ result. IsDone (goes_on result rest) taken taken_then held held_then answer in
      done_then (Take word ∷ []) (goes_on defined rest) taken taken taken_then held held held_then answer (took_input word taken held) (subst Done (sym is) done)

  halts_taking : (cause : Halt) (taken : Taken) (held : Held) → (defined ≡ Err cause) ⊎ BreaksAt cause (Take word ∷ []) [] [] → IsDone (taking word defined rest) taken taken held held (Err cause)
  halts_taking cause taken held (inl is) =
      let Done : Result A Halt → Type 0 = λ result. IsDone (goes_on result rest) taken taken held held (Err cause) in
      done_then (Take word ∷ []) (goes_on defined rest) taken taken taken held held held (Err cause) (took_input word taken held) (subst Done (sym is) (ended_here (Err cause) taken held))
  halts_taking cause taken held (inr broke) =
      broke_here (taking word defined rest) taken held cause (breaks_longer cause (Take word ∷ []) (goes_on defined rest).acts [] [] broke)

  pub halted_taking : (cause : Halt) (taken : Taken) (held : Held) → GivesTaking word (Err cause) defined → IsDone (taking word defined rest) taken taken held held (Err cause)
  halted_taking cause taken held gives = halts_taking cause taken held gives

module _ {A : Type 0} (defined : Result A Halt) (rest : A → Outcome) where
  -- a step that gives something
  pub comes_on : (given : A) (taken : Taken) → defined ≡ Ok given → WritesTo (goes_on defined rest) (rest given) taken taken
  comes_on given taken is held taken_then held_then answer done =
      let Done : Result A Halt → Type 0 = λ result. IsDone (goes_on result rest) taken taken_then held held_then answer in
      subst Done (sym is) done

  halts_so : (cause : Halt) (taken : Taken) (held : Held) → defined ≡ Err cause → IsDone (goes_on defined rest) taken taken held held (Err cause)
  halts_so cause taken held is =
      let Done : Result A Halt → Type 0 = λ result. IsDone (goes_on result rest) taken taken held held (Err cause) in
      subst Done (sym is) (ended_here (Err cause) taken held)

  -- a step that gives nothing
  pub halted_here : (cause : Halt) (taken : Taken) (held : Held) → Gives {A = A} is_no_memory (Err cause) defined → IsDone (goes_on defined rest) taken taken held held (Err cause)
  halted_here NoMemory taken held gives = no_memory_here (goes_on defined rest) taken held
  halted_here cause taken held gives = halts_so cause taken held gives
