-- Records of acts that are done in order: a keeper has a front of them more.
use Rattle.std.proofs.Common.{◌≡◌, ◌⊎◌, inl, inr, ℕ, false, List, [], ◌∷◌, ◌++◌, Ok, Err, sym, ap, ◌∙◌, append_assoc}
use Rattle.std.specs.List.{flat_map}
use Rattle.std.proofs.lemmas.Grind.{flat_map-append}
use Rattle.vx_command.specs.declared.halt.Halt.{Halt}
use Rattle.vx_command.specs.declared.halt.Halt.TheVariants.{ReadFault, WriteFault, KeeperFault, NoMemory}
use Rattle.vx_command.specs.Acts.{Act, Answer, Take, ReadJournal, Write, Append, Outcome, records_of}
use Rattle.vx_command.specs.Done.{Taken, Held, Keeps, BreaksAt, BreaksOff, IsWhole, IsDone}
use Rattle.vx_command.specs.Texts.{broke_off}
use Rattle.vx_command_count.specs.Margin.{KeepsFront}

-- some records begin a list
record Begins (part whole : List (List ℕ)) : Type 0 where
  rest : List (List ℕ)
  is : whole ≡ part ++ rest

abbrev nothing-begins : (part whole : List (List ℕ)) → part ≡ [] → Begins part whole
nothing-begins part whole none = record { rest = whole; is = ap (λ (front : List (List ℕ)). front ++ whole) (sym none) }

appended-begins : (body : List ℕ) (more part : List (List ℕ)) → (part ≡ []) ⊎ (part ≡ body ∷ []) → Begins part (body ∷ more)
appended-begins body more part (inl none) = nothing-begins part (body ∷ more) none
appended-begins body more part (inr one) = record { rest = more; is = ap (λ (front : List (List ℕ)). front ++ more) (sym one) }

-- what stands of the first act that isn't done begins the records of the acts that are left
broken-begins : (cause : Halt) (left : List Act) (text : List ℕ) (part : List (List ℕ)) → BreaksAt cause left text part
    → Begins part (flat_map records_of left)
broken-begins ReadFault (Take word ∷ acts) text part broke = nothing-begins part (flat_map records_of acts) broke.1
broken-begins WriteFault (Write whole ∷ acts) text part broke = nothing-begins part (flat_map records_of acts) broke.1
broken-begins KeeperFault (ReadJournal ∷ acts) text part broke = nothing-begins part (flat_map records_of acts) broke.1
broken-begins KeeperFault (Append body ∷ acts) text part broke = appended-begins body (flat_map records_of acts) part broke.1
broken-begins NoMemory acts text part broke = nothing-begins part (flat_map records_of acts) broke.1
broken-begins cause acts text part broke = absurd broke

-- a command that broke off says so
never-broke : (cause : Halt) (left : List Act) (text : List ℕ) (part : List (List ℕ)) → broke_off (Err cause) ≡ false
    → BreaksAt cause left text part → ⊥
never-broke ReadFault left text part whole broke = cc
never-broke WriteFault left text part whole broke = cc
never-broke KeeperFault left text part whole broke = cc
never-broke NoMemory left text part whole broke = cc
never-broke cause left text part whole broke = broke

module _ (acts done left : List Act) (part : List (List ℕ)) (held held_now : Held) (are : acts ≡ done ++ left)
    (kept : Keeps held held_now (flat_map records_of done ++ part)) where
  front-kept : (answer : Answer) (begins : Begins part (flat_map records_of left)) → (broke_off answer ≡ false → begins.rest ≡ [])
      → KeepsFront (flat_map records_of acts) held held_now answer
  front-kept answer begins whole = record {
    front = flat_map records_of done ++ part;
    rest = begins.rest;
    are =
        ap (flat_map records_of) are
        ∙ flat_map-append records_of done left
        ∙ ap (λ (more : List (List ℕ)). flat_map records_of done ++ more) begins.is
        ∙ sym (append_assoc (flat_map records_of done) part begins.rest);
    kept = kept;
    whole = whole;
  }

  ended : (ends answer : Answer) (text : List ℕ) → IsWhole ends answer left text part ⊎ BreaksOff answer left text part
      → KeepsFront (flat_map records_of acts) held held_now answer
  ended ends answer text (inl whole) =
      front-kept answer (nothing-begins part (flat_map records_of left) whole.no_more.1) (λ unbroken. ap (flat_map records_of) whole.all)
  ended ends (Ok done) text (inr broke) = absurd broke
  ended ends (Err cause) text (inr broke) =
      front-kept (Err cause) (broken-begins cause left text part broke) (λ unbroken. absurd (never-broke cause left text part unbroken broke))

-- what a keeper has more, however far a command has come
pub kept-records : (outcome : Outcome) (taken taken_now : Taken) (held held_now : Held) (answer : Answer)
    → IsDone outcome taken taken_now held held_now answer → KeepsFront (flat_map records_of outcome.acts) held held_now answer
kept-records outcome taken taken_now held held_now answer it =
    ended outcome.acts it.done it.left it.records held held_now it.are_acts it.kept outcome.ends answer it.text it.ends
