-- Texts of acts that are done in order.
use Rattle.std.proofs.Common.{◌≡◌, ◌⊎◌, inl, inr, ℕ, false, List, [], ◌∷◌, ◌++◌, Ok, Err, sym, ap, subst, ◌∙◌, append_assoc}
use Rattle.std.specs.List.{flat_map}
use Rattle.std.proofs.lemmas.List.{append-nil}
use Rattle.std.proofs.lemmas.Grind.{flat_map-append}
use Rattle.vx_io.specs.Outside.{IsPrefix, Took}
use Rattle.vx_command.specs.declared.halt.Halt.{Halt}
use Rattle.vx_command.specs.declared.halt.Halt.TheVariants.{ReadFault, WriteFault, KeeperFault, NoMemory}
use Rattle.vx_command.specs.Acts.{Act, Answer, Take, ReadJournal, Write, Append, Outcome, text_of}
use Rattle.vx_command.specs.Done.{Taken, Held, BreaksAt, BreaksOff, IsWhole, IsDone}
use Rattle.vx_command.specs.Texts.{broke_off, Wrote, texts_of}

-- nothing begins a text
nothing-begins : (part text : List ℕ) → part ≡ [] → IsPrefix part text
nothing-begins part text none = record { rest = text; is = ap (λ (front : List ℕ). front ++ text) (sym none) }

-- what stands of the first act that isn't done begins the texts of the acts that are left
broken-begins : (cause : Halt) (left : List Act) (part : List ℕ) (records : List (List ℕ)) → BreaksAt cause left part records
    → IsPrefix part (flat_map text_of left)
broken-begins ReadFault (Take word ∷ acts) part records broke = nothing-begins part (flat_map text_of acts) broke.0
broken-begins WriteFault (Write whole ∷ acts) part records broke = record {
  rest = broke.0.rest ++ flat_map text_of acts;
  is = ap (λ (text : List ℕ). text ++ flat_map text_of acts) broke.0.is ∙ append_assoc part broke.0.rest (flat_map text_of acts);
}
broken-begins KeeperFault (ReadJournal ∷ acts) part records broke = nothing-begins part (flat_map text_of acts) broke.0
broken-begins KeeperFault (Append body ∷ acts) part records broke = nothing-begins part (flat_map text_of acts) broke.0
broken-begins NoMemory acts part records broke = nothing-begins part (flat_map text_of acts) broke.0
broken-begins cause acts part records broke = absurd broke

part-begins : (ends answer : Answer) (left : List Act) (part : List ℕ) (records : List (List ℕ))
    → IsWhole ends answer left part records ⊎ BreaksOff answer left part records → IsPrefix part (flat_map text_of left)
part-begins ends answer left part records (inl whole) = nothing-begins part (flat_map text_of left) whole.no_more.0
part-begins ends (Ok done) left part records (inr broke) = absurd broke
part-begins ends (Err cause) left part records (inr broke) = broken-begins cause left part records broke

-- what stands of acts begins the texts of all of them
acts-begin : (acts done left : List Act) (part : List ℕ) → acts ≡ done ++ left → IsPrefix part (flat_map text_of left)
    → IsPrefix (flat_map text_of done ++ part) (flat_map text_of acts)
acts-begin acts done left part are begins = record {
  rest = begins.rest;
  is =
      ap (flat_map text_of) are
      ∙ flat_map-append text_of done left
      ∙ ap (λ (text : List ℕ). flat_map text_of done ++ text) begins.is
      ∙ sym (append_assoc (flat_map text_of done) part begins.rest);
}

-- a command that didn't break off has done all its acts
never-broke : (cause : Halt) (left : List Act) (part : List ℕ) (records : List (List ℕ)) → broke_off (Err cause) ≡ false
    → BreaksAt cause left part records → ⊥
never-broke ReadFault left part records whole broke = cc
never-broke WriteFault left part records whole broke = cc
never-broke KeeperFault left part records whole broke = cc
never-broke NoMemory left part records whole broke = cc
never-broke cause left part records whole broke = broke

all-done : (ends answer : Answer) (left : List Act) (part : List ℕ) (records : List (List ℕ)) → broke_off answer ≡ false
    → IsWhole ends answer left part records ⊎ BreaksOff answer left part records → (left ≡ []) × (part ≡ [])
all-done ends answer left part records whole (inl all) = (all.all, all.no_more.0)
all-done ends (Ok done) left part records whole (inr broke) = absurd broke
all-done ends (Err cause) left part records whole (inr broke) = absurd (never-broke cause left part records whole broke)

all-texts : (acts done left : List Act) (part : List ℕ) → acts ≡ done ++ left → (left ≡ []) × (part ≡ [])
    → flat_map text_of done ++ part ≡ flat_map text_of acts
all-texts acts done left part are none =
    ap (λ (text : List ℕ). flat_map text_of done ++ text) none.1
    ∙ append-nil (flat_map text_of done)
    ∙ ap (flat_map text_of) (sym (append-nil done))
    ∙ ap (λ (more : List Act). flat_map text_of (done ++ more)) (sym none.0)
    ∙ ap (flat_map text_of) (sym are)

-- what a command wrote, however far it has come
pub wrote-texts : (outcome : Outcome) (taken taken_now : Taken) (held held_now : Held) (answer : Answer)
    → IsDone outcome taken taken_now held held_now answer → Wrote (texts_of outcome) taken taken_now answer
wrote-texts outcome taken taken_now held held_now answer it =
    let Whole : List ℕ → Type 0 = λ text. Took taken taken_now text in
    record {
      front = record {
        front = flat_map text_of it.done ++ it.text;
        took = it.took;
        is_prefix = acts-begin outcome.acts it.done it.left it.text it.are_acts (part-begins outcome.ends answer it.left it.text it.records it.ends);
      };
      whole = λ unbroken.
          subst Whole
          (all-texts outcome.acts it.done it.left it.text it.are_acts (all-done outcome.ends answer it.left it.text it.records unbroken it.ends))
          it.took;
    }
