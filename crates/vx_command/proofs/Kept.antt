-- What a command leaves of the records that a keeper holds.
use Rattle.std.proofs.Common.{◌≡◌, ◌⊎◌, inl, inr, ℕ, false, List, [], ◌∷◌, ◌++◌, Some, None, Ok, Err, refl, sym, ap, ◌∙◌, append_assoc, append-nil}
use Rattle.std.specs.List.{flat_map}
use Rattle.std.proofs.lemmas.Grind.{flat_map-append}
use Rattle.std.proofs.lemmas.Option.{same_Some}
use Rattle.vx_command.specs.declared.halt.Halt.{Halt}
use Rattle.vx_command.specs.declared.halt.Halt.TheVariants.{ReadFault, WriteFault, KeeperFault, NoMemory}
use Rattle.vx_command.specs.Acts.{Act, Answer, Append, Outcome, ReadJournal, Take, Write, records_of}
use Rattle.vx_command.specs.Done.{BreaksAt, BreaksOff, IsDone, IsWhole, Taken}
use Rattle.vx_command.specs.Kept.{RecordsInOrder, records_behind}
use Rattle.vx_command.specs.Texts.{broke_off}

-- a command that didn't break off has done all its acts
never-broke : (cause : Halt) (left : List Act) (text : List ℕ) (part : List (List ℕ)) → broke_off (Err cause) ≡ false → BreaksAt cause left text part → ⊥
never-broke ReadFault left text part whole broke = cc
never-broke WriteFault left text part whole broke = cc
never-broke KeeperFault left text part whole broke = cc
never-broke NoMemory left text part whole broke = cc
never-broke cause left text part whole broke = broke

all-done : (ends answer : Answer) (left : List Act) (text : List ℕ) (part : List (List ℕ)) → broke_off answer ≡ false
    → IsWhole ends answer left text part ⊎ BreaksOff answer left text part → (left ≡ []) × (part ≡ [])
all-done ends answer left text part whole (inl all) = (all.all, all.no_more.1)
all-done ends (Ok done) left text part whole (inr broke) = absurd broke
all-done ends (Err cause) left text part whole (inr broke) = absurd (never-broke cause left text part whole broke)

all-records : (outcome : Outcome) (taken taken_now : Taken) (records left : List (List ℕ)) (answer : Answer)
    → IsDone outcome taken taken_now (Some records) (Some left) answer → broke_off answer ≡ false
    → left ≡ records ++ flat_map records_of outcome.acts
all-records outcome taken taken_now records left answer done whole =
    let all = all-done outcome.ends answer done.left done.text done.records whole done.ends in
    same_Some left (records ++ (flat_map records_of done.done ++ done.records)) done.kept
    ∙ ap (λ (some : List (List ℕ)). records ++ some)
    (ap (λ (some : List (List ℕ)). flat_map records_of done.done ++ some) all.1
    ∙ append-nil (flat_map records_of done.done)
    ∙ ap (flat_map records_of) (sym (append-nil done.done))
    ∙ ap (λ (some : List Act). flat_map records_of (done.done ++ some)) (sym all.0)
    ∙ ap (flat_map records_of) (sym done.are_acts))

-- all acts of an outcome may be done
whole-done : (outcome : Outcome) (records : List (List ℕ))
    → IsDone outcome None None (Some records) (Some (records ++ flat_map records_of outcome.acts)) outcome.ends
whole-done outcome records = record {
  done = outcome.acts;
  left = [];
  are_acts = sym (append-nil outcome.acts);
  text = [];
  records = [];
  took = refl;
  kept = ap (λ (some : List (List ℕ)). Some (records ++ some)) (sym (append-nil (flat_map records_of outcome.acts)));
  ends = inl (record { all = refl; no_more = (refl, refl); same_answer = refl });
}

-- what stands of a command begins all its records
nothing-left : (part whole : List (List ℕ)) → part ≡ [] → (rest : List (List ℕ)) × (whole ≡ part ++ rest)
nothing-left part whole none = (whole, ap (λ (some : List (List ℕ)). some ++ whole) (sym none))

one-left : (body : List ℕ) (more part : List (List ℕ)) → (part ≡ []) ⊎ (part ≡ body ∷ []) → (rest : List (List ℕ)) × (body ∷ more ≡ part ++ rest)
one-left body more part (inl none) = nothing-left part (body ∷ more) none
one-left body more part (inr one) = (more, ap (λ (some : List (List ℕ)). some ++ more) (sym one))

broken-left : (cause : Halt) (left : List Act) (text : List ℕ) (part : List (List ℕ)) → BreaksAt cause left text part
    → (rest : List (List ℕ)) × (flat_map records_of left ≡ part ++ rest)
broken-left ReadFault (Take word ∷ acts) text part broke = nothing-left part (flat_map records_of acts) broke.1
broken-left WriteFault (Write whole ∷ acts) text part broke = nothing-left part (flat_map records_of acts) broke.1
broken-left KeeperFault (ReadJournal ∷ acts) text part broke = nothing-left part (flat_map records_of acts) broke.1
broken-left KeeperFault (Append body ∷ acts) text part broke = one-left body (flat_map records_of acts) part broke.1
broken-left NoMemory acts text part broke = nothing-left part (flat_map records_of acts) broke.1
broken-left cause acts text part broke = absurd broke

any-left : (ends answer : Answer) (left : List Act) (text : List ℕ) (part : List (List ℕ))
    → IsWhole ends answer left text part ⊎ BreaksOff answer left text part → (rest : List (List ℕ)) × (flat_map records_of left ≡ part ++ rest)
any-left ends answer left text part (inl whole) = nothing-left part (flat_map records_of left) whole.no_more.1
any-left ends (Ok done) left text part (inr broke) = absurd broke
any-left ends (Err cause) left text part (inr broke) = broken-left cause left text part broke

front : (outcome : Outcome) (taken taken_now : Taken) (records left : List (List ℕ)) (answer : Answer)
    → IsDone outcome taken taken_now (Some records) (Some left) answer
    → (rest : List (List ℕ)) × (records_behind records outcome ≡ left ++ rest)
front outcome taken taken_now records left answer it =
    let rest = any-left outcome.ends answer it.left it.text it.records it.ends in
    let done = flat_map records_of it.done in (
      rest.0,
      ap (λ (some : List (List ℕ)). records ++ some)
          (ap (flat_map records_of) it.are_acts ∙ flat_map-append records_of it.done it.left ∙ ap (λ (some : List (List ℕ)). done ++ some) rest.1
          ∙ sym (append_assoc done it.records rest.0))
          ∙ sym (append_assoc records (done ++ it.records) rest.0)
          ∙ ap (λ (some : List (List ℕ)). some ++ rest.0) (sym (same_Some left (records ++ (done ++ it.records)) it.kept)),
    )

-- a command that didn't break off answers as its outcome says
ends-so : (ends answer : Answer) (left : List Act) (text : List ℕ) (part : List (List ℕ)) → broke_off answer ≡ false
    → IsWhole ends answer left text part ⊎ BreaksOff answer left text part → answer ≡ ends
ends-so ends answer left text part whole (inl all) = all.same_answer
ends-so ends (Ok done) left text part whole (inr broke) = absurd broke
ends-so ends (Err cause) left text part whole (inr broke) = absurd (never-broke cause left text part whole broke)

pub in-order : RecordsInOrder
in-order = record {
  leaves = λ outcome taken taken_now records left answer done.
      (let rest = front outcome taken taken_now records left answer done in
      record { rest = rest.0; front = rest.1; whole = all-records outcome taken taken_now records left answer done });
  ends = λ outcome taken taken_now held held_now answer done whole. ends-so outcome.ends answer done.left done.text done.records whole done.ends;
  all_may_be_done = whole-done;
}
