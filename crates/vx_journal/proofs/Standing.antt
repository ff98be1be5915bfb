-- Whatever stands of acts leaves a journal.
use Rattle.std.proofs.Common.{◌≡◌, ◌⊎◌, inl, inr, ℕ, List, [], ◌∷◌, ◌++◌, Some, Ok, Err, refl, sym, ap, subst, ◌∙◌, append_assoc}
use Rattle.std.specs.List.{flat_map}
use Rattle.std.proofs.lemmas.List.{append-nil}
use Rattle.vx_election_model.specs.declared.election.Election.{Election}
use Rattle.vx_command.specs.declared.halt.Halt.{Halt}
use Rattle.vx_command.specs.declared.halt.Halt.TheVariants.{ReadFault, WriteFault, KeeperFault, NoMemory}
use Rattle.vx_command.specs.Acts.{Act, Take, ReadJournal, Write, Append, Answer, Outcome, records_of}
use Rattle.vx_command.specs.Done.{Taken, Held, BreaksAt, BreaksOff, IsWhole, IsDone}
use Rattle.vx_journal.specs.Laws.{IsJournal, StaysJournal, HoldsJournal}

-- what stands of the first act that isn't done: no record, or the one that it appends
PartOf : List Act → List (List ℕ) → Type 0
PartOf left part = (part ≡ []) ⊎ ((body : List ℕ) × (rest : List Act) × (left ≡ Append body ∷ rest) × (part ≡ body ∷ []))

part_of_append : (body : List ℕ) (acts : List Act) (part : List (List ℕ)) → (part ≡ []) ⊎ (part ≡ body ∷ []) → PartOf (Append body ∷ acts) part
unfolding PartOf
part_of_append body acts part (inl none) = inl none
part_of_append body acts part (inr one) = inr (body, acts, refl, one)

broken_part : (cause : Halt) (left : List Act) (text : List ℕ) (part : List (List ℕ)) → BreaksAt cause left text part → PartOf left part
unfolding PartOf
broken_part ReadFault (Take word ∷ acts) text part broke = inl broke.1
broken_part WriteFault (Write whole ∷ acts) text part broke = inl broke.1
broken_part KeeperFault (ReadJournal ∷ acts) text part broke = inl broke.1
broken_part KeeperFault (Append body ∷ acts) text part broke = part_of_append body acts part broke.1
broken_part NoMemory acts text part broke = inl broke.1
broken_part cause acts text part broke = absurd broke

standing_part : (ends answer : Answer) (left : List Act) (text : List ℕ) (part : List (List ℕ)) → IsWhole ends answer left text part ⊎ BreaksOff answer left text part → PartOf left part
unfolding PartOf
standing_part ends answer left text part (inl whole) = inl whole.no_more.1
standing_part ends (Ok done) left text part (inr broke) = absurd broke
standing_part ends (Err cause) left text part (inr broke) = broken_part cause left text part broke

-- what stays a journal is one now
is_one_now : (election : Election) (acts : List Act) (records : List (List ℕ)) → StaysJournal election records acts → IsJournal election records
is_one_now election [] records stays = stays
is_one_now election (Take word ∷ acts) records stays = is_one_now election acts records stays
is_one_now election (ReadJournal ∷ acts) records stays = is_one_now election acts records stays
is_one_now election (Write text ∷ acts) records stays = is_one_now election acts records stays
is_one_now election (Append body ∷ acts) records stays = stays.0

part_stays : (election : Election) (left : List Act) (part records : List (List ℕ)) → PartOf left part → StaysJournal election records left → IsJournal election (records ++ part)
unfolding PartOf
part_stays election left part records (inl none) stays =
    let Is : List (List ℕ) → Type 0 = λ some. IsJournal election some in
    subst Is (sym (append-nil records) ∙ ap (λ (more : List (List ℕ)). records ++ more) (sym none)) (is_one_now election left records stays)
part_stays election left part records (inr one) stays =
    let Stays : List Act → Type 0 = λ acts. StaysJournal election records acts in
    let Is : List (List ℕ) → Type 0 = λ some. IsJournal election some in
    subst Is (ap (λ (more : List (List ℕ)). records ++ more) (sym one.3)) (is_one_now election one.1 (records ++ one.0 ∷ []) (subst Stays one.2 stays).1)

stands : (election : Election) (done left : List Act) (part records : List (List ℕ)) → PartOf left part → StaysJournal election records (done ++ left) → IsJournal election (records ++ (flat_map records_of done ++ part))
stands election [] left part records is stays = part_stays election left part records is stays
stands election (Take word ∷ done) left part records is stays = stands election done left part records is stays
stands election (ReadJournal ∷ done) left part records is stays = stands election done left part records is stays
stands election (Write text ∷ done) left part records is stays = stands election done left part records is stays
stands election (Append body ∷ done) left part records is stays =
    let Is : List (List ℕ) → Type 0 = λ some. IsJournal election some in
    subst Is (append_assoc records (body ∷ []) (flat_map records_of done ++ part)) (stands election done left part (records ++ body ∷ []) is stays.1)

-- a keeper that held a journal holds one
pub keeper_holds : (election : Election) (records : List (List ℕ)) (outcome : Outcome) (taken taken_now : Taken) (held_now : Held) (answer : Answer) → StaysJournal election records outcome.acts → IsDone outcome taken taken_now (Some records) held_now answer → HoldsJournal election held_now
keeper_holds election records outcome taken taken_now held_now answer stays it =
    let Stays : List Act → Type 0 = λ acts. StaysJournal election records acts in
    let Holds : Held → Type 0 = λ held. HoldsJournal election held in
    subst Holds (sym it.kept) (stands election it.done it.left it.records records (standing_part outcome.ends answer it.left it.text it.records it.ends) (subst Stays it.are_acts stays))
