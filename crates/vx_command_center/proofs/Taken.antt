-- Items that are taken one after another.
use Rattle.std.proofs.Common.{◌≡◌, inr, ℕ, ◌+◌, ◌<◌, ◌≤◌, true, List, [], ◌∷◌, ◌++◌, length, drop, get_or, Option, Result, Ok, Err, refl, sym, ap, subst, ◌∙◌, append_assoc, append-nil, arith}
use Rattle.std.proofs.lemmas.List.{drop_more, drop_all}
use Rattle.std.proofs.lemmas.List.Sums.{sum-map, sum_by-append, sum_by-cons}
use Rattle.std.specs.List.{sum_by}
use Rattle.vx_base.specs.Results.{◌>>=◌}
use Rattle.vx_io.specs.Outside.{Files}
use Rattle.vx_election_model.specs.declared.election.Election.{Election}
use Rattle.vx_words.specs.declared.command.ItemWord.{ItemWord}
use Rattle.vx_command.specs.declared.halt.Halt.{Halt}
use Rattle.vx_command.specs.declared.halt.Halt.TheVariants.{NoMemory}
use Rattle.vx_command.specs.Acts.{Outcome, Take, after, input_of, taking}
use Rattle.vx_command.specs.Done.{Taken, BreaksAt, IsDone, IsWritten, WritesTo}
use Rattle.vx_command.specs.Laws.{StepLaws}
use Rattle.vx_command.specs.Steps.{GivesTaking, is_no_memory}
use Rattle.vx_command_center.specs.declared.item.Item.{Item}
use Rattle.vx_command_center.specs.Items.{possible_in_all, possible_of}
use Rattle.vx_command_center.specs.Outcome.{items_outcome, items_taken, limit_of, name_in, taken_item}
use Rattle.vx_command_center.specs.Taking.{BreaksBefore, TakesItems}

-- an item by the bytes that were taken for it
module _ (election : Election) (word before : ℕ) (item : ItemWord) (file : Option (List ℕ)) where
  module _ (bytes : List ℕ) (given : input_of word (limit_of item) file ≡ Ok bytes) where
    no_memory : (cause : Halt) → is_no_memory cause ≡ true → BreaksAt cause (Take word ∷ []) [] []
    no_memory NoMemory is = (refl, refl)
    no_memory cause is = absurd cc

-- none is taken where the command halts before the first
pub none_taken : (laws : StepLaws Item) (election : Election) (files : Files) (words : List ItemWord) → 1 ≤ length words → (cause : Halt) → BreaksBefore cause → TakesItems election files words (Err cause)
none_taken laws election files [] some cause broke = absurd (omega (arith, some))
none_taken laws election files (item ∷ words) some cause broke = λ rest taken.
    laws.not_taken 4 (taken_item election 4 0 item (files (name_in item))) cause (λ one. items_outcome election files (4 + 1) (0 + possible_of one) words (λ others. rest (one ∷ others))) taken (inr broke)

-- items behind others
abbrev behind : List Item → Result (List Item) Halt → Result (List Item) Halt
behind items more = more >>= (λ others. Ok (items ++ others))

behind_twice : (items : List Item) (item : Item) (more : Result (List Item) Halt) → behind items (more >>= (λ others. Ok (item ∷ others))) ≡ behind (items ++ item ∷ []) more
behind_twice items item (Ok others) = ap Ok (sym (append_assoc items (item ∷ []) others))
behind_twice items item (Err cause) = refl

-- so many words' items are taken, and the command has come to the others
pub record HasTaken (election : Election) (files : Files) (words : List ItemWord) (word before : ℕ) (items : List Item) (left : List ItemWord) : Type 0 where
  pub taken : items_taken election files 4 0 words ≡ behind items (items_taken election files word before left)
  pub comes : (rest : List Item → Outcome) (a : Taken) → WritesTo (items_outcome election files 4 0 words rest) (items_outcome election files word before left (λ others. rest (items ++ others))) a a

-- what comes behind items counts by what it does with them
taking_same : (word : ℕ) (given : Result Item Halt) (f g : Item → Outcome) → ((taken : Item) → f taken ≡ g taken) → taking word given f ≡ taking word given g
taking_same word (Ok taken) f g same = ap (after (Take word ∷ [])) (same taken)
taking_same word (Err cause) f g same = refl

outcome_same : (election : Election) (files : Files) (left : List ItemWord) (word before : ℕ) (f g : List Item → Outcome) → ((others : List Item) → f others ≡ g others) → items_outcome election files word before left f ≡ items_outcome election files word before left g
outcome_same election files [] word before f g same = same []
outcome_same election files (item ∷ left) word before f g same =
    taking_same word (taken_item election word before item (files (name_in item)))
    (λ taken. items_outcome election files (word + 1) (before + possible_of taken) left (λ others. f (taken ∷ others)))
    (λ taken. items_outcome election files (word + 1) (before + possible_of taken) left (λ others. g (taken ∷ others)))
    (λ taken. outcome_same election files left (word + 1) (before + possible_of taken) (λ others. f (taken ∷ others)) (λ others. g (taken ∷ others)) (λ others. same (taken ∷ others)))

module _ (election : Election) (files : Files) (words : List ItemWord) where
  none_behind : (more : Result (List Item) Halt) → more ≡ behind [] more
  none_behind (Ok others) = refl
  none_behind (Err cause) = refl

  pub has_none : HasTaken election files words 4 0 [] words
  has_none = record {
    taken = none_behind (items_taken election files 4 0 words);
    comes = λ rest a held taken_then held_then answer done. done;
  }

  module _ (i word before : ℕ) (items : List Item) (so_far : HasTaken election files words word before items (drop i words)) where
    -- the word in a place, and those behind it
    module _ (laws : StepLaws Item) (item : ItemWord) (inside : i < length words) (is : item ≡ get_or words i item) where
      abbrev left : List ItemWord
      left = drop (i + 1) words

      here : HasTaken election files words word before items (item ∷ left)
      here = subst (HasTaken election files words word before items) (drop_more words i item inside ∙ ap (λ (w : ItemWord). w ∷ left) (sym is)) so_far

      abbrev given_by : Result Item Halt
      given_by = taken_item election word before item (files (name_in item))

      abbrev next : (List Item → Outcome) → Item → Outcome
      next rest taken = items_outcome election files (word + 1) (before + possible_of taken) left (λ others. rest (items ++ taken ∷ others))

      -- its item is taken
      pub has_one : (taken : Item) → given_by ≡ Ok taken → HasTaken election files words (word + 1) (before + possible_of taken) (items ++ taken ∷ []) left
      has_one taken given = record {
        taken =
            here.taken
            ∙ ap (λ (some : Result Item Halt). behind items (some >>= (λ one. items_taken election files (word + 1) (before + possible_of one) left >>= (λ others. Ok (one ∷ others))))) given
            ∙ behind_twice items taken (items_taken election files (word + 1) (before + possible_of taken) left);
        comes = λ rest a held taken_then held_then answer done.
            let Done : Outcome → Type 0 = λ outcome. IsDone outcome a taken_then held held_then answer in
            here.comes rest a held taken_then held_then answer
            (laws.taken word given_by taken (next rest) a given held taken_then held_then answer
            (subst Done
            (outcome_same election files left (word + 1) (before + possible_of taken) (λ others. rest ((items ++ taken ∷ []) ++ others)) (λ others. rest (items ++ taken ∷ others)) (λ others. ap rest (append_assoc items (taken ∷ []) others)))
            done));
      }

      -- it isn't
      pub has_stopped : (cause : Halt) → GivesTaking word (Err cause) given_by → (rest : List Item → Outcome) (a : Taken) → IsWritten (items_outcome election files 4 0 words rest) a a (Err cause)
      has_stopped cause gives rest a held = here.comes rest a held a held (Err cause) (laws.not_taken word given_by cause (next rest) a gives held)

    -- all are taken
    pub has_all : length words ≤ i → TakesItems election files words (Ok items)
    has_all past =
        let all : HasTaken election files words word before items [] = subst (HasTaken election files words word before items) (drop_all i words past) so_far in (
          all.taken ∙ ap Ok (append-nil items),
          λ rest a held taken_then held_then answer done.
              let Done : List Item → Type 0 = λ some. IsDone (rest some) a taken_then held held_then answer in
              all.comes rest a held taken_then held_then answer (subst Done (sym (append-nil items)) done),
        )

-- how many events one item more may have
pub possible_more : (items : List Item) (item : Item) → possible_in_all (items ++ item ∷ []) ≡ possible_in_all items + possible_of item
possible_more items item =
    let all = sum-map possible_of (items ++ item ∷ []) in
    let before = sum-map possible_of items in
    let both = sum_by-append possible_of items (item ∷ []) in
    let last : sum_by possible_of (item ∷ []) ≡ possible_of item + 0 = sum_by-cons possible_of item [] in
    omega (arith, all, before, both, last)
