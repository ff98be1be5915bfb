-- Outcomes that write one text in different pieces.
use Rattle.std.proofs.Common.{◌≡◌, ◌⊎◌, inl, inr, ℕ, List, [], ◌∷◌, ◌++◌, map, Result, Ok, Err, refl, sym, ap, subst, ◌∙◌, append-nil}
use Rattle.std.specs.List.{flat_map}
use Rattle.std.proofs.lemmas.List.Folds.{flat_map-map}
use Rattle.vx_io.specs.Outside.{Took}
use Rattle.vx_election_model.specs.declared.election.Election.{Election}
use Rattle.vx_command.specs.declared.halt.Halt.{Halt}
use Rattle.vx_command.specs.Acts.{Act, Outcome, ReadJournal, Write, after, goes_on, records_of, taking, text_of, writing}
use Rattle.vx_command.specs.Done.{Held, IsDone, Keeps, Taken}
use Rattle.vx_journal.specs.declared.journal.Journal.{Journal}
use Rattle.vx_journal.specs.Keeping.{journal_in}
use Rattle.vx_journal.specs.Steps.{once_read}
use Rattle.vx_cvr.specs.Pieces.{joined}
use Rattle.vx_command_export.specs.Outcome.{writing_each}

-- two outcomes write the same, keep the same, and end the same
pub record AreAlike (one other : Outcome) : Type 0 where
  pub texts : flat_map text_of one.acts ≡ flat_map text_of other.acts
  pub records : flat_map records_of one.acts ≡ flat_map records_of other.acts
  pub ends : one.ends ≡ other.ends

whole_of : {P : Type 0} → P ⊎ ⊥ → P
whole_of (inl p) = p
whole_of (inr never) = absurd never

-- where all of the one was done, all of the other would have been
pub done_alike : (one other : Outcome) (a b : Taken) (h k : Held) → AreAlike one other → IsDone one a b h k (Ok tt) → IsDone other a b h k (Ok tt)
done_alike one other a b h k alike it =
    let whole = whole_of it.ends in
    let all : it.done ≡ one.acts = sym (it.are_acts ∙ ap (λ (acts : List Act). it.done ++ acts) whole.all ∙ append-nil it.done) in
    let texts : flat_map text_of it.done ++ it.text ≡ flat_map text_of other.acts ++ [] =
    ap (λ (text : List ℕ). flat_map text_of it.done ++ text) whole.no_more.0
    ∙ ap (λ (acts : List Act). flat_map text_of acts ++ []) all
    ∙ ap (λ (text : List ℕ). text ++ []) alike.texts in
    let records : flat_map records_of it.done ++ it.records ≡ flat_map records_of other.acts ++ [] =
    ap (λ (some : List (List ℕ)). flat_map records_of it.done ++ some) whole.no_more.1
    ∙ ap (λ (acts : List Act). flat_map records_of acts ++ []) all
    ∙ ap (λ (some : List (List ℕ)). some ++ []) alike.records in
    record {
      done = other.acts;
      left = [];
      are_acts = sym (append-nil other.acts);
      text = [];
      records = [];
      took = subst (λ (text : List ℕ). Took a b text) texts it.took;
      kept = subst (λ (some : List (List ℕ)). Keeps h k some) records it.kept;
      ends = inl (record { all = refl; no_more = (refl, refl); same_answer = whole.same_answer ∙ alike.ends });
    }

-- texts that are written keep nothing
none_kept : (pieces : List (List ℕ)) → flat_map records_of (map Write pieces) ≡ []
none_kept [] = refl
none_kept (piece ∷ pieces) = none_kept pieces

-- pieces that are written one after the other are written as one text
pub pieces_alike : (pieces : List (List ℕ)) (text : List ℕ) → joined pieces ≡ text → AreAlike (writing_each pieces) (writing text)
pieces_alike pieces text is = record {
  texts = flat_map-map text_of Write pieces ∙ is ∙ sym (append-nil text);
  records = none_kept pieces;
  ends = refl;
}

-- so are commands that go on alike once they have read their journal
module _ (records : List (List ℕ)) (rest other : Election → Journal → Outcome) (alike : (given : Election) (journal : Journal) → AreAlike (rest given journal) (other given journal)) where
  read_alike : (given : Election) (journal : Result Journal Halt)
      → AreAlike (after (ReadJournal ∷ []) (goes_on journal (rest given))) (after (ReadJournal ∷ []) (goes_on journal (other given)))
  read_alike given (Err cause) = record { texts = refl; records = refl; ends = refl }
  read_alike given (Ok journal) = let same = alike given journal in record { texts = same.texts; records = same.records; ends = same.ends }

  pub taken_alike : (given : Result Election Halt)
      → AreAlike (taking 1 given (λ some. once_read some records (rest some))) (taking 1 given (λ some. once_read some records (other some)))
  taken_alike (Err cause) = record { texts = refl; records = refl; ends = refl }
  taken_alike (Ok some) = let same = read_alike some (journal_in some records) in record { texts = same.texts; records = same.records; ends = same.ends }
