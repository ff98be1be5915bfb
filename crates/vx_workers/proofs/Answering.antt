-- What a call of the task answers, and what is kept of it in the places of the items.
use Rattle.std.proofs.Common.{◌≡◌, ℕ, ◌+◌, ◌<◌, List, [], ◌∷◌, ◌++◌, length, get_or, take, set, refl, sym, subst, arith}
use Rattle.std.specs.Prelude.{Option, None, Some, Result, Ok, Err, IfOk, IfSome, slice_get}
use Rattle.std.specs.Fn.{Shared}
use Rattle.std.specs.Option.{IsSomeAnd}
use Rattle.std.specs.declared.alloc.AllocError.{AllocError}
use Rattle.std.proofs.lemmas.Option.{slice_get_read, MatchOption-at_some}
use Rattle.std.proofs.lemmas.Slice.Zip.{AllZip-right, AllZip-long}
use denote.Ref.{Bor}
use Rattle.vx_workers.specs.declared.places.Answered.{Answered}
use Rattle.vx_workers.specs.Answers.{IsAnswer, IsAnswerOf, IsAnswerAt, IsPlace, ArePlaces, AnswersInOrder}
use Rattle.vx_workers.proofs.Zipped.{zip_set, zip_more, always, if_there, is_there, there_within}

module _ {F T U : Type 0} (calls : Shared F (Bor T × Unit {0}) (Result U AllocError)) (task : F) where
  -- what is given of a reference is an answer of what it shows
  pub of_shown : (shown : Bor T) (result : Result U AllocError) → calls.post task (shown, tt) result → IfOk result (IsAnswer calls task shown.now)
  of_shown shown (Ok answer) given = record { shown = shown; shows = refl; says = record { met = given } }
  of_shown shown (Err no_memory) given = tt

module _ {F T U : Type 0} (calls : Shared F (Bor T × Unit {0}) (Result U AllocError)) (task : F) (items : List T) where
  -- an answer of an item is one of the place where it stands
  pub at_place : (place : ℕ) (item : T) (result : Result U AllocError) → slice_get items place ≡ Some item → IfOk result (IsAnswer calls task item) → IfOk result (IsAnswerOf calls task items place)
  at_place place item (Ok answer) is given = subst (λ o. IsSomeAnd o (λ x. IsAnswer calls task x answer)) (sym is) given
  at_place place item (Err no_memory) is given = tt

  -- one empty place more
  pub with_empty : (places after : List (Option U)) (place : ℕ) → ArePlaces calls task (take place items) places → place < length items → after ≡ places ++ None ∷ [] → ArePlaces calls task (take (place + 1) items) after
  with_empty places after place each within is =
      subst (ArePlaces calls task (take (place + 1) items)) (sym is)
      (zip_more (IsPlace calls task) items places place None each (is_there items place (λ item. Unit {0}) within (λ item. tt)))

  -- there are as many places as items
  pub as_many : (places : List (Option U)) → ArePlaces calls task items places → length places ≡ length items
  as_many places each = AllZip-long (IsPlace calls task) items places each

  -- the place of an answer is that of an item
  pub has_place : (places : List (Option U)) (done : Answered U) → ArePlaces calls task items places → IsAnswerAt calls task items done → done.place < length places
  has_place places done each given =
      let within = there_within items done.place (λ item. IsAnswer calls task item done.answer) given in
      let many = as_many places each in
      omega arith

  -- an answer is put into its place
  pub with_answer : (places after : List (Option U)) (done : Answered U) → ArePlaces calls task items places → IsAnswerAt calls task items done → after ≡ set places done.place (Some done.answer) → ArePlaces calls task items after
  with_answer places after done each given is =
      subst (ArePlaces calls task items) (sym is)
      (zip_set (IsPlace calls task) items places done.place (Some done.answer) each (if_there (slice_get items done.place) (λ item. IsAnswer calls task item done.answer) given))

  -- a place is emptied
  pub emptied : (places : List (Option U)) (place : ℕ) (left : Option U) → ArePlaces calls task items places → left ≡ None → ArePlaces calls task items (set places place left)
  emptied places place left each is =
      subst (λ o. ArePlaces calls task items (set places place o)) (sym is)
      (zip_set (IsPlace calls task) items places place None each (always (slice_get items place) (λ item. Unit {0}) (λ item. tt)))

  held : (place : ℕ) (kept : Option U) → IsSomeAnd (slice_get items place) (λ item. IsPlace calls task item kept) → IfSome kept (IsAnswerOf calls task items place)
  held place None there = tt
  held place (Some answer) there = there

  -- what a place holds is an answer of the item that stands there
  pub of_kept : (places : List (Option U)) (place : ℕ) (kept : Option U) → ArePlaces calls task items places → place < length items → kept ≡ get_or places place kept → IfSome kept (IsAnswerOf calls task items place)
  of_kept places place kept each within is =
      let many = as_many places each in
      held place kept
      (MatchOption-at_some (Unit {0}) (λ y. IsSomeAnd (slice_get items place) (λ item. IsPlace calls task item y)) kept
      (slice_get_read places (length places) place kept refl (omega arith) is) (AllZip-right (IsPlace calls task) items places each place))

  -- one answer more
  pub with_next : (answers after : List U) (place : ℕ) (answer : U) → AnswersInOrder calls task (take place items) answers → IsAnswerOf calls task items place answer → after ≡ answers ++ answer ∷ [] → AnswersInOrder calls task (take (place + 1) items) after
  with_next answers after place answer each given is = subst (AnswersInOrder calls task (take (place + 1) items)) (sym is) (zip_more (IsAnswer calls task) items answers place answer each given)
