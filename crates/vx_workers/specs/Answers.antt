-- What a task may answer of an item, and the answers of all items in the items' order.
use Rattle.std.specs.Prelude.{◌≡◌, ℕ, List, Option, Result, Ok, All, IfOk, IfSome, slice_get}
use Rattle.std.specs.declared.alloc.AllocError.{AllocError}
use Rattle.std.specs.declared.alloc.Global.{Global}
use Rattle.std.specs.declared.vec.Vec.{Vec}
use Rattle.std.specs.Fn.{FnReturnsAt, Shared}
use Rattle.std.specs.List.{AllZip}
use Rattle.std.specs.Option.{IsSomeAnd}
use denote.Ref.{Bor}
use Rattle.vx_workers.specs.declared.places.Answered.{Answered}

-- of a task and its calls
module _ {F T U : Type 0} (calls : Shared F (Bor T × Unit {0}) (Result U AllocError)) (task : F) where
  -- the task may be called on the item
  abbrev pub MayTake : T → Type 0
  MayTake item = (shown : Bor T) → shown.now ≡ item → calls.pre task (shown, tt)

  -- an answer that the task may give of the item
  abbrev pub IsAnswer : T → U → Type 0
  IsAnswer item answer = FnReturnsAt calls task item (Ok answer)

  -- an answer of each item, in the items' order
  abbrev pub AnswersInOrder : List T → List U → Type 0
  AnswersInOrder items answers = AllZip IsAnswer items answers

  -- an answer of the item at a place
  abbrev pub IsAnswerOf : List T → ℕ → U → Type 0
  IsAnswerOf items place answer = IsSomeAnd (slice_get items place) (λ item. IsAnswer item answer)

  -- the same, with its place
  abbrev pub IsAnswerAt : List T → Answered U → Type 0
  IsAnswerAt items done = IsAnswerOf items done.place done.answer

  -- what a worker did: answers with their places, or want of memory
  abbrev pub IsShare : List T → Result (Vec (Answered U) Global) AllocError → Type 0
  IsShare items share = IfOk share (λ done. All (IsAnswerAt items) done.items)

  -- a place that is empty or has an answer of the item
  abbrev pub IsPlace : T → Option U → Type 0
  IsPlace item place = IfSome place (IsAnswer item)

  -- a place for each item, in the items' order
  abbrev pub ArePlaces : List T → List (Option U) → Type 0
  ArePlaces items places = AllZip IsPlace items places
