-- What the outside holds, told or not told, and when it may refuse a call.
use Rattle.std.specs.Prelude.{◌≡◌, ◌⊎◌, ◌+◌, ◌-◌, ◌^◌, ◌<◌, ◌≤◌, ℕ, Bool, true, false, List, [], ◌∷◌, ◌++◌, length, take, drop, min, Option, None, Some, MatchOption, IfSome, slice_get}
use Rattle.std.specs.Option.{option_map}

-- the bytes under each name
abbrev pub Files : Type 0
Files = List ℕ → Option (List ℕ)

-- a count of faults has risen, or stands at its last value
abbrev pub Rose : ℕ → ℕ → Type 0
Rose before now = min (before + 1) (2 ^ 64 - 1) ≤ now

-- a device's count of faults over a call: it rises where the device failed and stands still where it didn't
pub record CountsFaults (failed : Bool) (before now : ℕ) : Type 0 where
  pub later : before ≤ now
  pub rose : failed ≡ true → Rose before now
  pub still : failed ≡ false → now ≡ before

-- an answer to the question for a size
abbrev pub IsSizeOf : Option Files → List ℕ → Option ℕ → Type 0
IsSizeOf told name answer = IfSome told (λ files. answer ≡ option_map length (files name))

-- where contents are told, something is held under the name and the offset is inside it
abbrev pub IsThere : Option Files → List ℕ → ℕ → Type 0
IsThere told name at =
    (files : Files) → told ≡ Some files → (bytes : List ℕ) × (files name ≡ Some bytes) × (at < length bytes)

-- where contents are told, a piece is what is held under the name from the offset on
abbrev pub ReadsFrom : Option Files → List ℕ → ℕ → List ℕ → Type 0
ReadsFrom told name at piece =
    IfSome told (λ files. IfSome (files name) (λ bytes. piece ≡ take (length piece) (drop at bytes)))

-- so many bytes at the front of a buffer may be new; what lies behind them is as before
abbrev pub IsSameBehind : ℕ → List ℕ → List ℕ → Type 0
IsSameBehind count old new = drop count new ≡ drop count old

-- a list begins another
pub record IsPrefix (front whole : List ℕ) : Type 0 where
  pub rest : List ℕ
  pub is : whole ≡ front ++ rest

-- a sink has taken the text, where it tells; whether it tells doesn't change
abbrev pub Took : Option (List ℕ) → Option (List ℕ) → List ℕ → Type 0
Took old new text = MatchOption old (new ≡ None) (λ before. new ≡ Some (before ++ text))

-- a sink has taken some front of the text
pub record TookFront (old new : Option (List ℕ)) (text : List ℕ) : Type 0 where
  pub front : List ℕ
  pub took : Took old new front
  pub is_prefix : IsPrefix front text

-- a sink has taken the first so many bytes of a piece
abbrev pub TookPiece : Option (List ℕ) → Option (List ℕ) → List ℕ → ℕ → Type 0
TookPiece old new piece count = Took old new (take count piece)

-- where records are told, there are so many
abbrev pub IsCountOf : Option (List (List ℕ)) → ℕ → Type 0
IsCountOf told count = IfSome told (λ records. count ≡ length records)

-- where records are told, there is one at the index
abbrev pub IsIndexOf : Option (List (List ℕ)) → ℕ → Type 0
IsIndexOf told index = (records : List (List ℕ)) → told ≡ Some records → index < length records

-- where records are told, this is the one at the index
abbrev pub IsRecordAt : Option (List (List ℕ)) → ℕ → List ℕ → Type 0
IsRecordAt told index body = IfSome told (λ records. slice_get records index ≡ Some body)

-- a keeper has one record more, where it tells; whether it tells doesn't change
abbrev pub Appends : Option (List (List ℕ)) → Option (List (List ℕ)) → List ℕ → Type 0
Appends old new body = MatchOption old (new ≡ None) (λ records. new ≡ Some (records ++ body ∷ []))

-- a keeper is as before or has one record more
abbrev pub MayAppend : Option (List (List ℕ)) → Option (List (List ℕ)) → List ℕ → Type 0
MayAppend old new body = (new ≡ old) ⊎ Appends old new body
