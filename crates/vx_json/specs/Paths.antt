-- Where in a JSON value something stands, as a text such as `contests[2].candidates[0].id`.
use Rattle.std.specs.Prelude.{ℕ, List, [], ◌∷◌, ◌++◌, decimal}

-- the path of an object's member: its name at the top, and else the object's path, a dot and the name
abbrev pub member_path : List ℕ → List ℕ → List ℕ
member_path [] name = name
member_path (b ∷ bs) name = (b ∷ bs) ++ 46 ∷ name

-- the path of a list's element: the list's path and the index, from 0, in brackets
abbrev pub element_path : List ℕ → ℕ → List ℕ
element_path path index = path ++ 91 ∷ (decimal index ++ 93 ∷ [])
