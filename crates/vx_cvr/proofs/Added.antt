-- Texts that are added bit by bit.
use Rattle.std.proofs.Common.{◌≡◌, ◌+◌, ◌<◌, ℕ, Bool, true, List, [], ◌∷◌, ◌++◌, length, drop, get_or, map, Ok, Err, refl, sym, ap, ◌∙◌, append_assoc}
use Rattle.std.proofs.lemmas.List.{drop_more}
use Rattle.std.specs.Result.{OnOk}
use Rattle.std.specs.declared.result.Result.{Result}
use Rattle.serde_json.specs.Data.{Data}
use Rattle.serde_json.specs.Written.{comma_if, compact_text, items_text, members_text}
use Rattle.serde_json.specs.View.{items_of}
use Rattle.vx_cvr.specs.Json.{members}
use Rattle.vx_cvr.specs.Texts.{later_members}
use Rattle.json.specs.Print.{quoted}

-- what holds at a call that went well
pub at_ok : {T E : Type 0} (result : Result T E) (P Q : Type 0) → OnOk result P → (P → Q) → OnOk result Q
at_ok (Ok value) P Q given turn = turn given
at_ok (Err fault) P Q given turn = given

-- what is added, and then the rest, are added together
pub add : (old added rest now end : List ℕ) → now ≡ old ++ added → end ≡ now ++ rest → end ≡ old ++ (added ++ rest)
add old added rest now end is further = further ∙ ap (λ (text : List ℕ). text ++ rest) is ∙ append_assoc old added rest

-- the same, where the rest begins with the byte that closes what is added
pub add_closed : (old added : List ℕ) (byte : ℕ) (rest now end : List ℕ) → now ≡ old ++ added → end ≡ now ++ byte ∷ rest
    → end ≡ old ++ ((added ++ byte ∷ []) ++ rest)
add_closed old added byte rest now end is further =
    add old added (byte ∷ rest) now end is further ∙ ap (λ (text : List ℕ). old ++ text) (sym (append_assoc added (byte ∷ []) rest))

-- members behind others are members of the same object
later : (some others : List (List ℕ × Data)) → later_members some ++ members_text true (members others) ≡ members_text true (members (some ++ others))
later [] others = refl
later (named ∷ some) others =
    let key : List ℕ = quoted named.0 in
    let value : List ℕ = compact_text named.1 in
    let behind : List ℕ = members_text true (members others) in
    ap (λ (text : List ℕ). 44 ∷ text)
    (append_assoc key (58 ∷ (value ++ later_members some)) behind
    ∙ ap (λ (text : List ℕ). key ++ 58 ∷ text)
    (append_assoc value (later_members some) behind ∙ ap (λ (text : List ℕ). value ++ text) (later some others)))

pub add_later : (old : List ℕ) (some others : List (List ℕ × Data)) (now end : List ℕ) → now ≡ old ++ later_members some
    → end ≡ now ++ members_text true (members others) → end ≡ old ++ members_text true (members (some ++ others))
add_later old some others now end is further =
    add old (later_members some) (members_text true (members others)) now end is further ∙ ap (λ (text : List ℕ). old ++ text) (later some others)

-- one item more is written
pub one_item : {X : Type 0} (make : X → Data) (xs : List X) (i : ℕ) (x : X) (is_later : Bool) (old mid now all : List ℕ)
    → i < length xs → x ≡ get_or xs i x → mid ≡ old ++ comma_if is_later → now ≡ mid ++ compact_text (make x)
    → old ++ items_text is_later (items_of (map make (drop i xs))) ≡ all
    → now ++ items_text true (items_of (map make (drop (i + 1) xs))) ≡ all
one_item {X} make xs i x is_later old mid now all within is comma own so_far =
    let rest : List ℕ = items_text true (items_of (map make (drop (i + 1) xs))) in
    let from_here : drop i xs ≡ x ∷ drop (i + 1) xs = drop_more xs i x within ∙ ap (λ (y : X). y ∷ drop (i + 1) xs) (sym is) in
    add old (comma_if is_later) (compact_text (make x) ++ rest) mid (now ++ rest) comma
    (add mid (compact_text (make x)) rest now (now ++ rest) own refl)
    ∙ ap (λ (left : List X). old ++ items_text is_later (items_of (map make left))) (sym from_here)
    ∙ so_far
