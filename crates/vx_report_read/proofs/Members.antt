-- What the members of a report's objects are read as.
use Rattle.std.proofs.Common.{◌≡◌, ℕ, ◌≤◌, Bool, true, false, cond, List, [], ◌∷◌, ◌++◌, length, map, refl, sym, ap, ◌∙◌, arith, append_assoc, append-nil}
use Rattle.std.specs.Prelude.{Option, Some, None, Result, Ok, Err, ok_or, is_some, nat_le}
use Rattle.serde_json.specs.Data.{Data, object, Members}
use Rattle.serde_json.specs.Find.{get_member}
use Rattle.serde_json.specs.View.{items_of}
use Rattle.vx_base.specs.Results.{◌>>=◌}
use Rattle.vx_base.proofs.Lists.{map-push}
use Rattle.vx_base.proofs.Booleans.{and-both}
use Rattle.vx_base.proofs.Numbers.{at_most-yes}
use Rattle.vx_json.specs.declared.fault.JsonFault.TheVariants as json
use Rattle.vx_json.specs.Paths.{member_path}
use Rattle.vx_json.specs.Reading.{need_in, elements, is_within}
use Rattle.vx_cvr.specs.Json.{text, whole, list}
use Rattle.vx_tally.specs.declared.fault.ReportFault.{ReportFault}
use Rattle.vx_tally.specs.declared.fault.ReportFault.TheVariants.{OutOfRange, RepeatedId, UnknownId}
use Rattle.vx_tally.specs.Faults.{of_json}
use Rattle.vx_tally.specs.Ids.{is_id, place_in, is_among, id_in, new_id_in, reference_in, new_reference_in}
use Rattle.vx_tally.specs.Members.{list_limit, vote_limit, id_member, reference_member, new_reference_member, votes_member, list_member, first_member, with_next, each_of}

pub bind-ok : {A B F : Type 0} (r : Result A F) (f : A → Result B F) (x : A) (s : Result B F) → r ≡ Ok x → f x ≡ s → (r >>= f) ≡ s
bind-ok {A} {B} {F} r f x s e h = ap (λ (o : Result A F). o >>= f) e ∙ h

pub if-yes : {A : Type 0} (b : Bool) (x y : A) → b ≡ true → cond b x y ≡ x
if-yes true x y e = refl
if-yes false x y e = absurd cc

pub if-no : {A : Type 0} (b : Bool) (x y : A) → b ≡ false → cond b x y ≡ y
if-no true x y e = absurd cc
if-no false x y e = refl

id-is : (t path : List ℕ) → is_id t ≡ true → id_in (text t) path ≡ Ok t
unfolding id_in
id-is t path is = if-yes (is_id t) (Ok t) (Err (OutOfRange path)) is

new-id-is : (t path : List ℕ) (ids : List (List ℕ)) → is_id t ≡ true → place_in t ids ≡ None → new_id_in (text t) path ids ≡ Ok t
unfolding new_id_in
new-id-is t path ids is none =
    bind-ok (id_in (text t) path) _ t (Ok t) (id-is t path is) (if-no (is_some (place_in t ids)) (Err (RepeatedId path t)) (Ok t) (ap is_some none))

reference-is : (t path : List ℕ) (ids : List (List ℕ)) (k : ℕ) → is_id t ≡ true → place_in t ids ≡ Some k → reference_in (text t) path ids ≡ Ok k
unfolding reference_in
reference-is t path ids k is found =
    bind-ok (id_in (text t) path) _ t (Ok k) (id-is t path is) (ap (λ (o : Option ℕ). ok_or o (UnknownId path t)) found)

new-reference-is : (t path : List ℕ) (ids : List (List ℕ)) (places : List ℕ) (k : ℕ) → is_id t ≡ true → place_in t ids ≡ Some k → is_among k places ≡ false
    → new_reference_in (text t) path ids places ≡ Ok k
unfolding new_reference_in
new-reference-is t path ids places k is found new =
    bind-ok (id_in (text t) path) _ t (Ok k) (id-is t path is)
    (bind-ok (ok_or (place_in t ids) (UnknownId path t)) _ k (Ok k) (ap (λ (o : Option ℕ). ok_or o (UnknownId path t)) found)
    (if-no (is_among k places) (Err (RepeatedId path t)) (Ok k) new))

need-is : (ms : Members) (path name : List ℕ) (d : Data) → get_member name ms ≡ Some d → of_json (need_in (object ms) path name) ≡ Ok d
need-is ms path name d there = ap (λ (o : Option Data). of_json (ok_or o (json.Missing (member_path path name)))) there

pub id-member : (ms : Members) (path name : List ℕ) (ids : List (List ℕ)) (t : List ℕ) → get_member name ms ≡ Some (text t) → is_id t ≡ true
    → place_in t ids ≡ None
    → id_member (object ms) path name ids ≡ Ok t
unfolding id_member
id-member ms path name ids t there is none =
    bind-ok (of_json (need_in (object ms) path name)) _ (text t) (Ok t) (need-is ms path name (text t) there) (new-id-is t (member_path path name) ids is none)

pub reference-member : (ms : Members) (path name : List ℕ) (ids : List (List ℕ)) (t : List ℕ) (k : ℕ) → get_member name ms ≡ Some (text t) → is_id t ≡ true
    → place_in t ids ≡ Some k → reference_member (object ms) path name ids ≡ Ok k
unfolding reference_member
reference-member ms path name ids t k there is found =
    bind-ok (of_json (need_in (object ms) path name)) _ (text t) (Ok k) (need-is ms path name (text t) there)
    (reference-is t (member_path path name) ids k is found)

pub new-reference-member : (ms : Members) (path name : List ℕ) (ids : List (List ℕ)) (places : List ℕ) (t : List ℕ) (k : ℕ)
    → get_member name ms ≡ Some (text t)
    → is_id t ≡ true → place_in t ids ≡ Some k → is_among k places ≡ false → new_reference_member (object ms) path name ids places ≡ Ok k
unfolding new_reference_member
new-reference-member ms path name ids places t k there is found new =
    bind-ok (of_json (need_in (object ms) path name)) _ (text t) (Ok k) (need-is ms path name (text t) there)
    (new-reference-is t (member_path path name) ids places k is found new)

pub votes-member : (ms : Members) (path name : List ℕ) (n : ℕ) → get_member name ms ≡ Some (whole n) → n ≤ vote_limit
    → votes_member (object ms) path name ≡ Ok n
unfolding votes_member
votes-member ms path name n there few =
    bind-ok (of_json (need_in (object ms) path name)) _ (whole n) (Ok n) (need-is ms path name (whole n) there)
    (by (is_within 0 vote_limit n) (and-both (nat_le 0 n) (nat_le n vote_limit) (at_most-yes 0 n (omega arith)) (at_most-yes n vote_limit few)))
  where
    by : (b : Bool) → b ≡ true → of_json (cond b (Ok n) (Err (json.OutOfRange (member_path path name)))) ≡ Ok n
    by true e = refl
    by false e = absurd cc

elements-items : (xs : List Data) → elements (items_of xs) ≡ xs
elements-items [] = refl
elements-items (x ∷ xs) = ap (λ (ys : List Data). x ∷ ys) (elements-items xs)

pub list-member : (ms : Members) (path name : List ℕ) (limit : ℕ) (xs : List Data) → get_member name ms ≡ Some (list xs) → length xs ≤ limit
    → list_member (object ms) path name limit ≡ Ok xs
unfolding list_member
list-member ms path name limit xs there few =
    bind-ok (of_json (need_in (object ms) path name)) _ (list xs) (Ok xs) (need-is ms path name (list xs) there)
    (ap (λ (ys : List Data). cond (nat_le (length ys) limit) (Ok ys) (Err (OutOfRange (member_path path name)))) (elements-items xs)
    ∙ if-yes (nat_le (length xs) limit) (Ok xs) (Err (OutOfRange (member_path path name))) (at_most-yes (length xs) limit few))

pub first-member : (ms : Members) (path name : List ℕ) (d : Data) → get_member name ms ≡ Some (list (d ∷ [])) → first_member (object ms) path name ≡ Ok d
unfolding first_member
first-member ms path name d there =
    bind-ok (list_member (object ms) path name list_limit) _ (d ∷ []) (Ok d) (list-member ms path name list_limit (d ∷ []) there (omega arith)) refl

-- elements in order, where each is read behind those before it
module _ {A X : Type 0} (take_next : List A → Data → Result A ReportFault) (make : X → Data) (give : X → A) where
  walk-from : (front xs : List X)
      → ((before : List X) (x : X) (back : List X) → front ++ xs ≡ before ++ x ∷ back → take_next (map give before) (make x) ≡ Ok (give x))
      → each_of take_next (map give front) (map make xs) ≡ Ok (map give (front ++ xs))
  walk-from front [] one = ap (λ (ys : List X). Ok (map give ys)) (sym (append-nil front))
  walk-from front (x ∷ xs) one =
      let moved : (front ++ x ∷ []) ++ xs ≡ front ++ x ∷ xs = append_assoc front (x ∷ []) xs in
      let step : with_next take_next (map give front) (make x) ≡ Ok (map give (front ++ x ∷ [])) =
      bind-ok (take_next (map give front) (make x)) _ (give x) (Ok (map give (front ++ x ∷ []))) (one front x xs refl) (ap Ok (sym (map-push give front x))) in
      bind-ok (with_next take_next (map give front) (make x)) _ (map give (front ++ x ∷ [])) (Ok (map give (front ++ x ∷ xs))) step
      (walk-from (front ++ x ∷ []) xs (λ before y back e. one before y back (sym moved ∙ e)) ∙ ap (λ (ys : List X). Ok (map give ys)) moved)

  pub walk : (xs : List X) → ((before : List X) (x : X) (back : List X) → xs ≡ before ++ x ∷ back → take_next (map give before) (make x) ≡ Ok (give x))
      → each_of take_next [] (map make xs) ≡ Ok (map give xs)
  walk xs one = walk-from [] xs one
