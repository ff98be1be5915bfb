-- A turn of a loop over the elements of a list that are read one after another.
use Rattle.std.proofs.Common.{◌≡◌, ℕ, ◌+◌, ◌<◌, List, [], ◌∷◌, ◌++◌, length, map, drop, get_or, Result, Ok, sym, ap, ◌∙◌}
use Rattle.std.proofs.lemmas.List.{at_drop_more}
use Rattle.serde_json.specs.Data.{Data}
use Rattle.vx_base.specs.Results.{◌>>=◌}
use Rattle.vx_election.specs.declared.fault.ElectionFault.{ElectionFault}
use Rattle.vx_election.specs.Members.{each_of}

-- what is left of a list begins with the item at the index
rest : {A V : Type 0} (read : List A → Data → Result A ElectionFault) (view : V → Data) (found : List A) (values : List V) (i : ℕ) (item : V) → i < length values → item ≡ get_or values i item → each_of read found (map view (drop i values)) ≡ (read found (view item) >>= λ one. each_of read (found ++ one ∷ []) (map view (drop (i + 1) values)))
rest read view found values i item lt is =
    at_drop_more (λ left. each_of read found (map view left)) values i item lt ∙ ap (λ one. each_of read found (map view (one ∷ drop (i + 1) values))) (sym is)

pub each-turn : {A V : Type 0} (read : List A → Data → Result A ElectionFault) (view : V → Data) (found : List A) (values : List V) (i : ℕ) (item : V) (one : A) (total : Result (List A) ElectionFault) → i < length values → item ≡ get_or values i item → read found (view item) ≡ Ok one → each_of read found (map view (drop i values)) ≡ total → each_of read (found ++ one ∷ []) (map view (drop (i + 1) values)) ≡ total
each-turn {A} read view found values i item one total lt is gives so_far =
    sym (ap (λ (r : Result A ElectionFault). r >>= λ one. each_of read (found ++ one ∷ []) (map view (drop (i + 1) values))) gives) ∙ sym (rest read view found values i item lt is) ∙ so_far
