-- A turn of a loop over the elements of a list that are read one after another.
use Rattle.std.proofs.Common.{◌≡◌, ℕ, ◌+◌, ◌<◌, List, ◌∷◌, length, map, drop, get_or, Result, Ok, Err, sym, ap, subst, ◌∙◌}
use Rattle.std.proofs.lemmas.List.{at_drop_more}
use Rattle.serde_json.specs.Data.{Data}
use Rattle.vx_base.specs.Results.{◌>>=◌}
use Rattle.vx_tally.specs.declared.fault.ReportFault.{ReportFault}
use Rattle.vx_base.specs.Refusals.{Unless, GivesAs}
use Rattle.vx_tally.specs.Faults.{is_no_memory}
use Rattle.vx_tally.specs.Members.{with_next, each_of}

module _ {A V : Type 0} (read : List A → Data → Result A ReportFault) (view : V → Data) (found : List A) (values : List V) (i : ℕ) (item : V)
    (lt : i < length values) (is : item ≡ get_or values i item) where
  -- what is left of a list begins with the item at the index
  rest : each_of read found (map view (drop i values)) ≡ (with_next read found (view item) >>= λ more. each_of read more (map view (drop (i + 1) values)))
  rest =
      at_drop_more (λ left. each_of read found (map view left)) values i item lt ∙ ap (λ one. each_of read found (map view (one ∷ drop (i + 1) values)))
      (sym is)

  module _ (total : Result (List A) ReportFault) (so_far : each_of read found (map view (drop i values)) ≡ total) where
    -- the item is read, and what is left is read behind it
    pub next-turn : (more : List A) → with_next read found (view item) ≡ Ok more → each_of read more (map view (drop (i + 1) values)) ≡ total
    next-turn more gives =
        sym (ap (λ (r : Result (List A) ReportFault). r >>= λ more. each_of read more (map view (drop (i + 1) values))) gives) ∙ sym rest ∙ so_far

    -- the item is refused, and so is all
    pub next-refused : (fault : ReportFault) → with_next read found (view item) ≡ Err fault → total ≡ Err fault
    next-refused fault gives =
        sym so_far ∙ rest ∙ ap (λ (r : Result (List A) ReportFault). r >>= λ more. each_of read more (map view (drop (i + 1) values))) gives

-- an answer that hands a refusal on, where all is refused so
pub hands-on : {A B : Type 0} (given : A → B) (result : Result A ReportFault) (fault : ReportFault) (total : Result B ReportFault) → result ≡ Err fault
    → Unless (is_no_memory fault) (total ≡ Err fault) → GivesAs given is_no_memory result total
hands-on {A} given result fault total is h = subst (λ (r : Result A ReportFault). GivesAs given is_no_memory r total) (sym is) h
