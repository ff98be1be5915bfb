-- The outline of a value: how deep it is, its numbers, and what it is read as.
use Rattle.std.proofs.Common.{◌≡◌, ℕ, suc, ◌<◌, Bool, cond, List, [], ◌∷◌, get_or, pos, negsuc, Some, option_and_then, decimal, max, refl, sym, ap, ap₂, ◌∙◌, arith}
use Rattle.std.specs.Prelude.{option_map}
use Rattle.std.proofs.lemmas.Bool.{ne_eqb}
use Rattle.std.proofs.lemmas.Fmt.{first_decimal}
use Rattle.json.specs.Tree as tree
use Rattle.json.specs.Word.{after_whole, after_fraction, after_exponent, after_number}
use Rattle.json.specs.Print.{IsNumber}
use Rattle.json.proofs.Printed.Decimals.{IsNumber-decimal}
use Rattle.serde_json.specs.Data.{Num, unsigned, negative, float, Data, null, boolean, number, string, array, object, Items, no_items, item, Members, no_members, member, put, depth, items_depth, members_depth}
use Rattle.serde_json.specs.Read.{number_of, of_json, of_items, of_members}
use Rattle.serde_json.specs.Written.{number_text, outline, items_outline, members_outline}
use Rattle.serde_json.proofs.Numbers.{number_of-decimal, number_of-negative}
use Rattle.vx_json_trip.specs.Trips.{IsWhole, HasWholeNumbers, ItemsHaveWholeNumbers, MembersHaveWholeNumbers, settled, settled_items, settled_members}

mutual
  pub depth-outline : (d : Data) → tree.depth (outline d) ≡ depth d
  depth-outline null = refl
  depth-outline (boolean b) = refl
  depth-outline (number n) = refl
  depth-outline (string s) = refl
  depth-outline (array ds) = ap (λ (n : ℕ). suc n) (items_depth-outline ds)
  depth-outline (object ms) = ap (λ (n : ℕ). suc n) (members_depth-outline ms)

  items_depth-outline : (ds : Items) → tree.items_depth (items_outline ds) ≡ items_depth ds
  items_depth-outline no_items = refl
  items_depth-outline (item d ds) = ap₂ max (depth-outline d) (items_depth-outline ds)

  members_depth-outline : (ms : Members) → tree.members_depth (members_outline ms) ≡ members_depth ms
  members_depth-outline no_members = refl
  members_depth-outline (member k d ms) = ap₂ max (depth-outline d) (members_depth-outline ms)

-- digits behind a sign
negative_digits : (ds : List ℕ) → 48 < get_or ds 0 0 → IsNumber ds → IsNumber (45 ∷ ds)
unfolding after_number
negative_digits [] first h = absurd (omega (arith, first))
negative_digits (d ∷ ds) first h =
    sym (ap (λ (b : Bool). option_and_then after_exponent (option_and_then after_fraction (after_whole (cond b ds (d ∷ ds)))))
    (ne_eqb d 45 (λ e. omega (arith, first, e)))) ∙ h

IsNumber-text : (n : Num) → IsWhole n → IsNumber (number_text n)
IsNumber-text (unsigned n) h = IsNumber-decimal n h
IsNumber-text (negative (pos n)) h = absurd h
IsNumber-text (negative (negsuc n)) h =
    negative_digits (decimal (suc n)) (first_decimal (suc n) (omega arith) (omega (arith, h))) (IsNumber-decimal (suc n) (omega (arith, h)))
IsNumber-text (float x) h = absurd h

mutual
  pub HasNumbers-outline : (d : Data) → HasWholeNumbers d → tree.HasNumbers (outline d)
  HasNumbers-outline null h = tt
  HasNumbers-outline (boolean b) h = tt
  HasNumbers-outline (number n) h = IsNumber-text n h
  HasNumbers-outline (string s) h = tt
  HasNumbers-outline (array ds) h = ItemsHaveNumbers-outline ds h
  HasNumbers-outline (object ms) h = MembersHaveNumbers-outline ms h

  ItemsHaveNumbers-outline : (ds : Items) → ItemsHaveWholeNumbers ds → tree.ItemsHaveNumbers (items_outline ds)
  ItemsHaveNumbers-outline no_items h = tt
  ItemsHaveNumbers-outline (item d ds) h = (HasNumbers-outline d h.0, ItemsHaveNumbers-outline ds h.1)

  MembersHaveNumbers-outline : (ms : Members) → MembersHaveWholeNumbers ms → tree.MembersHaveNumbers (members_outline ms)
  MembersHaveNumbers-outline no_members h = tt
  MembersHaveNumbers-outline (member k d ms) h = (HasNumbers-outline d h.0, MembersHaveNumbers-outline ms h.1)

number_of-text : (n : Num) → IsWhole n → number_of (number_text n) ≡ Some n
number_of-text (unsigned n) h = number_of-decimal n h
number_of-text (negative (pos n)) h = absurd h
number_of-text (negative (negsuc n)) h = number_of-negative n h
number_of-text (float x) h = absurd h

mutual
  pub of_json-outline : (d : Data) → HasWholeNumbers d → of_json (outline d) ≡ Some (settled d)
  of_json-outline null h = refl
  of_json-outline (boolean b) h = refl
  of_json-outline (number n) h = ap (option_map number) (number_of-text n h)
  of_json-outline (string s) h = refl
  of_json-outline (array ds) h = ap (option_map array) (of_items-outline ds h)
  of_json-outline (object ms) h = ap (option_map object) (of_members-outline ms no_members h)

  of_items-outline : (ds : Items) → ItemsHaveWholeNumbers ds → of_items (items_outline ds) ≡ Some (settled_items ds)
  of_items-outline no_items h = refl
  of_items-outline (item d ds) h =
      ap (option_and_then (λ (e : Data). option_map (item e) (of_items (items_outline ds)))) (of_json-outline d h.0)
      ∙ ap (option_map (item (settled d))) (of_items-outline ds h.1)

  -- behind the members that are in
  of_members-outline : (ms found : Members) → MembersHaveWholeNumbers ms → of_members (members_outline ms) found ≡ Some (settled_members ms found)
  of_members-outline no_members found h = refl
  of_members-outline (member k d ms) found h =
      ap (option_and_then (λ (e : Data). of_members (members_outline ms) (put k e found))) (of_json-outline d h.0)
      ∙ of_members-outline ms (put k (settled d) found) h.1
