-- How a sheet is found: by its place, and by its name.
use Rattle.std.proofs.Common.{◌≡◌, ℕ, zero, suc, ◌<◌, ◌≤◌, ◌⊎◌, inl, inr, Bool, true, false, ◌==◌, List, [], ◌∷◌, length, map, refl, sym, ap, ◌∙◌, subst, arith}
use Rattle.std.specs.Prelude.{◌&&◌, Option, Some, None, IfNone, IsSome, MatchOption, is_some, slice_get, position, nat_eq}
use Rattle.std.specs.Map.{keys_of}
use Rattle.std.specs.Cmp.Lexicographic.{pointwise}
use Rattle.std.proofs.lemmas.List.{length-map}
use Rattle.std.proofs.lemmas.Option.{same_Some, slice_get_within}
use Rattle.std.proofs.lemmas.Slice.Eq.{bytes_eq-Decides}
use Rattle.vx_base.proofs.Booleans.{and-both, and-left, and-right}
use Rattle.vx_base.proofs.Lists.{map-map}
use Rattle.vx_base.proofs.Numbers.{equal-yes, equal-from_yes, at_most-from_yes}
use Rattle.vx_election_model.specs.declared.election.Election.{Election}
use Rattle.vx_rules.specs.declared.marks.SheetMarks.{SheetMarks}
use Rattle.vx_events.specs.declared.event.Event.{Event}
use Rattle.vx_events.specs.declared.event.Event.TheVariants.{Add}
use Rattle.vx_events.specs.declared.key.Key.{Key}
use Rattle.vx_events.specs.Fits.{is_batch, is_key, is_sheet}
use Rattle.vx_center.specs.declared.center.Found.{Found}
use Rattle.vx_center.specs.declared.name.SheetName.{SheetName}
use Rattle.vx_center.specs.Sheets.{Added, IsSheetOf, same_key, has_key, sheets_in, place_in, sheet_in}
use Rattle.vx_center.specs.Holders.{holder_of}
use Rattle.vx_center.specs.Decisions.{decided_of}
use Rattle.vx_center.specs.Histories.{IsHistory}
use Rattle.vx_center.specs.States.{Entry, entry_of, named_entry, name_of_key, padded, IsKept, IsAt, IsFound, IsUnknown}
use Rattle.vx_center.proofs.Places.{position-is, position_from-map, position_from-same}
use Rattle.vx_center.proofs.Adding.{event-of, few-sheets}
use Rattle.vx_center.proofs.Keys.{same-equal, padded-equal}
use Rattle.vx_center.proofs.Following.{look-up, NotAdded, IsAdded}

-- what stands in a map comes from what stands there
pub record ComesFrom {X Y : Type 0} (f : X → Y) (xs : List X) (i : ℕ) (y : Y) : Type 0 where
  pub from : X
  pub there : slice_get xs i ≡ Some from
  pub made : f from ≡ y

pub comes-from : {X Y : Type 0} (f : X → Y) (xs : List X) (i : ℕ) (y : Y) → slice_get (map f xs) i ≡ Some y → ComesFrom f xs i y
comes-from f [] i y h = absurd cc
comes-from f (x ∷ xs) zero y h = record { from = x; there = refl; made = same_Some (f x) y h }
comes-from f (x ∷ xs) (suc i) y h =
    let rest = comes-from f xs i y h in
    record { from = rest.from; there = rest.there; made = rest.made }

-- a key that fits has at most 32 bytes of a batch
pub short-key : (key : Key) → is_key key ≡ true → length key.batch ≤ 32
short-key key h = at_most-from_yes (length key.batch) 32 (and-right _ _ (and-left _ _ (and-left _ _ h)))

-- and a number up to 999,999
low-key : (key : Key) → is_key key ≡ true → key.number ≤ 999999
low-key key h = at_most-from_yes key.number 999999 (and-right _ _ (and-right (is_batch key.batch) _ h))

-- the event of an added sheet fits
pub added-fits : (election : Election) (kept : List Event) (i : ℕ) (added : Added) → IsHistory election kept → slice_get (sheets_in kept) i ≡ Some added
    → (is_key added.key ≡ true) × (is_sheet election added.sheet ≡ true)
added-fits election kept i added history there =
    let fits = history.fits added.at (Add added.key added.sheet) (event-of kept i added there) in
    (and-left _ _ fits, and-right (is_key added.key) _ fits)

-- names are the same where the keys are
abbrev pub same_name : SheetName → SheetName → Bool
same_name one other = pointwise nat_eq one.batch other.batch && (one.size == other.size && one.number == other.number)

pub names-keys : (one other : Key) → same_name (name_of_key one) (name_of_key other) ≡ same_key one other
names-keys one other = by (same_key one other) refl (same_name (name_of_key one) (name_of_key other)) refl
  where
    to : same_key one other ≡ true → same_name (name_of_key one) (name_of_key other) ≡ true
    to e =
        let same = same-equal one other e in
        ap (λ (k : Key). same_name (name_of_key one) (name_of_key k)) (sym same)
        ∙ and-both _ _ ((bytes_eq-Decides (padded one.batch) (padded one.batch)).1 refl)
        (and-both _ _ (equal-yes (length one.batch) (length one.batch) refl) (equal-yes one.number one.number refl))

    from : same_name (name_of_key one) (name_of_key other) ≡ true → same_key one other ≡ true
    from e =
        let batch = (bytes_eq-Decides (padded one.batch) (padded other.batch)).0 (and-left _ _ e) in
        let rest = and-right (pointwise nat_eq (padded one.batch) (padded other.batch)) _ e in
        let size = equal-from_yes (length one.batch) (length other.batch) (and-left _ _ rest) in
        let number = and-right (length one.batch == length other.batch) _ rest in
        and-both _ _ ((bytes_eq-Decides one.batch other.batch).1 (padded-equal one.batch other.batch batch size)) number

    by : (a : Bool) → same_key one other ≡ a → (b : Bool) → same_name (name_of_key one) (name_of_key other) ≡ b → same_name (name_of_key one) (name_of_key other) ≡ same_key one other
    by true e b f = to e ∙ sym e
    by false e true f = let yes = from f in absurd cc
    by false e false f = f ∙ sym e

module _ (election : Election) (kept : List Event) (entries : List (SheetName × Entry)) (is : IsKept election kept entries) where
  names-are : keys_of entries ≡ map (λ (added : Added). name_of_key added.key) (sheets_in kept)
  names-are = ap keys_of is.entries ∙ map-map (λ (e : SheetName × Entry). e.0) (named_entry kept) (sheets_in kept)

  -- the place of a name is that of the key
  pub place-named : (key : Key) → position (same_name (name_of_key key)) (keys_of entries) ≡ place_in kept key
  place-named key =
      ap (position (same_name (name_of_key key))) names-are
      ∙ position-is (same_name (name_of_key key)) (map (λ (added : Added). name_of_key added.key) (sheets_in kept))
      ∙ position_from-map (same_name (name_of_key key)) (λ (added : Added). name_of_key added.key) 0 (sheets_in kept)
      ∙ position_from-same (λ (added : Added). same_name (name_of_key key) (name_of_key added.key)) (has_key key) 0 (sheets_in kept) (λ i added there. names-keys key added.key)

  -- what doesn't hold of a key that fits holds of no sheet's
  unfit-key : (key : Key) → (is_key key ≡ true → ⊥) → place_in kept key ≡ None
  unfit-key key unfit = by (look-up kept key)
    where
      by : NotAdded kept key ⊎ IsAdded kept key → place_in kept key ≡ None
      by (inl missing) = missing.place
      by (inr one) =
          absurd (unfit (ap is_key one.keyed ∙ (added-fits election kept one.index one.added is.history one.there).0))

  -- no sheet has a longer batch or a greater number
  pub long-key : (key : Key) → 32 < length key.batch → place_in kept key ≡ None
  long-key key long = unfit-key key (λ fits. omega (arith, long, short-key key fits))

  pub high-key : (key : Key) → 999999 < key.number → place_in kept key ≡ None
  high-key key high = unfit-key key (λ fits. omega (arith, high, low-key key fits))

  -- a sheet is found at its place
  pub found-at : (place : ℕ) (name : SheetName) (entry : Entry) (key : Key) (sheet : SheetMarks)
      → slice_get entries place ≡ Some (name, entry) → slice_get kept entry.at ≡ Some (Add key sheet) → IsAt election kept place key sheet entry
  found-at place name entry key sheet there event =
      let from = comes-from (named_entry kept) (sheets_in kept) place (name, entry) (ap (λ (es : List (SheetName × Entry)). slice_get es place) (sym is.entries) ∙ there) in
      let known : entry_of kept from.from ≡ entry = ap (λ (e : SheetName × Entry). e.1) from.made in
      let own = event-of kept place from.from from.there in
      let same : Add from.from.key from.from.sheet ≡ Add key sheet =
      same_Some _ _ (sym own ∙ ap (λ (e : Entry). slice_get kept e.at) known ∙ event) in
      let keyed : from.from.key ≡ key = cc in
      let read : from.from.sheet ≡ sheet = cc in
      record {
        added = from.from;
        there = from.there;
        keyed = keyed;
        read = read;
        known = known;
        fits = subst (λ (s : SheetMarks). is_sheet election s ≡ true) read (added-fits election kept place from.from is.history from.there).1;
      }

  -- and its event is there
  pub event-there : (place : ℕ) (name : SheetName) (entry : Entry) → slice_get entries place ≡ Some (name, entry) → (key : Key) × (sheet : SheetMarks) × (slice_get kept entry.at ≡ Some (Add key sheet))
  event-there place name entry there =
      let from = comes-from (named_entry kept) (sheets_in kept) place (name, entry) (ap (λ (es : List (SheetName × Entry)). slice_get es place) (sym is.entries) ∙ there) in
      let known : entry_of kept from.from ≡ entry = ap (λ (e : SheetName × Entry). e.1) from.made in
      (from.from.key, from.from.sheet, ap (λ (e : Entry). slice_get kept e.at) (sym known) ∙ event-of kept place from.from from.there)

-- what is found at the place of a key is found by the key
pub found-by : (election : Election) (kept : List Event) (key other : Key) (place : ℕ) (sheet : SheetMarks) (entry : Entry)
    → place_in kept key ≡ Some place → IsAt election kept place other sheet entry → IsFound election kept key sheet entry
found-by election kept key other place sheet entry found is = by (look-up kept key)
  where
    by : NotAdded kept key ⊎ IsAdded kept key → IsFound election kept key sheet entry
    by (inl missing) = let nothing = missing.place in absurd cc
    by (inr one) =
        let index : one.index ≡ place = same_Some _ _ (sym one.place ∙ found) in
        let added : one.added ≡ is.added = same_Some _ _ (sym (subst (λ n. slice_get (sheets_in kept) n ≡ Some one.added) index one.there) ∙ is.there) in
        let keyed : key ≡ is.added.key = one.keyed ∙ ap (λ (a : Added). a.key) added in
        record {
          there = one.sheet ∙ ap (λ (a : Added). Some a.sheet) added ∙ ap Some is.read;
          fits = is.fits;
          held = ap (holder_of kept) keyed ∙ ap (λ (e : Entry). e.holder) is.known;
          ruled = ap (decided_of kept) keyed ∙ ap (λ (e : Entry). e.decided) is.known;
        }

pub placed : (kept : List Event) (key : Key) → IsAdded kept key → IsSome (place_in kept key)
placed kept key is = ap is_some is.place

-- what wasn't added isn't known
pub unknown : (election : Election) (kept : List Event) (entries : List (SheetName × Entry)) (key : Key) → IsKept election kept entries → place_in kept key ≡ None → IsUnknown kept key
unknown election kept entries key is none = record {
  missing = by (look-up kept key);
  free = (is.quiet key none).free;
  undecided = (is.quiet key none).undecided;
}
  where
    by : NotAdded kept key ⊎ IsAdded kept key → sheet_in kept key ≡ None
    by (inl missing) = missing.sheet
    by (inr one) = let place = one.place in absurd cc

pub answers-unknown : (election : Election) (kept : List Event) (entries : List (SheetName × Entry)) (key : Key) → IsKept election kept entries → (found : Option ℕ) → found ≡ place_in kept key → IfNone found (IsUnknown kept key)
answers-unknown election kept entries key is None h = unknown election kept entries key is (sym h)
answers-unknown election kept entries key is (Some place) h = tt

-- a sheet that was added has its entry
pub place-within : (election : Election) (kept : List Event) (entries : List (SheetName × Entry)) (key : Key) (place : ℕ) → IsKept election kept entries → place_in kept key ≡ Some place → place < length entries
place-within election kept entries key place is found = by (look-up kept key)
  where
    by : NotAdded kept key ⊎ IsAdded kept key → place < length entries
    by (inl missing) = let none = missing.place in absurd cc
    by (inr one) =
        let index : one.index ≡ place = same_Some _ _ (sym one.place ∙ found) in
        omega (arith, index, slice_get_within (sheets_in kept) one.index one.added one.there, ap length is.entries ∙ length-map (sheets_in kept) (named_entry kept))

-- at the place of a key there is a sheet
pub place_there : (kept : List Event) (key : Key) (place : ℕ) → place_in kept key ≡ Some place → slice_get (sheets_in kept) place ≡ None → ⊥
place_there kept key place at none = by (look-up kept key)
  where
    by : NotAdded kept key ⊎ IsAdded kept key → ⊥
    by (inl missing) = let nothing = missing.place in absurd cc
    by (inr one) =
        let index : one.index ≡ place = same_Some _ _ (sym one.place ∙ at) in
        let there = subst (λ n. slice_get (sheets_in kept) n ≡ Some one.added) index one.there in
        absurd cc

-- what is answered of the sheet at the place of a key
pub found-answers : (election : Election) (kept : List Event) (key : Key) (place : ℕ) → place_in kept key ≡ Some place → (found : Option Found)
    → MatchOption found (slice_get (sheets_in kept) place ≡ None) (λ one. IsAt election kept place one.key.now one.sheet.now one.entry.now)
    → MatchOption found (IsUnknown kept key) (λ one. IsFound election kept key one.sheet.now one.entry.now)
found-answers election kept key place at None none = absurd (place_there kept key place at none)
found-answers election kept key place at (Some one) h = found-by election kept key one.key.now place one.sheet.now one.entry.now at h

-- what is answered of the sheet with a key, by its place
pub sheet_of_place : (election : Election) (kept : List Event) (key own : Key) (place : ℕ) (sheet : SheetMarks) (entry : Entry)
    → place_in kept key ≡ Some place → IsAt election kept place own sheet entry → IsSheetOf election kept key own sheet
sheet_of_place election kept key own place sheet entry found is = by (look-up kept key)
  where
    by : NotAdded kept key ⊎ IsAdded kept key → IsSheetOf election kept key own sheet
    by (inl missing) = let nothing = missing.place in absurd cc
    by (inr one) =
        let index : one.index ≡ place = same_Some _ _ (sym one.place ∙ found) in
        let added : one.added ≡ is.added = same_Some _ _ (sym (subst (λ n. slice_get (sheets_in kept) n ≡ Some one.added) index one.there) ∙ is.there) in
        record {
          same = one.keyed ∙ ap (λ (a : Added). a.key) added ∙ is.keyed;
          there = one.sheet ∙ ap (λ (a : Added). Some a.sheet) added ∙ ap Some is.read;
          fits = is.fits;
        }

-- a place is below the number of events
pub place-below : (kept : List Event) (key : Key) (place : ℕ) → place_in kept key ≡ Some place → place < length kept
place-below kept key place found = by (look-up kept key)
  where
    by : NotAdded kept key ⊎ IsAdded kept key → place < length kept
    by (inl missing) = let none = missing.place in absurd cc
    by (inr one) =
        let index : one.index ≡ place = same_Some _ _ (sym one.place ∙ found) in
        omega (arith, index, slice_get_within (sheets_in kept) one.index one.added one.there, few-sheets 0 kept)
