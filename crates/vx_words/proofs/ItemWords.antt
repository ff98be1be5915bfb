-- The words of items, and the items that they name.
use Rattle.std.proofs.Common.{◌≡◌, ◌==◌, ◌+◌, ◌<◌, ◌≤◌, ℕ, Bool, true, false, List, [], ◌∷◌, ◌++◌, length, map, drop, get_or, refl, sym, ap, ap₂, subst, ◌∙◌, arith}
use Rattle.std.specs.Prelude.{◌≢◌, All, Err, MatchOption, Option, Some, if◌then◌else◌, slice_get}
use Rattle.std.specs.Borrow.{Bor}
use Rattle.std.specs.List.{after_first, before_first, list_all, position_or_len}
use Rattle.std.proofs.lemmas.Bool.{and_parts, eqb-true, false≢true}
use Rattle.std.proofs.lemmas.List.Elements.{All-head, All-tail, All-cons, All-nil}
use Rattle.std.proofs.lemmas.List.{map-append}
use Rattle.std.proofs.lemmas.List.Sums.{AllPass-from_list_all}
use Rattle.std.proofs.lemmas.Str.Pattern.{IsSplitOnceResult, split_after}
use Rattle.std.proofs.Math.Seq.{drop-append-add, take-append_seam}
use Rattle.vx_json.specs.Reading.{is_within}
use Rattle.vx_events.specs.Fits.{is_batch, is_batch_character}
use Rattle.vx_words.specs.declared.command.ItemWord.{ItemWord}
use Rattle.vx_words.specs.declared.command.ItemWord.TheVariants.{Script, Scan}
use Rattle.vx_words.specs.declared.fault.UsageFault.{UsageFault}
use Rattle.vx_words.specs.declared.fault.UsageFault.TheVariants.{Usage, OutOfMemory}
use Rattle.vx_words.specs.Items.{IsItem, IsItemWord, NameItems, ReadsItem, ReadsItems, item_word}
use Rattle.vx_words.proofs.Moving.{one_moved, one_of_them}

abbrev pub is_colon : ℕ → Bool
is_colon b = b == 58

-- a batch has no colon: what stands before the first colon of a scan's word is its batch
no_colon : (b : ℕ) → is_batch_character b ≡ true → is_colon b ≡ false
no_colon b is = by (is_colon b) refl
  where
    by : (colon : Bool) → is_colon b ≡ colon → is_colon b ≡ false
    by false not = not
    by true it = absurd (false≢true (ap is_batch_character (sym (eqb-true b 58 it)) ∙ is))

behind_batch : (batch name : List ℕ) → list_all is_batch_character batch ≡ true → position_or_len is_colon (batch ++ 58 ∷ name) ≡ length batch
behind_batch [] name are = refl
behind_batch (b ∷ batch) name are =
    let parts = and_parts (is_batch_character b) (list_all is_batch_character batch) are in
    rw (no_colon b parts.0) (omega (arith, behind_batch batch name parts.1))

first_colon : (batch name : List ℕ) → is_batch batch ≡ true → position_or_len is_colon (batch ++ 58 ∷ name) ≡ length batch
first_colon batch name is = behind_batch batch name (and_parts (is_within 1 32 (length batch)) (list_all is_batch_character batch) is).1

pub before_colon : (batch name : List ℕ) → is_batch batch ≡ true → before_first is_colon (batch ++ 58 ∷ name) ≡ batch
before_colon batch name is = rw (first_colon batch name is) (take-append_seam batch (58 ∷ name))

pub after_colon : (batch name : List ℕ) → is_batch batch ≡ true → after_first is_colon (batch ++ 58 ∷ name) ≡ name
after_colon batch name is = rw (first_colon batch name is) (drop-append-add batch (58 ∷ name) 1)

-- an item is the one that its word names: by the third letter of its kind
abbrev item_at : ℕ → List ℕ → ItemWord
item_at third word = if third == 114 then Script (drop 7 word) else Scan (before_first is_colon (drop 5 word)) (after_first is_colon (drop 5 word))

abbrev pub item_in : List ℕ → ItemWord
item_in word = item_at (get_or word 2 0) word

pub item_back : (item : ItemWord) → IsItem item → item_in (item_word item) ≡ item
item_back (Script name) is = refl
item_back (Scan batch name) is = ap₂ Scan (before_colon batch name is.0) (after_colon batch name is.0)

pub items_back : (items : List ItemWord) → All IsItem items → map item_in (map item_word items) ≡ items
items_back [] are = refl
items_back (item ∷ items) are =
    ap₂ (λ (one : ItemWord) (others : List ItemWord). one ∷ others) (item_back item (All-head IsItem item items are)) (items_back items (All-tail IsItem item items are))

-- where each word names an item, the words name items
pub name_items : (words : List (List ℕ)) → All IsItemWord words → (items : List ItemWord) × NameItems words items
name_items [] are = ([], record { words_are = refl; are_items = All-nil IsItem })
name_items (word ∷ words) are =
    let one = All-head IsItemWord word words are in
    let others = name_items words (All-tail IsItemWord word words are) in (
      one.item ∷ others.0,
      record {
        words_are = ap₂ (λ (w : List ℕ) (more : List (List ℕ)). w ∷ more) one.word_is others.1.words_are;
        are_items = All-cons IsItem one.item others.0 one.is_item others.1.are_items;
      },
    )

-- and where they name items, each does
pub each_named : (items : List ItemWord) → All IsItem items → All IsItemWord (map item_word items)
each_named [] are = All-nil IsItemWord
each_named (item ∷ items) are =
    All-cons IsItemWord (item_word item) (map item_word items) (record { item = item; word_is = refl; is_item = All-head IsItem item items are })
    (each_named items (All-tail IsItem item items are))

-- behind `scan:` a scan's word is cut at its first colon into its batch and its name
pub scan_cut :
    (word rest batch name : List ℕ) (n : ℕ) (found known : Option (Bor (List ℕ) × Bor (List ℕ))) → n ≡ 5 → rest ≡ drop n word → IsSplitOnceResult 58 rest found
    → found ≡ known → IsItem (Scan batch name) → word ≡ item_word (Scan batch name)
    → MatchOption known ⊥ (λ parts. (parts.0.now ≡ batch) × (parts.1.now ≡ name))
scan_cut word rest batch name n found known five behind cut same is word_is =
    let whole : rest ≡ batch ++ 58 ∷ name = behind ∙ ap (λ (k : ℕ). drop k word) five ∙ ap (λ (w : List ℕ). drop 5 w) word_is in
    let no : (i : ℕ) → i < length batch → get_or batch i 0 ≢ 58 = λ i inside at.
    let character = AllPass-from_list_all is_batch_character batch (and_parts (is_within 1 32 (length batch)) (list_all is_batch_character batch) is.0).1 i 0 inside in
    false≢true (sym (ap is_batch_character at) ∙ character) in
    let Cut : Option (Bor (List ℕ) × Bor (List ℕ)) → Type 0 = λ some. MatchOption some ⊥ (λ parts. (parts.0.now ≡ batch) × (parts.1.now ≡ name)) in
    subst Cut same (split_after 58 rest batch name found cut (omega arith) whole no)

-- one item more
pub one_item : (items : List ItemWord) (item : ItemWord) (words all : List (List ℕ)) (i : ℕ) (word : List ℕ) → slice_get words i ≡ Some word → word ≡ item_word item → map item_word items ++ drop i words ≡ all → map item_word (items ++ item ∷ []) ++ drop (i + 1) words ≡ all
one_item items item words all i word at word_is so_far =
    ap (λ (moved : List (List ℕ)). moved ++ drop (i + 1) words) (map-append item_word items (item ∷ []))
    ∙ one_moved (map item_word items) words all i (item_word item) (at ∙ ap Some word_is) so_far

-- where one of the words names no item, they don't all name one
pub stray : (words : List (List ℕ)) (from i : ℕ) (word : List ℕ) (fault told : UsageFault) → from ≤ i → slice_get words i ≡ Some word → told ≡ fault → ReadsItem word (Err fault) → ReadsItems (drop from words) (Err told)
stray words from i word fault Usage behind at is said = λ all.
    let Said : UsageFault → Type 0 = λ some. ReadsItem word (Err some) in
    subst Said (sym is) said (one_of_them IsItemWord words from i word behind at all)
stray words from i word fault OutOfMemory behind at is said = tt
