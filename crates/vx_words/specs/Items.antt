-- The words of items.
use Rattle.std.specs.Prelude.{⊤, ◌≡◌, ◌≤◌, ◌<◌, All, true, ℕ, List, ◌∷◌, ◌++◌, codes, length, map, Result, Ok, Err}
use Rattle.vx_events.specs.Fits.{is_batch}
use Rattle.vx_words.specs.declared.command.ItemWord.{ItemWord}
use Rattle.vx_words.specs.declared.command.ItemWord.TheVariants.{Script, Scan}
use Rattle.vx_words.specs.declared.fault.UsageFault.{UsageFault}
use Rattle.vx_words.specs.declared.fault.UsageFault.TheVariants.{Usage, OutOfMemory}

-- an item's word: `script:NAME`, or `scan:BATCH:NAME`
abbrev pub item_word : ItemWord → List ℕ
item_word (Script name) = codes "script:" ++ name
item_word (Scan batch name) = codes "scan:" ++ batch ++ 58 ∷ name

-- its name isn't empty, and its batch may be one
abbrev pub IsItem : ItemWord → Type 0
IsItem (Script name) = 0 < length name
IsItem (Scan batch name) = (is_batch batch ≡ true) × (0 < length name)

-- 1 to 16 items
pub record AreItemWords (items : List ItemWord) : Type 0 where
  pub some : 1 ≤ length items
  pub few : length items ≤ 16
  pub are_items : All IsItem items

-- a word names an item
pub record IsItemWord (word : List ℕ) : Type 0 where
  pub item : ItemWord
  pub word_is : word ≡ item_word item
  pub is_item : IsItem item

-- words name these items
pub record NameItems (words : List (List ℕ)) (items : List ItemWord) : Type 0 where
  pub words_are : words ≡ map item_word items
  pub are_items : All IsItem items

-- the item that a word names; Usage only where it names none
abbrev pub ReadsItem : List ℕ → Result ItemWord UsageFault → Type 0
ReadsItem word (Ok item) = (word ≡ item_word item) × IsItem item
ReadsItem word (Err Usage) = IsItemWord word → ⊥
ReadsItem word (Err OutOfMemory) = ⊤

-- the items that words name; Usage only where one of them names none
abbrev pub ReadsItems : List (List ℕ) → Result (List ItemWord) UsageFault → Type 0
ReadsItems words (Ok items) = NameItems words items
ReadsItems words (Err Usage) = All IsItemWord words → ⊥
ReadsItems words (Err OutOfMemory) = ⊤
