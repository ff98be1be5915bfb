-- The words of `center`.
use Rattle.std.proofs.Common.{◌≡◌, ◌+◌, ◌≤◌, ℕ, Bool, true, false, List, [], ◌∷◌, length, map, drop, get_or, Some, None, refl, sym, ap, subst, ◌∙◌, arith}
use Rattle.std.specs.Prelude.{All, Err, is_some, slice_get}
use Rattle.std.specs.Borrow.{Bor}
use Rattle.std.proofs.lemmas.Bool.{false≢true}
use Rattle.std.proofs.lemmas.Option.{slice_get-get_or}
use Rattle.std.proofs.lemmas.List.{length-map}
use Rattle.std.proofs.lemmas.List.Elements.{All-head, All-tail}
use Rattle.vx_words.specs.declared.command.Command.{Command}
use Rattle.vx_words.specs.declared.command.Command.TheVariants.{Center}
use Rattle.vx_words.specs.declared.command.ItemWord.{ItemWord}
use Rattle.vx_words.specs.Devices.{device_of}
use Rattle.vx_words.specs.declared.fault.UsageFault.{UsageFault}
use Rattle.vx_words.specs.declared.fault.UsageFault.TheVariants.{Usage, OutOfMemory}
use Rattle.vx_words.specs.Items.{IsItemWord, NameItems, ReadsItems, item_word}
use Rattle.vx_words.specs.Moments.{is_moment}
use Rattle.vx_words.specs.Words.{Decides, HasName, IsArgument, IsSoundCenter, NoCommand, Reads, Spells}
use Rattle.vx_words.specs.declared.name.Name.TheVariants as names
use Rattle.vx_words.specs.Names.{name_word}
use Rattle.vx_words.proofs.OneSpelling.{spells_it}
use Rattle.vx_words.proofs.Parts.{known}
use Rattle.vx_words.proofs.ItemWords.{item_in, each_named, name_items}
use Rattle.vx_words.proofs.Made.{nowhere, shown}
use Rattle.vx_words.proofs.Moving.{got}
use Rattle.vx_words.proofs.Spellings.{called_so, some_device}

-- words of an election, a moment, a device's word and items
record IsCenter (words : List (List ℕ)) : Type 0 where
  election : List ℕ
  moment : List ℕ
  device : List ℕ
  named : List ℕ
  items : List ItemWord
  words_are : words ≡ name_word names.Center ∷ election ∷ moment ∷ device ∷ map item_word items
  sound : IsSoundCenter election moment device named items

centered : (words : List (List ℕ)) → slice_get words 0 ≡ Some (name_word names.Center) → (command : Command) → Spells words command → IsCenter words
centered words first command spelled =
    let center = spells_it words names.Center command first spelled in
    record {
      election = get_or words 1 [];
      moment = get_or words 2 [];
      device = center.device;
      named = known (device_of (get_or words 3 []));
      items = map item_in (drop 4 words);
      words_are = center.words_are;
      sound = center.sound;
    }

module _ (words : List (List ℕ)) (first : slice_get words 0 ≡ Some (name_word names.Center)) where
  -- it has 5 to 20 words
  pub so_many : (5 ≤ length words → length words ≤ 20 → ⊥) → NoCommand words
  so_many other command spelled =
      let is : IsCenter words = centered words first command spelled in
      let size : length words ≡ length (map item_word is.items) + 4 = ap (λ (w : List (List ℕ)). length w) is.words_are ∙ omega arith in
      let items : length (map item_word is.items) ≡ length is.items = length-map is.items item_word in
      other (omega (arith, size, items, is.sound.are_items.some)) (omega (arith, size, items, is.sound.are_items.few))

  -- its third word is a moment
  pub no_moment : (word : List ℕ) → slice_get words 2 ≡ Some word → is_moment word ≡ false → NoCommand words
  no_moment word at_2 bad command spelled =
      let is : IsCenter words = centered words first command spelled in
      let shown : slice_get words 2 ≡ Some is.moment = ap (λ (w : List (List ℕ)). slice_get w 2) is.words_are in
      let same : word ≡ is.moment = cc in
      false≢true (sym bad ∙ ap is_moment same ∙ is.sound.as_export.is_moment)

  -- its fourth names a device
  pub no_device : (word : List ℕ) → slice_get words 3 ≡ Some word → is_some (device_of word) ≡ false → NoCommand words
  no_device word at_3 none command spelled =
      let is : IsCenter words = centered words first command spelled in
      let shown : slice_get words 3 ≡ Some is.device = ap (λ (w : List (List ℕ)). slice_get w 3) is.words_are in
      let same : word ≡ is.device = cc in
      false≢true (sym none ∙ ap (λ (w : List ℕ). is_some (device_of w)) same ∙ ap is_some is.sound.as_export.is_named)

  -- and all others name items
  pub no_items : (All IsItemWord (drop 4 words) → ⊥) → NoCommand words
  no_items none command spelled =
      let is : IsCenter words = centered words first command spelled in
      let Are : List (List ℕ) → Type 0 = λ w. All IsItemWord (drop 4 w) in
      none (subst Are (sym is.words_are) (each_named is.items is.sound.are_items.are_items))

-- the words of a center
pub center_spelled :
    (words : List (List ℕ)) (election moment device named : List ℕ) (items : List ItemWord) → HasName words names.Center
    → slice_get words 1 ≡ Some election → slice_get words 2 ≡ Some moment → slice_get words 3 ≡ Some device
    → is_moment moment ≡ true → device_of device ≡ Some named → NameItems (drop 4 words) items
    → Spells words (Center election moment named items)
center_spelled [] election moment device named items called at_1 at_2 at_3 good known are = absurd (omega (arith, called.enough))
center_spelled (a ∷ []) election moment device named items called at_1 at_2 at_3 good known are = absurd (omega (arith, called.enough))
center_spelled (a ∷ b ∷ []) election moment device named items called at_1 at_2 at_3 good known are = absurd (omega (arith, called.enough))
center_spelled (a ∷ b ∷ c ∷ []) election moment device named items called at_1 at_2 at_3 good known are = absurd (omega (arith, called.enough))
center_spelled (name ∷ b ∷ c ∷ d ∷ more) election moment device named items called at_1 at_2 at_3 good known are =
    let behind : All IsArgument (c ∷ d ∷ more) = All-tail IsArgument b (c ∷ d ∷ more) called.arguments in
    let size : length more ≡ length items = ap (λ (w : List (List ℕ)). length w) are.words_are ∙ length-map items item_word in
    let is_election : b ≡ election = cc in
    let is_moment_word : c ≡ moment = cc in
    let is_device : d ≡ device = cc in
    record {
      device = device;
      words_are = (let start = called.first in let rest = are.words_are in cc);
      sound = record {
        as_export = record {
          is_argument = subst IsArgument is_election (All-head IsArgument b (c ∷ d ∷ more) called.arguments);
          moment_is_argument = subst IsArgument is_moment_word (All-head IsArgument c (d ∷ more) behind);
          is_moment = good;
          device_is_argument = subst IsArgument is_device (All-head IsArgument d more (All-tail IsArgument c (d ∷ more) behind));
          is_named = known;
        };
        are_items = record {
          some = omega (arith, called.enough, size);
          few = omega (arith, called.no_more, size);
          are_items = are.are_items;
        };
      };
    }

-- whether words are a center's, by whether the last of them name items
pub decided :
    (words : List (List ℕ)) (moment device : List ℕ) → HasName words names.Center → slice_get words 2 ≡ Some moment → slice_get words 3 ≡ Some device
    → is_moment moment ≡ true → is_some (device_of device) ≡ true → (decision : Bool)
    → (decision ≡ true → All IsItemWord (drop 4 words)) → (All IsItemWord (drop 4 words) → decision ≡ true) → Decides words decision
decided words moment device called at_2 at_3 good known true are back =
    let named = some_device device known in
    let items = name_items (drop 4 words) (are refl) in
    (_, center_spelled words (get_or words 1 []) moment device named.0 items.0 called (slice_get-get_or words 1 [] (omega (arith, called.enough))) at_2 at_3 good named.1 items.1)
decided words moment device called at_2 at_3 good known false are back = no_items words called.first (λ all. false≢true (back all))

-- the words behind the name
module _ (words : List (Bor (List ℕ))) where
  behind_it : length (name_word names.Center ∷ shown words) ≡ length words + 1
  behind_it = omega (arith, length-map words (λ (word : Bor (List ℕ)). word.now))

  pub not_so_many : (4 ≤ length words → length words ≤ 19 → ⊥) → NoCommand (name_word names.Center ∷ shown words)
  not_so_many other =
      so_many (name_word names.Center ∷ shown words) refl (λ least most. other (omega (arith, behind_it, least)) (omega (arith, behind_it, most)))

  pub no_moment_made : 4 ≤ length words → is_moment (get_or words 1 nowhere).now ≡ false → NoCommand (name_word names.Center ∷ shown words)
  no_moment_made least bad = no_moment (name_word names.Center ∷ shown words) refl (get_or words 1 nowhere).now (got words 1 nowhere (omega (arith, least))) bad

  pub no_device_made : 4 ≤ length words → None ≡ device_of (get_or words 2 nowhere).now → NoCommand (name_word names.Center ∷ shown words)
  no_device_made least bad =
      no_device (name_word names.Center ∷ shown words) refl (get_or words 2 nowhere).now (got words 2 nowhere (omega (arith, least))) (ap is_some (sym bad))

  pub center_made : (named : List ℕ) (items : List ItemWord) → 4 ≤ length words → length words ≤ 19 → All IsArgument (shown words)
      → is_moment (get_or words 1 nowhere).now ≡ true → device_of (get_or words 2 nowhere).now ≡ Some named → NameItems (drop 3 (shown words)) items
      → Spells (name_word names.Center ∷ shown words) (Center (get_or words 0 nowhere).now (get_or words 1 nowhere).now named items)
  center_made named items least most are good known name =
      center_spelled (name_word names.Center ∷ shown words) (get_or words 0 nowhere).now (get_or words 1 nowhere).now (get_or words 2 nowhere).now named items
      (called_so names.Center (shown words) are (omega (arith, behind_it, least)) (omega (arith, behind_it, most)))
      (got words 0 nowhere (omega (arith, least))) (got words 1 nowhere (omega (arith, least))) (got words 2 nowhere (omega (arith, least))) good known name

  -- where the items can't be read, neither can the command
  pub no_items_made : (fault told : UsageFault) → told ≡ fault → ReadsItems (drop 3 (shown words)) (Err fault)
      → Reads (name_word names.Center ∷ shown words) (Err told)
  no_items_made fault Usage is said =
      let Said : UsageFault → Type 0 = λ some. ReadsItems (drop 3 (shown words)) (Err some) in
      no_items (name_word names.Center ∷ shown words) refl (subst Said (sym is) said)
  no_items_made fault OutOfMemory is said = tt
