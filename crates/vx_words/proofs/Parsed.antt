-- What `clap` answers, and the command that words spell.
use Rattle.std.proofs.Common.{◌≡◌, ◌<◌, ◌^◌, List, [], ◌∷◌, Option, Some, None, Err, length, refl, sym, ap, ◌∙◌, Bool, true, false, cond, inl, inr, arith}
use Rattle.std.specs.Prelude.{◌≢◌, All, codes, find, is_some, option_map, unwrap_or}
use Rattle.std.specs.Str.{bytes_eq}
use Rattle.std.proofs.lemmas.Bool.{cases_Bool, false≢true, or_from, or_left}
use Rattle.std.proofs.lemmas.Option.{same_Some}
use Rattle.clap.proofs.WalkLemmas.{find-map}
use Rattle.std.proofs.lemmas.List.Elements.{All-head, All-tail}
use Rattle.clap.specs.Words.{Text, all_of, fault_of, subcommand_of, subcommand_rows_of, takes}
use Rattle.clap.specs.declared.parser.matches.ArgMatches.{ArgMatches}
use Rattle.clap.specs.declared.error.kind.ErrorKind.{ErrorKind}
use Rattle.clap.specs.declared.error.kind.ErrorKind.TheVariants as kind
use Rattle.vx_words.specs.declared.command.Command.{Command}
use Rattle.vx_words.specs.declared.fault.UsageFault.{UsageFault}
use Rattle.vx_words.specs.declared.fault.UsageFault.TheVariants.{Usage, OutOfMemory}
use Rattle.vx_words.specs.Words.{IsArgument, Reads, Spells, name_of}
use Rattle.vx_words.specs.Line.{IsSplit, line, names, rows_for}
use Rattle.vx_words.specs.declared.name.Name.{Name}
use Rattle.vx_words.specs.Names.{all_names, name_word}
use Rattle.vx_words.proofs.Commands.{found}
use Rattle.vx_words.proofs.OneSpelling.{named_first}
use Rattle.vx_words.proofs.Spellings.{two_words}
use Rattle.vx_words.proofs.Split.{answers, called, called_itself, not_empty, not_stray, splits, taken}

pub is_split : (words : List Text) (found : ArgMatches) → All IsArgument words → fault_of line words ≡ []
    → subcommand_rows_of found ≡ subcommand_of line words → IsSplit words found
is_split [] found are clear is = absurd (not_empty clear)
is_split (word ∷ words) found are clear is = by_name (called word) refl
  where
    by_name : (name : Option Text) → called word ≡ name → IsSplit (word ∷ words) found
    by_name None none = absurd (not_stray word words (All-head IsArgument word words are) none clear)
    by_name (Some name) some = record {
      name = word;
      behind = words;
      words_are = refl;
      are_arguments = All-tail IsArgument word words are;
      split = is ∙ splits word words (All-tail IsArgument word words are) (some ∙ ap Some (called_itself names word name some));
    }

-- `clap` looks for a name as the table does
same_first : {X : Type 0} (p q : X → Bool) → ((x : X) → p x ≡ q x) → (xs : List X) → find p xs ≡ find q xs
same_first p q same [] = refl
same_first {X} p q same (x ∷ xs) =
    ap (λ (b : Bool). cond b (Some x) (find p xs)) (same x) ∙ ap (λ (o : Option X). cond (q x) (Some x) o) (same_first p q same xs)

no_alias : (word name : Text) → answers word name ≡ bytes_eq name word
no_alias word name = elim (cases_Bool (bytes_eq name word)) [
  | inl is ↦ or_left (bytes_eq name word) false is ∙ sym is
  | inr is ↦ or_from (bytes_eq name word) false is refl ∙ sym is
]

called_by_name : (name : Name) → called (name_word name) ≡ Some (name_word name)
called_by_name name =
    let word : Text = name_word name in
    sym (find-map (answers word) name_word all_names)
    ∙ ap (option_map name_word)
    (same_first (λ (n : Name). answers word (name_word n)) (λ (n : Name). bytes_eq (name_word n) word) (λ (n : Name). no_alias word (name_word n))
    all_names ∙ found name)

spelled_taken : (words : List Text) → All IsArgument words → length words < 2 ^ 32 → (command : Command) → Spells words command → takes line words ≡ true
spelled_taken [] are few command spelled = absurd (omega (arith, two_words [] command spelled))
spelled_taken (word ∷ words) are few command spelled =
    let same : word ≡ name_word (name_of command) = same_Some word (name_word (name_of command)) (named_first (word ∷ words) command spelled) in
    taken word words (All-tail IsArgument word words are) (omega (arith, few)) (ap called same ∙ called_by_name (name_of command) ∙ ap Some (sym same))

-- an error of `clap`, told
pub told : (words : List Text) → All IsArgument words → length words < 2 ^ 32 → (fault : UsageFault) (cause : ErrorKind)
    → (takes line words ≡ true → cause ≡ kind.OutOfMemory) → (fault ≡ Usage → cause ≢ kind.OutOfMemory) → Reads words (Err fault)
told words are few Usage cause passes says = λ command spelled. says refl (passes (spelled_taken words are few command spelled))
told words are few OutOfMemory cause passes says = tt

-- what stands behind the name
pub behind_found : (behind words : List Text) → Some words ≡ all_of (codes "arguments") (rows_for behind) → words ≡ behind
behind_found [] words is = absurd (false≢true (sym (ap is_some is)))
behind_found (word ∷ behind) words is = ap (λ (o : Option (List Text)). unwrap_or o []) is

pub none_found : (behind : List Text) → None ≡ all_of (codes "arguments") (rows_for behind) → behind ≡ []
none_found [] is = refl
none_found (word ∷ behind) is = absurd (false≢true (ap is_some is))
