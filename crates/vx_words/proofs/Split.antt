-- How `clap` splits words of which none begins with a hyphen.
use Rattle.std.proofs.Common.{◌^◌, ◌≡◌, ◌++◌, ◌+◌, ◌==◌, ◌<◌, ℕ, Bool, true, false, List, [], ◌∷◌, Option, Some, None, length, map, take, get_or, refl, sym, ap, ◌∙◌, arith, append_assoc, append-nil, inl, inr}
use Rattle.std.specs.Prelude.{All, codes, find, fold, unwrap_or, is_some, not, if◌then◌else◌, option_map, ◌≢◌}
use Rattle.std.specs.Str.{bytes_eq}
use Rattle.std.proofs.lemmas.Bool.{eqb-true, cases_Bool, le-leb, or_from, or_right, false≢true}
use Rattle.clap.specs.Lexer.{long_of, short_of, strip_byte, usize_max}
use Rattle.clap.specs.Words.{App, Rule, Shape, Text, subcommand_of, takes, fault_of, is_simple, with_subcommand, Kinds, is_simple_and_free}
use Rattle.clap.specs.Walk.{Held, Names, Walk, positional, idle, walk, walk_from, walked, nothing_held, answers_to, rows_after, subcommand_met}
use Rattle.clap.specs.declared.builder.action.ArgAction.TheVariants.{Append}
use Rattle.clap.specs.declared.builder.value_parser.ValueParser.TheVariants as vp
use Rattle.clap.specs.Simple.{names_of, new_shape, label_of}
use Rattle.clap.specs.Faults.{walk_fault, defaults_fault}
use Rattle.clap.specs.declared.error.kind.ErrorKind.TheVariants.{UnknownArgument, InvalidSubcommand, MissingSubcommand}
use Rattle.clap.proofs.WalkLemmas.{find-map, walk_stopped}
use Rattle.std.proofs.lemmas.Slice.Eq.{bytes_eq-Decides}
use Rattle.clap.specs.Takes.{turn_passes, walk_passes, values_pass, use_passes, level_passes}
use Rattle.std.proofs.lemmas.List.Elements.{All-head, All-tail}
use Rattle.std.proofs.lemmas.List.Sums.{fold_more}
use Rattle.vx_words.specs.declared.name.Name.{Name}
use Rattle.vx_words.specs.Names.{all_names, name_word}
use Rattle.vx_words.specs.Words.{IsArgument}
use Rattle.vx_words.specs.Line.{arguments, form, line, names, rows_for, with_names}

-- ---- a word that may be an argument is no flag

unhyphened : (x : ℕ) (xs : Text) → x ≢ 45 → strip_byte 45 (x ∷ xs) ≡ None
unhyphened x xs differs = elim (cases_Bool (x == 45)) [
  | inl is ↦ absurd (differs (eqb-true x 45 is))
  | inr is ↦ rw is refl
]

stripped : (word : Text) → IsArgument word → strip_byte 45 word ≡ None
stripped [] is = absurd (omega (arith, is.some))
stripped (x ∷ xs) is = unhyphened x xs is.no_option

no_long : (word : Text) → IsArgument word → long_of word ≡ None
no_long word is = rw (stripped word is) refl

no_short : (word : Text) → IsArgument word → short_of word ≡ None
no_short word is = rw (stripped word is) refl

no_end : (word : Text) → IsArgument word → bytes_eq word (45 ∷ 45 ∷ []) ≡ false
no_end [] is = refl
no_end (x ∷ xs) is = elim (cases_Bool (x == 45)) [
  | inl is_it ↦ absurd (is.no_option (eqb-true x 45 is_it))
  | inr is_it ↦ rw is_it refl
]

-- ---- a command's own words

abbrev arg : Rule
arg = record arguments {
  action = Some Append;
  parser = Some vp.String;
  index = Some 1;
}

abbrev held_with : List Text → Held
held_with words = record { rows = []; pending = Some (codes "arguments", words); skip = 0 }

-- where the walk stands behind some words
abbrev behind : List Text → Walk
behind words = record { held = held_with words; waiting = positional; position = 1; is_trailing = false; stopped = None }

first_walked : (word : Text) → IsArgument word → walked (arg ∷ []) [] (walk_from nothing_held) word ≡ behind (word ∷ [])
unfolding walked
first_walked word is = rw (no_end word is, no_long word is, no_short word is) refl

next_walked : (before : List Text) (word : Text) → IsArgument word → walked (arg ∷ []) [] (behind before) word ≡ behind (before ++ word ∷ [])
unfolding walked
next_walked before word is = rw (no_end word is, no_long word is, no_short word is) refl

next_all : (before words : List Text) → All IsArgument words → fold (walked (arg ∷ []) []) (behind before) words ≡ behind (before ++ words)
next_all before [] are = ap behind (sym (append-nil before))
next_all before (word ∷ words) are =
    ap (λ (w : Walk). fold (walked (arg ∷ []) []) w words) (next_walked before word (All-head IsArgument word words are))
    ∙ next_all (before ++ word ∷ []) words (All-tail IsArgument word words are)
    ∙ ap behind (append_assoc before (word ∷ []) words)

all_walked : (word : Text) (words : List Text) → All IsArgument (word ∷ words) → walk (arg ∷ []) [] nothing_held (word ∷ words) ≡ behind (word ∷ words)
all_walked word words are =
    ap (λ (w : Walk). fold (walked (arg ∷ []) []) w words) (first_walked word (All-head IsArgument word words are))
    ∙ next_all (word ∷ []) words (All-tail IsArgument word words are)

rows_found : (words : List Text) → All IsArgument words → rows_after (arg ∷ []) [] words ≡ rows_for words
rows_found [] are = refl
rows_found (word ∷ words) are = rw (all_walked word words are) refl

abbrev pub leaf : Text → Shape
leaf name = record (form name) {
  rules = arg ∷ [];
  no_binary_name = true;
  disable_help_flag = true;
  disable_help_subcommand = true;
  is_built = true;
}

abbrev top : Shape
top = record (new_shape (codes "vx")) {
  no_binary_name = true;
  disable_help_flag = true;
  disable_help_subcommand = true;
  subcommand_required = true;
  is_leaf = false;
  is_built = true;
}

pub line_simple : is_simple_and_free line ≡ true
unfolding line
line_simple = refl

pub line_is_simple : is_simple line ≡ true
unfolding line
line_is_simple = refl

-- ---- a command takes its words

turn_taken : (name : Text) (before : List Text) (word : Text) → IsArgument word → turn_passes (leaf name) [] (behind before) word ≡ true
turn_taken name before word is = rw (no_end word is, no_long word is, no_short word is) refl

next_taken : (name : Text) (before words : List Text) → All IsArgument words → walk_passes (leaf name) [] (behind before) words ≡ true
unfolding walk_passes
next_taken name before [] are = refl
next_taken name before (word ∷ words) are =
    let is : IsArgument word = All-head IsArgument word words are in
    rw (turn_taken name before word is, next_walked before word is) (next_taken name (before ++ word ∷ []) words (All-tail IsArgument word words are))

all_taken : (name : Text) (words : List Text) → All IsArgument words → walk_passes (leaf name) [] (walk_from nothing_held) words ≡ true
unfolding walk_passes
all_taken name [] are = refl
all_taken name (word ∷ words) are =
    let is : IsArgument word = All-head IsArgument word words are in
    rw (no_end word is, no_long word is, no_short word is, first_walked word is) (next_taken name (word ∷ []) words (All-tail IsArgument word words are))

any_text : (words : List Text) → values_pass arg words ≡ true
any_text [] = refl
any_text (word ∷ words) = any_text words

use_taken : (word : Text) (words : List Text) → length (word ∷ words) < 2 ^ 32 → use_passes false arg (word ∷ words) [] ≡ true
use_taken word words few = rw (le-leb 1 (length (word ∷ words)) (omega arith), le-leb (length (word ∷ words)) usize_max (omega (arith, few)), any_text (word ∷ words)) refl

level_taken : (name : Text) (words : List Text) → All IsArgument words → length words < 2 ^ 32 → level_passes (leaf name) [] nothing_held words false ≡ true
level_taken name [] are few = rw (all_taken name [] are) refl
level_taken name (word ∷ words) are few = rw (all_taken name (word ∷ words) are, all_walked word words are, use_taken word words few) refl

-- ---- the command that the first word names

abbrev pub answers : Text → Text → Bool
answers word name = answers_to word (name, [])

abbrev pub called_among : List Text → Text → Option Text
called_among list word = find (answers word) list

abbrev pub called : Text → Option Text
called word = called_among names word

is_its_name : (word name : Text) → answers word name ≡ true → name ≡ word
is_its_name word name is = elim (cases_Bool (bytes_eq name word)) [
  | inl same ↦ (bytes_eq-Decides name word).0 same
  | inr other ↦ absurd (false≢true (sym (or_from (bytes_eq name word) false other refl) ∙ is))
]

pub called_itself : (list : List Text) (word name : Text) → called_among list word ≡ Some name → name ≡ word
called_itself [] word name is = absurd (false≢true (ap (λ (o : Option Text). is_some o) is))
called_itself (first ∷ list) word name is = called_here (answers word first) refl is (called_itself list word name)
  where
    called_here : (here : Bool) → answers word first ≡ here → (if here then Some first else called_among list word) ≡ Some name → (called_among list word ≡ Some name → name ≡ word) → name ≡ word
    called_here true here is_it behind_it = ap (λ (o : Option Text). unwrap_or o []) (sym is_it) ∙ is_its_name word first here
    called_here false here is_it behind_it = behind_it is_it

met_again : (found : Option Text) → option_map (λ (s : Text × List Text). s.0) (option_map (λ (name : Text). (name, [])) found) ≡ found
met_again None = refl
met_again (Some name) = refl

abbrev labels : Names
labels = names_of (record { top = top; subs = map leaf names })

met_is : (word : Text) → subcommand_met labels idle word ≡ called word
met_is word = ap (option_map (λ (s : Text × List Text). s.0)) (sym (find-map (answers_to word) (λ (name : Text). (name, [])) names)) ∙ met_again (called word)

found_is : (word : Text) → find (λ (s : Shape). answers_to word (label_of s)) (map leaf names) ≡ option_map leaf (called word)
found_is word = sym (find-map (λ (s : Shape). answers_to word (label_of s)) leaf names)

first_met : (word : Text) → called word ≡ Some word → walked [] labels (walk_from nothing_held) word ≡ record (walk_from nothing_held) { stopped = Some (word, []) }
unfolding walked
first_met word is = rw (met_is word, is) refl

stopped_walk : (word : Text) (words : List Text) → called word ≡ Some word → walk [] labels nothing_held (word ∷ words) ≡ record (walk_from nothing_held) { stopped = Some (word, words) }
stopped_walk word words is =
    ap (λ (w : Walk). fold (walked [] labels) w words) (first_met word is) ∙ sym (walk_stopped [] labels (walk_from nothing_held) word [] words)

pub splits : (word : Text) (words : List Text) → All IsArgument words → called word ≡ Some word → subcommand_of line (word ∷ words) ≡ Some (word, rows_for words)
unfolding line
splits word words are is = rw (stopped_walk word words is, found_is word, is, rows_found words are) refl

-- ---- `clap` takes the words whose first is a command's name

stopped_taken : (s : Shape) (labels_of : Names) (w : Walk) (p : Text × List Text) (words : List Text) → walk_passes s labels_of (record w { stopped = Some p }) words ≡ true
unfolding walk_passes walked
stopped_taken s labels_of w p [] = refl
stopped_taken s labels_of w p (word ∷ words) = stopped_taken s labels_of w (p.0, p.1 ++ word ∷ []) words

name_taken : (word : Text) → called word ≡ Some word → turn_passes top labels (walk_from nothing_held) word ≡ true
name_taken word is = rw (met_is word, is, or_right (not (bytes_eq word (codes "help"))) true refl) refl

top_taken : (word : Text) (words : List Text) → called word ≡ Some word → walk_passes top labels (walk_from nothing_held) (word ∷ words) ≡ true
unfolding walk_passes
top_taken word words is = rw (name_taken word is, first_met word is) (stopped_taken top labels (walk_from nothing_held) (word, []) words)

pub taken : (word : Text) (words : List Text) → All IsArgument words → length words < 2 ^ 32 → called word ≡ Some word → takes line (word ∷ words) ≡ true
unfolding line
taken word words are few is = rw (stopped_walk word words is, found_is word, is, level_taken word words are few, top_taken word words is) refl

-- ---- it refuses all others

stray_fault_is : (word : Text) (words : List Text) → IsArgument word → called word ≡ None → fault_of line (word ∷ words) ≡ UnknownArgument ∷ InvalidSubcommand ∷ []
unfolding line walk_fault
stray_fault_is word words is none = rw (met_is word, none, no_end word is, no_long word is, no_short word is) refl

pub not_stray : (word : Text) (words : List Text) → IsArgument word → called word ≡ None → fault_of line (word ∷ words) ≡ [] → ⊥
not_stray word words is none clear = false≢true (ap (λ (kinds : Kinds). length kinds == 0) (sym (stray_fault_is word words is none) ∙ clear))

no_words_fault : fault_of line [] ≡ MissingSubcommand ∷ []
unfolding line walk_fault defaults_fault
no_words_fault = refl

pub not_empty : fault_of line [] ≡ [] → ⊥
not_empty clear = false≢true (ap (λ (kinds : Kinds). length kinds == 0) (sym no_words_fault ∙ clear))

-- ---- how the command line is made

abbrev pub start : App
start = record {
  top = record (new_shape (codes "vx")) { no_binary_name = true; disable_help_flag = true; disable_help_subcommand = true; subcommand_required = true };
  subs = [];
}

pub one_form_more : (made : App) (list : List Name) (i : ℕ) (name : Name) → i < length list → name ≡ get_or list i name
    → with_subcommand (with_names made (take i list)) (form (name_word name)) ≡ with_names made (take (i + 1) list)
one_form_more made list i name inside is =
    ap (λ (n : Name). with_subcommand (with_names made (take i list)) (form (name_word n))) is
    ∙ sym (fold_more (λ (some : App) (n : Name). with_subcommand some (form (name_word n))) made list i name inside)

pub grown : with_names start all_names ≡ line
unfolding line
grown = refl
