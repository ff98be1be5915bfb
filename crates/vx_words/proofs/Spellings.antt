-- Words and the commands that they spell.
use Rattle.std.proofs.Common.{◌≡◌, ℕ, Bool, true, false, List, [], ◌∷◌, ◌+◌, ◌^◌, ◌≤◌, ◌<◌, length, drop, get_or, Some, refl, sym, ap, subst, ◌∙◌, arith}
use Rattle.std.specs.Prelude.{All, slice_get, ◌≢◌, is_some, Option, None, Result, Ok, Err, IsErrAnd}
use Rattle.std.proofs.lemmas.List.Elements.{All-head, All-tail, All-cons, All-nil}
use Rattle.std.proofs.lemmas.Bool.{false≢true}
use Rattle.std.specs.Fmt.{decimal}
use Rattle.std.specs.Str.Parse.{digits_value}
use Rattle.std.proofs.lemmas.Fmt.{decimal_is_IsNumeral}
use Rattle.vx_grid.specs.declared.kind.Kind.{Kind}
use Rattle.vx_grid.specs.declared.kind.Kind.TheVariants.{Other}
use Rattle.vx_grid.specs.Kinds.{kind_word}
use Rattle.vx_words.specs.declared.command.Command.{Command}
use Rattle.vx_words.specs.declared.command.Command.TheVariants.{Print, Read, Check, Count, Decide, Queue, Export, Demo, Try, Cards, Results, Sample, Desk, Summary}
use Rattle.vx_words.specs.declared.fault.UsageFault.{UsageFault}
use Rattle.vx_words.specs.declared.fault.UsageFault.TheVariants.{Usage, OutOfMemory}
use Rattle.vx_events.specs.Fits.{is_batch}
use Rattle.vx_words.specs.Moments.{is_moment}
use Rattle.vx_words.specs.Samples.{IsSeed, IsSize, decoded, seed_bytes}
use Rattle.vx_words.specs.Devices.{device_of}
use Rattle.vx_words.specs.Words.{HasName, IsArgument, NoCommand, Parses, Spells, name_of}
use Rattle.vx_words.specs.declared.name.Name.{Name}
use Rattle.vx_words.specs.declared.name.Name.TheVariants as names
use Rattle.vx_words.specs.Names.{name_in, name_word, row_of}
use Rattle.vx_words.proofs.Commands.{found}
use Rattle.vx_words.proofs.Names.{its_word, name_is_argument, two_words_at_least}
use Rattle.vx_words.proofs.OneSpelling.{spelled_named, spells_it}

abbrev is_want : UsageFault → Bool
is_want Usage = false
is_want OutOfMemory = true

-- memory ran out where words spell a command
pub refused : (words : List (List ℕ)) (result : Result Command UsageFault) → IsErrAnd result (λ fault. fault ≡ OutOfMemory) → (command : Command)
    → Spells words command → Parses words result
refused words (Ok found) is command spelled = absurd is
refused words (Err Usage) is command spelled = absurd (false≢true (ap is_want is))
refused words (Err OutOfMemory) is command spelled = (command, spelled)

-- the command of words behind a name
pub read_spelled : (words : List (List ℕ)) → HasName words names.Read → Spells words (Read (get_or words 1 []) (drop 2 words))
read_spelled [] called = absurd (omega (arith, called.enough))
read_spelled (a ∷ []) called = absurd (omega (arith, called.enough))
read_spelled (name ∷ election ∷ scans) called = record {
  device = [];
  words_are = (let first = called.first in cc);
  sound = record {
    is_argument = All-head IsArgument election scans called.arguments;
    are_scans = record {
      some = omega (arith, called.enough);
      few = omega (arith, called.no_more);
      are_arguments = All-tail IsArgument election scans called.arguments;
    };
  };
}

pub check_spelled : (words : List (List ℕ)) → HasName words names.Check → Spells words (Check (get_or words 1 []) (get_or words 2 []) (get_or words 3 []))
check_spelled [] called = absurd (omega (arith, called.enough))
check_spelled (a ∷ []) called = absurd (omega (arith, called.enough))
check_spelled (a ∷ b ∷ []) called = absurd (omega (arith, called.enough))
check_spelled (a ∷ b ∷ c ∷ []) called = absurd (omega (arith, called.enough))
check_spelled (name ∷ election ∷ scans ∷ readings ∷ []) called = record { device = []; words_are = (let first = called.first in cc); sound = called.arguments }
check_spelled (a ∷ b ∷ c ∷ d ∷ e ∷ more) called = absurd (omega (arith, called.no_more))

pub decide_spelled : (words : List (List ℕ)) → HasName words names.Decide → Spells words (Decide (get_or words 1 []) (get_or words 2 []))
decide_spelled [] called = absurd (omega (arith, called.enough))
decide_spelled (a ∷ []) called = absurd (omega (arith, called.enough))
decide_spelled (a ∷ b ∷ []) called = absurd (omega (arith, called.enough))
decide_spelled (name ∷ election ∷ script ∷ []) called = record { device = []; words_are = (let first = called.first in cc); sound = called.arguments }
decide_spelled (a ∷ b ∷ c ∷ d ∷ more) called = absurd (omega (arith, called.no_more))

pub queue_spelled : (words : List (List ℕ)) → HasName words names.Queue → Spells words (Queue (get_or words 1 []))
queue_spelled [] called = absurd (omega (arith, called.enough))
queue_spelled (a ∷ []) called = absurd (omega (arith, called.enough))
queue_spelled (name ∷ election ∷ []) called = record {
  device = [];
  words_are = (let first = called.first in cc);
  sound = All-head IsArgument election [] called.arguments;
}
queue_spelled (a ∷ b ∷ c ∷ more) called = absurd (omega (arith, called.no_more))

pub try_spelled : (words : List (List ℕ)) → HasName words names.Try → Spells words (Try (get_or words 1 []) (drop 2 words))
try_spelled [] called = absurd (omega (arith, called.enough))
try_spelled (a ∷ []) called = absurd (omega (arith, called.enough))
try_spelled (name ∷ election ∷ scans) called = record {
  device = [];
  words_are = (let first = called.first in cc);
  sound = record {
    is_argument = All-head IsArgument election scans called.arguments;
    are_scans = record {
      some = omega (arith, called.enough);
      few = omega (arith, called.no_more);
      are_arguments = All-tail IsArgument election scans called.arguments;
    };
  };
}

pub cards_spelled : (words : List (List ℕ)) → HasName words names.Cards → Spells words (Cards (get_or words 1 []))
cards_spelled [] called = absurd (omega (arith, called.enough))
cards_spelled (a ∷ []) called = absurd (omega (arith, called.enough))
cards_spelled (name ∷ election ∷ []) called = record {
  device = [];
  words_are = (let first = called.first in cc);
  sound = All-head IsArgument election [] called.arguments;
}
cards_spelled (a ∷ b ∷ c ∷ more) called = absurd (omega (arith, called.no_more))

pub results_spelled : (words : List (List ℕ)) → HasName words names.Results → Spells words (Results (get_or words 1 []))
results_spelled [] called = absurd (omega (arith, called.enough))
results_spelled (a ∷ []) called = absurd (omega (arith, called.enough))
results_spelled (name ∷ election ∷ []) called = record {
  device = [];
  words_are = (let first = called.first in cc);
  sound = All-head IsArgument election [] called.arguments;
}
results_spelled (a ∷ b ∷ c ∷ more) called = absurd (omega (arith, called.no_more))

pub summary_spelled : (words : List (List ℕ)) → HasName words names.Summary → Spells words (Summary (get_or words 1 []))
summary_spelled [] called = absurd (omega (arith, called.enough))
summary_spelled (a ∷ []) called = absurd (omega (arith, called.enough))
summary_spelled (name ∷ election ∷ []) called = record {
  device = [];
  words_are = (let first = called.first in cc);
  sound = All-head IsArgument election [] called.arguments;
}
summary_spelled (a ∷ b ∷ c ∷ more) called = absurd (omega (arith, called.no_more))

pub print_spelled :
    (words : List (List ℕ)) (third fourth : List ℕ) (card : ℕ) (kind : Kind) (test : Bool) → HasName words names.Print
    → slice_get words 2 ≡ Some third → slice_get words 3 ≡ Some fourth → card ≤ 1023 → third ≡ decimal card → kind ≢ Other → fourth ≡ kind_word kind test
    → Spells words (Print (get_or words 1 []) card kind test)
print_spelled [] third fourth card kind test called at_2 at_3 few is_card printed is_kind = absurd (omega (arith, called.enough))
print_spelled (a ∷ []) third fourth card kind test called at_2 at_3 few is_card printed is_kind = absurd (omega (arith, called.enough))
print_spelled (a ∷ b ∷ []) third fourth card kind test called at_2 at_3 few is_card printed is_kind = absurd (omega (arith, called.enough))
print_spelled (a ∷ b ∷ c ∷ []) third fourth card kind test called at_2 at_3 few is_card printed is_kind = absurd (omega (arith, called.enough))
print_spelled (name ∷ election ∷ c ∷ d ∷ []) third fourth card kind test called at_2 at_3 few is_card printed is_kind = record {
  device = [];
  words_are = (let first = called.first in cc);
  sound = record { is_argument = All-head IsArgument election (c ∷ d ∷ []) called.arguments; card_in_range = few; kind_in_range = printed };
}
print_spelled (a ∷ b ∷ c ∷ d ∷ e ∷ more) third fourth card kind test called at_2 at_3 few is_card printed is_kind = absurd (omega (arith, called.no_more))

pub count_spelled :
    (words : List (List ℕ)) (batch word : List ℕ) (workers : ℕ) → HasName words names.Count
    → slice_get words 2 ≡ Some batch → slice_get words 3 ≡ Some word → is_batch batch ≡ true → 1 ≤ workers → workers ≤ 64 → word ≡ decimal workers
    → Spells words (Count (get_or words 1 []) (get_or words 2 []) workers (drop 4 words))
count_spelled [] batch word workers called at_2 at_3 good some few is = absurd (omega (arith, called.enough))
count_spelled (a ∷ []) batch word workers called at_2 at_3 good some few is = absurd (omega (arith, called.enough))
count_spelled (a ∷ b ∷ []) batch word workers called at_2 at_3 good some few is = absurd (omega (arith, called.enough))
count_spelled (a ∷ b ∷ c ∷ []) batch word workers called at_2 at_3 good some few is = absurd (omega (arith, called.enough))
count_spelled (name ∷ election ∷ c ∷ d ∷ scans) batch word workers called at_2 at_3 good some few is =
    let behind : All IsArgument (c ∷ d ∷ scans) = All-tail IsArgument election (c ∷ d ∷ scans) called.arguments in
    let further : All IsArgument (d ∷ scans) = All-tail IsArgument c (d ∷ scans) behind in
    record {
      device = [];
      words_are = (let first = called.first in cc);
      sound = record {
        is_argument = All-head IsArgument election (c ∷ d ∷ scans) called.arguments;
        batch_is_argument = All-head IsArgument c (d ∷ scans) behind;
        batch_in_range = (let same : c ≡ batch = cc in ap is_batch same ∙ good);
        some_worker = some;
        few_workers = few;
        are_scans = record {
          some = omega (arith, called.enough);
          few = omega (arith, called.no_more);
          are_arguments = All-tail IsArgument d scans further;
        };
      };
    }

pub export_spelled :
    (words : List (List ℕ)) (moment device named : List ℕ) → HasName words names.Export
    → slice_get words 2 ≡ Some moment → slice_get words 3 ≡ Some device → is_moment moment ≡ true → device_of device ≡ Some named
    → Spells words (Export (get_or words 1 []) (get_or words 2 []) named)
export_spelled [] moment device named called at_2 at_3 good known = absurd (omega (arith, called.enough))
export_spelled (a ∷ []) moment device named called at_2 at_3 good known = absurd (omega (arith, called.enough))
export_spelled (a ∷ b ∷ []) moment device named called at_2 at_3 good known = absurd (omega (arith, called.enough))
export_spelled (a ∷ b ∷ c ∷ []) moment device named called at_2 at_3 good known = absurd (omega (arith, called.enough))
export_spelled (name ∷ election ∷ c ∷ d ∷ []) moment device named called at_2 at_3 good known =
    let behind : All IsArgument (c ∷ d ∷ []) = All-tail IsArgument election (c ∷ d ∷ []) called.arguments in
    record {
      device = d;
      words_are = (let first = called.first in cc);
      sound = record {
        is_argument = All-head IsArgument election (c ∷ d ∷ []) called.arguments;
        moment_is_argument = All-head IsArgument c (d ∷ []) behind;
        is_moment = (let same : c ≡ moment = cc in ap is_moment same ∙ good);
        device_is_argument = All-head IsArgument d [] (All-tail IsArgument c (d ∷ []) behind);
        is_named = (let same : d ≡ device = cc in ap device_of same ∙ known);
      };
    }
export_spelled (a ∷ b ∷ c ∷ d ∷ e ∷ more) moment device named called at_2 at_3 good known = absurd (omega (arith, called.no_more))

pub there : {X : Type 0} (found : Option X) → found ≢ None → (x : X) × (found ≡ Some x)
there None not_none = absurd (not_none refl)
there (Some x) not_none = (x, refl)

-- words without any command's name are no command
pub no_command : (words : List (List ℕ)) → ((name : Name) → HasName words name → ⊥) → NoCommand words
no_command words none command spelled = none (name_of command) (spelled_named words command spelled)

-- the word of no workers is no number of workers
pub no_workers : (words : List (List ℕ)) (word : List ℕ) (workers : ℕ) → slice_get words 0 ≡ Some (name_word names.Count)
    → slice_get words 3 ≡ Some word → word ≡ decimal workers → workers ≡ 0 → NoCommand words
no_workers words word workers first at_3 is none command spelled =
    let count = spells_it words names.Count command first spelled in
    let others : ℕ = digits_value 10 (get_or words 3 []) in
    let shown : slice_get words 3 ≡ Some (decimal others) = ap (λ (w : List (List ℕ)). slice_get w 3) count.words_are in
    let same : decimal workers ≡ decimal others = cc in
    let equal : workers ≡ others =
    sym (decimal_is_IsNumeral workers (omega (arith, none))).1 ∙ ap (digits_value 10) same
    ∙ (decimal_is_IsNumeral others (omega (arith, count.sound.few_workers))).1 in
    omega (arith, equal, none, count.sound.some_worker)

-- the word of no sheets is no number of sheets
pub no_sheets : (words : List (List ℕ)) (word : List ℕ) (sheets : ℕ) → slice_get words 0 ≡ Some (name_word names.Demo) → slice_get words 2 ≡ Some word
    → word ≡ decimal sheets → sheets ≡ 0 → NoCommand words
no_sheets words word sheets first at_2 is none command spelled =
    let demo = spells_it words names.Demo command first spelled in
    let others : ℕ = digits_value 10 (get_or words 2 []) in
    let shown : slice_get words 2 ≡ Some (decimal others) = ap (λ (w : List (List ℕ)). slice_get w 2) demo.words_are in
    let same : decimal sheets ≡ decimal others = cc in
    let equal : sheets ≡ others =
    sym (decimal_is_IsNumeral sheets (omega (arith, none))).1 ∙ ap (digits_value 10) same
    ∙ (decimal_is_IsNumeral others (omega (arith, demo.sound.few_sheets))).1 in
    omega (arith, equal, none, demo.sound.some_sheet)

-- the words of a demo
pub demo_spelled :
    (words : List (List ℕ)) (first second : List ℕ) (seed sheets : ℕ) → HasName words names.Demo
    → slice_get words 1 ≡ Some first → slice_get words 2 ≡ Some second → seed < 2 ^ 64 → first ≡ decimal seed → 1 ≤ sheets → sheets ≤ 1000
    → second ≡ decimal sheets
    → Spells words (Demo seed sheets)
demo_spelled [] first second seed sheets called at_1 at_2 small is_seed some few is = absurd (omega (arith, called.enough))
demo_spelled (a ∷ []) first second seed sheets called at_1 at_2 small is_seed some few is = absurd (omega (arith, called.enough))
demo_spelled (a ∷ b ∷ []) first second seed sheets called at_1 at_2 small is_seed some few is = absurd (omega (arith, called.enough))
demo_spelled (name ∷ b ∷ c ∷ []) first second seed sheets called at_1 at_2 small is_seed some few is = record {
  device = [];
  words_are = (let start = called.first in cc);
  sound = record { seed_in_range = small; some_sheet = some; few_sheets = few };
}
demo_spelled (a ∷ b ∷ c ∷ d ∷ more) first second seed sheets called at_1 at_2 small is_seed some few is = absurd (omega (arith, called.no_more))

-- a word that names no device is no device of an export
pub no_device : (words : List (List ℕ)) (word : List ℕ) → HasName words names.Export → slice_get words 3 ≡ Some word
    → is_some (device_of word) ≡ false → NoCommand words
no_device words word called at_3 none command spelled =
    let export = spells_it words names.Export command called.first spelled in
    let shown : slice_get words 3 ≡ Some export.device = ap (λ (w : List (List ℕ)). slice_get w 3) export.words_are in
    let same : word ≡ export.device = cc in
    false≢true (sym none ∙ ap (λ (w : List ℕ). is_some (device_of w)) same ∙ ap is_some export.sound.is_named)

-- a word that names a device
pub some_device : (word : List ℕ) → is_some (device_of word) ≡ true → (named : List ℕ) × (device_of word ≡ Some named)
some_device word is = there (device_of word) (λ none. false≢true (sym (ap is_some none) ∙ is))

-- a command's words may all be arguments
with_name : (words : List (List ℕ)) (name : List ℕ) → slice_get words 0 ≡ Some name → IsArgument name → All IsArgument (drop 1 words) → All IsArgument words
with_name [] name first is are = All-nil IsArgument
with_name (word ∷ words) name first is are = All-cons IsArgument word words (let same : name ≡ word = cc in subst IsArgument same is) are

pub spelled_arguments : (words : List (List ℕ)) (command : Command) → Spells words command → All IsArgument words
spelled_arguments words command spelled =
    let called : HasName words (name_of command) = spelled_named words command spelled in
    with_name words (name_word (name_of command)) called.first (name_is_argument (name_of command)) called.arguments

-- words behind a name are as many as its command has
pub called_so : (name : Name) (behind : List (List ℕ)) → All IsArgument behind → (row_of name).least ≤ length behind + 1
    → length behind + 1 ≤ (row_of name).most → HasName (name_word name ∷ behind) name
called_so name behind are enough no_more = record { first = refl; enough = omega (arith, enough); no_more = omega (arith, no_more); arguments = are }

-- a command has a word behind its name
pub two_words : (words : List (List ℕ)) (command : Command) → Spells words command → 2 ≤ length words
two_words words command spelled = omega (arith, two_words_at_least (name_of command), (spelled_named words command spelled).enough)

pub has_name : (words : List (List ℕ)) (word : List ℕ) (name : Name) → slice_get words 0 ≡ Some word → Some name ≡ name_in word
    → (row_of name).least ≤ length words → length words ≤ (row_of name).most → All IsArgument (drop 1 words) → HasName words name
has_name words word name at_0 is enough no_more are =
    record { first = at_0 ∙ ap Some (sym (its_word word name (sym is))); enough = enough; no_more = no_more; arguments = are }

-- a seed's word is one with its own bytes
pub own_seed : (word bytes : List ℕ) → IsSeed word bytes → IsSeed word (seed_bytes word)
own_seed word bytes is = record { digits = is.digits ∙ sym (ap (λ r. Ok (decoded r)) is.digits); lower = is.lower }

-- a size's word is that of its number
pub own_size : (word : List ℕ) (size : ℕ) → IsSize word size → IsSize (decimal size) size
own_size word size is = record { digits = refl; some = is.some; few = is.few }

-- the words of a sample
pub sample_spelled :
    (words : List (List ℕ)) (seed word bytes : List ℕ) (size : ℕ) → HasName words names.Sample
    → slice_get words 2 ≡ Some seed → slice_get words 3 ≡ Some word → IsSeed seed bytes → IsSize word size
    → Spells words (Sample (get_or words 1 []) (get_or words 2 []) size (get_or words 4 []))
sample_spelled [] seed word bytes size called at_2 at_3 is_seed is_size = absurd (omega (arith, called.enough))
sample_spelled (a ∷ []) seed word bytes size called at_2 at_3 is_seed is_size = absurd (omega (arith, called.enough))
sample_spelled (a ∷ b ∷ []) seed word bytes size called at_2 at_3 is_seed is_size = absurd (omega (arith, called.enough))
sample_spelled (a ∷ b ∷ c ∷ []) seed word bytes size called at_2 at_3 is_seed is_size = absurd (omega (arith, called.enough))
sample_spelled (a ∷ b ∷ c ∷ d ∷ []) seed word bytes size called at_2 at_3 is_seed is_size = absurd (omega (arith, called.enough))
sample_spelled (name ∷ election ∷ c ∷ d ∷ hand ∷ []) seed word bytes size called at_2 at_3 is_seed is_size =
    let behind : All IsArgument (c ∷ d ∷ hand ∷ []) = All-tail IsArgument election (c ∷ d ∷ hand ∷ []) called.arguments in
    let further : All IsArgument (d ∷ hand ∷ []) = All-tail IsArgument c (d ∷ hand ∷ []) behind in
    let its_seed : c ≡ seed = cc in
    let its_size : d ≡ word = cc in
    let printed : word ≡ decimal size = is_size.digits in
    record {
      device = [];
      words_are = (let first = called.first in cc);
      sound = record {
        is_argument = All-head IsArgument election (c ∷ d ∷ hand ∷ []) called.arguments;
        seed_is_argument = All-head IsArgument c (d ∷ hand ∷ []) behind;
        is_seed = own_seed c bytes (subst (λ (w : List ℕ). IsSeed w bytes) (sym its_seed) is_seed);
        is_size = own_size word size is_size;
        hand_is_argument = All-head IsArgument hand [] (All-tail IsArgument d (hand ∷ []) further);
      };
    }
sample_spelled (a ∷ b ∷ c ∷ d ∷ e ∷ f ∷ more) seed word bytes size called at_2 at_3 is_seed is_size = absurd (omega (arith, called.no_more))

-- the words of a desk
pub desk_spelled : (words : List (List ℕ)) (batch : List ℕ) → HasName words names.Desk → slice_get words 2 ≡ Some batch → is_batch batch ≡ true
    → Spells words (Desk (get_or words 1 []) (get_or words 2 []) (drop 3 words))
desk_spelled [] batch called at_2 good = absurd (omega (arith, called.enough))
desk_spelled (a ∷ []) batch called at_2 good = absurd (omega (arith, called.enough))
desk_spelled (a ∷ b ∷ []) batch called at_2 good = absurd (omega (arith, called.enough))
desk_spelled (name ∷ election ∷ c ∷ scans) batch called at_2 good =
    let behind : All IsArgument (c ∷ scans) = All-tail IsArgument election (c ∷ scans) called.arguments in
    record {
      device = [];
      words_are = (let first = called.first in cc);
      sound = record {
        is_argument = All-head IsArgument election (c ∷ scans) called.arguments;
        batch_is_argument = All-head IsArgument c scans behind;
        batch_in_range = (let same : c ≡ batch = cc in ap is_batch same ∙ good);
        are_scans = record {
          some = omega (arith, called.enough);
          few = omega (arith, called.no_more);
          are_arguments = All-tail IsArgument c scans behind;
        };
      };
    }
