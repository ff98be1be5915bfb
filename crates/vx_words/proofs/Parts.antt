-- The words of a command's parts: what they say, and that they may be arguments.
use Rattle.std.proofs.Common.{◌≡◌, ◌==◌, ℕ, Bool, true, false, List, [], ◌∷◌, ◌<◌, ◌^◌, lit<, length, map, drop, get_or, Some, None, Option, refl, arith}
use Rattle.std.specs.Prelude.{All, if◌then◌else◌}
use Rattle.std.specs.Fmt.{decimal}
use Rattle.std.proofs.lemmas.List.Elements.{All-cons, All-nil}
use Rattle.vx_base.specs.Numeral.{StartsNumeral}
use Rattle.vx_grid.specs.declared.kind.Kind.{Kind}
use Rattle.vx_grid.specs.declared.kind.Kind.TheVariants.{Precinct, Absentee, Provisional, Other}
use Rattle.vx_grid.specs.Kinds.{kind_word}
use Rattle.vx_words.specs.declared.command.ItemWord.{ItemWord}
use Rattle.vx_words.specs.declared.command.ItemWord.TheVariants.{Script, Scan}
use Rattle.vx_words.specs.Items.{item_word}
use Rattle.vx_words.specs.Words.{IsArgument}
use Rattle.vx_words.proofs.Seeds.{decimal_starts}

-- whether a kind's word is for a test ballot, and which kind it names: by its first letter and size
abbrev pub is_for_test : List ℕ → Bool
is_for_test word = get_or word 0 0 == 116

abbrev kind_named : List ℕ → Kind
kind_named name = if get_or name 0 0 == 97 then Absentee else if length name == 8 then Precinct else if length name == 11 then Provisional else Other

abbrev pub kind_in : List ℕ → Kind
kind_in word = kind_named (if is_for_test word then drop 5 word else word)

pub test_back : (kind : Kind) (test : Bool) → is_for_test (kind_word kind test) ≡ test
test_back kind true = refl
test_back Precinct false = refl
test_back Absentee false = refl
test_back Provisional false = refl
test_back Other false = refl

pub kind_back : (kind : Kind) (test : Bool) → kind_in (kind_word kind test) ≡ kind
kind_back Precinct true = refl
kind_back Absentee true = refl
kind_back Provisional true = refl
kind_back Other true = refl
kind_back Precinct false = refl
kind_back Absentee false = refl
kind_back Provisional false = refl
kind_back Other false = refl

-- the device that a word names
abbrev pub known : Option (List ℕ) → List ℕ
known None = []
known (Some device) = device

-- numbers and kinds may be arguments
pub number_is_argument : (n : ℕ) → n < 2 ^ 64 → IsArgument (decimal n)
number_is_argument n few =
    let starts : StartsNumeral (decimal n) = decimal_starts n few in
    record { some = starts.some; no_option = λ is. absurd (omega (arith, is, starts.low)) }

pub kind_is_argument : (kind : Kind) (test : Bool) → IsArgument (kind_word kind test)
kind_is_argument Precinct true = record { some = lit< tt; no_option = λ is. absurd (omega (arith, is)) }
kind_is_argument Absentee true = record { some = lit< tt; no_option = λ is. absurd (omega (arith, is)) }
kind_is_argument Provisional true = record { some = lit< tt; no_option = λ is. absurd (omega (arith, is)) }
kind_is_argument Other true = record { some = lit< tt; no_option = λ is. absurd (omega (arith, is)) }
kind_is_argument Precinct false = record { some = lit< tt; no_option = λ is. absurd (omega (arith, is)) }
kind_is_argument Absentee false = record { some = lit< tt; no_option = λ is. absurd (omega (arith, is)) }
kind_is_argument Provisional false = record { some = lit< tt; no_option = λ is. absurd (omega (arith, is)) }
kind_is_argument Other false = record { some = lit< tt; no_option = λ is. absurd (omega (arith, is)) }

-- and so may the words of items, as they begin with an `s`
with_s : (rest : List ℕ) → IsArgument (115 ∷ rest)
with_s rest = record { some = omega arith; no_option = λ is. absurd (omega (arith, is)) }

pub items_are_arguments : (items : List ItemWord) → All IsArgument (map item_word items)
items_are_arguments [] = All-nil IsArgument
items_are_arguments (Script name ∷ items) = All-cons IsArgument (item_word (Script name)) (map item_word items) (with_s _) (items_are_arguments items)
items_are_arguments (Scan batch name ∷ items) = All-cons IsArgument (item_word (Scan batch name)) (map item_word items) (with_s _) (items_are_arguments items)
