-- Numbers as a script's words spell them, and sets of options.
use Rattle.std.specs.Prelude.{ℕ, ◌&&◌, if◌then◌else◌, bytes_eq, nat_eq, nat_le, List, [], ◌∷◌, Option, Some, None}
use Rattle.std.specs.List.{filter, list_any, range_with_len}
use Rattle.std.specs.Fmt.{decimal}
use Rattle.std.specs.Str.Parse.{digits_value}

-- what is done with something that is there
abbrev pub and_then : {A B : Type 0} → Option A → (A → Option B) → Option B
and_then None next = None
and_then (Some x) next = next x

-- the number of at most so much that a word spells: in digits, without a sign and without a leading zero
abbrev pub number_of : ℕ → ℕ → List ℕ → Option ℕ
number_of most number word = if bytes_eq word (decimal number) && nat_le number most then Some number else None

unfoldable pub number_in : ℕ → List ℕ → Option ℕ
number_in most word = number_of most (digits_value 10 word) word

-- the numbers of at most so much that words spell
abbrev pub numbers_in : ℕ → List (List ℕ) → Option (List ℕ)
numbers_in most [] = Some []
numbers_in most (word ∷ words) =
    and_then (number_in most word) (λ number. and_then (numbers_in most words) (λ numbers. Some (number ∷ numbers)))

-- the options below a number that are among some, in ascending order: each once
abbrev pub among_below : ℕ → List ℕ → List ℕ
among_below limit numbers = filter (λ option. list_any (nat_eq option) numbers) (range_with_len 0 limit)

-- options are below 1,000
unfoldable pub option_limit : ℕ
option_limit = 1000

abbrev pub options_of : List ℕ → List ℕ
options_of numbers = among_below option_limit numbers

-- the options that words spell
abbrev pub options_in : List (List ℕ) → Option (List ℕ)
options_in words = and_then (numbers_in 999 words) (λ numbers. Some (options_of numbers))
