-- Numbers that words spell, and options among some.
use Rattle.std.proofs.Common.{◌≡◌, ◌≢◌, ◌<◌, ◌≤◌, ◌+◌, ◌^◌, ℕ, zero, suc, Bool, true, false, cond, List, [], ◌∷◌, ◌++◌, Option, Some, None, MatchOption, refl, sym, ap, ◌∙◌, arith}
use Rattle.std.specs.Prelude.{◌&&◌, bytes_eq, nat_le, nat_eq}
use Rattle.std.specs.List.{filter, list_any, range_with_len}
use Rattle.std.specs.Fmt.{decimal}
use Rattle.std.specs.Str.Parse.{digits_value}
use Rattle.std.proofs.lemmas.Fmt.{decimal_is_IsNumeral}
use Rattle.std.proofs.lemmas.Slice.Eq.{bytes_eq-Decides}
use Rattle.std.proofs.lemmas.Bool.{leb-true, le-leb, and_parts, and_from, cond-true}
use Rattle.std.proofs.lemmas.List.Elements.{filter-append}
use Rattle.vx_base.proofs.Ranges.{range-more}
use Rattle.vx_events.specs.Ascending.{ascends_from, is_ascending}
use Rattle.vx_script.specs.Options.{number_of, number_in, among_below, option_limit}

-- a word that spells no number in range
unspelled : (most number : ℕ) (word : List ℕ) (b : Bool) → bytes_eq word (decimal number) && nat_le number most ≡ b → ((n : ℕ) → n ≤ most → word ≢ decimal n) → cond b (Some number) None ≡ None
unspelled most number word false is none = refl
unspelled most number word true is none =
    let both = and_parts (bytes_eq word (decimal number)) (nat_le number most) is in
    absurd (none number (leb-true number most both.1) ((bytes_eq-Decides word (decimal number)).0 both.0))

-- one that spells a number in range
spelled : (most n : ℕ) (word : List ℕ) → n ≤ most → word ≡ decimal n → number_of most n word ≡ Some n
spelled most n word within is =
    let same : bytes_eq word (decimal n) ≡ true = (bytes_eq-Decides word (decimal n)).1 is in
    cond-true (bytes_eq word (decimal n) && nat_le n most) (Some n) None (and_from (bytes_eq word (decimal n)) (nat_le n most) same (le-leb n most within))

pub number_read : (most : ℕ) (word : List ℕ) (result : Option ℕ) → most < 2 ^ 32 → MatchOption result ((n : ℕ) → n ≤ most → word ≢ decimal n) (λ n. (n ≤ most) × (word ≡ decimal n)) → result ≡ number_in most word
unfolding number_in
number_read most word None small none = sym (unspelled most (digits_value 10 word) word (bytes_eq word (decimal (digits_value 10 word)) && nat_le (digits_value 10 word) most) refl none)
number_read most word (Some n) small read =
    let fits : n < 2 ^ 64 = omega (arith, read.0) in
    let value : digits_value 10 word ≡ n = ap (digits_value 10) read.1 ∙ (decimal_is_IsNumeral n fits).1 in
    sym (spelled most n word read.0 read.1) ∙ ap (λ (v : ℕ). number_of most v word) (sym value)

-- the options among some ascend
ascends_by : (p : ℕ → Bool) (a least : ℕ) (further : List ℕ) (b : Bool) → least ≤ a → ascends_from (a + 1) further ≡ true → ascends_from least further ≡ true → ascends_from least (cond b (a ∷ further) further) ≡ true
ascends_by p a least further true low above same = rw (le-leb least a low) above
ascends_by p a least further false low above same = same

ascends : (p : ℕ → Bool) (a n least : ℕ) → least ≤ a → ascends_from least (filter p (range_with_len a n)) ≡ true
ascends p a zero least low = refl
ascends p a (suc n) least low = ascends_by p a least (filter p (range_with_len (a + 1) n)) (p a) low (ascends p (a + 1) n (a + 1) (omega arith)) (ascends p (a + 1) n least (omega arith))

pub options_ascend : (limit : ℕ) (numbers : List ℕ) → is_ascending (among_below limit numbers) ≡ true
options_ascend limit numbers = ascends (λ option. list_any (nat_eq option) numbers) 0 limit 0 (omega arith)

-- one option more
kept_of : (p : ℕ → Bool) (n : ℕ) (b : Bool) → p n ≡ b → filter p (n ∷ []) ≡ cond b (n ∷ []) []
kept_of p n true is = rw is refl
kept_of p n false is = rw is refl

pub one_option_more : (limit : ℕ) (numbers : List ℕ) (b : Bool) → list_any (nat_eq limit) numbers ≡ b → among_below (limit + 1) numbers ≡ among_below limit numbers ++ cond b (limit ∷ []) []
one_option_more limit numbers b is =
    let at : 0 + limit ≡ limit = omega arith in
    ap (filter (λ option. list_any (nat_eq option) numbers)) (range-more 0 limit ∙ ap (λ (n : ℕ). range_with_len 0 limit ++ n ∷ []) at)
    ∙ filter-append (λ option. list_any (nat_eq option) numbers) (range_with_len 0 limit) (limit ∷ [])
    ∙ ap (λ (some : List ℕ). among_below limit numbers ++ some) (kept_of (λ option. list_any (nat_eq option) numbers) limit b is)

-- the limit of options is the code's
pub limit_is : 1000 ≡ option_limit
unfolding option_limit
limit_is = refl
