-- Lines that were written, read back.
use Rattle.std.proofs.Common.{◌≡◌, ◌<◌, ◌^◌, ℕ, suc, Bool, true, false, List, [], ◌∷◌, length, map, codes, cond, Option, Some, None, arith, refl, sym, ap, ◌∙◌}
use Rattle.std.specs.Prelude.{◌==◌, ℤ, pos, negsuc, option_map}
use Rattle.std.specs.Fmt.{decimal, signed_decimal}
use Rattle.std.proofs.lemmas.List.{length-map}
use Rattle.std.proofs.lemmas.Int.{ints}
use Rattle.std.proofs.lemmas.Slice.Eq.{bytes_eq-Decides}
use Rattle.vx_base.proofs.Numbers.{equal-yes, equal-no, below-yes}
use Rattle.vx_base.specs.Numeral.{StartsNumeral}
use Rattle.vx_base.proofs.Numerals.{decimal_starts}
use Rattle.vx_grid.specs.declared.kind.Kind.{Kind}
use Rattle.vx_grid.specs.declared.kind.Kind.TheVariants.{Precinct, Absentee, Provisional, Other}
use Rattle.vx_grid.specs.declared.paper.Paper.{Paper}
use Rattle.vx_grid.specs.declared.places.Point.{Point}
use Rattle.vx_grid.specs.declared.state.State.{State}
use Rattle.vx_grid.specs.declared.state.State.TheVariants.{Marked, Marginal, Clear}
use Rattle.vx_grid.specs.Borders.{MarkPlaces}
use Rattle.vx_grid.specs.Kinds.{kind_word}
use Rattle.vx_grid.specs.Marks.{marks}
use Rattle.vx_grid.specs.Places.{IsWithin, IsPointWithin, AreWithin}
use Rattle.vx_code.specs.Code.{version_of}
use Rattle.vx_code.specs.declared.code.PageCode.{PageCode}
use Rattle.vx_readings.specs.Lines.{kind_in, state_in, turned_in, head_in, place_of_parts, place_in, all_as, border_by}
use Rattle.vx_readings.specs.Numbers.{negative_of, positive_of, signed_in}
use Rattle.vx_readings.specs.ReadingText.{place_word, state_word, turned_words}
use Rattle.vx_readings.specs.Words.{◌>>=◌, named_number}
use Rattle.vx_readings.proofs.Spelled.{number_in-decimal, signed_in-plain}
use Rattle.vx_readings.proofs.Lacking.{lacks, lacks-both, decimal-lacks, IsWord, AreWords, parts-first, parts-last}

-- a number behind its name
pub named-read : (name : List ℕ) (n : ℕ) (words : List (List ℕ)) → n < 2 ^ 32 → named_number name (name ∷ decimal n ∷ words) ≡ Some (n, words)
unfolding named_number
named-read name n words small =
    rw ((bytes_eq-Decides name name).1 refl) (ap (option_map (λ (value : ℕ). (value, words))) (number_in-decimal n small))

-- kinds, states, turned pages
pub kind-read : (kind : Kind) (test : Bool) → kind_in (kind_word kind test) ≡ Some (kind, test)
unfolding kind_in
kind-read Precinct false = refl
kind-read Absentee false = refl
kind-read Provisional false = refl
kind-read Other false = refl
kind-read Precinct true = refl
kind-read Absentee true = refl
kind-read Provisional true = refl
kind-read Other true = refl

pub kind-is_word : (kind : Kind) (test : Bool) → IsWord (kind_word kind test)
kind-is_word Precinct false = record { no_line = refl; no_blank = refl }
kind-is_word Absentee false = record { no_line = refl; no_blank = refl }
kind-is_word Provisional false = record { no_line = refl; no_blank = refl }
kind-is_word Other false = record { no_line = refl; no_blank = refl }
kind-is_word Precinct true = record { no_line = refl; no_blank = refl }
kind-is_word Absentee true = record { no_line = refl; no_blank = refl }
kind-is_word Provisional true = record { no_line = refl; no_blank = refl }
kind-is_word Other true = record { no_line = refl; no_blank = refl }

pub state-read : (state : State) → state_in (state_word state) ≡ Some state
unfolding state_in
state-read Marked = refl
state-read Marginal = refl
state-read Clear = refl

pub state-is_word : (state : State) → IsWord (state_word state)
state-is_word Marked = record { no_line = refl; no_blank = refl }
state-is_word Marginal = record { no_line = refl; no_blank = refl }
state-is_word Clear = record { no_line = refl; no_blank = refl }

pub turned-read : (turned : Bool) → turned_in (turned_words turned) ≡ Some turned
turned-read true = refl
turned-read false = refl

pub turned-are_words : (turned : Bool) → AreWords (turned_words turned)
turned-are_words true = (record { no_line = refl; no_blank = refl }, tt)
turned-are_words false = tt

-- the code that is said, of the paper's version and the tag
code-same : (paper : Paper) (tag : ℕ) (code : PageCode) → code.version ≡ version_of paper → code.tag ≡ tag
    → record code { version = version_of paper; tag = tag } ≡ code
code-same paper tag code version same_tag =
    ap (λ (v : ℕ). record code { version = v; tag = tag }) (sym version) ∙ ap (λ (t : ℕ). record code { tag = t }) (sym same_tag)

-- the first line of a block
pub head-read : (paper : Paper) (tag : ℕ) (code : PageCode) (turned : Bool) → code.version ≡ version_of paper → code.tag ≡ tag → code.card < 2 ^ 32 → code.page < 2 ^ 32
    → head_in paper tag (decimal code.card ∷ codes "side" ∷ decimal code.page ∷ codes "kind" ∷ kind_word code.kind code.test ∷ turned_words turned)
    ≡ Some (record { code = code; turned = turned })
unfolding head_in
head-read paper tag code turned version same_tag card page =
    rw (number_in-decimal code.card card)
    (rw (named-read (codes "side") code.page (codes "kind" ∷ kind_word code.kind code.test ∷ turned_words turned) page)
    (rw (kind-read code.kind code.test)
    (rw (turned-read turned)
    (ap (λ (said : PageCode). Some (record { code = said; turned = turned })) (code-same paper tag code version same_tag)))))

-- numbers with a sign
signed-negative : (n : ℕ) → suc n < 2 ^ 31 → signed_in (45 ∷ decimal (suc n)) ≡ Some (negsuc n)
unfolding signed_in
signed-negative n small =
    ap negative_of (number_in-decimal (suc n) (omega arith)) ∙ rw (below-yes n (2 ^ 31) (omega arith)) refl

pub signed-read : (z : ℤ) → IsWithin 2147483647 z → signed_in (signed_decimal z) ≡ Some z
signed-read (pos n) within =
    let small : n < 2 ^ 31 = omega (arith, ints, within.high) in
    let starts : StartsNumeral (decimal n) = decimal_starts n (omega arith) in
    signed_in-plain (decimal n) starts.some (λ minus. omega (arith, starts.low, minus))
    ∙ ap positive_of (number_in-decimal n (omega arith))
    ∙ rw (below-yes n (2 ^ 31) small) refl
signed-read (negsuc n) within = signed-negative n (omega (arith, ints, within.low))

signed-lacks : (at : ℕ) (z : ℤ) → at < 45 → IsWithin 2147483647 z → lacks at (signed_decimal z) ≡ true
signed-lacks at (pos n) low within = decimal-lacks at n (omega arith) (omega (arith, ints, within.high))
signed-lacks at (negsuc n) low within =
    let other : 45 ≡ at → ⊥ = λ same. omega (arith, same, low) in
    rw (equal-no 45 at other) (decimal-lacks at (suc n) (omega arith) (omega (arith, ints, within.low)))

-- places
pub place-read : (p : Point) → IsPointWithin 2147483647 p → place_in (place_word p) ≡ Some p
unfolding place_in
place-read p within =
    ap place_of_parts
    (parts-first 44 (signed_decimal p.u) (signed_decimal p.v) (signed-lacks 44 p.u (omega arith) within.u)
    ∙ ap (λ (parts : List (List ℕ)). signed_decimal p.u ∷ parts) (parts-last 44 (signed_decimal p.v) (signed-lacks 44 p.v (omega arith) within.v)))
    ∙ rw (signed-read p.u within.u) (rw (signed-read p.v within.v) refl)

pub place-is_word : (p : Point) → IsPointWithin 2147483647 p → IsWord (place_word p)
place-is_word p within = record {
  no_line = lacks-both 10 (signed_decimal p.u) (44 ∷ signed_decimal p.v) (signed-lacks 10 p.u (omega arith) within.u) (signed-lacks 10 p.v (omega arith) within.v);
  no_blank = lacks-both 32 (signed_decimal p.u) (44 ∷ signed_decimal p.v) (signed-lacks 32 p.u (omega arith) within.u) (signed-lacks 32 p.v (omega arith) within.v);
}

places-behind : (p : Point) (places : List Point) → AreWithin 2147483647 (p ∷ places) → AreWithin 2147483647 places
places-behind p places within = λ k q at. within (suc k) q at

pub places-read : (places : List Point) → AreWithin 2147483647 places → all_as place_in (map place_word places) ≡ Some places
unfolding all_as
places-read [] within = refl
places-read (p ∷ places) within =
    ap (λ (spelled : Option Point). spelled >>= (λ (value : Point). option_map (λ (values : List Point). value ∷ values) (all_as place_in (map place_word places)))) (place-read p (within 0 p refl))
    ∙ ap (option_map (λ (values : List Point). p ∷ values)) (places-read places (places-behind p places within))

pub places-are_words : (places : List Point) → AreWithin 2147483647 places → AreWords (map place_word places)
places-are_words [] within = tt
places-are_words (p ∷ places) within = (place-is_word p (within 0 p refl), places-are_words places (places-behind p places within))

abbrev bordered : Paper → List Point → MarkPlaces
bordered paper places = record { paper = paper; places = places }

pub border-read : (paper : Paper) (places : List Point) → AreWithin 2147483647 places → length places ≡ marks paper
    → border_by paper (map place_word places) ≡ Some (record { paper = paper; places = places })
unfolding border_by
border-read paper places within many =
    ap (λ (spelled : Option (List Point)). spelled >>= (λ (all : List Point). cond (length (map place_word places) == marks paper) (Some (bordered paper all)) None)) (places-read places within)
    ∙ rw (equal-yes (length (map place_word places)) (marks paper) (simp length-map many)) refl
