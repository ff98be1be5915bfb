-- The words of `board` and `risk`, which name what a seed draws.
use Rattle.std.proofs.Common.{◌≡◌, ◌≤◌, ◌<◌, ℕ, List, [], ◌∷◌, length, get_or, Some, refl, sym, subst, arith}
use Rattle.std.specs.Prelude.{All, slice_get}
use Rattle.std.specs.Borrow.{Bor}
use Rattle.std.specs.Fmt.{decimal}
use Rattle.std.proofs.lemmas.List.Elements.{All-head, All-tail}
use Rattle.vx_words.specs.declared.command.Command.TheVariants.{Board, Risk}
use Rattle.vx_words.specs.declared.name.Name.TheVariants as names
use Rattle.vx_words.specs.Names.{name_word}
use Rattle.vx_words.specs.Samples.{IsLimit, IsSeed, IsSize}
use Rattle.vx_words.specs.Words.{HasName, IsArgument, Spells}
use Rattle.vx_words.proofs.Made.{shown}
use Rattle.vx_words.proofs.Spellings.{own_seed, own_size}

-- a limit's word is that of its number
own_limit : (word : List ℕ) (limit : ℕ) → IsLimit word limit → IsLimit (decimal limit) limit
own_limit word limit is = record { digits = refl; some = is.some; few = is.few }

-- the words of a board
pub board_spelled :
    (words : List (List ℕ)) (seed word bytes : List ℕ) (size : ℕ) → HasName words names.Board
    → slice_get words 2 ≡ Some seed → slice_get words 3 ≡ Some word → IsSeed seed bytes → IsSize word size
    → Spells words (Board (get_or words 1 []) (get_or words 2 []) size)
board_spelled [] seed word bytes size called at_2 at_3 is_seed is_size = absurd (omega (arith, called.enough))
board_spelled (a ∷ []) seed word bytes size called at_2 at_3 is_seed is_size = absurd (omega (arith, called.enough))
board_spelled (a ∷ b ∷ []) seed word bytes size called at_2 at_3 is_seed is_size = absurd (omega (arith, called.enough))
board_spelled (a ∷ b ∷ c ∷ []) seed word bytes size called at_2 at_3 is_seed is_size = absurd (omega (arith, called.enough))
board_spelled (name ∷ election ∷ c ∷ d ∷ []) seed word bytes size called at_2 at_3 is_seed is_size =
    let behind : All IsArgument (c ∷ d ∷ []) = All-tail IsArgument election (c ∷ d ∷ []) called.arguments in
    let its_seed : c ≡ seed = cc in
    let its_size : d ≡ word = cc in
    let printed : word ≡ decimal size = is_size.digits in
    record {
      device = [];
      words_are = (let first = called.first in cc);
      sound = record {
        is_argument = All-head IsArgument election (c ∷ d ∷ []) called.arguments;
        seed_is_argument = All-head IsArgument c (d ∷ []) behind;
        is_seed = own_seed c bytes (subst (λ (w : List ℕ). IsSeed w bytes) (sym its_seed) is_seed);
        is_size = own_size word size is_size;
      };
    }
board_spelled (a ∷ b ∷ c ∷ d ∷ e ∷ more) seed word bytes size called at_2 at_3 is_seed is_size = absurd (omega (arith, called.no_more))

pub board_made :
    (words : List (Bor (List ℕ))) (none : Bor (List ℕ)) (bytes : List ℕ) (size : ℕ) → 3 ≤ length words → length words < 4 → All IsArgument (shown words)
    → IsSeed (get_or words 1 none).now bytes → IsSize (get_or words 2 none).now size
    → Spells (name_word names.Board ∷ shown words) (Board (get_or words 0 none).now (get_or words 1 none).now size)
board_made [] none bytes size least most are is_seed is_size = absurd (omega (arith, least))
board_made (a ∷ []) none bytes size least most are is_seed is_size = absurd (omega (arith, least))
board_made (a ∷ b ∷ []) none bytes size least most are is_seed is_size = absurd (omega (arith, least))
board_made (a ∷ b ∷ c ∷ []) none bytes size least most are is_seed is_size =
    board_spelled (name_word names.Board ∷ a.now ∷ b.now ∷ c.now ∷ []) b.now c.now bytes size
    (record { first = refl; enough = omega arith; no_more = omega arith; arguments = are }) refl refl is_seed is_size
board_made (a ∷ b ∷ c ∷ d ∷ more) none bytes size least most are is_seed is_size = absurd (omega (arith, most))

-- what the words of a risk are read as
pub record IsDrawn (seed size_word limit_word bytes : List ℕ) (size limit : ℕ) : Type 0 where
  pub is_seed : IsSeed seed bytes
  pub is_size : IsSize size_word size
  pub is_limit : IsLimit limit_word limit

-- the words of a risk
pub risk_spelled :
    (words : List (List ℕ)) (seed size_word limit_word bytes : List ℕ) (size limit : ℕ) → HasName words names.Risk
    → slice_get words 2 ≡ Some seed → slice_get words 3 ≡ Some size_word → slice_get words 5 ≡ Some limit_word
    → IsDrawn seed size_word limit_word bytes size limit
    → Spells words (Risk (get_or words 1 []) (get_or words 2 []) size (get_or words 4 []) limit)
risk_spelled [] seed size_word limit_word bytes size limit called at_2 at_3 at_5 drawn = absurd (omega (arith, called.enough))
risk_spelled (a ∷ []) seed size_word limit_word bytes size limit called at_2 at_3 at_5 drawn = absurd (omega (arith, called.enough))
risk_spelled (a ∷ b ∷ []) seed size_word limit_word bytes size limit called at_2 at_3 at_5 drawn = absurd (omega (arith, called.enough))
risk_spelled (a ∷ b ∷ c ∷ []) seed size_word limit_word bytes size limit called at_2 at_3 at_5 drawn = absurd (omega (arith, called.enough))
risk_spelled (a ∷ b ∷ c ∷ d ∷ []) seed size_word limit_word bytes size limit called at_2 at_3 at_5 drawn = absurd (omega (arith, called.enough))
risk_spelled (a ∷ b ∷ c ∷ d ∷ e ∷ []) seed size_word limit_word bytes size limit called at_2 at_3 at_5 drawn = absurd (omega (arith, called.enough))
risk_spelled (name ∷ election ∷ c ∷ d ∷ hand ∷ e ∷ []) seed size_word limit_word bytes size limit called at_2 at_3 at_5 drawn =
    let behind : All IsArgument (c ∷ d ∷ hand ∷ e ∷ []) = All-tail IsArgument election (c ∷ d ∷ hand ∷ e ∷ []) called.arguments in
    let further : All IsArgument (d ∷ hand ∷ e ∷ []) = All-tail IsArgument c (d ∷ hand ∷ e ∷ []) behind in
    let its_seed : c ≡ seed = cc in
    let its_size : d ≡ size_word = cc in
    let its_limit : e ≡ limit_word = cc in
    let size_printed : size_word ≡ decimal size = drawn.is_size.digits in
    let limit_printed : limit_word ≡ decimal limit = drawn.is_limit.digits in
    record {
      device = [];
      words_are = (let first = called.first in cc);
      sound = record {
        as_sample = record {
          is_argument = All-head IsArgument election (c ∷ d ∷ hand ∷ e ∷ []) called.arguments;
          seed_is_argument = All-head IsArgument c (d ∷ hand ∷ e ∷ []) behind;
          is_seed = own_seed c bytes (subst (λ (w : List ℕ). IsSeed w bytes) (sym its_seed) drawn.is_seed);
          is_size = own_size size_word size drawn.is_size;
          hand_is_argument = All-head IsArgument hand (e ∷ []) (All-tail IsArgument d (hand ∷ e ∷ []) further);
        };
        is_limit = own_limit limit_word limit drawn.is_limit;
      };
    }
risk_spelled (a ∷ b ∷ c ∷ d ∷ e ∷ f ∷ g ∷ more) seed size_word limit_word bytes size limit called at_2 at_3 at_5 drawn =
    absurd (omega (arith, called.no_more))

pub risk_made :
    (words : List (Bor (List ℕ))) (none : Bor (List ℕ)) (bytes : List ℕ) (size limit : ℕ) → 5 ≤ length words → length words < 6 → All IsArgument (shown words)
    → IsDrawn (get_or words 1 none).now (get_or words 2 none).now (get_or words 4 none).now bytes size limit
    → Spells (name_word names.Risk ∷ shown words) (Risk (get_or words 0 none).now (get_or words 1 none).now size (get_or words 3 none).now limit)
risk_made [] none bytes size limit least most are drawn = absurd (omega (arith, least))
risk_made (a ∷ []) none bytes size limit least most are drawn = absurd (omega (arith, least))
risk_made (a ∷ b ∷ []) none bytes size limit least most are drawn = absurd (omega (arith, least))
risk_made (a ∷ b ∷ c ∷ []) none bytes size limit least most are drawn = absurd (omega (arith, least))
risk_made (a ∷ b ∷ c ∷ d ∷ []) none bytes size limit least most are drawn = absurd (omega (arith, least))
risk_made (a ∷ b ∷ c ∷ d ∷ e ∷ []) none bytes size limit least most are drawn =
    risk_spelled (name_word names.Risk ∷ a.now ∷ b.now ∷ c.now ∷ d.now ∷ e.now ∷ []) b.now c.now e.now bytes size limit
    (record { first = refl; enough = omega arith; no_more = omega arith; arguments = are }) refl refl refl drawn
risk_made (a ∷ b ∷ c ∷ d ∷ e ∷ f ∷ more) none bytes size limit least most are drawn = absurd (omega (arith, most))
