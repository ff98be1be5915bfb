-- The whole text of the command.
use Rattle.std.proofs.Common.{◌≡◌, ◌⊎◌, inl, inr, ℕ, List, [], ◌++◌, length, chars, ◌∙◌, zero-add, refl}
use Rattle.vx_election_model.specs.declared.election.Election.{Election}
use Rattle.vx_command_cards.specs.declared.flaw.Flaw.TheVariants.{Hollow, Blank, Cut}
use Rattle.vx_command_cards.specs.Lines.{GotLines, ended, text_of}
use Rattle.vx_command_cards.specs.Cards.{card_lines}
use Rattle.vx_command_cards.specs.declared.flaw.Flaw.{Flaw}
use Rattle.vx_command_cards.specs.Drawn.{hollow_in}
use Rattle.vx_command_cards.specs.Texts.{flaw_lines, foot_lines, election_lines, text_lines, hollow_lines, blank_lines, cut_lines}
use Rattle.vx_command_cards.specs.Alike.{alike_lines}
use Rattle.vx_command_cards.specs.Outcome.{cards_text, sums_line}

-- a text of lines alone, and how many they are
text-is : (lines : List (List ℕ)) (text : List ℕ) (count : ℕ) → GotLines lines [] text 0 count → text ≡ text_of lines
text-is lines text count got = got.got

count-is : (lines : List (List ℕ)) (text : List ℕ) (count : ℕ) → GotLines lines [] text 0 count → count ≡ length lines
count-is lines text count got = got.counted ∙ zero-add (length lines)

module _ (election : Election) (a b b' c d : List ℕ) (i j j' k l : ℕ) (cards : GotLines (card_lines election) [] a 0 i) (hollow : GotLines (flaw_lines Hollow election) [] b 0 j) (blank : GotLines (flaw_lines Blank election) [] b' 0 j') (cut : GotLines (flaw_lines Cut election) [] c 0 k) (alike : GotLines (alike_lines election) [] d 0 l) where
  -- the lines of all kinds, and then how many they are
  pub all-told : a ++ b ++ b' ++ c ++ d ++ ended (sums_line i j j' k l) ≡ cards_text election
  unfolding cards_text
  all-told =
      let e = text-is (card_lines election) a i cards in
      let f = text-is (flaw_lines Hollow election) b j hollow in
      let f' = text-is (flaw_lines Blank election) b' j' blank in
      let g = text-is (flaw_lines Cut election) c k cut in
      let h = text-is (alike_lines election) d l alike in
      let m = count-is (card_lines election) a i cards in
      let n = count-is (flaw_lines Hollow election) b j hollow in
      let n' = count-is (flaw_lines Blank election) b' j' blank in
      let o = count-is (flaw_lines Cut election) c k cut in
      let p = count-is (alike_lines election) d l alike in
      rw (e, f, f', g, h, m, n, n', o, p) refl

-- what is told of a text, by what it is told of
pub told-hollow : (flaw : Flaw) (contest what text : List ℕ) → flaw ≡ Hollow → text_lines flaw contest what text ≡ hollow_lines contest what (hollow_in (chars text))
unfolding text_lines
told-hollow flaw contest what text is = rw is refl

pub told-blank : (flaw : Flaw) (contest what text : List ℕ) → flaw ≡ Blank → text_lines flaw contest what text ≡ blank_lines contest what (chars text)
unfolding text_lines
told-blank flaw contest what text is = rw is refl

pub told-cut : (flaw : Flaw) (contest what text : List ℕ) → flaw ≡ Cut → text_lines flaw contest what text ≡ cut_lines contest what text
unfolding text_lines
told-cut flaw contest what text is = rw is refl

-- what is told of the foot line, by what it is told of
pub foot-shown : (flaw : Flaw) (election : Election) → (flaw ≡ Hollow) ⊎ (flaw ≡ Blank) → election_lines flaw election ≡ foot_lines flaw election
unfolding foot_lines
foot-shown flaw election (inl is) = rw is refl
foot-shown flaw election (inr is) = rw is refl

pub foot-cut : (flaw : Flaw) (election : Election) → flaw ≡ Cut → [] ≡ foot_lines flaw election
unfolding foot_lines
foot-cut flaw election is = rw is refl
