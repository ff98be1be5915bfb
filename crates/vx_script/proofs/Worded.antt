-- Words that are still to be read.
use Rattle.std.proofs.Common.{◌≡◌, ℕ, Bool, true, false, cond, List, [], ◌∷◌, length, Option, Some, None, Bor, refl, sym, ap, subst, ◌∙◌, arith, lit<}
use Rattle.std.specs.Prelude.{◌==◌}
use Rattle.std.specs.List.{after_first, join_with_byte}
use Rattle.std.proofs.lemmas.Bool.{ne_eqb}
use Rattle.std.proofs.lemmas.List.Splits.{slice_split_first, join_with_byte-slice_split}
use Rattle.std.proofs.lemmas.Str.Pattern.{IsSplitOnceResult, split_once_first}
use Rattle.std.specs.Str.{is_utf8}
use Rattle.vx_election_model.specs.declared.election.Election.{Election}
use Rattle.vx_events.specs.declared.event.Event.{Event}
use Rattle.vx_events.specs.Fits.{fits}
use Rattle.vx_script.specs.Options.{and_then}
use Rattle.vx_script.specs.Script.{event_in, in_range, said_in, words_of}
use Rattle.vx_script.proofs.Split.{one_piece, at_end, some_pieces}

-- the words of a text, unless they were all read
abbrev pub words_in : Bool → List ℕ → List (List ℕ)
words_in ended text = cond ended [] (words_of text)

not_none : (words : List (List ℕ)) → (words ≡ [] → ⊥) → false ≡ (length words == 0)
not_none [] some = absurd (some refl)
not_none (word ∷ words) some = sym (ne_eqb (length (word ∷ words)) 0 (λ is. omega arith))

pub are_read : (ended : Bool) (text : List ℕ) (words : List (List ℕ)) → words_in ended text ≡ words → ended ≡ (length words == 0)
are_read true text words is = let Read : List (List ℕ) → Type 0 = λ some. true ≡ (length some == 0) in subst Read is refl
are_read false text words is = let Read : List (List ℕ) → Type 0 = λ some. false ≡ (length some == 0) in subst Read is (not_none (words_of text) (some_pieces (λ b. b == 32) text))

pub are_words : (ended : Bool) (text : List ℕ) (words : List (List ℕ)) → ended ≡ false → words_in ended text ≡ words → words ≡ words_of text
are_words true text words not_ended is = absurd cc
are_words false text words not_ended is = sym is

-- the last word, and one before others
pub last_word : (text : List ℕ) → IsSplitOnceResult 32 text None → words_of text ≡ text ∷ []
last_word text is = one_piece (λ b. b == 32) 0 text (at_end (λ b. b == 32) text (split_once_first 32 text None is (lit< tt)))

pub next_word : (text : List ℕ) (word behind : Bor (List ℕ)) → IsSplitOnceResult 32 text (Some (word, behind)) → words_of text ≡ word.now ∷ words_of behind.now
next_word text word behind is =
    let cut = split_once_first 32 text (Some (word, behind)) is (lit< tt) in
    slice_split_first (λ b. b == 32) text 0 cut.0
    ∙ ap (λ (some : List ℕ). some ∷ words_of (after_first (λ b. b == 32) text)) (sym cut.1)
    ∙ ap (λ (some : List ℕ). word.now ∷ words_of some) (sym cut.2)

-- the rest of the line
pub rest_of : (text : List ℕ) (words : List (List ℕ)) → words ≡ words_of text → text ≡ join_with_byte 32 words
rest_of text words is = sym (join_with_byte-slice_split 32 text) ∙ ap (join_with_byte 32) (sym is)

-- the event of a line
pub event_is : (election : Election) (line : List ℕ) (event : Event) → is_utf8 line ≡ true → said_in election (words_of line) ≡ Some event → fits election event ≡ true → Some event ≡ event_in election line
unfolding event_in
event_is election line event text said fit = rw text (sym (ap (λ (found : Option Event). and_then found (in_range election)) said ∙ rw fit refl))

pub no_text : (election : Election) (line : List ℕ) → is_utf8 line ≡ false → None ≡ event_in election line
unfolding event_in
no_text election line other = rw other refl
