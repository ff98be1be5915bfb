-- Commands by their first word.
use Rattle.std.proofs.Common.{◌≡◌, ℕ, Bool, true, false, List, Some, sym, ap, ◌∙◌}
use Rattle.std.specs.Prelude.{codes, not, slice_get}
use Rattle.std.specs.Str.{bytes_eq}
use Rattle.std.proofs.lemmas.Bool.{false_from_ne_true, not_from_false, true≢false}
use Rattle.std.proofs.lemmas.Option.{same_Some}
use Rattle.std.proofs.lemmas.Slice.Eq.{bytes_eq-Decides}
use Rattle.vx_words.specs.declared.command.Command.{Command}
use Rattle.vx_words.specs.declared.command.Command.TheVariants.{Print, Read, Check, Count, Decide, Queue, Export, Demo, Center, Try, Cards, Results, Sample, Desk, Summary, Board, Risk}
use Rattle.vx_words.specs.declared.command.ItemWord.{ItemWord}
use Rattle.vx_words.specs.Names.{name_word}
use Rattle.vx_words.specs.Words.{Spells, name_of}
use Rattle.vx_app.specs.Runs.{NamesCenter, NoCenter, is_run}

-- the first of the words that spell a command is its name
first_word : (words : List (List ℕ)) (command : Command) → Spells words command → slice_get words 0 ≡ Some (name_word (name_of command))
first_word words command spelled = ap (λ (w : List (List ℕ)). slice_get w 0) spelled.words_are

-- words whose first names `center` are no other command
pub is_center : (words : List (List ℕ)) (command : Command) → NamesCenter words → Spells words command → is_run command ≡ false
is_center words command first spelled =
    ap (λ (word : List ℕ). not (bytes_eq word (codes "center")))
    (same_Some (name_word (name_of command)) (codes "center") (sym (first_word words command spelled) ∙ first))

-- and the words of `center` begin so
pub names_center : (words : List (List ℕ)) (election moment named : List ℕ) (items : List ItemWord) → Spells words (Center election moment named items)
    → NamesCenter words
names_center words election moment named items spelled = first_word words (Center election moment named items) spelled

pub is_other : (words : List (List ℕ)) (command : Command) → (NamesCenter words → ⊥) → Spells words command → is_run command ≡ true
is_other words command other spelled =
    let word : List ℕ = name_word (name_of command) in
    not_from_false (bytes_eq word (codes "center"))
    (false_from_ne_true (bytes_eq word (codes "center"))
    (λ is. other (first_word words command spelled ∙ ap Some ((bytes_eq-Decides word (codes "center")).0 is))))

-- a command that is named so is a `center`
center_alone : (words : List (List ℕ)) (command : Command) → is_run command ≡ false → Spells words command → NoCenter words → ⊥
center_alone words (Center election moment named items) is spelled none = none election moment named items spelled
center_alone words (Print election card kind test) is spelled none = true≢false is
center_alone words (Read election scans) is spelled none = true≢false is
center_alone words (Check election scans readings) is spelled none = true≢false is
center_alone words (Count election batch workers scans) is spelled none = true≢false is
center_alone words (Decide election script) is spelled none = true≢false is
center_alone words (Queue election) is spelled none = true≢false is
center_alone words (Export election moment named) is spelled none = true≢false is
center_alone words (Demo seed sheets) is spelled none = true≢false is
center_alone words (Try election scans) is spelled none = true≢false is
center_alone words (Cards election) is spelled none = true≢false is
center_alone words (Results election) is spelled none = true≢false is
center_alone words (Sample election seed size hand) is spelled none = true≢false is
center_alone words (Desk election batch scans) is spelled none = true≢false is
center_alone words (Summary election) is spelled none = true≢false is
center_alone words (Board election seed size) is spelled none = true≢false is
center_alone words (Risk election seed size hand limit) is spelled none = true≢false is

pub no_other : (words : List (List ℕ)) (command : Command) → NamesCenter words → Spells words command → NoCenter words → ⊥
no_other words command first spelled = center_alone words command (is_center words command first spelled) spelled
