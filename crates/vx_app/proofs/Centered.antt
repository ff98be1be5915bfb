-- A run of `center`, said of the words that spell it.
use Rattle.std.proofs.Common.{◌≡◌, ℕ, Bool, false, List, [], ◌∷◌, inl, refl, subst}
use Rattle.std.proofs.lemmas.Bool.{false≢true}
use Rattle.vx_io.specs.declared.outside.Inputs.{Ghosts as InputsOf}
use Rattle.vx_io.specs.Laws.{AskedLaws}
use Rattle.vx_io.specs.Outside.{Files}
use Rattle.vx_command.specs.Acts.{Answer}
use Rattle.vx_command.specs.Done.{Taken, Held}
use Rattle.vx_command_center.specs.Asking.{AsksAsCenter, names_of}
use Rattle.vx_command_center.specs.Runs.{Centers}
use Rattle.vx_words.specs.declared.command.Command.{Command}
use Rattle.vx_words.specs.declared.command.Command.TheVariants.{Center}
use Rattle.vx_words.specs.declared.command.ItemWord.{ItemWord}

-- a run of a command that is a `center`
abbrev CentersAs : Command → Files → List (List ℕ) → Taken → Taken → Held → Held → Answer → Type 0
CentersAs (Center name moment device items) files records taken taken_now held held_now answer =
    Centers name moment device items files records taken taken_now held held_now answer
CentersAs command files records taken taken_now held held_now answer = Unit {0}

pub centers-of :
    (lent_name lent_moment lent_device : List ℕ) (lent_items : List ItemWord) (own_name own_moment own_device : List ℕ) (own_items : List ItemWord)
    (name moment device : List ℕ) (items : List ItemWord)
    → lent_name ≡ own_name → lent_moment ≡ own_moment → lent_device ≡ own_device → lent_items ≡ own_items
    → Center own_name own_moment own_device own_items ≡ Center name moment device items
    → (files : Files) (records : List (List ℕ)) (taken taken_now : Taken) (held held_now : Held) (answer : Answer)
    → Centers lent_name lent_moment lent_device lent_items files records taken taken_now held held_now answer
    → Centers name moment device items files records taken taken_now held held_now answer
centers-of lent_name lent_moment lent_device lent_items own_name own_moment own_device own_items name moment device items is_name is_moment is_device are_items same files records taken taken_now held held_now answer it =
    let so : Center lent_name lent_moment lent_device lent_items ≡ Center name moment device items = cc in
    let As : Command → Type 0 = λ command. CentersAs command files records taken taken_now held held_now answer in
    subst As so it

-- what a command that is a `center` asks for
abbrev AsksAs : Command → {I : Type 0} → InputsOf I → I → I → Bool → Type 0
AsksAs (Center name moment device items) i before now all = AsksAsCenter i name items before now all
AsksAs command i before now all = Unit {0}

pub asks-of :
    (lent_name : List ℕ) (lent_items : List ItemWord) (own_name own_moment own_device : List ℕ) (own_items : List ItemWord)
    (name moment device : List ℕ) (items : List ItemWord)
    → lent_name ≡ own_name → lent_items ≡ own_items
    → Center own_name own_moment own_device own_items ≡ Center name moment device items
    → {I : Type 0} (i : InputsOf I) (before now : I) (all : Bool)
    → AsksAsCenter i lent_name lent_items before now all → AsksAsCenter i name items before now all
asks-of lent_name lent_items own_name own_moment own_device own_items name moment device items is_name are_items same i before now all it =
    let so : Center lent_name own_moment own_device lent_items ≡ Center name moment device items = cc in
    let As : Command → Type 0 = λ command. AsksAs command i before now all in
    subst As so it

-- a `center` that hasn't begun has asked for nothing
pub asks-nothing : AskedLaws → {I : Type 0} (i : InputsOf I) (election : List ℕ) (items : List ItemWord) (before : I) → AsksAsCenter i election items before before false
asks-nothing laws i election items before =
    record {
      taken = [];
      taken_are_front = (election ∷ [], refl);
      takings = [];
      are_takings = refl;
      questions = [];
      of_items = record {
        sized = [];
        taken = [];
        sized_are_front = (names_of items, refl);
        taken_are_front = (names_of items, refl);
        sizes_before = inl refl;
        whole = λ is. absurd (false≢true is);
        takings = [];
        are_takings = refl;
        are = refl;
      };
      election_before = inl refl;
      whole = λ is. absurd (false≢true is);
      asked = laws.nothing (i.asked before);
    }
