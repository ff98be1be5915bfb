-- What `center` asks of its inputs, step by step.
use Rattle.std.proofs.Common.{◌≡◌, inl, inr, ℕ, ◌+◌, ◌<◌, ◌≤◌, Bool, true, false, List, [], ◌∷◌, ◌++◌, map, take, drop, length, get_or, refl, sym, ap, ◌∙◌, subst}
use Rattle.std.proofs.lemmas.Bool.{false≢true}
use Rattle.std.proofs.lemmas.List.{append-nil, append_assoc, map-append, take_all, take_more, take-append-drop}
use Rattle.vx_io.specs.declared.outside.Inputs.{Ghosts as InputsOf}
use Rattle.vx_io.specs.Asking.{Question, SizeOf, Asked}
use Rattle.vx_io.specs.Laws.{AskedLaws}
use Rattle.vx_words.specs.declared.command.ItemWord.{ItemWord}
use Rattle.vx_command.specs.Asking.{Asks, AskLaws}
use Rattle.vx_command_center.specs.Outcome.{name_in}
use Rattle.vx_command_center.specs.Asking.{names_of, AsksSizes, AsksItems, AsksAsCenter}

-- the names so far, with that of one item more
pub names_more : (words : List ItemWord) (k : ℕ) (item : ItemWord) → k < length words → item ≡ get_or words k item → names_of (take (k + 1) words) ≡ names_of (take k words) ++ name_in item ∷ []
names_more words k item inside is =
    ap names_of (take_more words k item inside ∙ ap (λ (w : ItemWord). take k words ++ w ∷ []) (sym is))
    ∙ map-append name_in (take k words) (item ∷ [])

-- the names so far, and those that are left
pub names_split : (words : List ItemWord) (k : ℕ) → names_of (take k words) ++ names_of (drop k words) ≡ names_of words
names_split words k = sym (map-append name_in (take k words) (drop k words)) ∙ ap names_of (take-append-drop k words)

module _ {I : Type 0} (i : InputsOf I) where
  -- the size under one name was asked for
  pub one_sized : (name named : List ℕ) (a b : I) (all : Bool) → named ≡ name → Asked (i.asked a) (i.asked b) (SizeOf named ∷ []) → AsksSizes i (name ∷ []) a b all
  one_sized name named a b all is p =
      record {
        sized = name ∷ [];
        are_front = ([], refl);
        whole = λ so. refl;
        asked = subst (λ (s : List ℕ). Asked (i.asked a) (i.asked b) (SizeOf s ∷ [])) is p;
      }

  pub sizes_ended : (names : List (List ℕ)) (a b : I) (all : Bool) → AsksSizes i names a b true → AsksSizes i names a b all
  sizes_ended names a b all p =
      record { sized = p.sized; are_front = p.are_front; whole = λ is. p.whole refl; asked = p.asked }

  pub sizes_front : (names more : List (List ℕ)) (a b : I) (all : Bool) → AsksSizes i names a b all → AsksSizes i (names ++ more) a b false
  sizes_front names more a b all p =
      record {
        sized = p.sized;
        are_front = (p.are_front.0 ++ more, ap (λ (s : List (List ℕ)). s ++ more) p.are_front.1 ∙ append_assoc p.sized p.are_front.0 more);
        whole = λ is. absurd (false≢true is);
        asked = p.asked;
      }

  -- all sizes of the items were, however the rest ends
  pub all_sized : (words : List ItemWord) (k : ℕ) (a b : I) (all : Bool) → length words ≤ k → AsksSizes i (names_of (take k words)) a b true → AsksSizes i (names_of words) a b all
  all_sized words k a b all past p =
      sizes_ended (names_of words) a b all
      (subst (λ (some : List ItemWord). AsksSizes i (names_of some) a b true) (take_all k words past) p)

  -- sizes of items were asked for, and it ended there
  pub items_unsized : (items : List ItemWord) (a b : I) (all : Bool) → AsksSizes i (names_of items) a b all → AsksItems i items a b false
  items_unsized items a b all p =
      record {
        questions = map SizeOf p.sized;
        of_items = record {
          sized = p.sized;
          taken = [];
          sized_are_front = p.are_front;
          taken_are_front = (names_of items, refl);
          sizes_before = inl refl;
          whole = λ is. absurd (false≢true is);
          takings = [];
          are_takings = refl;
          are = sym (append-nil (map SizeOf p.sized));
        };
        asked = p.asked;
      }

  pub items_ended : (items : List ItemWord) (a b : I) (all : Bool) → AsksItems i items a b true → AsksItems i items a b all
  items_ended items a b all p =
      let given = p.of_items in
      record {
        questions = p.questions;
        of_items = record {
          sized = given.sized;
          taken = given.taken;
          sized_are_front = given.sized_are_front;
          taken_are_front = given.taken_are_front;
          sizes_before = given.sizes_before;
          whole = λ is. given.whole refl;
          takings = given.takings;
          are_takings = given.are_takings;
          are = given.are;
        };
        asked = p.asked;
      }

  -- the election was asked for, and it ended there
  pub election_broken : (election : List ℕ) (items : List ItemWord) (a b : I) (all : Bool) → Asks i (election ∷ []) a b all → AsksAsCenter i election items a b false
  election_broken election items a b all p =
      record {
        taken = p.taken;
        taken_are_front = (p.left, p.are);
        takings = p.questions;
        are_takings = p.takings;
        questions = [];
        of_items = record {
          sized = [];
          taken = [];
          sized_are_front = (names_of items, refl);
          taken_are_front = (names_of items, refl);
          sizes_before = inl refl;
          whole = λ is. absurd (false≢true is);
          takings = [];
          are_takings = refl;
          are = refl;
        };
        election_before = inl refl;
        whole = λ is. absurd (false≢true is);
        asked = subst (λ (s : List Question). Asked (i.asked a) (i.asked b) s) (sym (append-nil p.questions)) p.asked;
      }

  module _ (laws : AskedLaws) where
    pub none_sized : (a : I) (all : Bool) → AsksSizes i [] a a all
    none_sized a all = record { sized = []; are_front = ([], refl); whole = λ is. refl; asked = laws.nothing (i.asked a) }

    pub sizes_further : (names more : List (List ℕ)) (a b c : I) (all : Bool) → AsksSizes i names a b true → AsksSizes i more b c all → AsksSizes i (names ++ more) a c all
    sizes_further names more a b c all p q =
        let is : p.sized ≡ names = p.whole refl in
        record {
          sized = p.sized ++ q.sized;
          are_front = (
            q.are_front.0,
            ap (λ (s : List (List ℕ)). s ++ more) (sym is)
                ∙ ap (λ (s : List (List ℕ)). p.sized ++ s) q.are_front.1
                ∙ sym (append_assoc p.sized q.sized q.are_front.0),
          );
          whole = λ so. ap (λ (s : List (List ℕ)). s ++ q.sized) is ∙ ap (λ (s : List (List ℕ)). names ++ s) (q.whole so);
          asked =
              subst (λ (s : List Question). Asked (i.asked a) (i.asked c) s) (sym (map-append SizeOf p.sized q.sized))
              (laws.append (i.asked a) (i.asked b) (i.asked c) (map SizeOf p.sized) (map SizeOf q.sized) p.asked q.asked);
        }

    -- one size more
    module _ (words : List ItemWord) (k : ℕ) (item : ItemWord) (inside : k < length words) (is : item ≡ get_or words k item) (a b c : I) (before : AsksSizes i (names_of (take k words)) a b true) where
      pub more_sized : (all : Bool) → AsksSizes i (name_in item ∷ []) b c all → AsksSizes i (names_of (take (k + 1) words)) a c all
      more_sized all p =
          subst (λ (names : List (List ℕ)). AsksSizes i names a c all) (sym (names_more words k item inside is))
          (sizes_further (names_of (take k words)) (name_in item ∷ []) a b c all before p)

      pub sizes_stopped : (all : Bool) → AsksSizes i (name_in item ∷ []) b c all → AsksSizes i (names_of words) a c false
      sizes_stopped all p =
          subst (λ (names : List (List ℕ)). AsksSizes i names a c false) (names_split words (k + 1))
          (sizes_front (names_of (take (k + 1) words)) (names_of (drop (k + 1) words)) a c all (more_sized all p))

    -- nothing was asked for yet
    pub items_unasked : (items : List ItemWord) (a : I) → AsksItems i items a a false
    items_unasked items a =
        items_unsized items a a false
        (sizes_front [] (names_of items) a a false (none_sized a false))

    -- all sizes were asked for, and then inputs were taken
    pub items_asked : (items : List ItemWord) (a b c : I) (all : Bool) → AsksSizes i (names_of items) a b true → Asks i (names_of items) b c all → AsksItems i items a c all
    items_asked items a b c all p q =
        record {
          questions = map SizeOf p.sized ++ q.questions;
          of_items = record {
            sized = p.sized;
            taken = q.taken;
            sized_are_front = p.are_front;
            taken_are_front = (q.left, q.are);
            sizes_before = inr (p.whole refl);
            whole = λ is. (p.whole refl, sym (q.are ∙ ap (λ (s : List (List ℕ)). q.taken ++ s) (q.whole is) ∙ append-nil q.taken));
            takings = q.questions;
            are_takings = q.takings;
            are = refl;
          };
          asked = laws.append (i.asked a) (i.asked b) (i.asked c) (map SizeOf p.sized) q.questions p.asked q.asked;
        }

    -- the election was taken, and then comes what is asked of the items
    pub election_asked : (election : List ℕ) (items : List ItemWord) (a b c : I) (all : Bool) → Asks i (election ∷ []) a b true → AsksItems i items b c all → AsksAsCenter i election items a c all
    election_asked election items a b c all p q =
        let taken : p.taken ≡ election ∷ [] = sym (p.are ∙ ap (λ (s : List (List ℕ)). p.taken ++ s) (p.whole refl) ∙ append-nil p.taken) in
        record {
          taken = p.taken;
          taken_are_front = (p.left, p.are);
          takings = p.questions;
          are_takings = p.takings;
          questions = q.questions;
          of_items = q.of_items;
          election_before = inr taken;
          whole = λ is. taken;
          asked = laws.append (i.asked a) (i.asked b) (i.asked c) p.questions q.questions p.asked q.asked;
        }

  -- inputs of items are taken, one after another
  module _ (laws : AskLaws i) (words : List ItemWord) (k : ℕ) (item : ItemWord) (inside : k < length words) (is : item ≡ get_or words k item) (a b c : I) (before : Asks i (names_of (take k words)) a b true) where
    pub more_taken : (all : Bool) → Asks i (name_in item ∷ []) b c all → Asks i (names_of (take (k + 1) words)) a c all
    more_taken all p =
        subst (λ (names : List (List ℕ)). Asks i names a c all) (sym (names_more words k item inside is))
        (laws.further (names_of (take k words)) (name_in item ∷ []) a b c all before p)

    pub taking_stopped : (all : Bool) → Asks i (name_in item ∷ []) b c all → Asks i (names_of words) a c false
    taking_stopped all p =
        subst (λ (names : List (List ℕ)). Asks i names a c false) (names_split words (k + 1))
        (laws.front (names_of (take (k + 1) words)) (names_of (drop (k + 1) words)) a c all (more_taken all p))

  pub all_taken : (words : List ItemWord) (k : ℕ) (a b : I) → length words ≤ k → Asks i (names_of (take k words)) a b true → Asks i (names_of words) a b true
  all_taken words k a b past p = subst (λ (some : List ItemWord). Asks i (names_of some) a b true) (take_all k words past) p
