-- Inputs that are taken one after the other.
use Rattle.std.proofs.Common.{◌≡◌, ◌+◌, ◌<◌, ◌≤◌, ℕ, Bool, true, false, List, [], ◌∷◌, ◌++◌, drop, get_or, length, take, refl, sym, ap, ◌∙◌, subst, take_all, take-append-drop}
use Rattle.std.proofs.lemmas.Bool.{false≢true}
use Rattle.std.proofs.lemmas.List.{append-nil, append_assoc, drop_more, take_more}
use Rattle.vx_io.specs.declared.outside.Inputs.{Ghosts as InputsOf}
use Rattle.vx_io.specs.Asking.{Question, AsksFor}
use Rattle.vx_io.specs.Laws.{AskedLaws}
use Rattle.vx_command.specs.Asking.{AreTakings, Asks, AskLaws}

-- some inputs after others
pub takings-append : (names more : List (List ℕ)) (first rest : List Question) → AreTakings names first → AreTakings more rest → AreTakings (names ++ more) (first ++ rest)
takings-append [] more first rest p q = subst (λ (front : List Question). AreTakings more (front ++ rest)) (sym p) q
takings-append (name ∷ names) more first rest p q =
    (p.0, p.1 ++ rest, ap (λ (s : List Question). s ++ rest) p.2 ∙ append_assoc p.0 p.1 rest, p.3, takings-append names more p.1 rest p.4 q)

module _ (laws : AskedLaws) {I : Type 0} (i : InputsOf I) where
  pub nothing-asked : (names : List (List ℕ)) (before : I) → Asks i names before before false
  nothing-asked names before =
      record { taken = []; left = names; are = refl; whole = λ is. absurd (false≢true is); questions = []; takings = refl; asked = laws.nothing (i.asked before) }

  pub none-asked : (before : I) (all : Bool) → Asks i [] before before all
  none-asked before all =
      record { taken = []; left = []; are = refl; whole = λ is. refl; questions = []; takings = refl; asked = laws.nothing (i.asked before) }

  pub ended-so : (names : List (List ℕ)) (a b : I) (all : Bool) → Asks i names a b true → Asks i names a b all
  ended-so names a b all p =
      record { taken = p.taken; left = p.left; are = p.are; whole = λ is. p.whole refl; questions = p.questions; takings = p.takings; asked = p.asked }

  pub front-asked : (names more : List (List ℕ)) (a b : I) (all : Bool) → Asks i names a b all → Asks i (names ++ more) a b false
  front-asked names more a b all p =
      record {
        taken = p.taken;
        left = p.left ++ more;
        are = ap (λ (s : List (List ℕ)). s ++ more) p.are ∙ append_assoc p.taken p.left more;
        whole = λ is. absurd (false≢true is);
        questions = p.questions;
        takings = p.takings;
        asked = p.asked;
      }

  pub further-asked : (names more : List (List ℕ)) (a b c : I) (all : Bool) → Asks i names a b true → Asks i more b c all → Asks i (names ++ more) a c all
  further-asked names more a b c all p q =
      let whole : names ≡ p.taken = p.are ∙ (ap (λ (s : List (List ℕ)). p.taken ++ s) (p.whole refl) ∙ append-nil p.taken) in
      record {
        taken = p.taken ++ q.taken;
        left = q.left;
        are = ap (λ (s : List (List ℕ)). s ++ more) whole ∙ (ap (λ (s : List (List ℕ)). p.taken ++ s) q.are ∙ sym (append_assoc p.taken q.taken q.left));
        whole = q.whole;
        questions = p.questions ++ q.questions;
        takings = takings-append p.taken q.taken p.questions q.questions p.takings q.takings;
        asked = laws.append (i.asked a) (i.asked b) (i.asked c) p.questions q.questions p.asked q.asked;
      }

  -- one more of several was taken
  pub one-more : (names : List (List ℕ)) (index : ℕ) (name other : List ℕ) (a b c : I) → index < length names → name ≡ get_or names index other → Asks i (take index names) a b true → Asks i (name ∷ []) b c true → Asks i (take (index + 1) names) a c true
  one-more names index name other a b c within is so_far taken =
      let Taken : List (List ℕ) → Type 0 = λ some. Asks i some a c true in
      let more : take (index + 1) names ≡ take index names ++ name ∷ [] =
      take_more names index other within ∙ ap (λ (next : List ℕ). take index names ++ next ∷ []) (sym is) in
      subst Taken (sym more) (further-asked (take index names) (name ∷ []) a b c true so_far taken)

  -- the next of several was asked for, and no further one
  pub one-breaks : (names : List (List ℕ)) (index : ℕ) (name other : List ℕ) (a b c : I) (all : Bool) → index < length names → name ≡ get_or names index other → Asks i (take index names) a b true → Asks i (name ∷ []) b c all → Asks i names a c false
  one-breaks names index name other a b c all within is so_far asked =
      let Broken : List (List ℕ) → Type 0 = λ some. Asks i some a c false in
      let left : drop index names ≡ name ∷ drop (index + 1) names =
      drop_more names index other within ∙ ap (λ (next : List ℕ). next ∷ drop (index + 1) names) (sym is) in
      let whole : take index names ++ name ∷ drop (index + 1) names ≡ names =
      ap (λ (rest : List (List ℕ)). take index names ++ rest) (sym left) ∙ take-append-drop index names in
      subst Broken whole
      (further-asked (take index names) (name ∷ drop (index + 1) names) a b c false so_far (front-asked (name ∷ []) (drop (index + 1) names) b c all asked))

  -- all of several were taken
  pub all-taken : (names : List (List ℕ)) (index : ℕ) (a b : I) (all : Bool) → length names ≤ index → Asks i (take index names) a b true → Asks i names a b all
  all-taken names index a b all past so_far =
      let Taken : List (List ℕ) → Type 0 = λ some. Asks i some a b true in
      ended-so names a b all (subst Taken (take_all index names past) so_far)

  pub ask-laws : AskLaws i
  ask-laws =
      record {
        nothing = nothing-asked;
        none = none-asked;
        ended = ended-so;
        broken = λ name names a b all p. front-asked (name ∷ []) names a b all p;
        then = λ name names a b c all p q. further-asked (name ∷ []) names a b c all p q;
        further = further-asked;
        front = front-asked;
        one_more = one-more;
        one_breaks = one-breaks;
        all_taken = all-taken;
      }

-- one input was asked for
pub one-asked : {I : Type 0} (i : InputsOf I) (name : List ℕ) (a b : I) (all : Bool) → AsksFor name (i.asked a) (i.asked b) → Asks i (name ∷ []) a b all
one-asked i name a b all p =
    record {
      taken = name ∷ [];
      left = [];
      are = refl;
      whole = λ is. refl;
      questions = p.questions;
      takings = (p.questions, [], sym (append-nil p.questions), p.taking, refl);
      asked = p.asked;
    }
