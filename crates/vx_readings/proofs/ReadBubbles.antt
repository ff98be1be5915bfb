-- Bubbles that are read line after line.
use Rattle.std.proofs.Common.{◌≡◌, ◌≤◌, ◌+◌, ◌-◌, ℕ, List, [], ◌∷◌, ◌++◌, Option, Some, None, Result, Ok, Err, arith, refl, sym, ap, subst, ◌∙◌, append_assoc}
use Rattle.std.proofs.lemmas.List.{append-nil}
use Rattle.vx_base.specs.Results.{◌>>=◌}
use Rattle.vx_grid.specs.declared.state.State.{State}
use Rattle.vx_readings.specs.declared.said.BubbleName.{BubbleName}
use Rattle.vx_readings.specs.declared.bubbles.SaidBubble.{SaidBubble}
use Rattle.vx_readings.specs.declared.bubbles.SaidBubbles.{SaidBubbles}
use Rattle.vx_readings.specs.declared.fault.ReadingsFault.{ReadingsFault}
use Rattle.vx_readings.specs.declared.fault.ReadingsFault.TheVariants.{Line}
use Rattle.vx_readings.specs.Left.{LinesLeft}
use Rattle.vx_readings.specs.Lines.{bubble_or_end}
use Rattle.vx_readings.specs.Readings.{told_by, next_line, no_bubbles, with_bubble, and_bubble, bubble_and, bubbles_in}

-- a line that was read, and those behind it
pub record ReadLine {A : Type 0} (form : List ℕ → Option A) (number : ℕ) (lines : List (List ℕ)) (value : A) (left : LinesLeft) : Type 0 where
  pub line : List ℕ
  pub rest : List (List ℕ)
  pub lines_are : lines ≡ line ∷ rest
  pub says : form line ≡ Some value
  pub left_is : left ≡ record { number = number + 1; lines = rest }

told-line : {A : Type 0} (form : List ℕ → Option A) (number : ℕ) (line : List ℕ) (rest : List (List ℕ)) (told : Option A) (value : A) (left : LinesLeft)
    → form line ≡ told → told_by number rest told ≡ Ok (value, left) → ReadLine form number (line ∷ rest) value left
told-line {A} form number line rest None value left is read = absurd cc
told-line {A} form number line rest (Some other) value left is read =
    let pair : (other, record { number = number + 1; lines = rest }) ≡ (value, left) = cc in
    record {
      line = line;
      rest = rest;
      lines_are = refl;
      says = is ∙ ap Some (ap (λ (p : A × LinesLeft). p.0) pair);
      left_is = sym (ap (λ (p : A × LinesLeft). p.1) pair);
    }

pub read-line : {A : Type 0} (form : List ℕ → Option A) (number : ℕ) (lines : List (List ℕ)) (value : A) (left : LinesLeft)
    → next_line form number lines ≡ Ok (value, left) → ReadLine form number lines value left
read-line {A} form number [] value left read = absurd cc
read-line {A} form number (line ∷ rest) value left read = told-line form number line rest (form line) value left refl read

-- bubbles that were said before others
abbrev pub joined : SaidBubbles → SaidBubbles → SaidBubbles
joined a b = record { names = a.names ++ b.names; scores = a.scores ++ b.scores; states = a.states ++ b.states }

abbrev pub then_others : SaidBubbles → Result (SaidBubbles × LinesLeft) ReadingsFault → Result (SaidBubbles × LinesLeft) ReadingsFault
then_others said others = others >>= (λ (more : SaidBubbles × LinesLeft). Ok (joined said more.0, more.1))

-- some bubbles were read, and these lines are left
pub record BubblesTo (first : LinesLeft) (said : SaidBubbles) (left : LinesLeft) : Type 0 where
  pub comes :
      bubbles_in 0 first.number first.lines ≡ then_others said (bubbles_in (left.number - first.number) left.number left.lines)
  pub low : first.number ≤ left.number

next-fault : (bubble number : ℕ) (lines : List (List ℕ)) (fault : ReadingsFault) → next_line (bubble_or_end bubble) number lines ≡ Err fault
    → bubbles_in bubble number lines ≡ Err fault
unfolding bubbles_in
next-fault bubble number [] fault is = let same : Line number ≡ fault = cc in ap Err same
next-fault bubble number (line ∷ rest) fault is = told-fault (bubble_or_end bubble line) is
  where
    told-fault : (told : Option (Option SaidBubble)) → told_by number rest told ≡ Err fault → bubble_and number rest told (bubbles_in (bubble + 1) (number + 1) rest) ≡ Err fault
    told-fault None is = let same : Line number ≡ fault = cc in ap Err same
    told-fault (Some value) is = absurd cc

same-bubbles : (a b : SaidBubbles) → a.names ≡ b.names → a.scores ≡ b.scores → a.states ≡ b.states → a ≡ b
same-bubbles a b names scores states =
    ap (λ (said : List BubbleName). record a { names = said }) names
    ∙ ap (λ (said : List ℕ). record a { names = b.names; scores = said }) scores
    ∙ ap (λ (said : List State). record b { states = said }) states

joined-none : (said : SaidBubbles) → joined said no_bubbles ≡ said
joined-none said =
    same-bubbles (joined said no_bubbles) said
    (append-nil said.names) (append-nil said.scores) (append-nil said.states)

joined-one : (said more : SaidBubbles) (bubble : SaidBubble) → joined said (with_bubble bubble more) ≡ joined (and_bubble said bubble) more
joined-one said more bubble =
    let a : SaidBubbles = joined said (with_bubble bubble more) in
    let b : SaidBubbles = joined (and_bubble said bubble) more in
    same-bubbles a b
    (sym (append_assoc said.names (bubble.name ∷ []) more.names))
    (sym (append_assoc said.scores (bubble.score ∷ []) more.scores))
    (sym (append_assoc said.states (bubble.state ∷ []) more.states))

joined-more : (said : SaidBubbles) (bubble : SaidBubble) (others : Result (SaidBubbles × LinesLeft) ReadingsFault)
    → then_others said (others >>= (λ (more : SaidBubbles × LinesLeft). Ok (with_bubble bubble more.0, more.1))) ≡ then_others (and_bubble said bubble) others
joined-more said bubble (Err fault) = refl
joined-more said bubble (Ok more) = ap (λ (all : SaidBubbles). Ok (all, more.1)) (joined-one said more.0 bubble)

module _ (first : LinesLeft) (said : SaidBubbles) (left : LinesLeft) (before : BubblesTo first said left) where
  -- a line that leaves the grammar
  pub bubbles-fault : (fault : ReadingsFault) → next_line (bubble_or_end (left.number - first.number)) left.number left.lines ≡ Err fault
      → bubbles_in 0 first.number first.lines ≡ Err fault
  bubbles-fault fault is = before.comes ∙ ap (then_others said) (next-fault (left.number - first.number) left.number left.lines fault is)

  -- the end
  pub bubbles-end : (behind : LinesLeft) → next_line (bubble_or_end (left.number - first.number)) left.number left.lines ≡ Ok (None, behind)
      → bubbles_in 0 first.number first.lines ≡ Ok (said, behind)
  unfolding bubbles_in
  bubbles-end behind is =
      let read : ReadLine (bubble_or_end (left.number - first.number)) left.number left.lines None behind = read-line _ left.number left.lines None behind is in
      before.comes
      ∙ ap (λ (lines : List (List ℕ)). then_others said (bubbles_in (left.number - first.number) left.number lines)) read.lines_are
      ∙ ap (λ (told : Option (Option SaidBubble)). then_others said (bubble_and left.number read.rest told (bubbles_in (left.number - first.number + 1) (left.number + 1) read.rest))) read.says
      ∙ ap (λ (all : SaidBubbles). Ok (all, record { number = left.number + 1; lines = read.rest })) (joined-none said)
      ∙ ap (λ (rest : LinesLeft). Ok (said, rest)) (sym read.left_is)

  -- one bubble more
  pub bubbles-more : (bubble : SaidBubble) (behind : LinesLeft) → next_line (bubble_or_end (left.number - first.number)) left.number left.lines ≡ Ok (Some bubble, behind)
      → BubblesTo first (and_bubble said bubble) behind
  unfolding bubbles_in
  bubbles-more bubble behind is =
      let read : ReadLine (bubble_or_end (left.number - first.number)) left.number left.lines (Some bubble) behind = read-line _ left.number left.lines (Some bubble) behind is in
      let To : LinesLeft → Type 0 = λ rest. BubblesTo first (and_bubble said bubble) rest in
      let next : left.number - first.number + 1 ≡ left.number + 1 - first.number = omega (arith, before.low) in
      subst To (sym read.left_is) (record {
        comes =
            before.comes
            ∙ ap (λ (lines : List (List ℕ)). then_others said (bubbles_in (left.number - first.number) left.number lines)) read.lines_are
            ∙ ap (λ (told : Option (Option SaidBubble)). then_others said (bubble_and left.number read.rest told (bubbles_in (left.number - first.number + 1) (left.number + 1) read.rest))) read.says
            ∙ joined-more said bubble (bubbles_in (left.number - first.number + 1) (left.number + 1) read.rest)
            ∙ ap (λ (n : ℕ). then_others (and_bubble said bubble) (bubbles_in n (left.number + 1) read.rest)) next;
        low = omega (arith, before.low);
      })
