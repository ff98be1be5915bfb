-- The lines of a readings text, each by its own form.
use Rattle.std.specs.Prelude.{ℕ, ◌==◌, Bool, true, false, if◌then◌else◌, List, [], ◌∷◌, length, codes, Option, Some, None, option_map}
use Rattle.std.specs.Str.{bytes_eq}
use Rattle.vx_grid.specs.declared.kind.Kind.{Kind}
use Rattle.vx_grid.specs.declared.kind.Kind.TheVariants.{Precinct, Absentee, Provisional, Other}
use Rattle.vx_grid.specs.declared.paper.Paper.{Paper}
use Rattle.vx_grid.specs.declared.places.Point.{Point}
use Rattle.vx_grid.specs.declared.state.State.{State}
use Rattle.vx_grid.specs.declared.state.State.TheVariants.{Marked, Marginal, Clear}
use Rattle.vx_grid.specs.Borders.{MarkPlaces}
use Rattle.vx_grid.specs.Kinds.{kind_word}
use Rattle.vx_grid.specs.Marks.{marks}
use Rattle.vx_code.specs.Code.{version_of}
use Rattle.vx_readings.specs.declared.head.Head.{Head}
use Rattle.vx_readings.specs.declared.head.FirstLine.{FirstLine}
use Rattle.vx_readings.specs.declared.head.FirstLine.TheVariants as first
use Rattle.vx_readings.specs.declared.bubbles.SaidBubble.{SaidBubble}
use Rattle.vx_readings.specs.Numbers.{signed_in}
use Rattle.vx_readings.specs.Parts.{parts_of, words_of}
use Rattle.vx_readings.specs.ReadingText.{state_word}
use Rattle.vx_readings.specs.Words.{◌>>=◌, behind, first_as, last_as, number_first, named_number}

-- the first of some values whose word this is
abbrev pub among : {A : Type 0} → (A → List ℕ) → List A → List ℕ → Option A
among word_of [] word = None
among word_of (value ∷ values) word = if bytes_eq word (word_of value) then Some value else among word_of values word

-- the kinds of ballots, each live and as a test
abbrev pub all_kinds : List (Kind × Bool)
all_kinds =
    (Precinct, false) ∷ (Absentee, false) ∷ (Provisional, false) ∷ (Other, false)
    ∷ (Precinct, true) ∷ (Absentee, true) ∷ (Provisional, true) ∷ (Other, true) ∷ []

-- the kind that a word names
unfoldable pub kind_in : List ℕ → Option (Kind × Bool)
kind_in word = among (λ (kind : Kind × Bool). kind_word kind.0 kind.1) all_kinds word

-- the state that a word names
unfoldable pub state_in : List ℕ → Option State
state_in word = among state_word (Marked ∷ Marginal ∷ Clear ∷ []) word

-- whether a page was turned: by the words that are left
abbrev pub turned_in : List (List ℕ) → Option Bool
turned_in [] = Some false
turned_in (word ∷ []) = if bytes_eq word (codes "turned") then Some true else None
turned_in (word ∷ more ∷ words) = None

-- at least a byte is left
abbrev pub goes_on : List (List ℕ) → Bool
goes_on [] = false
goes_on ([] ∷ []) = false
goes_on ((byte ∷ word) ∷ words) = true
goes_on ([] ∷ more ∷ words) = true

-- what a block's first line says, by its words behind `card`: `C side P kind KIND`, maybe `turned`
unfoldable pub head_in : Paper → ℕ → List (List ℕ) → Option Head
head_in paper tag words = do
  card ← number_first words
  side ← named_number (codes "side") card.1
  behind_kind ← behind (codes "kind") side.1
  kind ← first_as kind_in behind_kind
  turned ← turned_in kind.1
  Some (record {
    code = record {
      version = version_of paper;
      test = kind.0.1;
      kind = kind.0.0;
      card = card.0;
      page = side.0;
      tag = tag;
    };
    turned = turned;
  })

-- what is said of a page, by the words behind its number: `fault` and at least a byte, or `card` and so on
unfoldable pub first_behind : Paper → ℕ → List (List ℕ) → Option FirstLine
first_behind paper tag [] = None
first_behind paper tag (word ∷ words) =
    if bytes_eq word (codes "fault") then (if goes_on words then Some first.Fault else None)
    else if bytes_eq word (codes "card") then option_map (λ (head : Head). first.Block head) (head_in paper tag words)
    else None

-- what the first line of a page says, which has to be that of the page with this number
unfoldable pub first_in : Paper → ℕ → ℕ → List ℕ → Option FirstLine
first_in paper tag number line = do
  page ← named_number (codes "page") (words_of line)
  if page.0 == number then first_behind paper tag page.1 else None

-- a place from its two words: `U,V`
abbrev pub place_of_parts : List (List ℕ) → Option Point
place_of_parts parts = do
  u ← first_as signed_in parts
  v ← last_as signed_in u.1
  Some (record { u = u.0; v = v })

-- the place that a word spells
unfoldable pub place_in : List ℕ → Option Point
place_in word = place_of_parts (parts_of 44 word)

-- what all words are, if each is something
unfoldable pub all_as : {A : Type 0} → (List ℕ → Option A) → List (List ℕ) → Option (List A)
all_as form [] = Some []
all_as form (word ∷ words) = form word >>= (λ value. option_map (λ values. value ∷ values) (all_as form words))

-- the border that words say: a place each, and as many as the paper has marks
unfoldable pub border_by : Paper → List (List ℕ) → Option MarkPlaces
border_by paper words =
    all_as place_in words
    >>= (λ places. if length words == marks paper then Some (record { paper = paper; places = places }) else None)

-- the border that a line says: `border` and the places
unfoldable pub border_in : Paper → List ℕ → Option MarkPlaces
border_in paper line = behind (codes "border") (words_of line) >>= border_by paper

-- what is said of the bubble with this number: `bubble J CONTEST OPTION SCORE STATE`
unfoldable pub bubble_in : ℕ → List ℕ → Option SaidBubble
bubble_in number line = do
  j ← named_number (codes "bubble") (words_of line)
  contest ← number_first j.1
  option ← number_first contest.1
  score ← number_first option.1
  state ← last_as state_in score.1
  if j.0 == number then Some (record {
    name = record { contest = contest.0; option = option.0 };
    score = score.0;
    state = state;
  }) else None

-- what a line behind the border says: the bubble with this number, or that there are no more
unfoldable pub bubble_or_end : ℕ → List ℕ → Option (Option SaidBubble)
bubble_or_end number line =
    if bytes_eq line (codes "end") then Some None
    else option_map (λ (bubble : SaidBubble). Some bubble) (bubble_in number line)
