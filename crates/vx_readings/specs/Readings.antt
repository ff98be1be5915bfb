-- The readings that a text says: pages in order from 1, each a block or a fault, up to the first line that leaves the
-- grammar. This project's own format.
use Rattle.std.specs.Prelude.{◌≡◌, ◌<◌, ℕ, zero, suc, ◌+◌, ◌^◌, List, [], ◌∷◌, ◌++◌, length, MatchBool, Option, Some, None, Result, Ok, Err}
use Rattle.vx_base.specs.Results.{◌>>=◌}
use Rattle.vx_grid.specs.declared.paper.Paper.{Paper}
use Rattle.vx_readings.specs.declared.head.Head.{Head}
use Rattle.vx_readings.specs.declared.head.FirstLine.{FirstLine}
use Rattle.vx_readings.specs.declared.head.FirstLine.TheVariants as first
use Rattle.vx_readings.specs.declared.bubbles.SaidBubble.{SaidBubble}
use Rattle.vx_readings.specs.declared.bubbles.SaidBubbles.{SaidBubbles}
use Rattle.vx_readings.specs.declared.fault.ReadingsFault.{ReadingsFault}
use Rattle.vx_readings.specs.declared.fault.ReadingsFault.TheVariants.{Line}
use Rattle.vx_readings.specs.declared.said.SaidPage.{SaidPage}
use Rattle.vx_readings.specs.declared.said.SaidPage.TheVariants.{NoReading, Reading}
use Rattle.vx_readings.specs.Faults.{is_no_memory}
use Rattle.vx_readings.specs.Left.{LinesLeft}
use Rattle.vx_readings.specs.Lines.{first_in, border_in, bubble_or_end}
use Rattle.vx_readings.specs.Parts.{lines_of}

-- what a line says, with the lines behind it; a line that says nothing leaves the grammar
abbrev pub told_by : {A : Type 0} → ℕ → List (List ℕ) → Option A → Result (A × LinesLeft) ReadingsFault
told_by number lines None = Err (Line number)
told_by number lines (Some value) = Ok (value, record { number = number + 1; lines = lines })

-- what the next line says by a form, with the lines behind it; the line that would come next leaves the grammar
-- where the text ends
abbrev pub next_line : {A : Type 0} → (List ℕ → Option A) → ℕ → List (List ℕ) → Result (A × LinesLeft) ReadingsFault
next_line form number [] = Err (Line number)
next_line form number (line ∷ lines) = told_by number lines (form line)

-- no bubble is said
abbrev pub no_bubbles : SaidBubbles
no_bubbles = record { names = []; scores = []; states = [] }

-- one bubble more is said before others
abbrev pub with_bubble : SaidBubble → SaidBubbles → SaidBubbles
with_bubble bubble said = record {
  names = bubble.name ∷ said.names;
  scores = bubble.score ∷ said.scores;
  states = bubble.state ∷ said.states;
}

-- one bubble more is said behind others
abbrev pub and_bubble : SaidBubbles → SaidBubble → SaidBubbles
and_bubble said bubble = record {
  names = said.names ++ bubble.name ∷ [];
  scores = said.scores ++ bubble.score ∷ [];
  states = said.states ++ bubble.state ∷ [];
}

-- a bubble before the others, or their end
abbrev pub bubble_and :
    ℕ → List (List ℕ) → Option (Option SaidBubble) → Result (SaidBubbles × LinesLeft) ReadingsFault
    → Result (SaidBubbles × LinesLeft) ReadingsFault
bubble_and number lines None others = Err (Line number)
bubble_and number lines (Some None) others = Ok (no_bubbles, record { number = number + 1; lines = lines })
bubble_and number lines (Some (Some bubble)) others =
    others >>= (λ (said : SaidBubbles × LinesLeft). Ok (with_bubble bubble said.0, said.1))

-- the bubbles of a block from one on, by the lines from a number on: a line for each of them, and `end`
unfoldable pub bubbles_in : ℕ → ℕ → List (List ℕ) → Result (SaidBubbles × LinesLeft) ReadingsFault
bubbles_in bubble number [] = Err (Line number)
bubbles_in bubble number (line ∷ lines) =
    bubble_and number lines (bubble_or_end bubble line) (bubbles_in (bubble + 1) (number + 1) lines)

-- the reading of a block, by the lines behind its first
unfoldable pub block_in : Paper → Head → LinesLeft → Result (SaidPage × LinesLeft) ReadingsFault
block_in paper head left = do
  border ← next_line (border_in paper) left.number left.lines
  bubbles ← bubbles_in 0 border.1.number border.1.lines
  Ok (
    Reading (record {
      first_bubble = border.1.number;
      names = bubbles.0.names;
      reading = record {
        code = head.code;
        border = border.0;
        scores = bubbles.0.scores;
        states = bubbles.0.states;
        turned = head.turned;
      };
    }),
    bubbles.1,
  )

-- a page whose first line was read
abbrev pub page_behind : Paper → FirstLine → LinesLeft → Result (SaidPage × LinesLeft) ReadingsFault
page_behind paper first.Fault left = Ok (NoReading, left)
page_behind paper (first.Block head) left = block_in paper head left

-- what of a text is unread: how many pages were read of it, and the lines that are left; and the paper and the tag of
-- the election whose readings it says
pub record Unread : Type 0 where
  pub paper : Paper
  pub tag : ℕ
  pub pages : ℕ
  pub left : LinesLeft

-- a text of which nothing was read
abbrev pub whole : Paper → ℕ → List ℕ → Unread
whole paper tag text = record {
  paper = paper;
  tag = tag;
  pages = 0;
  left = record { number = 1; lines = lines_of text };
}

-- the same with one page read more, and these lines left
abbrev pub behind_page : Unread → LinesLeft → Unread
behind_page unread left = record { paper = unread.paper; tag = unread.tag; pages = unread.pages + 1; left = left }

-- the next page, which has to have this number, with the lines behind it
unfoldable pub page_by : Paper → ℕ → ℕ → LinesLeft → Result (SaidPage × LinesLeft) ReadingsFault
page_by paper tag page left =
    next_line (first_in paper tag page) left.number left.lines
    >>= (λ (line : FirstLine × LinesLeft). page_behind paper line.0 line.1)

-- a page that was found, and what is unread behind it
abbrev pub step_over : Unread → SaidPage × LinesLeft → Result (Option (SaidPage × Unread)) ReadingsFault
step_over unread found = Ok (Some (found.0, behind_page unread found.1))

-- the first page of what is unread, with what is unread behind it; none at the end; or the first line that leaves the
-- grammar
abbrev pub next_by : List (List ℕ) → Unread → Result (Option (SaidPage × Unread)) ReadingsFault
next_by [] unread = Ok None
next_by (line ∷ lines) unread = page_by unread.paper unread.tag (unread.pages + 1) unread.left >>= step_over unread

unfoldable pub next_of : Unread → Result (Option (SaidPage × Unread)) ReadingsFault
next_of unread = next_by unread.left.lines unread

-- the said pages in order, and the first line that leaves the grammar, if any
pub record Readings : Type 0 where
  pub pages : List SaidPage
  pub fault : Option ReadingsFault

-- the readings with one page more before them
abbrev pub with_page : SaidPage → Readings → Readings
with_page page readings = record { pages = page ∷ readings.pages; fault = readings.fault }

-- no pages, and maybe a fault
abbrev pub ended : Option ReadingsFault → Readings
ended fault = record { pages = []; fault = fault }

-- the readings that begin with what was found, where the ones behind it are known
abbrev pub onwards : (Unread → Readings) → Result (Option (SaidPage × Unread)) ReadingsFault → Readings
onwards readings (Ok (Some found)) = with_page found.0 (readings found.1)
onwards readings (Ok None) = ended None
onwards readings (Err fault) = ended (Some fault)

-- the readings of what is unread, in at most so many steps
abbrev pub readings_within : ℕ → Unread → Readings
readings_within zero unread = ended None
readings_within (suc steps) unread = onwards (readings_within steps) (next_of unread)

-- the readings of what is unread; each page takes a line at least
unfoldable pub readings_left : Unread → Readings
readings_left unread = readings_within (length unread.left.lines + 1) unread

-- the readings that a text says for an election of a paper and a tag
unfoldable pub readings_of : Paper → ℕ → List ℕ → Readings
readings_of paper tag text = readings_left (whole paper tag text)

-- What a reader answered, and what is unread afterwards. The first page is given and stepped over. At the end, at a
-- fault and at want of memory nothing moves on.
abbrev pub Steps : Unread → Result (Option SaidPage) ReadingsFault → Unread → Type 0
Steps old (Ok (Some page)) new = next_of old ≡ Ok (Some (page, new))
Steps old (Ok None) new = (next_of old ≡ Ok None) × (new ≡ old)
Steps old (Err fault) new = MatchBool (is_no_memory fault) (new ≡ old) ((next_of old ≡ Err fault) × (new ≡ old))

-- The same of all pages that are left: the page was the first of them, or there was none but the fault.
abbrev pub Walks : Unread → Result (Option SaidPage) ReadingsFault → Unread → Type 0
Walks old (Ok (Some page)) new = readings_left old ≡ with_page page (readings_left new)
Walks old (Ok None) new = readings_left old ≡ ended None
Walks old (Err fault) new =
    MatchBool (is_no_memory fault) (readings_left new ≡ readings_left old) (readings_left old ≡ ended (Some fault))

-- the lines of a page's bubbles have numbers of 32 bits
abbrev pub LinesFit : SaidPage → Type 0
LinesFit NoReading = Unit {0}
LinesFit (Reading said) = said.first_bubble + length said.names < 2 ^ 32
