-- What is written of a page is read back.
use Rattle.std.specs.Prelude.{◌≡◌, ◌≢◌, ◌<◌, ℕ, ◌+◌, ◌^◌, List, [], ◌∷◌, ◌++◌, length, map, codes, slice_index, slice_index_or, Some, Ok}
use Rattle.std.specs.Fmt.{decimal}
use Rattle.vx_grid.specs.declared.paper.Paper.{Paper}
use Rattle.vx_grid.specs.Marks.{marks}
use Rattle.vx_grid.specs.Places.{AreWithin}
use Rattle.vx_code.specs.Code.{version_of}
use Rattle.vx_layout.specs.declared.bubbles.Bubble.{Bubble}
use Rattle.vx_scan_model.specs.declared.reading.PageReading.{PageReading}
use Rattle.vx_readings.specs.declared.said.BubbleName.{BubbleName}
use Rattle.vx_readings.specs.declared.said.SaidPage.TheVariants.{NoReading, Reading}
use Rattle.vx_readings.specs.Parts.{lines_of}
use Rattle.vx_readings.specs.ReadingText.{line_of, no_bubble, block_text}
use Rattle.vx_readings.specs.Readings.{Unread, next_of}

-- a bubble has a contest and an option of 32 bits
pub record IsNameable (bubble : Bubble) : Type 0 where
  pub contest : bubble.contest < 2 ^ 32
  pub option : bubble.option < 2 ^ 32

-- a reading of a page with these bubbles, as readings are: of the paper and the tag, with a place for each timing mark
-- and a score and a state for each bubble; and its numbers fit 32 bits
pub record IsSayable (paper : Paper) (tag : ℕ) (bubbles : List Bubble) (reading : PageReading) : Type 0 where
  pub version : reading.code.version ≡ version_of paper
  pub same_tag : reading.code.tag ≡ tag
  pub card : reading.code.card < 2 ^ 32
  pub page : reading.code.page < 2 ^ 32
  pub of_paper : reading.border.paper ≡ paper
  pub places : length reading.border.places ≡ marks paper
  pub within : AreWithin 2147483647 reading.border.places
  pub few : length bubbles < 2 ^ 32
  pub names : (n : ℕ) → IsNameable (slice_index_or bubbles n no_bubble)
  pub scores : length reading.scores ≡ length bubbles
  pub small : (n : ℕ) → slice_index reading.scores n < 2 ^ 32
  pub states : length reading.states ≡ length bubbles

-- the name that a bubble's line says
abbrev pub name_of : Bubble → BubbleName
name_of bubble = record { contest = bubble.contest; option = bubble.option }

-- what is unread of a text of which some pages were read, where this text begins with the line of a number
abbrev pub text_left : Paper → ℕ → ℕ → ℕ → List ℕ → Unread
text_left paper tag pages number text = record {
  paper = paper;
  tag = tag;
  pages = pages;
  left = record { number = number; lines = lines_of text };
}

-- a text on one line, with at least a byte
pub record IsOneLine (text : List ℕ) : Type 0 where
  pub some : 0 < length text
  pub no_end : (k : ℕ) → slice_index text k ≢ 10

-- the line of a page that couldn't be read, with what is told of it
abbrev pub told_line : ℕ → List ℕ → List ℕ
told_line number text = line_of (codes "page" ∷ decimal number ∷ codes "fault" ∷ text ∷ [])

-- a block is read as the reading that was written, and a fault's line as that there is none, whatever it tells; what
-- stands behind it is left
pub record WrittenIsReadBack : Type 0 where
  pub block :
      (paper : Paper) (tag pages number : ℕ) (bubbles : List Bubble) (reading : PageReading) (rest : List ℕ)
      → pages + 1 < 2 ^ 32 → IsSayable paper tag bubbles reading
      → next_of (text_left paper tag pages number (block_text (pages + 1) bubbles reading ++ rest))
      ≡ Ok (Some (
        Reading (record { first_bubble = number + 2; names = map name_of bubbles; reading = reading }),
        text_left paper tag (pages + 1) (number + 3 + length bubbles) rest,
      ))
  pub fault :
      (paper : Paper) (tag pages number : ℕ) (text rest : List ℕ) → pages + 1 < 2 ^ 32 → IsOneLine text
      → next_of (text_left paper tag pages number (told_line (pages + 1) text ++ rest))
      ≡ Ok (Some (NoReading, text_left paper tag (pages + 1) (number + 1) rest))
