-- What `read` writes of an image: a block of lines with its reading, or a line with its fault.
use Rattle.std.specs.Prelude.{ℕ, Bool, true, false, List, [], ◌∷◌, ◌++◌, map, length, codes, slice_index, slice_index_or, Result, Ok, Err}
use Rattle.std.specs.List.{flat_map, range_with_len}
use Rattle.std.specs.Fmt.{decimal, signed_decimal}
use Rattle.vx_plane.specs.Plane.{Page}
use Rattle.vx_grid.specs.declared.places.Point.{Point}
use Rattle.vx_grid.specs.declared.state.State.{State}
use Rattle.vx_grid.specs.declared.state.State.TheVariants.{Marked, Marginal, Clear}
use Rattle.vx_election_model.specs.declared.election.Election.{Election}
use Rattle.vx_code.specs.declared.code.PageCode.{PageCode}
use Rattle.vx_layout.specs.declared.bubbles.Bubble.{Bubble}
use Rattle.vx_layout.specs.declared.pages.PagePlan.{PagePlan}
use Rattle.vx_scan_model.specs.declared.reading.PageReading.{PageReading}
use Rattle.vx_scan_model.specs.declared.fault.PageFault.{PageFault}
use Rattle.vx_scan_model.specs.FaultTexts.{fault_text}
use Rattle.vx_scan_model.specs.Reading.{reading_of, named_plan}
use Rattle.vx_grid.specs.Kinds.{kind_word}

-- words as a line: a blank between two of them, and a line end
abbrev pub line_of : List (List ℕ) → List ℕ
line_of [] = 10 ∷ []
line_of (word ∷ []) = word ++ 10 ∷ []
line_of (word ∷ words) = word ++ 32 ∷ line_of words

-- a place, as `U,V`
abbrev pub place_word : Point → List ℕ
place_word p = signed_decimal p.u ++ 44 ∷ signed_decimal p.v

-- what a bubble is read as, in a word
abbrev pub state_word : State → List ℕ
state_word Marked = codes "marked"
state_word Marginal = codes "marginal"
state_word Clear = codes "clear"

-- the word of a reading of the turned scan
abbrev pub turned_words : Bool → List (List ℕ)
turned_words true = codes "turned" ∷ []
turned_words false = []

-- the first line of a reading: `page N card C side P kind KIND`, and `turned` where it is one of the
-- turned scan
abbrev pub page_line : ℕ → PageCode → Bool → List ℕ
page_line number code turned =
    line_of (codes "page" ∷ decimal number ∷ codes "card" ∷ decimal code.card ∷ codes "side" ∷ decimal code.page
    ∷ codes "kind" ∷ kind_word code.kind code.test ∷ turned_words turned)

-- the places of the timing marks: `border U,V U,V ..`
unfoldable pub border_line : List Point → List ℕ
border_line border = line_of (codes "border" ∷ map place_word border)

-- no bubble, which stands past the end of a list of them
abbrev pub no_bubble : Bubble
no_bubble = record { contest = 0; option = 0; col = 0; row = 0 }

-- a bubble with its number, its score and its state: `bubble J CONTEST OPTION SCORE STATE`
abbrev pub bubble_line : ℕ → Bubble → ℕ → State → List ℕ
bubble_line number bubble score state =
    line_of (codes "bubble" ∷ decimal number ∷ decimal bubble.contest ∷ decimal bubble.option ∷ decimal score ∷ state_word state ∷ [])

-- the line of the bubble with a number
abbrev pub line_at : List Bubble → List ℕ → List State → ℕ → List ℕ
line_at bubbles scores states number =
    bubble_line number (slice_index_or bubbles number no_bubble) (slice_index scores number) (slice_index_or states number Clear)

-- a line for each bubble of a page, in the plan's order
unfoldable pub bubble_lines : List Bubble → List ℕ → List State → List ℕ
bubble_lines bubbles scores states = flat_map (line_at bubbles scores states) (range_with_len 0 (length bubbles))

-- the block of a reading, by its image's number and the bubbles of its page
abbrev pub block_text : ℕ → List Bubble → PageReading → List ℕ
block_text number bubbles reading =
    page_line number reading.code reading.turned ++ border_line reading.border.places
    ++ bubble_lines bubbles reading.scores reading.states ++ line_of (codes "end" ∷ [])

-- the line of a fault: `page N fault FAULT`
abbrev pub fault_line : ℕ → PageFault → List ℕ
fault_line number fault = line_of (codes "page" ∷ decimal number ∷ codes "fault" ∷ fault_text fault ∷ [])

-- the bubbles of a planned page
abbrev pub bubbles_on : Result PagePlan PageFault → List Bubble
bubbles_on (Ok plan) = plan.bubbles
bubbles_on (Err fault) = []

-- the text of what a page is read as
abbrev pub reading_text : Election → ℕ → Result PageReading PageFault → List ℕ
reading_text election number (Ok reading) = block_text number (bubbles_on (named_plan election reading.code)) reading
reading_text election number (Err fault) = fault_line number fault

-- what `read` writes of an image with a number
unfoldable pub image_text : Election → ℕ → Page → List ℕ
image_text election number page = reading_text election number (reading_of election page)
