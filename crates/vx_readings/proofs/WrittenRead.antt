-- Blocks and lines that were written, read back.
use Rattle.std.proofs.Common.{◌≡◌, ◌<◌, ◌≤◌, ◌+◌, ◌^◌, ℕ, zero, suc, Bool, true, false, List, [], ◌∷◌, ◌++◌, length, map, codes, cond, get_or, Option, Some, Result, Ok, arith, refl, sym, ap, ◌∙◌, append_assoc}
use Rattle.std.specs.Prelude.{◌==◌, ◌≢◌, slice_index, slice_index_or}
use Rattle.std.specs.List.{flat_map, range_with_len}
use Rattle.std.specs.Fmt.{decimal}
use Rattle.std.specs.Str.{bytes_eq}
use Rattle.std.proofs.lemmas.Slice.Eq.{bytes_eq-Decides}
use Rattle.vx_base.specs.Results.{◌>>=◌}
use Rattle.vx_base.proofs.Numbers.{equal-yes, equal-no}
use Rattle.vx_grid.specs.declared.paper.Paper.{Paper}
use Rattle.vx_grid.specs.declared.state.State.{State}
use Rattle.vx_grid.specs.declared.state.State.TheVariants.{Clear}
use Rattle.vx_grid.specs.Borders.{MarkPlaces}
use Rattle.vx_grid.specs.Kinds.{kind_word}
use Rattle.vx_code.specs.Code.{version_of}
use Rattle.vx_code.specs.declared.code.PageCode.{PageCode}
use Rattle.vx_layout.specs.declared.bubbles.Bubble.{Bubble}
use Rattle.vx_scan_model.specs.declared.reading.PageReading.{PageReading}
use Rattle.vx_readings.specs.declared.fault.ReadingsFault.{ReadingsFault}
use Rattle.vx_readings.specs.declared.head.Head.{Head}
use Rattle.vx_readings.specs.declared.head.FirstLine.{FirstLine}
use Rattle.vx_readings.specs.declared.head.FirstLine.TheVariants as first
use Rattle.vx_readings.specs.declared.bubbles.SaidBubble.{SaidBubble}
use Rattle.vx_readings.specs.declared.bubbles.SaidBubbles.{SaidBubbles}
use Rattle.vx_readings.specs.declared.said.BubbleName.{BubbleName}
use Rattle.vx_readings.specs.declared.said.SaidPage.{SaidPage}
use Rattle.vx_readings.specs.declared.said.SaidPage.TheVariants.{NoReading, Reading}
use Rattle.vx_readings.specs.Laws.{IsNameable, IsSayable, IsOneLine, name_of, text_left, told_line, WrittenIsReadBack}
use Rattle.vx_readings.specs.Left.{LinesLeft}
use Rattle.vx_readings.specs.Lines.{goes_on, first_behind, first_in, border_by, border_in, bubble_in, bubble_or_end}
use Rattle.vx_readings.specs.Parts.{begun_with, parts_of, lines_of}
use Rattle.vx_readings.specs.ReadingText.{line_of, place_word, state_word, turned_words, page_line, border_line, no_bubble, bubble_line, line_at, bubble_lines, block_text}
use Rattle.vx_readings.specs.Readings.{told_by, next_line, with_bubble, bubble_and, bubbles_in, block_in, page_behind, page_by, Unread, behind_page, next_of}
use Rattle.vx_readings.proofs.Lacking.{lacks, lacks-both, decimal-lacks, parts-first, parts-last, line-first, IsWord, number-word, AreWords, IsFirstLine, first-line}
use Rattle.vx_readings.proofs.Spelled.{number_in-decimal}
use Rattle.vx_readings.proofs.Pages.{next-page}
use Rattle.vx_readings.proofs.WrittenLines.{named-read, kind-is_word, state-read, state-is_word, turned-are_words, head-read, places-are_words, border-read}

-- a literal word
literal : (word : List ℕ) → lacks 10 word ≡ true → lacks 32 word ≡ true → IsWord word
literal word no_line no_blank = record { no_line = no_line; no_blank = no_blank }

-- the next line, read by a form
next-read : {A : Type 0} (form : List ℕ → Option A) (number : ℕ) (lines rest : List (List ℕ)) (line : List ℕ) (value : A)
    → lines ≡ line ∷ rest → form line ≡ Some value → next_line form number lines ≡ Ok (value, record { number = number + 1; lines = rest })
next-read {A} form number lines rest line value are says =
    ap (next_line form number) are ∙ ap (told_by number rest) says

-- the line of a bubble
module _ (j score : ℕ) (bubble : Bubble) (state : State) (small : j < 2 ^ 32) (named : IsNameable bubble) (fits : score < 2 ^ 32) where
  bubble-words : AreWords (codes "bubble" ∷ decimal j ∷ decimal bubble.contest ∷ decimal bubble.option ∷ decimal score ∷ state_word state ∷ [])
  bubble-words =
      (literal (codes "bubble") refl refl, (number-word j small, (number-word bubble.contest named.contest, (number-word bubble.option named.option, (number-word score fits, (state-is_word state, tt))))))

  bubble-told : (line : List ℕ) → parts_of 32 line ≡ codes "bubble" ∷ decimal j ∷ decimal bubble.contest ∷ decimal bubble.option ∷ decimal score ∷ state_word state ∷ []
      → bubble_in j line ≡ Some (record { name = name_of bubble; score = score; state = state })
  unfolding bubble_in
  bubble-told line has =
      rw has
      (rw (named-read (codes "bubble") j (decimal bubble.contest ∷ decimal bubble.option ∷ decimal score ∷ state_word state ∷ []) small)
      (rw (number_in-decimal bubble.contest named.contest)
      (rw (number_in-decimal bubble.option named.option)
      (rw (number_in-decimal score fits)
      (rw (state-read state)
      (rw (equal-yes j j refl) refl))))))

  no-end : (line : List ℕ) → parts_of 32 line ≡ codes "bubble" ∷ decimal j ∷ decimal bubble.contest ∷ decimal bubble.option ∷ decimal score ∷ state_word state ∷ []
      → (is : Bool) → bytes_eq line (codes "end") ≡ is → is ≡ false
  no-end line has true is =
      let same : line ≡ codes "end" = (bytes_eq-Decides line (codes "end")).0 is in
      let parts : codes "bubble" ∷ decimal j ∷ decimal bubble.contest ∷ decimal bubble.option ∷ decimal score ∷ state_word state ∷ [] ≡ codes "end" ∷ [] =
      sym has ∙ ap (parts_of 32) same ∙ parts-last 32 (codes "end") refl in
      absurd (letters (ap first-letter parts))
    where
      first-letter : List (List ℕ) → ℕ
      first-letter [] = 0
      first-letter (word ∷ words) = get_or word 0 0

      letters : ◌≡◌ {A = ℕ} 98 101 → ⊥
      letters same = omega arith
  no-end line has false is = refl

  bubble-read : (line : List ℕ) → parts_of 32 line ≡ codes "bubble" ∷ decimal j ∷ decimal bubble.contest ∷ decimal bubble.option ∷ decimal score ∷ state_word state ∷ []
      → bubble_or_end j line ≡ Some (Some (record { name = name_of bubble; score = score; state = state }))
  unfolding bubble_or_end
  bubble-read line has =
      rw (no-end line has (bytes_eq line (codes "end")) refl) (rw (bubble-told line has) refl)

-- the bubbles of a page, some of them from one on
abbrev said_from : List Bubble → List ℕ → List State → ℕ → ℕ → SaidBubbles
said_from bubbles scores states j n = record {
  names = map (λ k. name_of (slice_index_or bubbles k no_bubble)) (range_with_len j n);
  scores = map (λ k. slice_index scores k) (range_with_len j n);
  states = map (λ k. slice_index_or states k Clear) (range_with_len j n);
}

module _ (bubbles : List Bubble) (scores : List ℕ) (states : List State) (names : (k : ℕ) → IsNameable (slice_index_or bubbles k no_bubble)) (small : (k : ℕ) → slice_index scores k < 2 ^ 32) (rest : List ℕ) where
  bubbles-read : (n j number : ℕ) → j + n ≤ 2 ^ 32
      → bubbles_in j number (lines_of (flat_map (line_at bubbles scores states) (range_with_len j n) ++ (line_of (codes "end" ∷ []) ++ rest)))
      ≡ Ok (said_from bubbles scores states j n, record { number = number + n + 1; lines = lines_of rest })
  unfolding bubbles_in bubble_or_end
  bubbles-read zero j number fits =
      let next : number + 1 ≡ number + 0 + 1 = omega arith in
      ap (bubbles_in j number) (line-first (codes "end") rest refl)
      ∙ ap (λ (n : ℕ). Ok (said_from bubbles scores states j 0, record { number = n; lines = lines_of rest })) next
  bubbles-read (suc n) j number fits =
      let bubble : Bubble = slice_index_or bubbles j no_bubble in
      let score : ℕ = slice_index scores j in
      let state : State = slice_index_or states j Clear in
      let few : j < 2 ^ 32 = omega arith in
      let tail : List ℕ = line_of (codes "end" ∷ []) ++ rest in
      let others : List ℕ = flat_map (line_at bubbles scores states) (range_with_len (j + 1) n) in
      let line : IsFirstLine (codes "bubble") (decimal j ∷ decimal bubble.contest ∷ decimal bubble.option ∷ decimal score ∷ state_word state ∷ []) (others ++ tail) =
      first-line (codes "bubble") (decimal j ∷ decimal bubble.contest ∷ decimal bubble.option ∷ decimal score ∷ state_word state ∷ []) (others ++ tail) (bubble-words j score bubble state few (names j) (small j)) in
      let next : number + 1 + n + 1 ≡ number + suc n + 1 = omega arith in
      ap (λ (text : List ℕ). bubbles_in j number (lines_of text)) (append_assoc (bubble_line j bubble score state) others tail)
      ∙ ap (bubbles_in j number) line.lines
      ∙ ap (λ (told : Option (Option SaidBubble)). bubble_and number (lines_of (others ++ tail)) told (bubbles_in (j + 1) (number + 1) (lines_of (others ++ tail))))
      (bubble-read j score bubble state few (names j) (small j) line.line line.has)
      ∙ ap (λ (more : Result (SaidBubbles × LinesLeft) ReadingsFault). more >>= (λ (said : SaidBubbles × LinesLeft). Ok (with_bubble (record { name = name_of bubble; score = score; state = state }) said.0, said.1)))
      (bubbles-read n (j + 1) (number + 1) (omega arith))
      ∙ ap (λ (n' : ℕ). Ok (said_from bubbles scores states j (suc n), record { number = n'; lines = lines_of rest })) next

-- a list, by its elements one after another
tabulated : {A : Type 0} (f : ℕ → A) (xs : List A) (d : A) (j : ℕ) → ((k : ℕ) → k < length xs → f (j + k) ≡ get_or xs k d) → map f (range_with_len j (length xs)) ≡ xs
tabulated {A} f [] d j same = refl
tabulated {A} f (x ∷ xs) d j same =
    let here : f j ≡ x = ap f (let none : j ≡ j + 0 = omega arith in none) ∙ same 0 (omega arith) in
    let more : map f (range_with_len (j + 1) (length xs)) ≡ xs =
    tabulated f xs d (j + 1) (λ k less. ap f (let next : j + 1 + k ≡ j + suc k = omega arith in next) ∙ same (suc k) (omega arith)) in
    ap (λ (y : A). y ∷ map f (range_with_len (j + 1) (length xs))) here ∙ ap (λ (ys : List A). x ∷ ys) more

from-none : {A : Type 0} (f : ℕ → A) (k : ℕ) (y : A) → f k ≡ y → f (0 + k) ≡ y
from-none {A} f k y is = ap f (let same : 0 + k ≡ k = omega arith in same) ∙ is

map-names : (bubbles : List Bubble) (j n : ℕ) → map (λ k. name_of (slice_index_or bubbles k no_bubble)) (range_with_len j n) ≡ map name_of (map (λ k. slice_index_or bubbles k no_bubble) (range_with_len j n))
map-names bubbles j zero = refl
map-names bubbles j (suc n) = ap (λ (names : List BubbleName). name_of (slice_index_or bubbles j no_bubble) ∷ names) (map-names bubbles (j + 1) n)

-- all bubbles of a page
said-all : (bubbles : List Bubble) (scores : List ℕ) (states : List State) → length scores ≡ length bubbles → length states ≡ length bubbles
    → said_from bubbles scores states 0 (length bubbles) ≡ record { names = map name_of bubbles; scores = scores; states = states }
said-all bubbles scores states many_scores many_states =
    let names : map (λ k. name_of (slice_index_or bubbles k no_bubble)) (range_with_len 0 (length bubbles)) ≡ map name_of bubbles =
    map-names bubbles 0 (length bubbles)
    ∙ ap (map name_of) (tabulated (λ k. slice_index_or bubbles k no_bubble) bubbles no_bubble 0 (λ k less. from-none (λ k. slice_index_or bubbles k no_bubble) k _ refl)) in
    let all_scores : map (λ k. slice_index scores k) (range_with_len 0 (length bubbles)) ≡ scores =
    ap (λ (n : ℕ). map (λ k. slice_index scores k) (range_with_len 0 n)) (sym many_scores)
    ∙ tabulated (λ k. slice_index scores k) scores 0 0 (λ k less. from-none (λ k. slice_index scores k) k _ refl) in
    let all_states : map (λ k. slice_index_or states k Clear) (range_with_len 0 (length bubbles)) ≡ states =
    ap (λ (n : ℕ). map (λ k. slice_index_or states k Clear) (range_with_len 0 n)) (sym many_states)
    ∙ tabulated (λ k. slice_index_or states k Clear) states Clear 0 (λ k less. from-none (λ k. slice_index_or states k Clear) k _ refl) in
    let said : SaidBubbles = said_from bubbles scores states 0 (length bubbles) in
    ap (λ (x : List BubbleName). record said { names = x }) names
    ∙ ap (λ (x : List ℕ). record said { names = map name_of bubbles; scores = x }) all_scores
    ∙ ap (λ (x : List State). record said { names = map name_of bubbles; scores = scores; states = x }) all_states

-- a page and a block, by their parts
page-from : (paper : Paper) (tag page : ℕ) (left behind : LinesLeft) (line : FirstLine) (found : SaidPage × LinesLeft)
    → next_line (first_in paper tag page) left.number left.lines ≡ Ok (line, behind) → page_behind paper line behind ≡ Ok found → page_by paper tag page left ≡ Ok found
unfolding page_by
page-from paper tag page left behind line found is then =
    ap (λ (read : Result (FirstLine × LinesLeft) ReadingsFault). read >>= (λ (line : FirstLine × LinesLeft). page_behind paper line.0 line.1)) is ∙ then

abbrev said_reading : Head → MarkPlaces → ℕ → SaidBubbles → SaidPage
said_reading head border number bubbles = Reading (record {
  first_bubble = number;
  names = bubbles.names;
  reading = record { code = head.code; border = border; scores = bubbles.scores; states = bubbles.states; turned = head.turned };
})

block-from : (paper : Paper) (head : Head) (left behind end : LinesLeft) (border : MarkPlaces) (bubbles : SaidBubbles)
    → next_line (border_in paper) left.number left.lines ≡ Ok (border, behind) → bubbles_in 0 behind.number behind.lines ≡ Ok (bubbles, end)
    → block_in paper head left ≡ Ok (said_reading head border behind.number bubbles, end)
unfolding block_in
block-from paper head left behind end border bubbles is then =
    ap (λ (read : Result (MarkPlaces × LinesLeft) ReadingsFault). read >>= (λ (border : MarkPlaces × LinesLeft).
    bubbles_in 0 border.1.number border.1.lines >>= (λ (bubbles : SaidBubbles × LinesLeft). Ok (said_reading head border.0 border.1.number bubbles.0, bubbles.1)))) is
    ∙ ap (λ (read : Result (SaidBubbles × LinesLeft) ReadingsFault). read >>= (λ (bubbles : SaidBubbles × LinesLeft). Ok (said_reading head border behind.number bubbles.0, bubbles.1))) then

first-told : (paper : Paper) (tag page : ℕ) (line : List ℕ) (words : List (List ℕ)) (told : Option FirstLine) → page < 2 ^ 32
    → parts_of 32 line ≡ codes "page" ∷ decimal page ∷ words → first_behind paper tag words ≡ told → first_in paper tag page line ≡ told
unfolding first_in
first-told paper tag page line words told small has then =
    rw has (rw (named-read (codes "page") page words small) (rw (equal-yes page page refl) then))

card-told : (paper : Paper) (tag : ℕ) (code : PageCode) (turned : Bool) → code.version ≡ version_of paper → code.tag ≡ tag → code.card < 2 ^ 32 → code.page < 2 ^ 32
    → first_behind paper tag (codes "card" ∷ decimal code.card ∷ codes "side" ∷ decimal code.page ∷ codes "kind" ∷ kind_word code.kind code.test ∷ turned_words turned)
    ≡ Some (first.Block (record { code = code; turned = turned }))
unfolding first_behind
card-told paper tag code turned version same_tag card page = rw (head-read paper tag code turned version same_tag card page) refl

border-told : (paper : Paper) (line : List ℕ) (words : List (List ℕ)) (border : MarkPlaces) → parts_of 32 line ≡ codes "border" ∷ words → border_by paper words ≡ Some border → border_in paper line ≡ Some border
unfolding border_in
border-told paper line words border has then = rw has then

-- a text that has lines
lines-some : (text : List ℕ) (line : List ℕ) (rest : List (List ℕ)) → lines_of text ≡ line ∷ rest → lines_of text ≡ [] → ⊥
lines-some text line rest is none = cc

in-parts : (p b l e rest : List ℕ) → (((p ++ b) ++ l) ++ e) ++ rest ≡ p ++ (b ++ (l ++ (e ++ rest)))
in-parts p b l e rest = simp append_assoc

-- a block is read back
pub block-read : (paper : Paper) (tag pages number : ℕ) (bubbles : List Bubble) (reading : PageReading) (rest : List ℕ)
    → pages + 1 < 2 ^ 32 → IsSayable paper tag bubbles reading
    → next_of (text_left paper tag pages number (block_text (pages + 1) bubbles reading ++ rest))
    ≡ Ok (Some (Reading (record { first_bubble = number + 2; names = map name_of bubbles; reading = reading }), text_left paper tag (pages + 1) (number + 3 + length bubbles) rest))
unfolding border_line bubble_lines
block-read paper tag pages number bubbles reading rest few sayable =
    let page : ℕ = pages + 1 in
    let code : PageCode = reading.code in
    let head : Head = record { code = code; turned = reading.turned } in
    let end : List ℕ = line_of (codes "end" ∷ []) ++ rest in
    let third : List ℕ = bubble_lines bubbles reading.scores reading.states ++ end in
    let second : List ℕ = border_line reading.border.places ++ third in
    let head_words : List (List ℕ) = codes "card" ∷ decimal code.card ∷ codes "side" ∷ decimal code.page ∷ codes "kind" ∷ kind_word code.kind code.test ∷ turned_words reading.turned in
    let are_head : AreWords (codes "page" ∷ decimal page ∷ head_words) =
    (literal (codes "page") refl refl, (number-word page few, (literal (codes "card") refl refl, (number-word code.card sayable.card, (literal (codes "side") refl refl, (number-word code.page sayable.page, (literal (codes "kind") refl refl, (kind-is_word code.kind code.test, turned-are_words reading.turned)))))))) in
    let first_written : IsFirstLine (codes "page") (decimal page ∷ head_words) second = first-line (codes "page") (decimal page ∷ head_words) second are_head in
    let border_written : IsFirstLine (codes "border") (map place_word reading.border.places) third =
    first-line (codes "border") (map place_word reading.border.places) third (literal (codes "border") refl refl, places-are_words reading.border.places sayable.within) in
    let border : MarkPlaces = record { paper = paper; places = reading.border.places } in
    let said : SaidBubbles = said_from bubbles reading.scores reading.states 0 (length bubbles) in
    let all : SaidBubbles = record { names = map name_of bubbles; scores = reading.scores; states = reading.states } in
    let unread : Unread = text_left paper tag pages number (block_text page bubbles reading ++ rest) in
    let left : ℕ → LinesLeft = λ n. record { number = n; lines = lines_of rest } in
    let lines : unread.left.lines ≡ first_written.line ∷ lines_of second =
    ap lines_of (in-parts (page_line page code reading.turned) (border_line reading.border.places) (bubble_lines bubbles reading.scores reading.states) (line_of (codes "end" ∷ [])) rest) ∙ first_written.lines in
    let found : SaidPage × LinesLeft = (said_reading head border (number + 1 + 1) said, left (number + 1 + 1 + length bubbles + 1)) in
    let page_is : page_by paper tag page unread.left ≡ Ok found =
    page-from paper tag page unread.left (record { number = number + 1; lines = lines_of second }) (first.Block head) found
    (next-read (first_in paper tag page) number unread.left.lines (lines_of second) first_written.line (first.Block head) lines
    (first-told paper tag page first_written.line head_words (Some (first.Block head)) few first_written.has (card-told paper tag code reading.turned sayable.version sayable.same_tag sayable.card sayable.page)))
    (block-from paper head (record { number = number + 1; lines = lines_of second }) (record { number = number + 1 + 1; lines = lines_of third }) (left (number + 1 + 1 + length bubbles + 1)) border said
    (next-read (border_in paper) (number + 1) (lines_of second) (lines_of third) border_written.line border border_written.lines
    (border-told paper border_written.line (map place_word reading.border.places) border border_written.has (border-read paper reading.border.places sayable.within sayable.places)))
    (bubbles-read bubbles reading.scores reading.states sayable.names sayable.small rest (length bubbles) 0 (number + 1 + 1) (omega (arith, sayable.few)))) in
    let same_border : border ≡ reading.border = ap (λ (p : Paper). record { paper = p; places = reading.border.places }) (sym sayable.of_paper) in
    let first_is : number + 1 + 1 ≡ number + 2 = omega arith in
    let last_is : number + 1 + 1 + length bubbles + 1 ≡ number + 3 + length bubbles = omega arith in
    next-page unread (lines-some (block_text page bubbles reading ++ rest) first_written.line (lines_of second) lines) found page_is
    ∙ ap (λ (told : SaidBubbles). Ok (Some (said_reading head border (number + 1 + 1) told, behind_page unread (left (number + 1 + 1 + length bubbles + 1))))) (said-all bubbles reading.scores reading.states sayable.scores sayable.states)
    ∙ ap (λ (told : MarkPlaces). Ok (Some (said_reading head told (number + 1 + 1) all, behind_page unread (left (number + 1 + 1 + length bubbles + 1))))) same_border
    ∙ ap (λ (n : ℕ). Ok (Some (said_reading head reading.border n all, behind_page unread (left (number + 1 + 1 + length bubbles + 1))))) first_is
    ∙ ap (λ (n : ℕ). Ok (Some (said_reading head reading.border (number + 2) all, behind_page unread (left n)))) last_is

-- a text without an LF
one-line : (text : List ℕ) → ((k : ℕ) → slice_index text k ≢ 10) → lacks 10 text ≡ true
one-line [] none = refl
one-line (byte ∷ text) none = rw (equal-no byte 10 (none 0)) (one-line text (λ k. none (suc k)))

-- at least a byte goes on
goes-more : (parts : List (List ℕ)) → 0 < length parts → goes_on ([] ∷ parts) ≡ true
goes-more [] some = absurd (omega arith)
goes-more (part ∷ parts) some = refl

begun-goes : (byte : ℕ) (parts : List (List ℕ)) → goes_on (begun_with byte parts) ≡ true
begun-goes byte [] = refl
begun-goes byte (part ∷ parts) = refl

parts-some : (at : ℕ) (text : List ℕ) → 0 < length (parts_of at text)
unfolding parts_of
parts-some at [] = omega arith
parts-some at (byte ∷ text) = some (byte == at)
  where
    begun : (parts : List (List ℕ)) → 0 < length (begun_with byte parts)
    begun [] = omega arith
    begun (part ∷ parts) = omega arith

    some : (is : Bool) → 0 < length (cond is ([] ∷ parts_of at text) (begun_with byte (parts_of at text)))
    some true = omega arith
    some false = begun (parts_of at text)

goes-on : (text : List ℕ) → 0 < length text → goes_on (parts_of 32 text) ≡ true
unfolding parts_of
goes-on [] some = absurd (omega arith)
goes-on (byte ∷ text) some = goes (byte == 32)
  where
    goes : (is : Bool) → goes_on (cond is ([] ∷ parts_of 32 text) (begun_with byte (parts_of 32 text))) ≡ true
    goes true = goes-more (parts_of 32 text) (parts-some 32 text)
    goes false = begun-goes byte (parts_of 32 text)

fault-told : (paper : Paper) (tag : ℕ) (text : List ℕ) → 0 < length text → first_behind paper tag (codes "fault" ∷ parts_of 32 text) ≡ Some first.Fault
unfolding first_behind
fault-told paper tag text some = rw (goes-on text some) refl

-- a fault's line is read back as that there is no reading
pub fault-read : (paper : Paper) (tag pages number : ℕ) (text rest : List ℕ) → pages + 1 < 2 ^ 32 → IsOneLine text
    → next_of (text_left paper tag pages number (told_line (pages + 1) text ++ rest)) ≡ Ok (Some (NoReading, text_left paper tag (pages + 1) (number + 1) rest))
fault-read paper tag pages number text rest few one =
    let page : ℕ = pages + 1 in
    let line : List ℕ = codes "page" ++ 32 ∷ (decimal page ++ 32 ∷ (codes "fault" ++ 32 ∷ text)) in
    let unread : Unread = text_left paper tag pages number (told_line page text ++ rest) in
    let same : told_line page text ++ rest ≡ line ++ 10 ∷ rest = simp append_assoc in
    let lacking : lacks 10 line ≡ true =
    lacks-both 10 (decimal page) (32 ∷ (codes "fault" ++ 32 ∷ text)) (decimal-lacks 10 page (omega arith) (omega arith)) (one-line text one.no_end) in
    let lines : unread.left.lines ≡ line ∷ lines_of rest = ap lines_of same ∙ line-first line rest lacking in
    let has : parts_of 32 line ≡ codes "page" ∷ decimal page ∷ codes "fault" ∷ parts_of 32 text =
    parts-first 32 (codes "page") (decimal page ++ 32 ∷ (codes "fault" ++ 32 ∷ text)) refl
    ∙ ap (λ (parts : List (List ℕ)). codes "page" ∷ parts)
    (parts-first 32 (decimal page) (codes "fault" ++ 32 ∷ text) (decimal-lacks 32 page (omega arith) (omega arith))
    ∙ ap (λ (parts : List (List ℕ)). decimal page ∷ parts) (parts-first 32 (codes "fault") text refl)) in
    let found : SaidPage × LinesLeft = (NoReading, record { number = number + 1; lines = lines_of rest }) in
    next-page unread (lines-some (told_line page text ++ rest) line (lines_of rest) lines) found
    (page-from paper tag page unread.left (record { number = number + 1; lines = lines_of rest }) first.Fault found
    (next-read (first_in paper tag page) number unread.left.lines (lines_of rest) line first.Fault lines
    (first-told paper tag page line (codes "fault" ∷ parts_of 32 text) (Some first.Fault) few has (fault-told paper tag text one.some)))
    refl)

pub read-back : WrittenIsReadBack
read-back = record { block = block-read; fault = fault-read }
