-- Pages that are read one after another.
use Rattle.std.proofs.Common.{◌≡◌, ◌<◌, ◌+◌, ◌^◌, ℕ, zero, suc, List, [], ◌∷◌, length, Option, Some, None, Result, Ok, Err, arith, refl, ap, subst, ◌∙◌, add-one}
use Rattle.vx_base.specs.Refusals.{Unless}
use Rattle.vx_base.specs.Results.{◌>>=◌}
use Rattle.vx_base.proofs.Results.{bind_ok}
use Rattle.vx_grid.specs.declared.paper.Paper.{Paper}
use Rattle.vx_readings.specs.declared.bubbles.SaidBubble.{SaidBubble}
use Rattle.vx_readings.specs.declared.bubbles.SaidBubbles.{SaidBubbles}
use Rattle.vx_readings.specs.declared.fault.ReadingsFault.{ReadingsFault}
use Rattle.vx_readings.specs.declared.fault.ReadingsFault.TheVariants.{Line, OutOfMemory}
use Rattle.vx_readings.specs.declared.head.Head.{Head}
use Rattle.vx_readings.specs.declared.head.FirstLine.{FirstLine}
use Rattle.vx_readings.specs.declared.head.FirstLine.TheVariants as first
use Rattle.vx_readings.specs.declared.said.SaidPage.{SaidPage}
use Rattle.vx_readings.specs.declared.said.SaidPage.TheVariants as said
use Rattle.vx_readings.specs.Faults.{is_no_memory}
use Rattle.vx_readings.specs.Left.{LinesLeft}
use Rattle.vx_readings.specs.Lines.{first_in, border_in, bubble_or_end}
use Rattle.vx_readings.specs.Readings.{next_line, no_bubbles, with_bubble, bubble_and, bubbles_in, block_in, page_behind, page_by, Unread, behind_page, step_over, next_by, next_of, with_page, ended, onwards, readings_within, readings_left, Steps, Walks, LinesFit}
use Rattle.vx_readings.proofs.ReadBubbles.{ReadLine, read-line}

-- fewer lines are left, and their numbers are higher
pub record Fewer (number : ℕ) (lines : List (List ℕ)) (left : LinesLeft) : Type 0 where
  pub lines_less : length left.lines < length lines
  pub number_more : number < left.number

line-less : {A : Type 0} (form : List ℕ → Option A) (number : ℕ) (lines : List (List ℕ)) (value : A) (left : LinesLeft)
    → next_line form number lines ≡ Ok (value, left) → Fewer number lines left
line-less {A} form number lines value left is =
    let read : ReadLine form number lines value left = read-line form number lines value left is in
    let many : length lines ≡ length (read.line ∷ read.rest) = ap length read.lines_are in
    let few : length left.lines ≡ length read.rest = ap (λ (rest : LinesLeft). length rest.lines) read.left_is in
    let next : left.number ≡ number + 1 = ap (λ (rest : LinesLeft). rest.number) read.left_is in
    record { lines_less = omega (arith, many, few); number_more = omega (arith, next) }

ok-same : {A : Type 0} (r : Result A ReadingsFault) (a b : A) → r ≡ Ok a → r ≡ Ok b → a ≡ b
ok-same {A} r a b is_a is_b = cc

and-less : (number : ℕ) (line : List ℕ) (lines : List (List ℕ)) (told : Option (Option SaidBubble)) (others : Result (SaidBubbles × LinesLeft) ReadingsFault)
    → ((found : SaidBubbles × LinesLeft) → others ≡ Ok found → Fewer (number + 1) lines found.1)
    → (found : SaidBubbles × LinesLeft) → bubble_and number lines told others ≡ Ok found → Fewer number (line ∷ lines) found.1
and-less number line lines None others less found is = absurd cc
and-less number line lines (Some None) others less found is =
    let left : LinesLeft = record { number = number + 1; lines = lines } in
    let same : left ≡ found.1 = ap (λ (p : SaidBubbles × LinesLeft). p.1) (ok-same _ (no_bubbles, left) found refl is) in
    let Less : LinesLeft → Type 0 = λ rest. Fewer number (line ∷ lines) rest in
    subst Less same (record { lines_less = omega arith; number_more = omega arith })
and-less number line lines (Some (Some bubble)) (Err fault) less found is = absurd cc
and-less number line lines (Some (Some bubble)) (Ok more) less found is =
    let before : Fewer (number + 1) lines more.1 = less more refl in
    let same : more.1 ≡ found.1 = ap (λ (p : SaidBubbles × LinesLeft). p.1) (ok-same _ (with_bubble bubble more.0, more.1) found refl is) in
    let Less : LinesLeft → Type 0 = λ rest. Fewer number (line ∷ lines) rest in
    subst Less same (record { lines_less = omega (arith, before.lines_less); number_more = omega (arith, before.number_more) })

bubbles-less : (bubble number : ℕ) (lines : List (List ℕ)) (found : SaidBubbles × LinesLeft) → bubbles_in bubble number lines ≡ Ok found → Fewer number lines found.1
unfolding bubbles_in
bubbles-less bubble number [] found is = absurd cc
bubbles-less bubble number (line ∷ lines) found is =
    and-less number line lines (bubble_or_end bubble line) (bubbles_in (bubble + 1) (number + 1) lines)
    (λ found is. bubbles-less (bubble + 1) (number + 1) lines found is) found is

less-then : (number : ℕ) (lines : List (List ℕ)) (a b : LinesLeft) → Fewer number lines a → Fewer a.number a.lines b → Fewer number lines b
less-then number lines a b first second = record {
  lines_less = omega (arith, first.lines_less, second.lines_less);
  number_more = omega (arith, first.number_more, second.number_more);
}

block-less : (paper : Paper) (head : Head) (left : LinesLeft) (found : SaidPage × LinesLeft) → block_in paper head left ≡ Ok found → Fewer left.number left.lines found.1
unfolding block_in
block-less paper head left found is =
    let border = bind_ok (next_line (border_in paper) left.number left.lines) _ found is in
    let bubbles = bind_ok (bubbles_in 0 border.0.1.number border.0.1.lines) _ found border.2 in
    let same : bubbles.0.1 ≡ found.1 = ap (λ (p : SaidPage × LinesLeft). p.1) (ok-same _ _ found refl bubbles.2) in
    let Less : LinesLeft → Type 0 = λ rest. Fewer left.number left.lines rest in
    subst Less same
    (less-then left.number left.lines border.0.1 bubbles.0.1
    (line-less (border_in paper) left.number left.lines border.0.0 border.0.1 border.1)
    (bubbles-less 0 border.0.1.number border.0.1.lines bubbles.0 bubbles.1))

behind-less : (paper : Paper) (line : FirstLine) (number : ℕ) (lines : List (List ℕ)) (left : LinesLeft) (found : SaidPage × LinesLeft)
    → Fewer number lines left → page_behind paper line left ≡ Ok found → Fewer number lines found.1
behind-less paper first.Fault number lines left found less is =
    let same : left ≡ found.1 = ap (λ (p : SaidPage × LinesLeft). p.1) (ok-same _ _ found refl is) in
    let Less : LinesLeft → Type 0 = λ rest. Fewer number lines rest in
    subst Less same less
behind-less paper (first.Block head) number lines left found less is = less-then number lines left found.1 less (block-less paper head left found is)

-- a page takes a line at least
pub page-less : (paper : Paper) (tag page : ℕ) (left : LinesLeft) (found : SaidPage × LinesLeft) → page_by paper tag page left ≡ Ok found → Fewer left.number left.lines found.1
unfolding page_by
page-less paper tag page left found is =
    let line = bind_ok (next_line (first_in paper tag page) left.number left.lines) _ found is in
    behind-less paper line.0.0 left.number left.lines line.0.1 found
    (line-less (first_in paper tag page) left.number left.lines line.0.0 line.0.1 line.1) line.2

-- the lines of a page's bubbles precede the lines that are left
abbrev pub Placed : SaidPage → LinesLeft → Type 0
Placed said.NoReading left = Unit {0}
Placed (said.Reading told) left = told.first_bubble + length told.names < left.number

and-placed : (number : ℕ) (lines : List (List ℕ)) (told : Option (Option SaidBubble)) (others : Result (SaidBubbles × LinesLeft) ReadingsFault)
    → ((found : SaidBubbles × LinesLeft) → others ≡ Ok found → number + 1 + length found.0.names < found.1.number)
    → (found : SaidBubbles × LinesLeft) → bubble_and number lines told others ≡ Ok found → number + length found.0.names < found.1.number
and-placed number lines None others placed found is = absurd cc
and-placed number lines (Some None) others placed found is =
    let So : SaidBubbles × LinesLeft → Type 0 = λ all. number + length all.0.names < all.1.number in
    subst So (ok-same _ (no_bubbles, record { number = number + 1; lines = lines }) found refl is) (omega arith)
and-placed number lines (Some (Some bubble)) (Err fault) placed found is = absurd cc
and-placed number lines (Some (Some bubble)) (Ok more) placed found is =
    let before : number + 1 + length more.0.names < more.1.number = placed more refl in
    let So : SaidBubbles × LinesLeft → Type 0 = λ all. number + length all.0.names < all.1.number in
    subst So (ok-same _ (with_bubble bubble more.0, more.1) found refl is) (omega (arith, before))

bubbles-placed : (bubble number : ℕ) (lines : List (List ℕ)) (found : SaidBubbles × LinesLeft) → bubbles_in bubble number lines ≡ Ok found
    → number + length found.0.names < found.1.number
unfolding bubbles_in
bubbles-placed bubble number [] found is = absurd cc
bubbles-placed bubble number (line ∷ lines) found is =
    and-placed number lines (bubble_or_end bubble line) (bubbles_in (bubble + 1) (number + 1) lines)
    (λ found is. bubbles-placed (bubble + 1) (number + 1) lines found is) found is

block-placed : (paper : Paper) (head : Head) (left : LinesLeft) (found : SaidPage × LinesLeft) → block_in paper head left ≡ Ok found → Placed found.0 found.1
unfolding block_in
block-placed paper head left found is =
    let border = bind_ok (next_line (border_in paper) left.number left.lines) _ found is in
    let bubbles = bind_ok (bubbles_in 0 border.0.1.number border.0.1.lines) _ found border.2 in
    let So : SaidPage × LinesLeft → Type 0 = λ all. Placed all.0 all.1 in
    subst So (ok-same _ _ found refl bubbles.2) (bubbles-placed 0 border.0.1.number border.0.1.lines bubbles.0 bubbles.1)

behind-placed : (paper : Paper) (line : FirstLine) (left : LinesLeft) (found : SaidPage × LinesLeft) → page_behind paper line left ≡ Ok found → Placed found.0 found.1
behind-placed paper first.Fault left found is =
    let So : SaidPage × LinesLeft → Type 0 = λ all. Placed all.0 all.1 in
    subst So (ok-same _ _ found refl is) tt
behind-placed paper (first.Block head) left found is = block-placed paper head left found is

pub page-placed : (paper : Paper) (tag page : ℕ) (left : LinesLeft) (found : SaidPage × LinesLeft) → page_by paper tag page left ≡ Ok found → Placed found.0 found.1
unfolding page_by
page-placed paper tag page left found is =
    let line = bind_ok (next_line (first_in paper tag page) left.number left.lines) _ found is in
    behind-placed paper line.0.0 line.0.1 found line.2

-- so they fit where the next one does
pub placed-fit : (page : SaidPage) (left : LinesLeft) → Placed page left → left.number < 2 ^ 32 → LinesFit page
placed-fit said.NoReading left placed small = tt
placed-fit (said.Reading told) left placed small = omega (arith, placed)

-- the next page, where lines are left
module _ (unread : Unread) where
  by-lines : (lines : List (List ℕ)) → (lines ≡ [] → ⊥) → next_by lines unread ≡ (page_by unread.paper unread.tag (unread.pages + 1) unread.left >>= step_over unread)
  by-lines [] some = absurd (some refl)
  by-lines (line ∷ lines) some = refl

  pub next-none : unread.left.lines ≡ [] → next_of unread ≡ Ok None
  unfolding next_of
  next-none none = ap (λ (lines : List (List ℕ)). next_by lines unread) none

  pub next-page : (unread.left.lines ≡ [] → ⊥) → (found : SaidPage × LinesLeft) → page_by unread.paper unread.tag (unread.pages + 1) unread.left ≡ Ok found
      → next_of unread ≡ Ok (Some (found.0, behind_page unread found.1))
  unfolding next_of
  next-page some found is =
      by-lines unread.left.lines some
      ∙ ap (λ (page : Result (SaidPage × LinesLeft) ReadingsFault). page >>= step_over unread) is

  pub next-fault : (unread.left.lines ≡ [] → ⊥) → (fault : ReadingsFault) → page_by unread.paper unread.tag (unread.pages + 1) unread.left ≡ Err fault
      → next_of unread ≡ Err fault
  unfolding next_of
  next-fault some fault is =
      by-lines unread.left.lines some
      ∙ ap (λ (page : Result (SaidPage × LinesLeft) ReadingsFault). page >>= step_over unread) is

-- what was found takes a line at least
by-less : (lines : List (List ℕ)) (unread : Unread) (page : SaidPage) (new : Unread) → lines ≡ unread.left.lines
    → next_by lines unread ≡ Ok (Some (page, new)) → length new.left.lines < length unread.left.lines
by-less [] unread page new are is = absurd cc
by-less (line ∷ lines) unread page new are is =
    let found = bind_ok (page_by unread.paper unread.tag (unread.pages + 1) unread.left) (step_over unread) (Some (page, new)) is in
    let less : Fewer unread.left.number unread.left.lines found.0.1 = page-less unread.paper unread.tag (unread.pages + 1) unread.left found.0 found.1 in
    let pair : (found.0.0, behind_page unread found.0.1) ≡ (page, new) = some-same _ (found.0.0, behind_page unread found.0.1) (page, new) refl found.2 in
    let left : found.0.1 ≡ new.left = ap (λ (p : SaidPage × Unread). p.1.left) pair in
    let few : length found.0.1.lines ≡ length new.left.lines = ap (λ (rest : LinesLeft). length rest.lines) left in
    omega (arith, less.lines_less, few)
  where
    some-same : (r : Result (Option (SaidPage × Unread)) ReadingsFault) (a b : SaidPage × Unread) → r ≡ Ok (Some a) → r ≡ Ok (Some b) → a ≡ b
    some-same r a b is_a is_b = cc

next-less : (unread : Unread) (page : SaidPage) (new : Unread) → next_of unread ≡ Ok (Some (page, new)) → length new.left.lines < length unread.left.lines
unfolding next_of
next-less unread page new is = by-less unread.left.lines unread page new refl is

-- with enough steps, one step more or less gives the same readings
enough : (steps more : ℕ) (unread : Unread) → length unread.left.lines < steps → length unread.left.lines < more → readings_within steps unread ≡ readings_within more unread
enough zero more unread a b = absurd (omega arith)
enough (suc steps) zero unread a b = absurd (omega arith)
enough (suc steps) (suc more) unread a b =
    enough-by (next_of unread) (λ page new is. enough steps more new (omega (arith, next-less unread page new is)) (omega (arith, next-less unread page new is)))
  where
    enough-by : (found : Result (Option (SaidPage × Unread)) ReadingsFault) → ((page : SaidPage) (new : Unread) → found ≡ Ok (Some (page, new)) → readings_within steps new ≡ readings_within more new)
        → onwards (readings_within steps) found ≡ onwards (readings_within more) found
    enough-by (Ok (Some found)) same = ap (with_page found.0) (same found.0 found.1 refl)
    enough-by (Ok None) same = refl
    enough-by (Err fault) same = refl

-- the readings that are left begin with the next page
pub walks-page : (unread : Unread) (page : SaidPage) (new : Unread) → next_of unread ≡ Ok (Some (page, new)) → readings_left unread ≡ with_page page (readings_left new)
unfolding readings_left
walks-page unread page new is =
    let less : length new.left.lines < length unread.left.lines = next-less unread page new is in
    ap (λ (n : ℕ). readings_within n unread) (add-one (length unread.left.lines))
    ∙ ap (onwards (readings_within (length unread.left.lines))) is
    ∙ ap (with_page page) (enough (length unread.left.lines) (length new.left.lines + 1) new less (omega arith))

pub walks-end : (unread : Unread) → next_of unread ≡ Ok None → readings_left unread ≡ ended None
unfolding readings_left
walks-end unread is =
    ap (λ (n : ℕ). readings_within n unread) (add-one (length unread.left.lines))
    ∙ ap (onwards (readings_within (length unread.left.lines))) is

pub walks-fault : (unread : Unread) (fault : ReadingsFault) → next_of unread ≡ Err fault → readings_left unread ≡ ended (Some fault)
unfolding readings_left
walks-fault unread fault is =
    ap (λ (n : ℕ). readings_within n unread) (add-one (length unread.left.lines))
    ∙ ap (onwards (readings_within (length unread.left.lines))) is

-- a page that wasn't given
pub steps-fault : (unread : Unread) → (unread.left.lines ≡ [] → ⊥) → (fault : ReadingsFault)
    → Unless (is_no_memory fault) (page_by unread.paper unread.tag (unread.pages + 1) unread.left ≡ Err fault) → Steps unread (Err fault) unread
steps-fault unread some (Line number) is = (next-fault unread some (Line number) is, refl)
steps-fault unread some OutOfMemory is = refl

pub left-fault : (unread : Unread) → (unread.left.lines ≡ [] → ⊥) → (fault : ReadingsFault)
    → Unless (is_no_memory fault) (page_by unread.paper unread.tag (unread.pages + 1) unread.left ≡ Err fault) → Walks unread (Err fault) unread
left-fault unread some (Line number) is = walks-fault unread (Line number) (next-fault unread some (Line number) is)
left-fault unread some OutOfMemory is = refl
