-- The reading on the page that a code names, and what a call may answer.
use Rattle.std.proofs.Common.{◌≡◌, ◌==◌, ℕ, List, length, Bool, true, false, cond, sym, ap, ap₂, ◌∙◌}
use Rattle.std.proofs.lemmas.List.{length-map}
use Rattle.std.specs.Prelude.{Option, None, Some, Result, Ok, Err, IsErrAnd}
use Rattle.vx_base.specs.Results.{◌>>=◌}
use Rattle.vx_base.specs.Refusals.{Unless, Gives}
use Rattle.std.specs.Borrow.{Bor}
use Rattle.vx_base.proofs.Results.{bind_never, Unless-always, Unless-no}
use Rattle.vx_plane.specs.Plane.{Page}
use Rattle.vx_count.specs.Turned.{turned_page}
use Rattle.vx_grid.specs.declared.paper.Paper.{Paper}
use Rattle.vx_grid.specs.Borders.{MarkPlaces}
use Rattle.vx_grid.specs.declared.state.State.{State}
use Rattle.vx_mark_model.specs.declared.fault.BorderFault.{BorderFault}
use Rattle.vx_mark_model.specs.Border.{IsBorderOf}
use Rattle.vx_election_model.specs.declared.election.Election.{Election}
use Rattle.vx_code.specs.declared.code.PageCode.{PageCode}
use Rattle.vx_code.specs.declared.code.CodeFault.{CodeFault}
use Rattle.vx_code.specs.Code.{tag_of}
use Rattle.vx_layout.specs.declared.pages.PagePlan.{PagePlan}
use Rattle.vx_layout.specs.declared.plan.CardPlan.{CardPlan}
use Rattle.vx_layout.specs.declared.fault.LayoutFault.{LayoutFault}
use Rattle.vx_layout.specs.Plan.{plan_of}
use Rattle.vx_score.specs.Score.{state_of}
use Rattle.vx_scan_model.specs.declared.reading.PageReading.{PageReading}
use Rattle.vx_scan_model.specs.declared.fault.PageFault.{PageFault}
use Rattle.vx_scan_model.specs.declared.fault.PageFault.TheVariants.{FrameSize, OtherElection}
use Rattle.vx_scan_model.specs.Border.{border_of, BorderIsGiven}
use Rattle.vx_scan_model.specs.Named.{page_numbered, plan_unless, plan_on_card, named_plan}
use Rattle.vx_scan_model.specs.Reading.{is_allowed, code_read, bubble_score, scores_of, states_of, reading_on, reading_of_code, reading_of_border, upright_reading_of, told_turned, either_way, reading_of}
use Rattle.vx_scan_model.specs.Faults.{is_no_memory}
use Rattle.vx_page.specs.Named.{IsOfPlan, GivesOnPlan}

module _ (election : Election) (page : Page) (border : MarkPlaces) (code : PageCode) where
  -- the reading of a code, by what it names
  abbrev reading_named : Result PagePlan PageFault → Result PageReading PageFault
  reading_named named = named >>= (λ plan. Ok (reading_on election page border code plan))

  -- the reading of a code that names no page
  pub reading-unnamed : (read : Result PageCode CodeFault) (fault : PageFault) → Ok code ≡ read → named_plan election code ≡ Err fault → reading_of_code election page border read ≡ Err fault
  reading-unnamed read fault is named = ap (reading_of_code election page border) (sym is) ∙ ap reading_named named

  -- the reading of a code that names a page
  pub reading-planned : (read : Result PageCode CodeFault) (plan : PagePlan) (scores : List ℕ) (states : List State) → Ok code ≡ read → named_plan election code ≡ Ok plan → scores ≡ scores_of page border plan.bubbles → states ≡ states_of election.thresholds scores → reading_of_code election page border read ≡ Ok (record { code = code; border = border; scores = scores; states = states; turned = false })
  reading-planned read plan scores states is named scored stated =
      let Read : List ℕ → List State → Result PageReading PageFault = λ some others. Ok (record { code = code; border = border; scores = some; states = others; turned = false }) in
      ap (reading_of_code election page border) (sym is) ∙ ap reading_named named
      ∙ ap₂ Read (sym scored) (sym (stated ∙ ap (states_of election.thresholds) scored))

  -- and that it has a score and a state for each bubble
  pub read-on : (plan : PagePlan) (scores : List ℕ) (states : List State) → named_plan election code ≡ Ok plan → scores ≡ scores_of page border plan.bubbles → states ≡ states_of election.thresholds scores → IsOfPlan election (record { code = code; border = border; scores = scores; states = states; turned = false }) plan
  read-on plan scores states named scored stated =
      let all : length scores ≡ length plan.bubbles = ap length scored ∙ length-map plan.bubbles (bubble_score page border) in
      record {
        named = named;
        scores = all;
        states = ap length stated ∙ length-map scores (λ score. state_of score election.thresholds) ∙ all;
      }

-- no code has a fault of the frame
no-frame-page : (number : ℕ) (plan : Option PagePlan) (width height : ℕ) → plan_unless number plan ≡ Err (FrameSize width height) → ⊥
no-frame-page number None width height h = cc
no-frame-page number (Some plan) width height h = cc

no-frame-card : (code : PageCode) (card : Result CardPlan LayoutFault) (width height : ℕ) → plan_on_card code card ≡ Err (FrameSize width height) → ⊥
no-frame-card code (Err fault) width height h = cc
no-frame-card code (Ok card) width height h = no-frame-page code.page (page_numbered card code.page) width height h

no-frame-tag : (b : Bool) (code : PageCode) (card : Result CardPlan LayoutFault) (width height : ℕ) → cond b (plan_on_card code card) (Err (OtherElection code.tag)) ≡ Err (FrameSize width height) → ⊥
no-frame-tag true code card width height h = no-frame-card code card width height h
no-frame-tag false code card width height h = cc

no-frame-named : (election : Election) (code : PageCode) (width height : ℕ) → named_plan election code ≡ Err (FrameSize width height) → ⊥
unfolding named_plan
no-frame-named election code width height h = no-frame-tag (code.tag == tag_of election.digest) code (plan_of election code.card) width height h

no-frame-code : (election : Election) (page : Page) (border : MarkPlaces) (code : Result PageCode CodeFault) (width height : ℕ) → reading_of_code election page border code ≡ Err (FrameSize width height) → ⊥
no-frame-code election page border (Err fault) width height h = cc
no-frame-code election page border (Ok code) width height h =
    let made : PagePlan → Result PageReading PageFault = λ plan. Ok (reading_on election page border code plan) in
    bind_never (named_plan election code) made (FrameSize width height) (no-frame-named election code width height) (λ plan e. cc) h

-- nor has a border
no-frame : (election : Election) (page : Page) (border : Result MarkPlaces BorderFault) (width height : ℕ) → reading_of_border election page border ≡ Err (FrameSize width height) → ⊥
no-frame election page (Err fault) width height h = cc
no-frame election page (Ok border) width height h = no-frame-code election page border (code_read page border) width height h

-- a frame that isn't read as it lies
upright-not_allowed : (election : Election) (page : Page) → is_allowed election.paper page ≡ false → upright_reading_of election page ≡ Err (FrameSize page.width page.height)
unfolding upright_reading_of
upright-not_allowed election page h =
    let other : Result PageReading PageFault = Err (FrameSize page.width page.height) in
    ap (λ (b : Bool). cond b (reading_of_border election page (border_of election.paper page)) other) h

-- nor turned, as the turned page has the same frame
pub reading-not_allowed : (election : Election) (page : Page) → is_allowed election.paper page ≡ false → reading_of election page ≡ Err (FrameSize page.width page.height)
unfolding reading_of
reading-not_allowed election page h =
    ap₂ either_way (upright-not_allowed election page h) (upright-not_allowed election (turned_page page) h)

-- a frame that is read, whose border is traced
pub upright-traced : BorderIsGiven → (election : Election) (page : Page) (answer : Result MarkPlaces BorderFault) → is_allowed election.paper page ≡ true → IsBorderOf election.paper page answer → upright_reading_of election page ≡ reading_of_border election page answer
unfolding upright_reading_of
upright-traced given election page answer h is =
    let other : Result PageReading PageFault = Err (FrameSize page.width page.height) in
    ap (λ (b : Bool). cond b (reading_of_border election page (border_of election.paper page)) other) h
    ∙ ap (reading_of_border election page) (sym (given election.paper page answer is))

-- a frame that is read is so too where the page is counted, and turned
pub allowed-counted : (paper : Paper) (page counted : Page) → counted ≡ page → is_allowed paper page ≡ true → is_allowed paper counted ≡ true
allowed-counted paper page counted same h = ap (is_allowed paper) same ∙ h

pub allowed-turned : (paper : Paper) (page counted turned : Page) → counted ≡ page → turned ≡ turned_page counted → is_allowed paper page ≡ true → is_allowed paper turned ≡ true
allowed-turned paper page counted turned same is h = ap (is_allowed paper) is ∙ allowed-counted paper page counted same h

-- the reading of a scan as it lies is its reading
pub reading-upright : (election : Election) (page counted : Page) (reading : PageReading) → counted ≡ page → upright_reading_of election counted ≡ Ok reading → reading_of election page ≡ Ok reading
unfolding reading_of
reading-upright election page counted reading same is =
    ap (λ (upright : Result PageReading PageFault). either_way upright (upright_reading_of election (turned_page page))) (sym (ap (upright_reading_of election) same) ∙ is)

-- where it has a fault so, its reading is the one of the turned page, or that fault
pub reading-turned : (election : Election) (page counted turned : Page) (fault : PageFault) → counted ≡ page → turned ≡ turned_page counted → upright_reading_of election counted ≡ Err fault → reading_of election page ≡ either_way (Err fault) (upright_reading_of election turned)
unfolding reading_of
reading-turned election page counted turned fault same is h =
    ap₂ either_way (sym (ap (upright_reading_of election) same) ∙ h) (sym (ap (upright_reading_of election) (is ∙ ap turned_page same)))

-- want of memory may always be answered
pub unless-want : (P : Type 0) (b : Bool) → b ≡ true → Unless b P
unless-want P true h = tt
unless-want P false h = absurd cc

-- the reading of the turned page is told as one
pub turned-read : (election : Election) (fault : PageFault) (upright : Result PageReading PageFault) (reading : PageReading) → upright ≡ Ok reading → either_way (Err fault) upright ≡ Ok (told_turned reading)
turned-read election fault upright reading h = ap (either_way (Err fault)) h

pub turned-on : (election : Election) (reading : PageReading) (plan : PagePlan) → IsOfPlan election reading plan → IsOfPlan election (told_turned reading) plan
turned-on election reading plan h = record { named = h.named; scores = h.scores; states = h.states }

-- where it has a fault too, the first fault is told
pub turned-fault : (fault other : PageFault) (upright : Result PageReading PageFault) → Unless (is_no_memory other) (upright ≡ Err other) → is_no_memory other ≡ false → Unless (is_no_memory fault) (either_way (Err fault) upright ≡ Err fault)
turned-fault fault other upright h known =
    Unless-always (is_no_memory fault) (ap (either_way (Err fault)) (Unless-no (is_no_memory other) known h))

-- a fault that is handed on
pub gives-fault : (election : Election) (result : Result (PageReading × Bor PagePlan) PageFault) (defined : Result PageReading PageFault) (fault : PageFault) → IsErrAnd result (λ (e : PageFault). e ≡ fault) → defined ≡ Err fault → GivesOnPlan election defined result
gives-fault election (Err e) defined fault h is = Unless-always (is_no_memory e) (is ∙ ap Err (sym h))
gives-fault election (Ok given) defined fault h is = absurd h

-- a reading where the frame is allowed is no fault of the frame
upright-no_frame : (election : Election) (page : Page) (width height : ℕ) → is_allowed election.paper page ≡ true → upright_reading_of election page ≡ Err (FrameSize width height) → ⊥
unfolding upright_reading_of
upright-no_frame election page width height h e =
    let other : Result PageReading PageFault = Err (FrameSize page.width page.height) in
    no-frame election page (border_of election.paper page) width height
    (sym (ap (λ (b : Bool). cond b (reading_of_border election page (border_of election.paper page)) other) h) ∙ e)

-- a fault that is told is the one of the page as it lies
either-fault : (upright turned : Result PageReading PageFault) (fault : PageFault) → either_way upright turned ≡ Err fault → upright ≡ Err fault
either-fault (Ok reading) turned fault h = absurd cc
either-fault (Err first) (Ok reading) fault h = absurd cc
either-fault (Err first) (Err other) fault h = h

allowed-no_frame : (election : Election) (page : Page) (width height : ℕ) → is_allowed election.paper page ≡ true → reading_of election page ≡ Err (FrameSize width height) → ⊥
unfolding reading_of
allowed-no_frame election page width height h e =
    upright-no_frame election page width height h (either-fault (upright_reading_of election page) (upright_reading_of election (turned_page page)) (FrameSize width height) e)

pub gives-no_frame : (election : Election) (page : Page) (result : Result PageReading PageFault) (width height : ℕ) → is_allowed election.paper page ≡ true → Gives is_no_memory result (reading_of election page) → result ≡ Err (FrameSize width height) → ⊥
gives-no_frame election page (Ok reading) width height allowed h e = cc
gives-no_frame election page (Err (FrameSize m n)) width height allowed h e = allowed-no_frame election page m n allowed h
gives-no_frame election page (Err fault) width height allowed h e = cc
