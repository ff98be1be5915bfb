-- A page ends with its tail where the command ends well, and has no markup behind its head else.
use Rattle.std.proofs.Common.{◌≡◌, inl, inr, ℕ, ◌+◌, List, [], ◌∷◌, ◌++◌, refl, sym, ap, ◌∙◌, append_assoc, append-nil}
use Rattle.std.specs.Prelude.{Option, None, Some, Result, Ok, Err}
use Rattle.std.proofs.lemmas.List.Folds.{list_any-append}
use Rattle.vx_plane.specs.Plane.{Page}
use Rattle.vx_election_model.specs.declared.election.Election.{Election}
use Rattle.vx_layout.specs.declared.plan.CardPlan.{CardPlan}
use Rattle.vx_events.specs.declared.event.Event.{Event}
use Rattle.vx_io.specs.Outside.{Files}
use Rattle.vx_pbm.specs.declared.fault.PbmFault.{PbmFault}
use Rattle.vx_pbm.specs.Images.{images_of}
use Rattle.vx_command.specs.declared.halt.Halt.{Halt}
use Rattle.vx_command.specs.Acts.{Answer, Outcome, Write, after, goes_on, input_limit, input_of}
use Rattle.vx_command.specs.Elections.{election_in, once_planned, plans_in}
use Rattle.vx_command.specs.Images.{unless_faulty}
use Rattle.vx_command.specs.Texts.{texts_of}
use Rattle.vx_journal.specs.Steps.{once_read}
use Rattle.vx_journal.specs.Keeping.{journal_in}
use Rattle.vx_journal.specs.declared.journal.Journal.{Journal}
use Rattle.vx_markup.specs.Escaped.{is_markup}
use Rattle.vx_markup.specs.Laws.{HasNoMarkup}
use Rattle.vx_desk.specs.Laws.{DataIsNoMarkup}
use Rattle.vx_desk.specs.Lines.{first_text, last_text, sheet_text}
use Rattle.vx_desk.specs.Page.{head, tail}
use Rattle.vx_command_desk.specs.Laws.{PagesShowTheirEnd, ShowsHowItEnded}
use Rattle.vx_walk.specs.Walk.{SheetStep, scan_outcome, scans_outcome, with_images}
use Rattle.vx_command_desk.specs.Outcome.{closing_text, end_outcome, opening_text, page_outcome, sheet_step}

joined : (xs ys : List ℕ) → HasNoMarkup xs → HasNoMarkup ys → HasNoMarkup (xs ++ ys)
joined xs ys first second = rw (list_any-append is_markup xs ys, first) second

-- what is written behind a page's head
record Tailed (text : List ℕ) : Type 0 where
  lines : List ℕ
  is : text ≡ lines ++ tail
  clean : HasNoMarkup lines

abbrev Goes : Answer → List ℕ → Type 0
Goes (Ok done) text = Tailed text
Goes (Err cause) text = HasNoMarkup text

abbrev GoesSo : Outcome → Type 0
GoesSo outcome = Goes outcome.ends (texts_of outcome)

-- with more before it
with_more : (more : List ℕ) → HasNoMarkup more → (ends : Answer) (text : List ℕ) → Goes ends text → Goes ends (more ++ text)
with_more more clean (Ok done) text goes = record {
  lines = more ++ goes.lines;
  is = ap (λ (behind : List ℕ). more ++ behind) goes.is ∙ sym (append_assoc more goes.lines tail);
  clean = joined more goes.lines clean goes.clean;
}
with_more more clean (Err cause) text goes = joined more text clean goes

-- the texts of sheets, of a scan with a name
abbrev SheetTexts : Type 0
SheetTexts = List ℕ → ℕ → Page → Page → List ℕ

-- a sheet's text is written
abbrev writes : SheetTexts → List ℕ → SheetStep
writes text scan number first second next = after (Write (text scan number first second) ∷ []) next

module _ (text : SheetTexts) (clean : (scan : List ℕ) (number : ℕ) (first second : Page) → HasNoMarkup (text scan number first second)) where
  images_go : (scan : List ℕ) (sheets : ℕ) (images : List Page) (rest : ℕ → List Page → Outcome) → ((now : ℕ) (left : List Page) → GoesSo (rest now left))
      → GoesSo (with_images (writes text scan) sheets images rest)
  images_go scan sheets [] rest goes = goes sheets []
  images_go scan sheets (single ∷ []) rest goes = goes sheets (single ∷ [])
  images_go scan sheets (first ∷ (second ∷ images)) rest goes =
      let behind : Outcome = with_images (writes text scan) (sheets + 1) images rest in
      with_more (text scan (sheets + 1) first second) (clean scan (sheets + 1) first second) behind.ends (texts_of behind) (images_go scan (sheets + 1) images rest goes)

  unless_goes : (word : ℕ) (fault : Option PbmFault) (next : Outcome) → GoesSo next → GoesSo (unless_faulty word fault next)
  unless_goes word None next goes = goes
  unless_goes word (Some fault) next goes = refl

  module _ (ending : ℕ → List Page → Outcome) (ends : (sheets : ℕ) (left : List Page) → GoesSo (ending sheets left)) (files : Files) where
    scans_go : (word sheets : ℕ) (waiting : List Page) (names : List (List ℕ)) → GoesSo (scans_outcome (writes text) ending files word sheets waiting names)
    scans_go word sheets waiting [] = ends sheets waiting
    scans_go word sheets waiting (name ∷ names) =
        by (input_of word input_limit (files name)) (λ now left. scans_go (word + 1) now left names)
      where
        by : (given : Result (List ℕ) Halt) → ((now : ℕ) (left : List Page) → GoesSo (scans_outcome (writes text) ending files (word + 1) now left names))
            → GoesSo (goes_on given (λ bytes. scan_outcome (writes text name) word sheets waiting (images_of bytes) (λ now left. scans_outcome (writes text) ending files (word + 1) now left names)))
        by (Err cause) goes = refl
        by (Ok bytes) goes =
            images_go name sheets (waiting ++ (images_of bytes).pages) _
            (λ now left. unless_goes word (images_of bytes).fault (scans_outcome (writes text) ending files (word + 1) now left names) (goes now left))

-- a page whose head stands before
with_head : (first : List ℕ) → HasNoMarkup first → (ends : Answer) (text : List ℕ) → Goes ends text → ShowsHowItEnded ends ((head ++ first) ++ text)
with_head first clean (Ok done) text goes =
    let all = with_more first clean (Ok done) text goes in
    record {
      lines = all.lines;
      is = append_assoc head first text ∙ ap (λ (behind : List ℕ). head ++ behind) all.is;
      clean = all.clean;
    }
with_head first clean (Err cause) text goes =
    inr (record {
      lines = first ++ text;
      is = append_assoc head first text;
      clean = with_more first clean (Err cause) text goes;
    })

module _ (law : DataIsNoMarkup) (batch : List ℕ) (scans : List (List ℕ)) (files : Files) where
  closes : (election : Election) (events : List Event) (sheets : ℕ) (left : List Page) → GoesSo (end_outcome election events batch sheets left)
  unfolding closing_text
  closes election events sheets left =
      let last : List ℕ = last_text election events batch sheets in
      record { lines = last; is = append-nil (last ++ tail); clean = law.last election events batch sheets }

  abbrev Shows : Outcome → Type 0
  Shows outcome = ShowsHowItEnded outcome.ends (texts_of outcome)

  page_shows : (election : Election) (events : List Event) → Shows (page_outcome election batch scans files events)
  unfolding opening_text
  page_shows election events =
      let behind : Outcome = scans_outcome (sheet_step election events batch) (end_outcome election events batch) files 3 0 [] scans in
      with_head (first_text election batch) (law.first election batch) behind.ends (texts_of behind)
      (scans_go (sheet_text election events batch) (λ scan number first second. law.sheet election events batch scan number first second)
      (end_outcome election events batch) (closes election events) files 3 0 [] scans)

  read_shows : (election : Election) (journal : Result Journal Halt) → Shows (goes_on journal (λ given. page_outcome election batch scans files given.center.events))
  read_shows election (Err cause) = inl refl
  read_shows election (Ok journal) = page_shows election journal.center.events

  planned_shows : (election : Election) (records : List (List ℕ)) (plans : Result (List CardPlan) Halt)
      → Shows (goes_on plans (λ made. once_read election records (λ journal. page_outcome election batch scans files journal.center.events)))
  planned_shows election records (Err cause) = inl refl
  planned_shows election records (Ok plans) = read_shows election (journal_in election records)

  taken_shows : (records : List (List ℕ)) (given : Result Election Halt)
      → Shows (goes_on given (λ election. once_planned election (once_read election records (λ journal. page_outcome election batch scans files journal.center.events))))
  taken_shows records (Err cause) = inl refl
  taken_shows records (Ok election) = planned_shows election records (plans_in election)

pub show_end : DataIsNoMarkup → PagesShowTheirEnd
show_end law election batch scans files records = taken_shows law batch scans files records (election_in (files election))
