-- The lines of the data have no markup.
use Rattle.std.proofs.Common.{◌≡◌, ℕ, Bool, true, false, ◌||◌, ◌==◌, cond, List, [], ◌∷◌, ◌++◌, refl}
use Rattle.std.specs.Prelude.{Option, None, Some}
use Rattle.std.specs.List.{list_any}
use Rattle.std.proofs.lemmas.Bool.{true≢false}
use Rattle.serde_json.specs.Data.{Data}
use Rattle.serde_json.specs.Written.{compact_text}
use Rattle.vx_plane.specs.Plane.{Page}
use Rattle.vx_election_model.specs.declared.election.Election.{Election}
use Rattle.vx_rules.specs.declared.marks.SheetMarks.{SheetMarks}
use Rattle.vx_events.specs.declared.event.Event.{Event}
use Rattle.vx_events.specs.declared.key.Key.{Key}
use Rattle.vx_center.specs.Sheets.{key_of, sheet_in}
use Rattle.vx_markup.specs.Escaped.{data_line}
use Rattle.vx_markup.specs.Laws.{HasNoMarkup, LinesHaveNoMarkup}
use Rattle.vx_desk.specs.Laws.{DataIsNoMarkup}
use Rattle.vx_desk.specs.Lines.{first_data, first_text, last_data, last_text, line_of, sheet_data, sheet_text}
use Rattle.vx_desk.specs.Waits.{any_waits}

module _ (line : LinesHaveNoMarkup) where
  first : (election : Election) (batch : List ℕ) → HasNoMarkup (first_text election batch)
  unfolding first_text
  first election batch = line (first_data election batch)

  last : (election : Election) (kept : List Event) (batch : List ℕ) (sheets : ℕ) → HasNoMarkup (last_text election kept batch sheets)
  unfolding last_text
  last election kept batch sheets = line (last_data election kept batch sheets)

  of_sheet : (election : Election) (kept : List Event) (key : Key) (scan : List ℕ) (first second : Page) (sheet : Option SheetMarks) → HasNoMarkup (line_of election kept key scan first second sheet)
  of_sheet election kept key scan first second None = refl
  of_sheet election kept key scan first second (Some sheet) = by (any_waits election kept key (Some sheet))
    where
      by : (b : Bool) → HasNoMarkup (cond b (data_line (sheet_data election kept key scan sheet first second)) [])
      by true = line (sheet_data election kept key scan sheet first second)
      by false = refl

  sheet : (election : Election) (kept : List Event) (batch scan : List ℕ) (number : ℕ) (first second : Page) → HasNoMarkup (sheet_text election kept batch scan number first second)
  unfolding sheet_text
  sheet election kept batch scan number first second = of_sheet election kept (key_of batch number) scan first second (sheet_in kept (key_of batch number))

  pub no_markup : DataIsNoMarkup
  no_markup = record { first = first; sheet = sheet; last = last }
