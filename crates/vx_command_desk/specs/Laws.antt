-- What a page shows that isn't whole.
use Rattle.std.specs.Prelude.{◌≡◌, ◌⊎◌, List, [], ◌++◌, ℕ, Ok, Err}
use Rattle.vx_io.specs.Outside.{Files}
use Rattle.vx_command.specs.Acts.{Answer}
use Rattle.vx_command.specs.Texts.{texts_of}
use Rattle.vx_markup.specs.Laws.{HasNoMarkup}
use Rattle.vx_desk.specs.Page.{head, tail}
use Rattle.vx_command_desk.specs.Outcome.{desk_outcome}

-- The page's head, and behind it lines without markup. The head ends where the element of the data begins: so that doesn't end,
-- no script runs, and the head's own line stays, by which the page isn't whole.
pub record IsBegun (page : List ℕ) : Type 0 where
  pub lines : List ℕ
  pub is : page ≡ head ++ lines
  pub clean : HasNoMarkup lines

-- the page's head, lines without markup, and the tail, whose script takes the head's line away
pub record IsFinished (page : List ℕ) : Type 0 where
  pub lines : List ℕ
  pub is : page ≡ head ++ (lines ++ tail)
  pub clean : HasNoMarkup lines

-- a page is finished where the command ends well, and is begun at most where it doesn't
abbrev pub ShowsHowItEnded : Answer → List ℕ → Type 0
ShowsHowItEnded (Ok done) page = IsFinished page
ShowsHowItEnded (Err cause) page = (page ≡ []) ⊎ IsBegun page

-- so it is of each page
abbrev pub PagesShowTheirEnd : Type 0
PagesShowTheirEnd =
    (election batch : List ℕ) (scans : List (List ℕ)) (files : Files) (records : List (List ℕ))
    → ShowsHowItEnded (desk_outcome election batch scans files records).ends
    (texts_of (desk_outcome election batch scans files records))
