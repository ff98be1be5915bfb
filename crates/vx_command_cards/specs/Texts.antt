-- What `cards` tells of printed texts: hollow boxes, texts that show nothing, and lines that end within a word. The texts
-- are those of contests, and those that the election has in the foot line.
use Rattle.std.specs.Prelude.{ℕ, ◌+◌, ◌-◌, ◌==◌, List, [], ◌∷◌, ◌++◌, length, chars, codes, slice_get, true, if◌then◌else◌}
use Rattle.std.specs.Fmt.{decimal}
use Rattle.std.specs.List.{flat_map, range_with_len}
use Rattle.std.specs.Option.{option_map_or}
use Rattle.vx_election_model.specs.declared.choice.Choice.{Choice}
use Rattle.vx_election_model.specs.declared.contest.Contest.{Contest}
use Rattle.vx_election_model.specs.declared.election.Election.{Election}
use Rattle.vx_election_model.specs.declared.named.Named.{Named}
use Rattle.vx_layout.specs.Lines.{line_of, lines_of}
use Rattle.vx_layout.specs.Blocks.{description_of, label_at}
use Rattle.vx_command_cards.specs.declared.flaw.Flaw.{Flaw}
use Rattle.vx_command_cards.specs.declared.flaw.Flaw.TheVariants.{Hollow, Blank, Cut}
use Rattle.vx_command_cards.specs.Drawn.{hollow_in, shows_nothing, is_cut, end_word, front_word}
use Rattle.vx_command_cards.specs.Lines.{hexadecimal, with_blanks}

-- a character as ` U+XXXX`
abbrev pub point_word : ℕ → List ℕ
point_word c = codes " U+" ++ hexadecimal true c

-- `hollow CONTESTID WHAT U+XXXX ..`
abbrev pub hollow_line : List ℕ → List ℕ → List ℕ → List ℕ
hollow_line contest what points =
    with_blanks (codes "hollow" ∷ contest ∷ what ∷ []) ++ flat_map point_word points

-- the line of a text's hollow characters, where it has some
abbrev pub hollow_lines : List ℕ → List ℕ → List ℕ → List (List ℕ)
hollow_lines contest what points = if length points == 0 then [] else hollow_line contest what points ∷ []

-- `blank CONTESTID WHAT`
abbrev pub blank_line : List ℕ → List ℕ → List ℕ
blank_line contest what = with_blanks (codes "blank" ∷ contest ∷ what ∷ [])

-- the line of a text whose characters show nothing
abbrev pub blank_lines : List ℕ → List ℕ → List ℕ → List (List ℕ)
blank_lines contest what characters = if shows_nothing characters then blank_line contest what ∷ [] else []

-- `cut CONTESTID WHAT LINE BEFORE AFTER`
abbrev pub cut_line : List ℕ → List ℕ → ℕ → List ℕ → List ℕ → List ℕ
cut_line contest what line before after =
    with_blanks (codes "cut" ∷ contest ∷ what ∷ decimal line ∷ before ∷ after ∷ [])

-- the line for line k of a text, from 0, if it ends within a word: it is told by its number from 1, with the word
-- before its end and behind it
unfoldable pub cut_at : List ℕ → List ℕ → List ℕ → ℕ → List (List ℕ)
cut_at contest what text k =
    if is_cut text k
    then cut_line contest what (k + 1) (end_word (chars (line_of text k))) (front_word (chars (line_of text (k + 1)))) ∷ []
    else []

-- those of all its lines but the last
abbrev pub cut_lines : List ℕ → List ℕ → List ℕ → List (List ℕ)
cut_lines contest what text = flat_map (cut_at contest what text) (range_with_len 0 (lines_of text - 1))

-- what is told of a text, by whose it is and what it is
unfoldable pub text_lines : Flaw → List ℕ → List ℕ → List ℕ → List (List ℕ)
text_lines Hollow contest what text = hollow_lines contest what (hollow_in (chars text))
text_lines Blank contest what text = blank_lines contest what (chars text)
text_lines Cut contest what text = cut_lines contest what text

-- what the texts of a contest are: `title`, `description` and `option OPTIONID`
abbrev pub title_word : List ℕ
title_word = codes "title"

unfoldable pub description_word : List ℕ
description_word = codes "description"

-- the id of a choice, by its place
abbrev pub choice_id : Contest → ℕ → List ℕ
choice_id contest option = option_map_or (λ (choice : Choice). choice.id) (slice_get contest.choices option) []

abbrev pub option_word : Contest → ℕ → List ℕ
option_word contest option = with_blanks (codes "option" ∷ choice_id contest option ∷ [])

-- what is told of the text of an option
abbrev pub option_lines : Flaw → Contest → ℕ → List (List ℕ)
option_lines flaw contest option =
    text_lines flaw contest.id (option_word contest option) (label_at contest option)

-- of those of all choices, in order
abbrev pub choice_lines : Flaw → Contest → List (List ℕ)
choice_lines flaw contest = flat_map (option_lines flaw contest) (range_with_len 0 (length contest.choices))

-- of a contest's title, description and choices
unfoldable pub contest_lines : Flaw → Contest → List (List ℕ)
contest_lines flaw contest =
    text_lines flaw contest.id title_word contest.title
    ++ text_lines flaw contest.id description_word (description_of contest)
    ++ choice_lines flaw contest

-- what stands in the place of a contest's id where a text is the election's
unfoldable pub election_word : List ℕ
election_word = codes "*"

-- what a precinct's name is: `precinct PRECINCTID`
abbrev pub precinct_word : Named → List ℕ
precinct_word precinct = with_blanks (codes "precinct" ∷ precinct.id ∷ [])

-- what is told of a precinct's name
abbrev pub precinct_lines : Flaw → Named → List (List ℕ)
precinct_lines flaw precinct = text_lines flaw election_word (precinct_word precinct) precinct.name

-- of the election's title and of its precincts' names, in order
unfoldable pub election_lines : Flaw → Election → List (List ℕ)
election_lines flaw election =
    text_lines flaw election_word title_word election.title ++ flat_map (precinct_lines flaw) election.precincts

-- the same of the foot line, in which they stand: it has lines of another length, so it isn't looked at for cuts
unfoldable pub foot_lines : Flaw → Election → List (List ℕ)
foot_lines Hollow election = election_lines Hollow election
foot_lines Blank election = election_lines Blank election
foot_lines Cut election = []

-- of the foot line, and of all contests in order
unfoldable pub flaw_lines : Flaw → Election → List (List ℕ)
flaw_lines flaw election = foot_lines flaw election ++ flat_map (contest_lines flaw) election.contests
