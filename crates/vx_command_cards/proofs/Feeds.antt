-- The lines of `cards` have no line feed before their end, so its text has as many as it has lines.
use Rattle.std.proofs.Common.{◌≡◌, ◌<◌, ◌+◌, ◌-◌, ◌++◌, ◌==◌, ℕ, suc, Bool, true, false, not, cond, List, [], ◌∷◌, length, get_or, refl, sym, ap, ◌∙◌, arith}
use Rattle.std.proofs.lemmas.Bool.{true≢false}
use Rattle.std.specs.Fmt.{decimal}
use Rattle.std.specs.List.{flat_map, list_all, range_with_len}
use Rattle.std.specs.Prelude.{chars, codes, count_by, nat_lt, if◌then◌else◌, ◌&&◌}
use Rattle.std.proofs.lemmas.Bool.{and_parts, and_from}
use Rattle.std.proofs.lemmas.List.Folds.{list_all-append}
use Rattle.std.proofs.lemmas.List.Sums.{sum_by-append, sum_by-cons}
use Rattle.vx_election_model.specs.Valid.{IsValid, IsContest}
use Rattle.vx_election_model.specs.declared.contest.Contest.{Contest}
use Rattle.vx_election_model.specs.declared.election.Election.{Election}
use Rattle.vx_layout.specs.Blocks.{description_of, label_at}
use Rattle.vx_layout.specs.Lines.{line_of, lines_of}
use Rattle.vx_layout.specs.Plan.{plan_of, precinct_name}
use Rattle.vx_styles.specs.Cards.{card_at, cards_of, contests_of_card}
use Rattle.vx_command_cards.specs.declared.flaw.Flaw.{Flaw}
use Rattle.vx_command_cards.specs.declared.flaw.Flaw.TheVariants.{Hollow, Blank, Cut}
use Rattle.vx_command_cards.specs.Alike.{alike_line, alike_lines, choice_pairs, contest_pairs, pair_lines}
use Rattle.vx_command_cards.specs.Cards.{card_at_line, card_head, card_line, card_lines, card_tail, planned_words, precinct_id, style_id, told_name}
use Rattle.vx_command_cards.specs.Drawn.{end_word, front_word, hollow_in, is_cut, look_alike, shows_nothing}
use Rattle.vx_command_cards.specs.Laws.{is_feed}
use Rattle.vx_command_cards.specs.Lines.{ended, text_of, with_blanks}
use Rattle.vx_command_cards.specs.Outcome.{cards_text, sums_line}
use Rattle.vx_command_cards.specs.Texts.{blank_line, choice_id, choice_lines, contest_lines, cut_at, cut_line, description_word, election_lines, election_word, flaw_lines, foot_lines, hollow_line, hollow_lines, option_lines, option_word, point_word, precinct_lines, precinct_word, text_lines, title_word}
use Rattle.vx_command_cards.proofs.Faults.{planned-whole, told}
use Rattle.vx_command_cards.proofs.Ids.{choice-whole, id-whole, precinct-whole, style-whole}
use Rattle.vx_command_cards.proofs.Whole.{is_no_feed, is_whole, end, front, hex, joined, line, mapped, name, number}

abbrev are_whole : List (List ℕ) → Bool
are_whole lines = list_all is_whole lines

-- lines of lists that are whole are so
both : (first second : List (List ℕ)) → are_whole first ≡ true → are_whole second ≡ true → are_whole (first ++ second) ≡ true
both first second p q = list_all-append is_whole first second ∙ and_from (are_whole first) (are_whole second) p q

each : {X : Type 0} (f : X → List (List ℕ)) → ((x : X) → are_whole (f x) ≡ true) → (xs : List X) → are_whole (flat_map f xs) ≡ true
each f whole [] = refl
each f whole (x ∷ xs) = both (f x) (flat_map f xs) (whole x) (each f whole xs)

each-in : {X : Type 0} (f : X → List (List ℕ)) (xs : List X) → ((k : ℕ) (d : X) → k < length xs → are_whole (f (get_or xs k d)) ≡ true) → are_whole (flat_map f xs) ≡ true
each-in f [] whole = refl
each-in f (x ∷ xs) whole = both (f x) (flat_map f xs) (whole 0 x (omega arith)) (each-in f xs (λ k d low. whole (suc k) d (omega arith)))

when : (t : Bool) (it : List ℕ) → is_whole it ≡ true → are_whole (if t then it ∷ [] else []) ≡ true
when true it whole = and_from (is_whole it) true whole refl
when false it whole = refl

unless : (t : Bool) (it : List ℕ) → is_whole it ≡ true → are_whole (if t then [] else it ∷ []) ≡ true
unless true it whole = refl
unless false it whole = and_from (is_whole it) true whole refl

-- a text's lines, by whose it is and what it is
module _ (whose what : List ℕ) (first : is_whole whose ≡ true) (second : is_whole what ≡ true) where
  hollow : (points : List ℕ) → are_whole (hollow_lines whose what points) ≡ true
  hollow points =
      unless (length points == 0) (hollow_line whose what points)
      (joined (with_blanks (codes "hollow" ∷ whose ∷ what ∷ [])) (flat_map point_word points) (line (codes "hollow" ∷ whose ∷ what ∷ []) (refl, (first, (second, tt))))
      (mapped point_word (λ c. hex true c) points))

  cut : (text : List ℕ) (k : ℕ) → are_whole (cut_at whose what text k) ≡ true
  unfolding cut_at
  cut text k =
      let before = end_word (chars (line_of text k)) in
      let after = front_word (chars (line_of text (k + 1))) in
      when (is_cut text k) (cut_line whose what (k + 1) before after)
      (line (codes "cut" ∷ whose ∷ what ∷ decimal (k + 1) ∷ before ∷ after ∷ [])
      (refl, (first, (second, (number (k + 1), (end (chars (line_of text k)), (front (chars (line_of text (k + 1))), tt)))))))

  text-whole : (flaw : Flaw) (text : List ℕ) → are_whole (text_lines flaw whose what text) ≡ true
  unfolding text_lines
  text-whole Hollow text = hollow (hollow_in (chars text))
  text-whole Blank text = when (shows_nothing (chars text)) (blank_line whose what) (line (codes "blank" ∷ whose ∷ what ∷ []) (refl, (first, (second, tt))))
  text-whole Cut text = each (cut_at whose what text) (cut text) (range_with_len 0 (lines_of text - 1))

described : is_whole description_word ≡ true
unfolding description_word
described = refl

starred : is_whole election_word ≡ true
unfolding election_word
starred = refl

module _ (parties districts : ℕ) (contest : Contest) (valid : IsContest parties districts contest) where
  ids : (option : ℕ) → is_whole (choice_id contest option) ≡ true
  ids = choice-whole parties districts contest valid

  option-whole : (flaw : Flaw) (option : ℕ) → are_whole (option_lines flaw contest option) ≡ true
  option-whole flaw option =
      text-whole contest.id (option_word contest option) (id-whole contest.id valid.id) (line (codes "option" ∷ choice_id contest option ∷ []) (refl, (ids option, tt))) flaw (label_at contest option)

  contest-lines : (flaw : Flaw) → are_whole (contest_lines flaw contest) ≡ true
  unfolding contest_lines
  contest-lines flaw =
      let id = id-whole contest.id valid.id in
      let title = text-whole contest.id title_word id refl flaw contest.title in
      let description = text-whole contest.id description_word id described flaw (description_of contest) in
      both (text_lines flaw contest.id title_word contest.title ++ text_lines flaw contest.id description_word (description_of contest)) (choice_lines flaw contest)
      (both (text_lines flaw contest.id title_word contest.title) (text_lines flaw contest.id description_word (description_of contest)) title description)
      (each (option_lines flaw contest) (option-whole flaw) (range_with_len 0 (length contest.choices)))

  pair-whole : (first second : ℕ) → are_whole (pair_lines contest first second) ≡ true
  unfolding pair_lines
  pair-whole first second =
      when (nat_lt first second && look_alike (label_at contest first) (label_at contest second)) (alike_line contest first second)
      (line (codes "alike" ∷ contest.id ∷ choice_id contest first ∷ choice_id contest second ∷ []) (refl, (id-whole contest.id valid.id, (ids first, (ids second, tt)))))

  pairs-whole : are_whole (contest_pairs contest) ≡ true
  pairs-whole =
      each (choice_pairs contest) (λ first. each (pair_lines contest first) (pair-whole first) (range_with_len 0 (length contest.choices))) (range_with_len 0 (length contest.choices))

module _ (election : Election) (valid : IsValid election) where
  foot-whole : (flaw : Flaw) → are_whole (election_lines flaw election) ≡ true
  unfolding election_lines
  foot-whole flaw =
      both (text_lines flaw election_word title_word election.title) (flat_map (precinct_lines flaw) election.precincts)
      (text-whole election_word title_word starred refl flaw election.title)
      (each-in (precinct_lines flaw) election.precincts
      (λ k d low.
      let precinct = get_or election.precincts k d in
      text-whole election_word (precinct_word precinct) starred (line (codes "precinct" ∷ precinct.id ∷ []) (refl, (id-whole precinct.id (valid.precincts.each k d low).id, tt))) flaw precinct.name))

  foot-lines : (flaw : Flaw) → are_whole (foot_lines flaw election) ≡ true
  unfolding foot_lines
  foot-lines Hollow = foot-whole Hollow
  foot-lines Blank = foot-whole Blank
  foot-lines Cut = refl

  flaws : (flaw : Flaw) → are_whole (flaw_lines flaw election) ≡ true
  unfolding flaw_lines
  flaws flaw =
      both (foot_lines flaw election) (flat_map (contest_lines flaw) election.contests) (foot-lines flaw)
      (each-in (contest_lines flaw) election.contests (λ k d low. contest-lines _ _ (get_or election.contests k d) (valid.contests.each k d low) flaw))

  alike : are_whole (alike_lines election) ≡ true
  unfolding alike_lines
  alike = each-in contest_pairs election.contests (λ k d low. pairs-whole _ _ (get_or election.contests k d) (valid.contests.each k d low))

  card-whole : (i : ℕ) → are_whole (card_at_line election i) ≡ true
  unfolding card_line
  card-whole i =
      let style = style_id election (card_at election i).style in
      let precinct = precinct_id election (card_at election i).precinct in
      let count = length (contests_of_card election i) in
      let called = precinct_name election.precincts (card_at election i).precinct in
      let head = line (codes "card" ∷ decimal i ∷ codes "style" ∷ style ∷ codes "precinct" ∷ precinct ∷ [])
      (refl, (number i, (refl, (style-whole election valid (card_at election i).style, (refl, (precinct-whole election valid (card_at election i).precinct, tt)))))) in
      let tail = line (codes "contests" ∷ decimal count ∷ told_name called ∷ []) (refl, (number count, (name called, tt))) in
      let planned = planned-whole (plan_of election i) (told election valid i) in
      let whole = line (card_head election i ∷ planned_words (plan_of election i) ∷ card_tail election i ∷ []) (head, (planned, (tail, tt))) in
      and_from (is_whole (card_line election i)) true whole refl

  cards : are_whole (card_lines election) ≡ true
  unfolding card_lines
  cards = each (card_at_line election) card-whole (range_with_len 0 (length (cards_of election)))

sums-whole : (a b c d e : ℕ) → is_whole (sums_line a b c d e) ≡ true
sums-whole a b c d e =
    line (codes "cards" ∷ decimal a ∷ codes "hollow" ∷ decimal b ∷ codes "blank" ∷ decimal c ∷ codes "cut" ∷ decimal d ∷ codes "alike" ∷ decimal e ∷ [])
    (refl, (number a, (refl, (number b, (refl, (number c, (refl, (number d, (refl, (number e, tt))))))))))

-- line feeds, and lines
abbrev feeds : List ℕ → ℕ
feeds text = count_by is_feed text

none : (text : List ℕ) → is_whole text ≡ true → feeds text ≡ 0
none [] whole = refl
none (b ∷ bs) whole =
    let parts = and_parts (is_no_feed b) (is_whole bs) whole in
    sum_by-cons (λ c. cond (is_feed c) 1 0) b bs ∙ by (is_feed b) (none bs parts.1) parts.0
  where
    by : (t : Bool) → feeds bs ≡ 0 → not t ≡ true → cond t 1 0 + feeds bs ≡ 0
    by false rest is = omega (arith, rest)
    by true rest is = absurd (true≢false (sym is))

one : (it : List ℕ) → is_whole it ≡ true → feeds (ended it) ≡ 1
one it whole = sum_by-append (λ b. cond (is_feed b) 1 0) it (10 ∷ []) ∙ ap (λ (n : ℕ). n + 1) (none it whole)

many : (lines : List (List ℕ)) → are_whole lines ≡ true → feeds (text_of lines) ≡ length lines
many [] whole = refl
many (it ∷ lines) whole =
    let parts = and_parts (is_whole it) (are_whole lines) whole in
    sum_by-append (λ b. cond (is_feed b) 1 0) (ended it) (text_of lines) ∙ omega (arith, one it parts.0, many lines parts.1)

pub feeds-are-lines : (election : Election) → IsValid election → count_by is_feed (cards_text election) ≡ length (card_lines election) + length (flaw_lines Hollow election) + length (flaw_lines Blank election) + length (flaw_lines Cut election) + length (alike_lines election) + 1
unfolding cards_text
feeds-are-lines election valid =
    let f = λ (b : ℕ). cond (is_feed b) 1 0 in
    let a = text_of (card_lines election) in
    let b = text_of (flaw_lines Hollow election) in
    let c = text_of (flaw_lines Blank election) in
    let d = text_of (flaw_lines Cut election) in
    let e = text_of (alike_lines election) in
    let sums = sums_line (length (card_lines election)) (length (flaw_lines Hollow election)) (length (flaw_lines Blank election)) (length (flaw_lines Cut election)) (length (alike_lines election)) in
    let last = one sums (sums-whole _ _ _ _ _) in
    sum_by-append f (a ++ b ++ c ++ d ++ e) (ended sums)
    ∙ omega (
      arith,
      sum_by-append f (a ++ b ++ c ++ d) e,
      sum_by-append f (a ++ b ++ c) d,
      sum_by-append f (a ++ b) c,
      sum_by-append f a b,
      last,
      many (card_lines election) (cards election valid),
      many (flaw_lines Hollow election) (flaws election valid Hollow),
      many (flaw_lines Blank election) (flaws election valid Blank),
      many (flaw_lines Cut election) (flaws election valid Cut),
      many (alike_lines election) (alike election valid),
    )
