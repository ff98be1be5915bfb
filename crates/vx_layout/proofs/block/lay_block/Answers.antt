use Rattle.std.proofs.Common.{◌≡◌, ◌+◌, ℕ, List, ◌++◌, ap, ap₂, ◌∙◌, append_assoc}
use Rattle.std.specs.List.{flat_map, range_with_len}
use Rattle.std.proofs.lemmas.Result.{on_ok_weaker}
use Rattle.vx_election_model.specs.Options.{options_of}
use Rattle.vx_layout.specs.Lines.{rows_of, lines_at}
use Rattle.vx_layout.specs.Blocks.{description_of, seats_line, option_lines, block_lines}
use Rattle.vx_layout.proofs.block.lay_block.Goals as goal

-- four lists, laid one after the other
four-laid : {X : Type 0} (old one two three four a b c d : List X) → one ≡ old ++ a → two ≡ one ++ b → three ≡ two ++ c → four ≡ three ++ d → four ≡ old ++ (((a ++ b) ++ c) ++ d)
four-laid {X = X} old one two three four a b c d first second third last =
    last
    ∙ ap (λ (xs : List X). xs ++ d) (third ∙ ap (λ (xs : List X). xs ++ c) (second ∙ ap (λ (xs : List X). xs ++ b) first))
    ∙ simp append_assoc

pub returns : goal.returns
unfolding block_lines
returns c =
    let paper = c.args.paper in
    let contest = c.args.contest.now in
    let col = c.args.col in
    let row = c.args.row in
    let title_rows = c.rows_of.ensures ∙ ap rows_of c.as_str.ensures in
    let asked_rows = c.rows_of-2.ensures ∙ ap rows_of c.description_of.ensures.exact in
    let first = c.in_ok-lay_text.ensures ∙ ap (λ (t : List ℕ). c.args.texts.now ++ lines_at paper col row t) c.as_str-2.ensures in
    let second =
    c.in_ok-lay_text-2.ensures
    ∙ ap₂ (λ (n : ℕ) (t : List ℕ). c.lay_text.new.texts ++ lines_at paper col (row + n) t) title_rows c.description_of-2.ensures.exact in
    let third =
    c.in_ok-lay_text-3.ensures
    ∙ ap₂ (λ (n : ℕ) (t : List ℕ). c.lay_text-2.new.texts ++ lines_at paper col (row + n + c.rows_of-2.result) t) title_rows (c.as_str-3.ensures.value ∙ c.in_ok-seats.ensures.exact)
    ∙ ap (λ (n : ℕ). c.lay_text-2.new.texts ++ lines_at paper col (row + rows_of contest.title + n) (seats_line contest)) asked_rows in
    on_ok_weaker c.lay_options.result
    (λ last. four-laid c.args.texts.now c.lay_text.new.texts c.lay_text-2.new.texts c.lay_text-3.new.texts c.lay_options.new.texts
    (lines_at paper col row contest.title) (lines_at paper col (row + rows_of contest.title) (description_of contest))
    (lines_at paper col (row + rows_of contest.title + rows_of (description_of contest)) (seats_line contest))
    (flat_map (option_lines paper contest col row) (range_with_len 0 (options_of contest)))
    first second third last)
    c.lay_options.ensures
